-- `runs::first_run` meets its contract: each fact is one of the test over all marks.
use native.Mathlib.Omega.{arith}
use Rattle.portal.proofs.AllMarks.{split, Split}
use Rattle.portal.proofs.runs.first_run.Goals as goal
use Rattle.portal.proofs.runs.first_run.Goals.{Start}

p : (c : Start) → Split c.args.mark
p c = split c.args.mark c.requires.1 c.requires.0

pub overflow_sub-result : goal.overflow_sub-result
overflow_sub-result c = omega (arith, p c)

pub overflow_shr-result : goal.overflow_shr-result
overflow_shr-result c = omega (arith, p c)

pub overflow_shl-result : goal.overflow_shl-result
overflow_shl-result c = omega (arith, p c)

pub returns : goal.returns
returns c = ((p c).places, (p c).rest_is)
