-- `run_of` answers by the three tests of a pair.
use native.Mathlib.Omega.{arith}
use mathlib.Core.Path.{refl}
use Rattle.choice.specs.Choosing.{no_leg, no_last, no_path, some_run}
use Rattle.choice.proofs.pair.run_of.Goals as goal

pub returns-in_err-leg : goal.returns-in_err-leg
returns-in_err-leg c = rw c.from_residual.ensures (no_leg _ _ _ c.in_err-leg.was)

pub returns-in_err-last : goal.returns-in_err-last
returns-in_err-last c = rw c.from_residual-in_err-last.ensures (no_last _ _ _ c.in_err-last.was)

pub returns-then-key-eq4294967295 : goal.returns-then-key-eq4294967295
returns-then-key-eq4294967295 c = no_path _ _ _ c.if-key-eq4294967295.true

pub returns : goal.returns
returns c = rw (c.in_ok-leg.was, c.in_ok-last.was, c.from.ensures) (some_run _ _ _ refl refl (omega arith))
