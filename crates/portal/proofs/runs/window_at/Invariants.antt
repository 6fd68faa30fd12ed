-- `runs::window_at` meets its contract: after k turns the first k windows are passed.
use Rattle.portal.proofs.AllMarks.{Left}
use Rattle.portal.proofs.runs.window_at.Given as goal

abbrev pub invariant-loop-passed : goal.invariant-loop-passed
invariant-loop-passed l = Left l.mark l.j l.left l._passed
