-- `runs::window_at` meets its contract: after k turns the first k windows are passed.
use borrow.Author.Rules.{rules}
use Rattle.portal.proofs.AllMarks.{passing}
use Rattle.portal.proofs.runs.window_at.Goals as goal

pub loop-passed-init : goal.loop-passed-init
loop-passed-init c = search (rules, passing)

pub first_run-left-requires : goal.first_run-left-requires
first_run-left-requires c = search (rules, passing)

pub first_run-requires : goal.first_run-requires
first_run-requires c = search (rules, passing)
