-- `windows::side_windows` meets its contract: after j turns the list begins with the first j windows of the side.
use borrow.Author.Rules.{rules}
use Rattle.portal.proofs.Entries.{siding}
use Rattle.portal.proofs.windows.side_windows.Goals as goal

pub loop-j-init : goal.loop-j-init
loop-j-init c = search (rules, siding)
