-- `windows::side_windows` meets its contract: after j turns the list begins with the first j windows of the side.
use Rattle.portal.proofs.Entries.{SideFilled}
use Rattle.portal.proofs.windows.side_windows.Given as goal

abbrev pub invariant-loop-j : goal.invariant-loop-j
invariant-loop-j l = SideFilled l.side l.mark l.count l.j l.initial.list l.list
