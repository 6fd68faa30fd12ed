-- `windows::sector_windows` meets its contract: after k turns the list begins with the windows of the first k sides.
use Rattle.std.proofs.Common.{length}
use Rattle.portal.proofs.Entries.{SectorFilled}
use Rattle.portal.proofs.windows.sector_windows.Given as goal

abbrev pub invariant-loop-side : goal.invariant-loop-side
invariant-loop-side l = SectorFilled l.fn.marks l.count (length l.yielded) l.initial.list l.list
