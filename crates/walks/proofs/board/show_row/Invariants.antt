-- `show_row` shows a row ten cells at a time; past its last sector there are walls.
use Prim.Native.Nat.{◌+◌, ◌*◌, ◌≤◌}
use Rattle.walks.specs.Showing.{Showing, row_start}
use Rattle.walks.proofs.board.show_row.Given as goal

abbrev pub invariant-loop-c : goal.invariant-loop-c
invariant-loop-c l = (l.c ≤ l.m.columns) × Showing l.m l.costs (row_start l.y + l.c * 10) l.board
