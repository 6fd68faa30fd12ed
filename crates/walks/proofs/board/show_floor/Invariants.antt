-- `show_floor` shows the floor row by row; before its first row and after its last there are walls.
use Prim.Native.Nat.{◌*◌, ◌≤◌}
use Rattle.walks.specs.Showing.{Showing, row_start}
use Rattle.walks.proofs.board.show_floor.Given as goal

abbrev pub invariant-loop-y : goal.invariant-loop-y
invariant-loop-y l = (l.y ≤ l.m.rows * 10) × Showing l.m l.costs (row_start l.y) l.board
