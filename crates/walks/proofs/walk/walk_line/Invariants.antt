-- `walk_line` stops at the first step that meets a wall: the place that it keeps is that of the step made last.
use Prim.Native.Nat.{◌-◌}
use Rattle.laws.specs.Search.{Clear}
use Rattle.walks.specs.Lines.{Reached, blocked_on}
use Rattle.walks.proofs.walk.walk_line.Given as goal

abbrev pub invariant-walk : goal.invariant-walk
invariant-walk l = Clear (blocked_on l.board l.a l.step) l.n l.passed × Reached l.a l.step l.n l.passed l.at

abbrev pub decreases-walk : goal.decreases-walk
decreases-walk l = l.n - l.passed
