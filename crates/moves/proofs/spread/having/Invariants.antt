-- `having` counts the levels with the cell.
use Prim.Native.Nat.{◌+◌}
use mathlib.Core.Path.{◌≡◌}
use Rattle.moves.specs.Levels.{missing}
use Rattle.moves.proofs.spread.having.Given as goal

abbrev pub invariant-loop-level : goal.invariant-loop-level
invariant-loop-level l = l.have + missing l.levels l.level-index l.i ≡ l.level-index
