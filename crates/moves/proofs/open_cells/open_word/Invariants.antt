-- `open_word` packs the rows of its half.
use Prim.Native.Nat.{◌+◌, ◌*◌}
use mathlib.Core.Path.{◌≡◌}
use Rattle.moves.specs.Levels.{packed, open_row}
use Rattle.moves.proofs.open_cells.open_word.Given as goal

abbrev pub invariant-loop-y : goal.invariant-loop-y
invariant-loop-y l = l.word ≡ packed (λ k. open_row l.costs (l.h * 5 + k)) l.y
