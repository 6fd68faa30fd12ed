-- 01, item 1: cells of a sector, by index, and their side neighbours.
use Rattle.std.specs.Prelude.{ℕ, zero, suc, ◌+◌, ◌-◌, ◌*◌, ◌/◌, ◌%◌, leb, ltb}
use Rattle.laws.specs.Fold.{pick}
use Rattle.model.specs.declared.FieldCell.{FieldCell}
use Rattle.model.specs.declared.Side.{Side}
use Rattle.model.specs.declared.Side.TheVariants.{North, East, South, West}

-- "a cell has column and row 0 to 9; index = row × 10 + column"
abbrev pub index_of : FieldCell → ℕ
index_of c = c.row * 10 + c.column

abbrev pub cell_at : ℕ → FieldCell
cell_at i = record { column = i % 10; row = i / 10 }

-- the sides are numbered in the order N, E, S, W
abbrev pub side_number : Side → ℕ
side_number North = 0
side_number East = 1
side_number South = 2
side_number West = 3

abbrev pub side_at : ℕ → Side
side_at zero = North
side_at (suc zero) = East
side_at (suc (suc zero)) = South
side_at (suc (suc (suc k))) = West

abbrev pub opposite : Side → Side
opposite North = South
opposite East = West
opposite South = North
opposite West = East

-- "Side neighbours stay inside the sector": the index beside cell i, and 100 where the sector ends
unfoldable pub beside : ℕ → Side → ℕ
beside i North = pick (leb 10 i) (i - 10) 100
beside i East = pick (ltb (i % 10) 9) (i + 1) 100
beside i South = pick (ltb i 90) (i + 10) 100
beside i West = pick (ltb 0 (i % 10)) (i - 1) 100
