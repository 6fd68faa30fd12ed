-- 01, item 8, first part, and the side marks of the store: the places of a side and its windows. Bit i of a mark is place i.
use Rattle.std.specs.Prelude.{ℕ, zero, suc, ◌+◌, ◌*◌, ◌/◌, ◌%◌, ◌^◌, Bool, ◌&&◌, not, List, ltb, eqb}
use Rattle.laws.specs.Fold.{pick, bit}
use Rattle.laws.specs.Search.{first}
use Rattle.laws.specs.Table.{tabulate}
use Rattle.model.specs.declared.Measures.{Measures}
use Rattle.model.specs.declared.FieldCell.{FieldCell}
use Rattle.model.specs.declared.BorderCells.{BorderCells}
use Rattle.model.specs.declared.PortalWindow.{PortalWindow}
use Rattle.model.specs.declared.Side.{Side}
use Rattle.model.specs.declared.Side.TheVariants.{North, East, South, West}
use Rattle.model.specs.Cells.{index_of, side_number, side_at, opposite}
use Rattle.model.specs.Costs.{open_at}
use Rattle.model.specs.Sectors.{sectors, floor_number, beyond, has_beyond}

-- "The two rows of ten border cells per side are fixed": place i runs from the west or from the north
abbrev pub border_cell : Side → ℕ → FieldCell
border_cell North i = record { column = i; row = 0 }
border_cell East i = record { column = 9; row = i }
border_cell South i = record { column = i; row = 9 }
border_cell West i = record { column = 0; row = i }

abbrev pub border : Side → ℕ → ℕ
border side i = index_of (border_cell side i)

unfoldable pub border_cells : Side → BorderCells
border_cells side = record { own = tabulate (border_cell side) 10 0; facing = tabulate (border_cell (opposite side)) 10 0 }

-- "place i (0 to 9) of a side is open if the border cells on both sides are"
unfoldable pub open_place : Measures → List ℕ → ℕ → Side → ℕ → Bool
open_place m costs s side i = open_at costs (floor_number s (border side i)) && open_at costs (floor_number (beyond m s side) (border (opposite side) i))

-- a number of n bits from n tests, bit 0 first
unfoldable pub bits : (ℕ → Bool) → ℕ → ℕ
bits test zero = 0
bits test (suc n) = bit (test 0) + 2 * bits (λ i. test (suc i)) n

-- the mark of a side as the costs give it; 0 on a side without neighbour
unfoldable pub mark_of : Measures → List ℕ → ℕ → Side → ℕ
mark_of m costs s side = pick (has_beyond m s side) (bits (open_place m costs s side) 10) 0

-- all marks of a floor, by sector number and side
unfoldable pub marks_of : Measures → List ℕ → List ℕ
marks_of m costs = tabulate (λ k. mark_of m costs (k / 4) (side_at (k % 4))) (sectors m * 4) 0

-- place i of a mark
unfoldable pub is_open : ℕ → ℕ → Bool
is_open mark i = eqb (mark / 2 ^ i % 2) 1

-- "ones with a zero below them. Bit 0 counts as having a zero below it": bit i of 2 × mark is the bit below bit i
unfoldable pub begins : ℕ → ℕ → Bool
begins mark i = is_open mark i && not (is_open (2 * mark) i)

-- how many windows begin below place i
unfoldable pub begun : ℕ → ℕ → ℕ
begun mark zero = 0
begun mark (suc i) = begun mark i + bit (begins mark i)

-- "The number of windows on a side"
unfoldable pub window_count : ℕ → ℕ
window_count mark = begun mark 10

-- "Windows are the longest open runs, in order": first and last place of window j
unfoldable pub first_place : ℕ → ℕ → ℕ
first_place mark j = first (λ i. ltb j (begun mark (suc i))) 10

unfoldable pub last_place : ℕ → ℕ → ℕ
last_place mark j = first_place mark j + first (λ k. not (is_open mark (suc (first_place mark j + k)))) 10

-- the place at which a portal crosses: "Midpoint = (first + last) / 2, cut down"
unfoldable pub crossing : ℕ → ℕ → ℕ
crossing mark j = (first_place mark j + last_place mark j) / 2

-- window j of a side, by its first and last cell
unfoldable pub window_at : Side → ℕ → ℕ → PortalWindow
window_at side mark j = record { «first» = border side (first_place mark j); last = border side (last_place mark j); side = side_number side }

-- the windows of a side, in order
unfoldable pub side_windows : Side → ℕ → List PortalWindow
side_windows side mark = tabulate (window_at side mark) (window_count mark) 0
