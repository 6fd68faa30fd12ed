-- 01, item 3: sectors, floor numbers, and the plain floor on which a cell has a column and a row of its own.
use Rattle.std.specs.Prelude.{ℕ, ◌+◌, ◌-◌, ◌*◌, ◌/◌, ◌%◌, Bool, List, leb, ltb}
use Rattle.laws.specs.Region.{region}
use Rattle.model.specs.declared.Measures.{Measures}
use Rattle.model.specs.declared.SectorID.{SectorID}
use Rattle.model.specs.declared.Side.{Side}
use Rattle.model.specs.declared.Side.TheVariants.{North, East, South, West}

-- a hall has columns × rows sectors of 100 cells
abbrev pub sector_cells : ℕ
sector_cells = 100

abbrev pub sectors : Measures → ℕ
sectors m = m.columns * m.rows

abbrev pub cells : Measures → ℕ
cells m = sectors m * sector_cells

-- "Sector number = column × rows + row", and back
abbrev pub sector_number : Measures → ℕ → ℕ → ℕ
sector_number m column row = column * m.rows + row

abbrev pub column_of : Measures → ℕ → ℕ
column_of m s = s / m.rows

abbrev pub row_of : Measures → ℕ → ℕ
row_of m s = s % m.rows

abbrev pub sector_at : Measures → ℕ → SectorID
sector_at m s = record { column = column_of m s; row = row_of m s }

-- "floor number = sector number × 100 + index", and back
abbrev pub floor_number : ℕ → ℕ → ℕ
floor_number s i = s * sector_cells + i

abbrev pub sector_of : ℕ → ℕ
sector_of n = n / sector_cells

abbrev pub place_of : ℕ → ℕ
place_of n = n % sector_cells

-- the 100 costs of a sector, out of the costs of a floor
abbrev pub costs_of : List ℕ → ℕ → List ℕ
costs_of costs s = region (s * sector_cells) sector_cells costs

-- column and row of a cell on the plain floor
unfoldable pub across : Measures → ℕ → ℕ
across m n = column_of m (sector_of n) * 10 + place_of n % 10

unfoldable pub down : Measures → ℕ → ℕ
down m n = row_of m (sector_of n) * 10 + place_of n / 10

-- the sector beyond a side, and whether there is one: "North lowers the row"
unfoldable pub beyond : Measures → ℕ → Side → ℕ
beyond m s North = s - 1
beyond m s East = s + m.rows
beyond m s South = s + 1
beyond m s West = s - m.rows

unfoldable pub has_beyond : Measures → ℕ → Side → Bool
has_beyond m s North = ltb 0 (row_of m s)
has_beyond m s East = ltb (s + m.rows) (sectors m)
has_beyond m s South = ltb (row_of m s + 1) m.rows
has_beyond m s West = leb m.rows s
