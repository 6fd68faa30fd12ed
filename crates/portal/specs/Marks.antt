-- The places of a border between two sectors, by the cells on both sides of it.
use Rattle.std.specs.Prelude.{ℕ, Bool, ◌&&◌, List, get_or}
use Rattle.model.specs.declared.FieldCell.{FieldCell}
use Rattle.model.specs.Cells.{index_of, cell_at}
use Rattle.model.specs.Costs.{open_at}
use Rattle.model.specs.Sectors.{floor_number}

-- whether a cell of sector s and a cell of sector t are open
abbrev pub open_pair : List ℕ → ℕ → FieldCell → ℕ → FieldCell → Bool
open_pair costs s own t facing = open_at costs (floor_number s (index_of own)) && open_at costs (floor_number t (index_of facing))

-- whether place i of two rows of cells is
abbrev pub open_between : List ℕ → ℕ → List FieldCell → ℕ → List FieldCell → ℕ → Bool
open_between costs s own t facing i = open_pair costs s (get_or own i (cell_at 0)) t (get_or facing i (cell_at 0))
