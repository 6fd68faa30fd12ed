-- Border cells: place i of the two lists of a side.
use mathlib.Core.Path.{◌≡◌, ap}
use mathlib.Core.List.{List}
use Prim.Native.Nat.{ℕ, ◌<◌}
use lib.ListN.{get_or}
use Rattle.laws.specs.Table.{tabulate, table_at}
use Rattle.model.specs.declared.FieldCell.{FieldCell}
use Rattle.model.specs.declared.BorderCells.{BorderCells}
use Rattle.model.specs.declared.Side.{Side}
use Rattle.model.specs.Cells.{cell_at, opposite}
use Rattle.model.specs.Windows.{border_cell, border_cells}

-- ---- place i of a side's border cells
module _ {row : List FieldCell} (side : Side) (e : row ≡ tabulate (border_cell side) 10 0) (i : ℕ) (h : i < 10) where
  row_at : get_or row i (cell_at 0) ≡ border_cell side i
  row_at = table_at (border_cell side) 10 e i (cell_at 0) h

module _ {cells : BorderCells} (side : Side) (e : cells ≡ border_cells side) (i : ℕ) (h : i < 10) where
  pub own_at : get_or cells.own i (cell_at 0) ≡ border_cell side i
  unfolding border_cells
  own_at = row_at side (ap (λ c. c.own) e) i h

  pub facing_at : get_or cells.facing i (cell_at 0) ≡ border_cell (opposite side) i
  unfolding border_cells
  facing_at = row_at (opposite side) (ap (λ c. c.facing) e) i h
