-- In a hall whose marks have ten bits: the window of a portal is a longest open run, and its crossing is a cell of its sector.
use Rattle.std.specs.Prelude.{ℕ, ◌≤◌, ◌<◌, ◌≡◌, true, get_or}
use Rattle.std.proofs.Common.{arith}
use Rattle.model.specs.declared.Side.{Side}
use Rattle.model.specs.CellSides.{border_low}
use Rattle.model.specs.Sectors.{sector_cells, sectors, sector_of, place_of, floor_number}
use Rattle.model.specs.Moves.{moves_to}
use Rattle.model.specs.Windows.{border, crossing}
use Rattle.model.specs.WindowRuns.{Run, window_run, crossing_in}
use Rattle.model.specs.Halls.{Hall, mark_at}
use Rattle.model.specs.Portals.{side_portals, portal_at, portal_sector, portal_side, portal_window, portal_mark, is_portal, crossing_of, midpoint, mid_cell, moves_from}
use Rattle.model.specs.PortalNumbers.{numbered, portal_is}

-- a hall of at most 100 sectors whose marks have ten bits, as every store that passes the store check
pub record Fits (h : Hall) : Type 0 where
  pub small : sectors h.measures ≤ 100
  pub marked : (s : ℕ) (side : Side) → mark_at h s side < 1024

-- the cell at which window j of a side crosses
pub cell_at_lem : (h : Hall) (s : ℕ) (side : Side) (j : ℕ) → j < side_portals → mid_cell h (portal_at s side j) ≡ floor_number s (border side (crossing (mark_at h s side) j))
unfolding mid_cell midpoint
cell_at_lem h s side j l = let n = numbered s side j l in rw (n.sector, n.on, n.window)

module _ (h : Hall) (fits : Fits h) (p : ℕ) (is : is_portal h p ≡ true) where
  -- its window
  pub portal_run : Run (portal_mark h p) (portal_window p)
  portal_run = window_run (portal_mark h p) (fits.marked (portal_sector p) (portal_side p)) (portal_window p) (portal_is h p is).among

  -- its crossing
  pub mid_low : midpoint h p < sector_cells
  unfolding midpoint
  mid_low = border_low (portal_side p) (crossing_of h p) (omega (arith, (crossing_in portal_run).1, portal_run.inside))

  pub mid_sector : sector_of (mid_cell h p) ≡ portal_sector p
  unfolding mid_cell
  mid_sector = omega (arith, mid_low)

  pub mid_place : place_of (mid_cell h p) ≡ midpoint h p
  unfolding mid_cell
  mid_place = omega (arith, mid_low)

-- the moves from one crossing to another
pub moves_between : (h : Hall) → Fits h → (p q : ℕ) → is_portal h p ≡ true → is_portal h q ≡ true → moves_to h.scaled (mid_cell h p) (mid_cell h q) ≡ get_or (moves_from h p) (midpoint h q) 0
unfolding moves_to
moves_between h fits p q a b = rw (mid_sector h fits p a, mid_place h fits p a, mid_place h fits q b)
