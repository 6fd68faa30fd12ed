-- 01, item 7, first part: scaling. Base costs and scaled costs are lists by floor number.
use Rattle.std.specs.Prelude.{ℕ, ◌+◌, Bool, true, not, List, ltb, set}
use Rattle.laws.specs.Fold.{pick, run}
use Rattle.laws.specs.Search.{first}
use Rattle.model.specs.declared.Measures.{Measures}
use Rattle.model.specs.declared.Landing.{Landing}
use Rattle.model.specs.declared.CompassDir.{CompassDir}
use Rattle.model.specs.Costs.{open_at}
use Rattle.model.specs.Sectors.{sectors, floor_number}
use Rattle.model.specs.Directions.{compass, landing, shifted, on_floor}

-- whether a landing from sector s is past "the end of the floor", or on a "blocked cell" of the current scaled costs
unfoldable pub is_wall : Measures → List ℕ → ℕ → Landing → Bool
is_wall m xs s l =
    pick (on_floor m s l.east l.south) (not (open_at xs (floor_number (shifted m s l.east l.south) l.index))) true

-- "A walk of up to scale steps": how many cells the walk from cell i of sector s passes before a wall, and scale if it meets none
unfoldable pub passes : Measures → List ℕ → ℕ → ℕ → CompassDir → ℕ
passes m xs s i d = first (λ k. is_wall m xs s (landing i d (k + 1))) m.scale

-- the cell passed at step k + 1 becomes 255, "always in the sector the walk began in"
unfoldable pub block_step : ℕ → ℕ → CompassDir → ℕ → List ℕ → List ℕ
block_step s i d k xs = set xs (floor_number s (landing i d (k + 1)).index) 255

-- "Only if it stops so do the cells passed become 255": n of them, fewer than scale where the walk met a wall
unfoldable pub block_passed : Measures → ℕ → ℕ → CompassDir → ℕ → List ℕ → List ℕ
block_passed m s i d n xs = pick (ltb n m.scale) (run (block_step s i d) n xs) xs

-- the walk in direction k of the order
unfoldable pub walk : Measures → ℕ → ℕ → ℕ → List ℕ → List ℕ
walk m s i k xs = block_passed m s i (compass k) (passes m xs s i (compass k)) xs

-- the eight walks from a "base-blocked" cell, in the order of the directions
unfoldable pub scale_cell : Measures → List ℕ → ℕ → ℕ → List ℕ → List ℕ
scale_cell m base s i xs = pick (open_at base (floor_number s i)) xs (run (walk m s i) 8 xs)

-- "base-blocked cells in index order"
unfoldable pub scale_sector : Measures → List ℕ → ℕ → List ℕ → List ℕ
scale_sector m base s xs = run (scale_cell m base s) 100 xs

-- "All scaled costs start as base costs. Sectors go in number order"
unfoldable pub scale_floor : Measures → List ℕ → List ℕ
scale_floor m base = run (scale_sector m base) (sectors m) base
