-- What every write of 255 keeps, walks keep; what walks keep, scaling keeps; and what a step keeps in each sector, a round of the sectors nearby keeps.
use Rattle.std.specs.Prelude.{ℕ, ◌+◌, ◌<◌, ◌≡◌, refl, Bool, true, false, List, ltb, set}
use Rattle.laws.specs.Fold.{pick, pick_keeps, run_keeps}
use Rattle.model.specs.declared.Measures.{Measures}
use Rattle.model.specs.Costs.{open_at}
use Rattle.model.specs.Sectors.{sectors, floor_number}
use Rattle.model.specs.Directions.{compass, landing}
use Rattle.model.specs.Scaling.{passes, block_step, block_passed, walk, scale_cell, scale_sector, scale_floor}
use Rattle.model.specs.Change.{nearby, is_there, for_nearby}
use Rattle.model.specs.Nearby.{at_nearby, nearby_lt}

pub walk_keeps : (P : List ℕ → Type 0) → ((n : ℕ) (xs : List ℕ) → P xs → P (set xs n 255)) → (m : Measures) (s i k : ℕ) (xs : List ℕ) → P xs → P (walk m s i k xs)
unfolding walk block_passed block_step
walk_keeps P keep m s i k xs p =
    let n = passes m xs s i (compass k) in
    pick_keeps P (ltb n m.scale) _ _
    (run_keeps (block_step s i (compass k)) P (λ j. keep (floor_number s (landing i (compass k) (j + 1)).index)) n xs p)
    p

module _ (P : List ℕ → Type 0) (m : Measures) (keep : (s i k : ℕ) (xs : List ℕ) → P xs → P (walk m s i k xs)) (base : List ℕ) where
  cell_keeps : (s i : ℕ) (xs : List ℕ) → P xs → P (scale_cell m base s i xs)
  unfolding scale_cell
  cell_keeps s i xs p = pick_keeps P (open_at base (floor_number s i)) _ _ p (run_keeps (walk m s i) P (keep s i) 8 xs p)

  pub sector_keeps : (s : ℕ) (xs : List ℕ) → P xs → P (scale_sector m base s xs)
  unfolding scale_sector
  sector_keeps s xs p = run_keeps (scale_cell m base s) P (cell_keeps s) 100 xs p

  pub floor_keeps : P base → P (scale_floor m base)
  unfolding scale_floor
  floor_keeps p = run_keeps (scale_sector m base) P sector_keeps (sectors m) base p

pub nearby_keeps : (P : List ℕ → Type 0) (m : Measures) (t : ℕ) → t < sectors m → (step : ℕ → List ℕ → List ℕ) → ((s : ℕ) (xs : List ℕ) → s < sectors m → P xs → P (step s xs)) → (xs : List ℕ) → P xs
    → P (for_nearby m t step xs)
unfolding for_nearby
nearby_keeps P m t on step keep xs p = run_keeps (at_nearby m t step) P (λ k ys q. at k ys q (is_there m t k) refl) 9 xs p
  where
    at : (k : ℕ) (ys : List ℕ) → P ys → (b : Bool) → is_there m t k ≡ b → P (pick b (step (nearby m t k) ys) ys)
    at k ys q true e = keep (nearby m t k) ys (nearby_lt m t k on e) q
    at k ys q false e = q
