-- At scale 1 no walk blocks a cell: scaled costs are base costs, after a build and after a change of one cost.
use Rattle.std.specs.Prelude.{ℕ, suc, ◌+◌, ◌*◌, ◌/◌, ◌≤◌, ◌<◌, ◌≡◌, refl, Bool, true, false, List, ◌++◌, ltb, length, set, take, drop}
use Rattle.std.proofs.Common.{arith, sym, ap, ◌∙◌, length-set}
use Rattle.laws.specs.Fold.{pick, pick_keeps, run, run_after}
use Rattle.laws.specs.Search.{first}
use Rattle.laws.specs.Region.{region, within, within_same, region_within, set_within, length_region}
use Rattle.model.specs.declared.Measures.{Measures}
use Rattle.model.specs.Sectors.{cells, sector_of, place_of, costs_of}
use Rattle.model.specs.Directions.{compass, landing}
use Rattle.model.specs.Scaling.{is_wall, passes, block_step, block_passed, walk, scale_sector, scale_floor}
use Rattle.model.specs.Change.{nearby, is_there, for_nearby, reset_sector, rescaled}
use Rattle.model.specs.Nearby.{at_nearby}
use Rattle.model.specs.ScaleKeeps.{sector_keeps, floor_keeps, nearby_keeps}

-- one step passes a cell and meets no wall, or it meets one and has passed none
one_step_lem : (p : ℕ → Bool) (f : ℕ → List ℕ → List ℕ) (xs : List ℕ) (k : ℕ) → k ≡ 1 → pick (ltb (first p k) k) (run f (first p k) xs) xs ≡ xs
unfolding first run
one_step_lem p f xs k e = rw e (go (p 0))
  where
    go : (b : Bool) → pick (ltb (pick b 0 1) 1) (run f (pick b 0 1) xs) xs ≡ xs
    go true = refl
    go false = refl

module _ (m : Measures) (one : m.scale ≡ 1) where
  walk_one : (s i k : ℕ) (xs : List ℕ) → walk m s i k xs ≡ xs
  unfolding walk passes block_passed
  walk_one s i k xs = one_step_lem (λ n. is_wall m xs s (landing i (compass k) (n + 1))) (block_step s i (compass k)) xs m.scale one

  -- what is xs before a walk is xs after it
  still : (xs : List ℕ) (s i k : ℕ) (ys : List ℕ) → ys ≡ xs → walk m s i k ys ≡ xs
  still xs s i k ys e = walk_one s i k ys ∙ e

  pub sector_one : (base : List ℕ) (s : ℕ) (xs : List ℕ) → scale_sector m base s xs ≡ xs
  sector_one base s xs = sector_keeps (λ (ys : List ℕ). ys ≡ xs) m (still xs) base s xs refl

  pub floor_one : (base : List ℕ) → scale_floor m base ≡ base
  floor_one base = floor_keeps (λ (ys : List ℕ). ys ≡ base) m (still base) base refl

-- a sector that is as in base already
reset_still : (base : List ℕ) (s : ℕ) → reset_sector base s base ≡ base
unfolding reset_sector within
reset_still base s = within_same (s * 100) 100 base

-- the sector of the one cost that was altered
reset_altered : (base : List ℕ) (n c : ℕ) → sector_of n * 100 + 100 ≤ length base → reset_sector (set base n c) (sector_of n) base ≡ set base n c
unfolding reset_sector within
reset_altered base n c fits = ap (λ (l : List ℕ). take a base ++ (l ++ drop 100 (drop a base))) sector ∙ sym altered
  where
    a : ℕ
    a = sector_of n * 100

    alter : List ℕ → List ℕ
    alter ys = set ys (place_of n) c

    altered : set base n c ≡ within a 100 alter base
    altered = let e : n ≡ a + place_of n = omega arith in ap (λ (k : ℕ). set base k c) e ∙ set_within a 100 (place_of n) base c (omega arith) fits

    sector : costs_of (set base n c) (sector_of n) ≡ alter (region a 100 base)
    sector = ap (region a 100) altered ∙ region_within a 100 alter base fits (length-set (region a 100 base) (place_of n) c ∙ length_region a 100 base fits)

-- a change of one cost, where scaled costs are base costs before it
pub rescaled_one : (m : Measures) → m.scale ≡ 1 → (base : List ℕ) (n c : ℕ) → n < length base → length base ≡ cells m → rescaled m (set base n c) (n / 100) base ≡ set base n c
unfolding rescaled for_nearby nearby is_there
rescaled_one m one base n c l long =
    nearby_keeps (λ (ys : List ℕ). ys ≡ b) m (n / 100) (omega arith) (scale_sector m b) (λ s ys on e. sector_one m one b s ys ∙ e) (for_nearby m (n / 100) (reset_sector b) base) resets
  where
    b : List ℕ
    b = set base n c

    resets : for_nearby m (n / 100) (reset_sector b) base ≡ b
    resets =
        run_after (at_nearby m (n / 100) (reset_sector b)) base b (reset_altered base n c (omega arith))
        (λ k. pick_keeps (λ (ys : List ℕ). ys ≡ b) (is_there m (n / 100) (suc k)) _ _ (reset_still b (nearby m (n / 100) (suc k))) refl) 8
