-- 01, "A change".
use Rattle.std.specs.Prelude.{ℕ, zero, suc, ◌*◌, ◌/◌, ◌%◌, Bool, true, ◌&&◌, not, List, ltb, eqb, get_or, set}
use Rattle.laws.specs.Fold.{pick, run}
use Rattle.laws.specs.Search.{any}
use Rattle.laws.specs.Region.{within}
use Rattle.laws.specs.Table.{tabulate}
use Rattle.model.specs.declared.Measures.{Measures}
use Rattle.model.specs.declared.Side.{Side}
use Rattle.model.specs.Cells.{side_at, opposite}
use Rattle.model.specs.Sectors.{sectors, sector_of, costs_of, beyond, has_beyond}
use Rattle.model.specs.Directions.{compass, eastward, southward, shifted, on_floor}
use Rattle.model.specs.Scaling.{scale_sector}
use Rattle.model.specs.Windows.{mark_of, window_count}
use Rattle.model.specs.Halls.{Hall, mark_at}

-- "the sector and its up to 8 surrounding ones", "in the order N, E, S, W, NE, SE, SW, NW": nine places, of which place 0 is the sector t itself
unfoldable pub nearby : Measures → ℕ → ℕ → ℕ
nearby m t zero = t
nearby m t (suc k) = shifted m t (eastward (compass k)) (southward (compass k))

unfoldable pub is_there : Measures → ℕ → ℕ → Bool
is_there m t zero = true
is_there m t (suc k) = on_floor m t (eastward (compass k)) (southward (compass k))

-- a step made for each of these sectors in turn
unfoldable pub for_nearby : Measures → ℕ → (ℕ → List ℕ → List ℕ) → List ℕ → List ℕ
for_nearby m t step xs = run (λ k ys. pick (is_there m t k) (step (nearby m t k) ys) ys) 9 xs

-- "resets scaled to base" in a sector
unfoldable pub reset_sector : List ℕ → ℕ → List ℕ → List ℕ
reset_sector base s xs = within (s * 100) 100 (λ old. costs_of base s) xs

-- all are reset before any is rescaled
unfoldable pub rescaled : Measures → List ℕ → ℕ → List ℕ → List ℕ
rescaled m base t xs = for_nearby m t (scale_sector m base) (for_nearby m t (reset_sector base) xs)

-- "marks these sectors' sides afresh. Other sectors keep theirs"
unfoldable pub is_nearby : Measures → ℕ → ℕ → Bool
is_nearby m t s = any (λ k. is_there m t k && eqb (nearby m t k) s) 9

unfoldable pub remarked : Measures → List ℕ → ℕ → List ℕ → List ℕ
remarked m costs t marks = tabulate (λ k. pick (is_nearby m t (k / 4)) (mark_of m costs (k / 4) (side_at (k % 4))) (get_or marks k 0)) (sectors m * 4) 0

-- "A change sets base", rescales and marks afresh
unfoldable pub changed : Hall → ℕ → ℕ → Hall
changed h n cost =
    let base = set h.base n cost in
    let costs = rescaled h.measures base (sector_of n) h.scaled in
    record { measures = h.measures; base = base; scaled = costs; marks = remarked h.measures costs (sector_of n) h.marks }

-- 22: "a sector marked afresh has more windows on a side than the facing side of a sector not marked afresh", of a hall with its sectors around t marked
unfoldable pub exceeds_at : Hall → ℕ → ℕ → Side → Bool
exceeds_at h t s side =
    has_beyond h.measures s side && is_nearby h.measures t s && not (is_nearby h.measures t (beyond h.measures s side))
    && ltb (window_count (mark_at h (beyond h.measures s side) (opposite side))) (window_count (mark_at h s side))

unfoldable pub exceeds : Hall → ℕ → Bool
exceeds h t = any (λ k. exceeds_at h t (k / 4) (side_at (k % 4))) (sectors h.measures * 4)
