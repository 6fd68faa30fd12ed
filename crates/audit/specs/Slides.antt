-- Moves along a border: from one place of a side to another, over open cells between them.
use Rattle.std.specs.Prelude.{ℕ, zero, suc, ◌+◌, ◌-◌, ◌≤◌, ◌<◌, ◌≡◌, refl, Bool, true, false, List, leb}
use Rattle.std.proofs.Common.{add-zero, arith, sym, ◌∙◌, leb-true, leb-false}
use Rattle.laws.specs.Floor.{Inside, here, move}
use Rattle.model.specs.declared.Measures.{Measures}
use Rattle.model.specs.declared.Side.{Side}
use Rattle.model.specs.CellSides.{border_low}
use Rattle.model.specs.Costs.{open_at}
use Rattle.model.specs.Sectors.{floor_number}
use Rattle.model.specs.SectorSides.{sector_cell}
use Rattle.model.specs.Windows.{border}
use Rattle.audit.specs.Borders.{share_back, share_along}
use Rattle.audit.specs.Crossings.{floor_of}

module _ (m : Measures) (costs : List ℕ) (s : ℕ) (k : Side) where
  abbrev place : ℕ → ℕ
  place i = floor_number s (border k i)

  step_up : (i : ℕ) → suc i < 10 → open_at costs (place i) ≡ true → open_at costs (place (suc i)) ≡ true → (floor_of m costs).Step (place i) (place (suc i))
  step_up i l a b =
      record {
        leaves = a;
        enters = b;
        side = share_along m s k i l;
        kind = sector_cell s (border k i) (border_low k i (omega arith))
            ∙ sym (sector_cell s (border k (suc i)) (border_low k (suc i) l));
      }

  step_down : (i : ℕ) → suc i < 10 → open_at costs (place i) ≡ true → open_at costs (place (suc i)) ≡ true → (floor_of m costs).Step (place (suc i)) (place i)
  step_down i l a b = record { leaves = b; enters = a; side = share_back m (place i) (place (suc i)) (share_along m s k i l); kind = sym (step_up i l a b).kind }

  -- n places on, and n places back, over open border cells
  slide_up : (n i : ℕ) → i + n < 10 → ((j : ℕ) → i ≤ j → j ≤ i + n → open_at costs (place j) ≡ true) → Inside (floor_of m costs) (place i) (place (i + n)) n
  slide_up zero i l o = rw add-zero here
  slide_up (suc n) i l o =
      let e : i + suc n ≡ suc i + n = omega arith in
      rw e (move (step_up i (omega arith) (o i (omega arith) (omega arith)) (o (suc i) (omega arith) (omega arith))) (slide_up n (suc i) (omega arith) (λ j a b. o j (omega arith) (omega arith))))

  slide_down : (n i : ℕ) → i + n < 10 → ((j : ℕ) → i ≤ j → j ≤ i + n → open_at costs (place j) ≡ true) → Inside (floor_of m costs) (place (i + n)) (place i) n
  slide_down zero i l o = rw add-zero here
  slide_down (suc n) i l o =
      let e : i + suc n ≡ suc (i + n) = omega arith in
      rw e (move (step_down (i + n) (omega arith) (o (i + n) (omega arith) (omega arith)) (o (suc (i + n)) (omega arith) (omega arith))) (slide_down n i (omega arith) (λ j a b. o j a (omega arith))))

  -- from place a to place b, at most D apart, where all places from u to v are open
  pub slide : (D u v a b : ℕ) → v < 10 → u ≤ a → a ≤ v → u ≤ b → b ≤ v → a ≤ b + D → b ≤ a + D → ((j : ℕ) → u ≤ j → j ≤ v → open_at costs (place j) ≡ true)
      → (n : ℕ) × (n ≤ D) × Inside (floor_of m costs) (place a) (place b) n
  slide D u v a b lv ua av ub bv ab ba o = go (leb a b) refl
    where
      go : (t : Bool) → leb a b ≡ t → (n : ℕ) × (n ≤ D) × Inside (floor_of m costs) (place a) (place b) n
      go true e =
          let l : a ≤ b = leb-true a b e in
          let q : a + (b - a) ≡ b = omega arith in
          (b - a, omega arith, rw q at (slide_up (b - a) a (omega arith) (λ j x y. o j (omega arith) (omega arith))))
      go false e =
          let l : b < a = leb-false a b e in
          let q : b + (a - b) ≡ a = omega arith in
          (a - b, omega arith, rw q at (slide_down (a - b) b (omega arith) (λ j x y. o j (omega arith) (omega arith))))
