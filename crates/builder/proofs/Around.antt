-- Facts for the proofs that go over the sectors around a changed one: their sides marked one after the other are the table of marks afresh, and a side that exceeds is one of theirs.
use mathlib.Core.Path.{◌≡◌, refl, sym, ap, ◌∙◌}
use mathlib.Core.Logic.{◌⊎◌, inl, inr}
use mathlib.Core.Bool.{Bool, true, false, ◌&&◌, false≢true}
use mathlib.Core.List.{List}
use Prim.Native.Nat.{ℕ, zero, suc, ◌+◌, ◌*◌, ◌/◌, ◌%◌, ◌<◌}
use native.Mathlib.Nat.{not-suc-le-zero}
use native.Mathlib.Decide.{ℕ_discrete}
use native.Mathlib.Omega.{arith}
use lib.Dec.{eqb}
use lib.ListN.{length, get_or, length-set}
use lib.Seq.{get_or-set_same, get_or-set_other, ext_get_or}
use borrow.Author.Tests.{eqb-true, eqb-false, eq-eqb, ne_eqb}
use Rattle.laws.specs.Fold.{pick, pick_keeps, run, run_length}
use Rattle.laws.specs.Search.{any, any_no, any_has, both}
use Rattle.laws.specs.Table.{tabulate, length_tabulate, tabulate_at}
use Rattle.laws.specs.Each.{each}
use Rattle.model.specs.declared.Measures.{Measures}
use Rattle.model.specs.Cells.{side_at}
use Rattle.model.specs.Sectors.{sectors, has_beyond}
use Rattle.model.specs.Halls.{Hall}
use Rattle.model.specs.Change.{nearby, is_there, is_nearby, remarked, exceeds_at, exceeds}
use Rattle.model.specs.Nearby.{at_nearby, nearby_lt}
use Rattle.laws.specs.Hits.{Hit, seek, any_hit, same_test}
use Rattle.builder.specs.Marks.{fresh}
use Rattle.builder.specs.Around.{side_fresh, sector_fresh, sector_exceeds, place_exceeds}

-- ---- what steps leave at one entry of a list: v where one of them is at it, and else what stood there
module _ (step : ℕ → List ℕ → List ℕ) (p : ℕ → Bool) (k v : ℕ) (long : (i : ℕ) (ys : List ℕ) → length (step i ys) ≡ length ys)
    (sets : (i : ℕ) (ys : List ℕ) → k < length ys → p i ≡ true → get_or (step i ys) k 0 ≡ v) (leaves : (i : ℕ) (ys : List ℕ) → k < length ys → p i ≡ false → get_or (step i ys) k 0 ≡ get_or ys k 0)
    (xs : List ℕ) (on : k < length xs) where
  on_run : (n : ℕ) → k < length (run step n xs)
  on_run n = rw (run_length step long n xs) on

  run_leaves : (n : ℕ) → ((j : ℕ) → j < n → p j ≡ false) → get_or (run step n xs) k 0 ≡ get_or xs k 0
  unfolding run
  run_leaves zero none = refl
  run_leaves (suc n) none = leaves n (run step n xs) (on_run n) (none n (omega arith)) ∙ run_leaves n (λ j l. none j (omega arith))

  run_sets : (n j : ℕ) → j < n → p j ≡ true → get_or (run step n xs) k 0 ≡ v
  unfolding run
  run_sets zero j l e = absurd (not-suc-le-zero l)
  run_sets (suc n) j l e = go (p n) refl (ℕ_discrete j n) (λ m. run_sets n j m e)
    where
      go : (b : Bool) → p n ≡ b → Dec (j ≡ n) → (j < n → get_or (run step n xs) k 0 ≡ v) → get_or (step n (run step n xs)) k 0 ≡ v
      go true q d rest = sets n (run step n xs) (on_run n) q
      go false q (yes z) rest = absurd (false≢true (sym q ∙ ap p (sym z) ∙ e))
      go false q (no z) rest = leaves n (run step n xs) (on_run n) q ∙ rest (omega arith)

  run_entry : (n : ℕ) → get_or (run step n xs) k 0 ≡ pick (any p n) v (get_or xs k 0)
  run_entry n = go (seek p n)
    where
      go : Hit p n ⊎ ((j : ℕ) → j < n → p j ≡ false) → get_or (run step n xs) k 0 ≡ pick (any p n) v (get_or xs k 0)
      go (inl h) = rw (any_has p n h.at h.below h.passes) (run_sets n h.at h.below h.passes)
      go (inr none) = rw (← any_no p n n (omega arith) none) (run_leaves n none)

-- ---- marks afresh
module _ (m : Measures) (costs : List ℕ) where
  long_side : (s i : ℕ) (ys : List ℕ) → length (side_fresh m costs s i ys) ≡ length ys
  unfolding each
  long_side s i ys = length-set ys (s * 4 + i) (fresh m costs (s * 4 + i) 0)

  long_sector : (s : ℕ) (ys : List ℕ) → length (sector_fresh m costs s ys) ≡ length ys
  unfolding sector_fresh
  long_sector s ys = run_length (side_fresh m costs s) (long_side s) 4 ys

  module _ (k : ℕ) where
    side_sets : (s i : ℕ) (ys : List ℕ) → k < length ys → eqb (s * 4 + i) k ≡ true → get_or (side_fresh m costs s i ys) k 0 ≡ fresh m costs k 0
    unfolding each
    side_sets s i ys l e = rw (eqb-true (s * 4 + i) k e) (get_or-set_same ys k (fresh m costs k 0) 0 l)

    side_leaves : (s i : ℕ) (ys : List ℕ) → k < length ys → eqb (s * 4 + i) k ≡ false → get_or (side_fresh m costs s i ys) k 0 ≡ get_or ys k 0
    unfolding each
    side_leaves s i ys l e = get_or-set_other ys (s * 4 + i) k (fresh m costs (s * 4 + i) 0) 0 (λ z. eqb-false (s * 4 + i) k e (sym z))

    sector_sets : (s : ℕ) (ys : List ℕ) → k < length ys → s ≡ k / 4 → get_or (sector_fresh m costs s ys) k 0 ≡ fresh m costs k 0
    unfolding sector_fresh
    sector_sets s ys l e = run_sets (side_fresh m costs s) (λ i. eqb (s * 4 + i) k) k (fresh m costs k 0) (long_side s) (side_sets s) (side_leaves s) ys l 4 (k % 4) (omega arith) (eq-eqb (s * 4 + k % 4) k (omega arith))

    sector_leaves : (s : ℕ) (ys : List ℕ) → k < length ys → (s ≡ k / 4 → ⊥) → get_or (sector_fresh m costs s ys) k 0 ≡ get_or ys k 0
    unfolding sector_fresh
    sector_leaves s ys l e = run_leaves (side_fresh m costs s) (λ i. eqb (s * 4 + i) k) k (fresh m costs k 0) (long_side s) (side_sets s) (side_leaves s) ys l 4 (λ j b. ne_eqb (s * 4 + j) k (λ z. e (omega arith)))

  -- the sector of mark k is at place j
  module _ (t k : ℕ) where
    abbrev here : ℕ → Bool
    here j = is_there m t j && eqb (nearby m t j) (k / 4)

    long_place : (j : ℕ) (ys : List ℕ) → length (at_nearby m t (sector_fresh m costs) j ys) ≡ length ys
    long_place j ys = pick_keeps (λ (zs : List ℕ). length zs ≡ length ys) (is_there m t j) (sector_fresh m costs (nearby m t j) ys) ys (long_sector (nearby m t j) ys) refl

    place_sets : (j : ℕ) (ys : List ℕ) → k < length ys → here j ≡ true → get_or (at_nearby m t (sector_fresh m costs) j ys) k 0 ≡ fresh m costs k 0
    place_sets j ys l e =
        let b = both (is_there m t j) (eqb (nearby m t j) (k / 4)) e in
        rw b.0 (sector_sets k (nearby m t j) ys l (eqb-true (nearby m t j) (k / 4) b.1))

    place_leaves : (j : ℕ) (ys : List ℕ) → k < length ys → here j ≡ false → get_or (at_nearby m t (sector_fresh m costs) j ys) k 0 ≡ get_or ys k 0
    place_leaves j ys l e = go (is_there m t j) e
      where
        go : (b : Bool) → (b && eqb (nearby m t j) (k / 4)) ≡ false → get_or (pick b (sector_fresh m costs (nearby m t j) ys) ys) k 0 ≡ get_or ys k 0
        go true e = sector_leaves k (nearby m t j) ys l (eqb-false (nearby m t j) (k / 4) e)
        go false e = refl

  pub remarked_by : (t : ℕ) (marks : List ℕ) → length marks ≡ sectors m * 4 → run (at_nearby m t (sector_fresh m costs)) 9 marks ≡ remarked m costs t marks
  unfolding remarked is_nearby
  remarked_by t marks e =
      ext_get_or 0 (run step 9 marks) (tabulate rule (sectors m * 4) 0) (long ∙ e ∙ sym (length_tabulate rule (sectors m * 4) 0))
      (λ k l.
      let on : k < length marks = rw (← long) l in
      run_entry step (here t k) k (fresh m costs k 0) (long_place t k) (place_sets t k) (place_leaves t k) marks on 9 ∙ sym (tabulate_at rule (sectors m * 4) k 0 (rw (← e) on)))
    where
      step : ℕ → List ℕ → List ℕ
      step = at_nearby m t (sector_fresh m costs)

      rule : ℕ → ℕ
      rule k = pick (is_nearby m t (k / 4)) (fresh m costs k 0) (get_or marks k 0)

      long : length (run step 9 marks) ≡ length marks
      long = run_length step (long_place t 0) 9 marks

-- ---- sides that exceed
pub place_near : (m : Measures) (t k : ℕ) → k < 9 → is_there m t k ≡ true → is_nearby m t (nearby m t k) ≡ true
unfolding is_nearby
place_near m t k l e = any_has (λ j. is_there m t j && eqb (nearby m t j) (nearby m t k)) 9 k l (rw e (eq-eqb (nearby m t k) (nearby m t k) refl))

module _ (h : Hall) (t : ℕ) where
  -- a side of sector s is one of all sides
  side_counts : (s i : ℕ) → s < sectors h.measures → i < 4 → exceeds_at h t s (side_at i) ≡ true → exceeds h t ≡ true
  unfolding exceeds
  side_counts s i l b e =
      let own : (s * 4 + i) / 4 ≡ s = omega arith in
      let side : (s * 4 + i) % 4 ≡ i = omega arith in
      any_has (λ k. exceeds_at h t (k / 4) (side_at (k % 4))) (sectors h.measures * 4) (s * 4 + i) (omega arith) (rw (own, side) e)

  -- a side that exceeds is one of a sector around t
  side_placed : (s i : ℕ) → i < 4 → exceeds_at h t s (side_at i) ≡ true → any (place_exceeds h t) 9 ≡ true
  unfolding exceeds_at is_nearby sector_exceeds
  side_placed s i b e =
      let m = h.measures in
      let out = (both _ _ e).0 in
      let near = (both (has_beyond m s (side_at i)) (is_nearby m t s) (both _ _ out).0).1 in
      let p = any_hit (λ k. is_there m t k && eqb (nearby m t k) s) 9 near in
      let at = both (is_there m t p.at) (eqb (nearby m t p.at) s) p.passes in
      let found : sector_exceeds h t (nearby m t p.at) ≡ true = rw (eqb-true (nearby m t p.at) s at.1) (any_has (λ i. exceeds_at h t s (side_at i)) 4 i b e) in
      any_has (place_exceeds h t) 9 p.at p.below (rw at.0 found)

  pub places_exceed : {r : Bool} → t < sectors h.measures → r ≡ any (place_exceeds h t) 9 → r ≡ exceeds h t
  unfolding exceeds sector_exceeds
  places_exceed on e = e ∙ same_test (any (place_exceeds h t) 9) (exceeds h t) there back
    where
      there : any (place_exceeds h t) 9 ≡ true → exceeds h t ≡ true
      there e =
          let p = any_hit (place_exceeds h t) 9 e in
          let s = nearby h.measures t p.at in
          let b = both (is_there h.measures t p.at) (sector_exceeds h t s) p.passes in
          let i = any_hit (λ i. exceeds_at h t s (side_at i)) 4 b.1 in
          side_counts s i.at (nearby_lt h.measures t p.at on b.0) i.below i.passes

      back : exceeds h t ≡ true → any (place_exceeds h t) 9 ≡ true
      back e =
          let k = any_hit (λ k. exceeds_at h t (k / 4) (side_at (k % 4))) (sectors h.measures * 4) e in
          side_placed (k.at / 4) (k.at % 4) (omega arith) k.passes
