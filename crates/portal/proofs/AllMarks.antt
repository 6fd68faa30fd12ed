-- What counts of bits give at each of the 1,024 marks, by one computed test: the number of windows, the first window and the mark without it, and window j as the first that is left.
use mathlib.Core.Path.{◌≡◌, refl, ap, ◌∙◌}
use mathlib.Core.Bool.{Bool, true, ◌&&◌}
use Prim.Native.Nat.{ℕ, suc, ◌+◌, ◌-◌, ◌*◌, ◌/◌, ◌%◌, ◌^◌, ◌≤◌, ◌<◌}
use native.Mathlib.Nat.{lt_of_le_of_lt, le_antisymm}
use native.Mathlib.Omega.{arith}
use lib.Dec.{leb, ltb, eqb}
use lib.Bits.{bit_and, and_le_l}
use lib.Count.{ones, ones-le, count_trailing_zeros}
use borrow.Author.Tests.{ltb-true, lt-ltb, leb-true, eqb-true}
use Rattle.laws.specs.Fold.{run, bit, run_none, run_turn}
use Rattle.laws.specs.Search.{first, all, all_at, implies, implied, both}
use Rattle.model.specs.Windows.{is_open, begins, begun, window_count, first_place, last_place}
use Rattle.model.specs.WindowRuns.{few_windows}
use Rattle.portal.specs.declared.runs.OpenRun.{OpenRun}
use Rattle.portal.specs.Runs.{starts, places_of, rest_of, rest_after}

-- ---- what the code works out
abbrev first_of : ℕ → ℕ
first_of mark = count_trailing_zeros 16 mark

abbrev past_of : ℕ → ℕ
past_of mark = first_of mark + count_trailing_zeros 16 (65535 - mark / 2 ^ first_of mark)

abbrev above_of : ℕ → ℕ
above_of mark = mark / 2 ^ past_of mark * 2 ^ past_of mark % 65536

-- ---- the test
splits : ℕ → Bool
splits mark = eqb (first_of mark) (first_place mark 0) && (eqb (past_of mark) (suc (last_place mark 0)) && (eqb (above_of mark) (rest_of mark) && (leb (first_of mark) 9 && leb (past_of mark) 10)))

-- window j is the first window of what is left
leads : ℕ → ℕ → Bool
leads mark j =
    implies (ltb j (window_count mark)) (ltb 0 (rest_after mark j) && (leb (rest_after mark j) 1023 && (eqb (first_place (rest_after mark j) 0) (first_place mark j) && eqb (last_place (rest_after mark j) 0)
    (last_place mark j))))

test : ℕ → Bool
test mark = eqb (starts mark) (window_count mark) && (implies (ltb 0 mark) (splits mark) && all (leads mark) 5)

passed : all test 1024 ≡ true
unfolding all test splits leads implies run bit ones count_trailing_zeros is_open begins begun window_count first first_place last_place rest_of
passed = refl

-- ---- what it says
-- a u16 has at most 16 ones
pub few_ones : (a b : ℕ) → a < 65536 → ones (bit_and a b) ≤ 16
few_ones a b h = ones-le 16 (bit_and a b) (lt_of_le_of_lt (and_le_l a b) h)

-- The first window of a mark that has one, and the mark without it.
pub record Split (mark : ℕ) : Type 0 where
  pub places : record { «first» = first_of mark; last = past_of mark - 1 } ≡ places_of mark 0
  pub rest_is : above_of mark ≡ rest_of mark
  pub low : first_of mark ≤ 9
  pub some : 0 < past_of mark
  pub high : past_of mark ≤ 10

-- Window j is the first window of what is left without the j before it.
record Leads (mark j : ℕ) : Type 0 where
  pub some : 0 < rest_after mark j
  small : rest_after mark j ≤ 1023
  same : places_of (rest_after mark j) 0 ≡ places_of mark j

module _ (mark : ℕ) (small : mark ≤ 1023) where
  tested : (eqb (starts mark) (window_count mark) ≡ true) × (implies (ltb 0 mark) (splits mark) ≡ true) × (all (leads mark) 5 ≡ true)
  unfolding test
  tested =
      let t = both (eqb (starts mark) (window_count mark)) (implies (ltb 0 mark) (splits mark) && all (leads mark) 5) (all_at test 1024 mark passed (omega arith)) in
      let u = both (implies (ltb 0 mark) (splits mark)) (all (leads mark) 5) t.1 in
      (t.0, u.0, u.1)

  pub count_is : starts mark ≡ window_count mark
  count_is = eqb-true (starts mark) (window_count mark) tested.0

  pub split : 0 < mark → Split mark
  unfolding splits
  split h =
      let t₁ = both (eqb (first_of mark) (first_place mark 0)) past (implied (ltb 0 mark) (splits mark) tested.1 (lt-ltb 0 mark h)) in
      let t₂ = both (eqb (past_of mark) (suc (last_place mark 0))) rest t₁.1 in
      let t₃ = both (eqb (above_of mark) (rest_of mark)) bounds t₂.1 in
      let t₄ = both (leb (first_of mark) 9) (leb (past_of mark) 10) t₃.1 in
      let a = eqb-true (first_of mark) (first_place mark 0) t₁.0 in
      let z = eqb-true (past_of mark) (suc (last_place mark 0)) t₂.0 in
      let l : past_of mark - 1 ≡ last_place mark 0 = omega arith in
      record {
        places = λ i. record { «first» = a i; last = l i };
        some = omega arith;
        rest_is = eqb-true (above_of mark) (rest_of mark) t₃.0;
        low = leb-true (first_of mark) 9 t₄.0;
        high = leb-true (past_of mark) 10 t₄.1;
      }
    where
      bounds : Bool
      bounds = leb (first_of mark) 9 && leb (past_of mark) 10

      rest : Bool
      rest = eqb (above_of mark) (rest_of mark) && bounds

      past : Bool
      past = eqb (past_of mark) (suc (last_place mark 0)) && rest

  lead : (j : ℕ) → j < window_count mark → Leads mark j
  unfolding leads
  lead j h =
      let t₁ =
      both (ltb 0 left) low (implied (ltb j (window_count mark)) (ltb 0 left && low) (all_at (leads mark) 5 j tested.2 (omega (arith, few_windows mark (omega arith))))
      (lt-ltb j (window_count mark) h)) in
      let t₂ = both (leb left 1023) places t₁.1 in
      let t₃ = both (eqb (first_place left 0) (first_place mark j)) (eqb (last_place left 0) (last_place mark j)) t₂.1 in
      let a = eqb-true (first_place left 0) (first_place mark j) t₃.0 in
      let z = eqb-true (last_place left 0) (last_place mark j) t₃.1 in
      record { some = ltb-true 0 left t₁.0; small = leb-true left 1023 t₂.0; same = λ i. record { «first» = a i; last = z i } }
    where
      left : ℕ
      left = rest_after mark j

      places : Bool
      places = eqb (first_place left 0) (first_place mark j) && eqb (last_place left 0) (last_place mark j)

      low : Bool
      low = leb left 1023 && places

-- ---- for the loop that passes the first k windows
-- What is left without them.
pub record Left (mark j left k : ℕ) : Type 0 where
  pub within : k ≤ j
  pub is : left ≡ rest_after mark k

pub left_none : (mark j : ℕ) → Left mark j mark 0
left_none mark j = record { within = omega arith; is = run_none (λ _. rest_of) mark }

pub left_turn : {mark j left rest k : ℕ} → Left mark j left k → k < j → rest ≡ rest_of left → Left mark j rest (k + 1)
left_turn {mark} {j} {left} {rest} {k} l h e = record { within = omega arith; is = run_turn (λ _. rest_of) k mark left rest e l.is }

-- some window is left, and where the j before it are passed, the first is window j
pub left_some : {mark j left k : ℕ} → Left mark j left k → mark ≤ 1023 → j < window_count mark → 0 < left
left_some {mark} {j} {left} {k} l m h = rw l.is (lead mark m k (omega (arith, l.within))).some

pub left_small : {mark j left k : ℕ} → Left mark j left k → mark ≤ 1023 → j < window_count mark → left ≤ 1023
left_small {mark} {j} {left} {k} l m h = rw l.is (lead mark m k (omega (arith, l.within))).small

pub left_end : {mark j left k : ℕ} {r : OpenRun} → Left mark j left k → j ≤ k → mark ≤ 1023 → j < window_count mark → r ≡ places_of left 0 → r ≡ places_of mark j
left_end {mark} {j} {left} {k} l e m h o =
    o ∙ ap (λ n. places_of n 0) (l.is ∙ ap (rest_after mark) (le_antisymm l.within e)) ∙ (lead mark m j h).same

pub ruleset passing = (left_none, left_turn, left_some, left_small, left_end)
