-- What windows are: by one computed test over the 1,024 marks, each open place lies in the window that is named and in no other, and each window is a longest open run.
-- And: bit i of a mark made of tests is test i.
use Prim.Native.Nat.{ℕ, zero, suc, ◌+◌, ◌-◌, ◌*◌, ◌/◌, ◌%◌, ◌^◌, ◌≤◌, ◌<◌}
use Rattle.std.proofs.Math.Nat.{pow-succ', div-div-eq-div-mul}
use Rattle.std.proofs.Common.{arith, sym, ap, ◌∙◌, inl, inr}
use Rattle.std.specs.Prelude.{◌≡◌, refl, ◌⊎◌, Bool, true, false, ◌&&◌, not, ltb, leb, eqb}
use borrow.Author.Tests.{ltb-true, lt-ltb, leb-true, le-leb, eqb-true, eq-eqb, ne_eqb, not-true}
use Rattle.laws.specs.Fold.{bit}
use Rattle.laws.specs.Search.{first, all, all_at, implies, implied, both}
use Rattle.laws.specs.Graph.{below_or}
use Rattle.model.specs.Windows.{bits, is_open, begins, begun, window_count, first_place, last_place, crossing}

-- the number of the window on an open place
abbrev pub window_on : ℕ → ℕ → ℕ
window_on mark i = begun mark (suc i) - 1

-- ---- the test
-- place i lies from the first to the last place of window j
spans : ℕ → ℕ → ℕ → Bool
spans mark j i = leb (first_place mark j) i && leb i (last_place mark j)

-- an open place lies in the window that is named
lies : ℕ → ℕ → Bool
lies mark i = implies (is_open mark i) (ltb (window_on mark i) (window_count mark) && spans mark (window_on mark i) i)

-- a place of window j is open, and no other window is named there
owns : ℕ → ℕ → ℕ → Bool
owns mark j i = implies (spans mark j i) (is_open mark i && eqb (window_on mark i) j)

-- window j: in order, inside the side, shut below and above, and its places
longest : ℕ → ℕ → Bool
longest mark j =
    implies (ltb j (window_count mark))
    (leb (first_place mark j) (last_place mark j)
    && (ltb (last_place mark j) 10
    && (not (is_open (2 * mark) (first_place mark j))
    && (not (is_open mark (suc (last_place mark j)))
    && all (owns mark j) 10))))

test : ℕ → Bool
test mark = leb (window_count mark) 5 && (all (lies mark) 10 && all (longest mark) 5)

passed : all test 1024 ≡ true
unfolding all test lies owns longest spans implies bit is_open begins begun window_count first first_place last_place
passed = refl

-- ---- what it says
spans_is : (mark j i : ℕ) → spans mark j i ≡ true → (first_place mark j ≤ i) × (i ≤ last_place mark j)
unfolding spans
spans_is mark j i e =
    let t = both (leb (first_place mark j) i) (leb i (last_place mark j)) e in
    (leb-true (first_place mark j) i t.0, leb-true i (last_place mark j) t.1)

is_spanned : (mark j i : ℕ) → first_place mark j ≤ i → i ≤ last_place mark j → spans mark j i ≡ true
unfolding spans
is_spanned mark j i a b = rw (le-leb (first_place mark j) i a, le-leb i (last_place mark j) b)

-- Window j of a mark: a longest open run.
pub record Run (mark j : ℕ) : Type 0 where
  pub ordered : first_place mark j ≤ last_place mark j
  pub inside : last_place mark j < 10
  pub shut_below : is_open (2 * mark) (first_place mark j) ≡ false
  pub shut_above : is_open mark (suc (last_place mark j)) ≡ false
  pub opens : (i : ℕ) → first_place mark j ≤ i → i ≤ last_place mark j → is_open mark i ≡ true
  pub alone : (i : ℕ) → first_place mark j ≤ i → i ≤ last_place mark j → window_on mark i ≡ j

module _ (mark : ℕ) (small : mark < 1024) where
  tested : (leb (window_count mark) 5 ≡ true) × (all (lies mark) 10 ≡ true) × (all (longest mark) 5 ≡ true)
  unfolding test
  tested =
      let t = both (leb (window_count mark) 5) (all (lies mark) 10 && all (longest mark) 5) (all_at test 1024 mark passed small) in
      let u = both (all (lies mark) 10) (all (longest mark) 5) t.1 in
      (t.0, u.0, u.1)

  pub few_windows : window_count mark ≤ 5
  few_windows = leb-true (window_count mark) 5 tested.0

  -- an open place lies in the window that is named
  pub open_lies : (i : ℕ) → i < 10 → is_open mark i ≡ true → (window_on mark i < window_count mark) × (first_place mark (window_on mark i) ≤ i) × (i ≤ last_place mark (window_on mark i))
  unfolding lies
  open_lies i l o =
      let j : ℕ = window_on mark i in
      let t = both (ltb j (window_count mark)) (spans mark j i) (implied (is_open mark i) (ltb j (window_count mark) && spans mark j i) (all_at (lies mark) 10 i tested.1 l) o) in
      let u = spans_is mark j i t.1 in
      (ltb-true j (window_count mark) t.0, u.0, u.1)

  pub window_run : (j : ℕ) → j < window_count mark → Run mark j
  unfolding longest owns
  window_run j l =
      record {
        ordered = leb-true a z t₁.0;
        inside = in_side;
        shut_below = not-true (is_open (2 * mark) a) t₃.0;
        shut_above = not-true (is_open mark (suc z)) t₄.0;
        opens = λ i f g. (place i f g).0;
        alone = λ i f g. (place i f g).1;
      }
    where
      a : ℕ
      a = first_place mark j

      z : ℕ
      z = last_place mark j

      above : Bool
      above = not (is_open mark (suc z)) && all (owns mark j) 10

      below : Bool
      below = not (is_open (2 * mark) a) && above

      t₁ : (leb a z ≡ true) × (ltb z 10 && below ≡ true)
      t₁ = both (leb a z) (ltb z 10 && below) (implied (ltb j (window_count mark)) (leb a z && (ltb z 10 && below)) (all_at (longest mark) 5 j tested.2 (omega (arith, few_windows)))
          (lt-ltb j (window_count mark) l))

      t₂ : (ltb z 10 ≡ true) × (below ≡ true)
      t₂ = both (ltb z 10) below t₁.1

      t₃ : (not (is_open (2 * mark) a) ≡ true) × (above ≡ true)
      t₃ = both (not (is_open (2 * mark) a)) above t₂.1

      t₄ : (not (is_open mark (suc z)) ≡ true) × (all (owns mark j) 10 ≡ true)
      t₄ = both (not (is_open mark (suc z))) (all (owns mark j) 10) t₃.1

      in_side : z < 10
      in_side = ltb-true z 10 t₂.0

      place : (i : ℕ) → a ≤ i → i ≤ z → (is_open mark i ≡ true) × (window_on mark i ≡ j)
      place i f g =
          let u = both (is_open mark i) (eqb (window_on mark i) j)
          (implied (spans mark j i) (is_open mark i && eqb (window_on mark i) j) (all_at (owns mark j) 10 i t₄.1 (omega (arith, in_side))) (is_spanned mark j i f g)) in
          (u.0, eqb-true (window_on mark i) j u.1)

  -- two windows with the same first place are one
  pub first_apart : (j k : ℕ) → j < window_count mark → k < window_count mark → first_place mark j ≡ first_place mark k → j ≡ k
  first_apart j k hj hk e = sym (at_first j (window_run j hj)) ∙ ap (window_on mark) e ∙ at_first k (window_run k hk)
    where
      at_first : (n : ℕ) → Run mark n → window_on mark (first_place mark n) ≡ n
      at_first n r = r.alone (first_place mark n) (omega arith) r.ordered

-- windows that begin below a place begin below every later one
begun_on : (mark i n : ℕ) → begun mark i ≤ begun mark (i + n)
unfolding begun
begun_on mark i zero = let e : i + 0 ≡ i = omega arith in rw e (omega arith)
begun_on mark i (suc n) = let e : i + suc n ≡ suc (i + n) = omega arith in rw e (omega (arith, begun_on mark i n))

-- "in order": a later window lies behind an earlier one
pub in_order : (mark : ℕ) → mark < 1024 → (j k : ℕ) → j < k → k < window_count mark → last_place mark j < first_place mark k
in_order mark small j k l c = go (below_or (last_place mark j) (first_place mark k))
  where
    go : (last_place mark j < first_place mark k) ⊎ (first_place mark k ≤ last_place mark j) → last_place mark j < first_place mark k
    go (inl h) = h
    go (inr h) =
        let a = window_run mark small j (omega arith) in
        let b = window_run mark small k c in
        let e : suc (first_place mark k) + (last_place mark j - first_place mark k) ≡ suc (last_place mark j) = omega arith in
        let on = rw e at (begun_on mark (suc (first_place mark k)) (last_place mark j - first_place mark k)) in
        absurd (omega (arith, on, a.alone (last_place mark j) a.ordered (omega arith), b.alone (first_place mark k) (omega arith) b.ordered))

-- no place of a window is more than 5 places from its crossing
pub near : {mark j : ℕ} → Run mark j → (i : ℕ) → first_place mark j ≤ i → i ≤ last_place mark j → (i ≤ crossing mark j + 5) × (crossing mark j ≤ i + 5)
unfolding crossing
near r i a b = (omega (arith, r.inside), omega (arith, r.inside))

pub crossing_in : {mark j : ℕ} → Run mark j → (first_place mark j ≤ crossing mark j) × (crossing mark j ≤ last_place mark j)
unfolding crossing
crossing_in r = (omega (arith, r.ordered), omega (arith, r.ordered))

-- ---- a mark made of tests
pub bits_small : (test : ℕ → Bool) (n : ℕ) → bits test n < 2 ^ n
unfolding bits bit
bits_small test zero = omega arith
bits_small test (suc n) = go (test 0) (bits_small (λ i. test (suc i)) n)
  where
    go : (b : Bool) → bits (λ i. test (suc i)) n < 2 ^ n → bit b + 2 * bits (λ i. test (suc i)) n < 2 ^ suc n
    go true h = omega (arith, pow-succ' 2 n)
    go false h = omega (arith, pow-succ' 2 n)

-- a bit in front moves every other place on
open_front : (b : Bool) (x : ℕ) → is_open (bit b + 2 * x) 0 ≡ b
unfolding is_open bit
open_front true x = eq-eqb ((1 + 2 * x) / 1 % 2) 1 (omega arith)
open_front false x = ne_eqb ((0 + 2 * x) / 1 % 2) 1 (λ e. omega arith)

open_past : (b : Bool) (x i : ℕ) → is_open (bit b + 2 * x) (suc i) ≡ is_open x i
unfolding is_open bit
open_past b x i = rw (pow-succ' 2 i, ← (div-div-eq-div-mul (bit b + 2 * x) 2 (2 ^ i)), half b)
  where
    half : (b : Bool) → (bit b + 2 * x) / 2 ≡ x
    half true = omega arith
    half false = omega arith

pub bits_open : (test : ℕ → Bool) (n i : ℕ) → i < n → is_open (bits test n) i ≡ test i
unfolding bits
bits_open test zero i l = absurd (omega arith)
bits_open test (suc n) zero l = open_front (test 0) (bits (λ i. test (suc i)) n)
bits_open test (suc n) (suc i) l = open_past (test 0) (bits (λ k. test (suc k)) n) i ∙ bits_open (λ k. test (suc k)) n i (omega arith)

pub bits_same : (p q : ℕ → Bool) (n : ℕ) → ((i : ℕ) → i < n → p i ≡ q i) → bits p n ≡ bits q n
unfolding bits
bits_same p q zero h = refl
bits_same p q (suc n) h = rw (h 0 (omega arith), bits_same (λ i. p (suc i)) (λ i. q (suc i)) n (λ i l. h (suc i) (omega arith)))
