-- The first of the least: of the numbers below n the first whose key is least, and the loop that keeps it.
use Rattle.std.specs.Prelude.{ℕ, ◌+◌, ◌≤◌, ◌<◌, ◌≡◌, refl, ◌⊎◌}
use Rattle.std.proofs.Common.{arith, inl, inr, below_more}
use Rattle.laws.specs.Graph.{below_or}

pub record FirstLeast (key : ℕ → ℕ) (n r : ℕ) : Type 0 where
  pub low : r < n
  pub before : (j : ℕ) → j < r → key r < key j
  pub least : (j : ℕ) → j < n → key r ≤ key j

module _ {key : ℕ → ℕ} {n : ℕ} where
  -- number n has a lesser key than each before it
  pub first_take : ((j : ℕ) → j < n → key n < key j) → FirstLeast key (n + 1) n
  first_take less = record { low = omega arith; before = less; least = below_more (λ (j : ℕ). key n ≤ key j) n (λ j l. omega (arith, less j l)) (omega arith) }

  -- or not
  pub first_skip : {r : ℕ} → FirstLeast key n r → key r ≤ key n → FirstLeast key (n + 1) r
  first_skip {r} h l = record { low = omega (arith, h.low); before = h.before; least = below_more (λ (j : ℕ). key r ≤ key j) n h.least l }

  not_later : {r s : ℕ} → FirstLeast key n r → FirstLeast key n s → r ≤ s
  not_later {r} {s} h k = go (below_or s r)
    where
      go : (s < r) ⊎ (r ≤ s) → r ≤ s
      go (inl l) = absurd (omega (arith, h.before s l, k.least r h.low))
      go (inr l) = l

  pub first_unique : {r s : ℕ} → FirstLeast key n r → FirstLeast key n s → r ≡ s
  first_unique h k = omega (arith, not_later h k, not_later k h)

  -- by other keys that agree
  pub first_same : (other : ℕ → ℕ) {r : ℕ} → FirstLeast key n r → ((j : ℕ) → j < n → key j ≡ other j) → FirstLeast other n r
  first_same other {r} h same =
      let is = same r h.low in
      record {
        low = h.low;
        before = λ j l. omega (arith, is, h.before j l, same j (omega (arith, h.low)));
        least = λ j l. omega (arith, is, h.least j l, same j l);
      }

-- what a loop over `size` numbers knows after n of them: none has a key below top, and then r is size and least is top; or r is the first of the least, and least is its key
pub data Picked (key : ℕ → ℕ) (top size n least r : ℕ) : Type 0 where
  no_pick : r ≡ size → least ≡ top → ((j : ℕ) → j < n → top ≤ key j) → Picked key top size n least r
  picked : least ≡ key r → key r < top → FirstLeast key n r → Picked key top size n least r

pub picked_none : (key : ℕ → ℕ) (top size : ℕ) → Picked key top size 0 top size
picked_none key top size = no_pick refl refl (λ j l. absurd (omega arith))

module _ {key : ℕ → ℕ} {top size n least r k : ℕ} (so_far : Picked key top size n least r) (is : k ≡ key n) where
  -- number n has a lesser key
  pub picked_take : k < least → Picked key top size (n + 1) k n
  picked_take less = go so_far
    where
      go : Picked key top size n least r → Picked key top size (n + 1) k n
      go (no_pick e q all) = picked is (omega arith) (first_take (λ j l. omega (arith, all j l)))
      go (picked q low h) = picked is (omega arith) (first_take (λ j l. omega (arith, h.least j l)))

  -- or not
  pub picked_skip : least ≤ k → Picked key top size (n + 1) least r
  picked_skip more = go so_far
    where
      go : Picked key top size n least r → Picked key top size (n + 1) least r
      go (no_pick e q all) = no_pick e q (below_more (λ (j : ℕ). top ≤ key j) n all (omega arith))
      go (picked q low h) = picked q low (first_skip h (omega arith))

-- the loop is over: r is the first of the least of `size` numbers, or size where none has a key below top
abbrev pub Foremost : (ℕ → ℕ) → ℕ → ℕ → ℕ → Type 0
Foremost key top size r = (least : ℕ) × Picked key top size size least r

module _ {key : ℕ → ℕ} {top size r : ℕ} where
  pub foremost_none : r ≡ size → ((j : ℕ) → j < size → top ≤ key j) → Foremost key top size r
  foremost_none e all = (top, no_pick e refl all)

  pub foremost_some : key r < top → FirstLeast key size r → Foremost key top size r
  foremost_some low h = (key r, picked refl low h)

  pub foremost_within : Foremost key top size r → r ≤ size
  foremost_within (least, no_pick e q all) = omega arith
  foremost_within (least, picked q low h) = omega (arith, h.low)

  pub none_foremost : Foremost key top size r → size ≤ r → (j : ℕ) → j < size → top ≤ key j
  none_foremost (least, no_pick e q all) past = all
  none_foremost (least, picked q low h) past = absurd (omega (arith, h.low))

  pub foremost_is : Foremost key top size r → r < size → (key r < top) × FirstLeast key size r
  foremost_is (least, no_pick e q all) l = absurd (omega arith)
  foremost_is (least, picked q low h) l = (low, h)
