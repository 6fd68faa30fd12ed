-- The rungs of the plan's ladder, for `search (ladder, rungs)`: whole numbers that are known up to 16, and the answer by its number.
use mathlib.Core.Path.{◌≡◌, refl, sym, ap₂, ◌∙◌}
use mathlib.Core.Bool.{Bool, true, false, ◌||◌}
use Prim.Native.Nat.{ℕ, ◌≤◌, ◌<◌, min}
use native.Mathlib.Omega.{arith}
use lib.Dec.{leb, ltb, eqb, lit<}
use borrow.Author.Tests.{ltb-true, ltb-false, lt-ltb, le-ltb, le-leb, lt-leb, eq-eqb, ne_eqb}
use Rattle.laws.specs.Search.{neither}
use Rattle.model.specs.Calls.{measures_of}
use Rattle.model.specs.Answers.{refused_as, given_as}
use Rattle.model.specs.Refusals.{handed_on, later}

-- ---- a number k by s, which is k up to 16
ten : (k s : ℕ) → s ≡ min k 16 → ltb 10 k ≡ ltb 10 s
ten k s e = go (ltb 10 s) refl
  where
    go : (b : Bool) → ltb 10 s ≡ b → ltb 10 k ≡ ltb 10 s
    go true h = lt-ltb 10 k (omega (arith, ltb-true 10 s h)) ∙ sym h
    go false h = le-ltb 10 k (omega (arith, ltb-false 10 s h)) ∙ sym h

pub reaches : (k s : ℕ) → s ≡ min k 16 → 10 ≤ s → leb 10 k ≡ true
reaches k s e h = le-leb 10 k (omega arith)

pub misses : (k s : ℕ) → s ≡ min k 16 → s < 10 → leb 10 k ≡ false
misses k s e h = lt-leb 10 k (omega arith)

pub none : (k s : ℕ) → s ≡ min k 16 → s ≡ 0 → eqb k 0 ≡ true
none k s e h = eq-eqb k 0 (omega arith)

pub some : (k s : ℕ) → s ≡ min k 16 → (s ≡ 0 → ⊥) → eqb k 0 ≡ false
some k s e h = ne_eqb k 0 (λ z. h (omega arith))

pub above : (t : Bool) (k l r s : ℕ) → r ≡ min k 16 → s ≡ min l 16 → ltb 10 r || ltb 10 s ≡ t → ltb 10 k || ltb 10 l ≡ t
above t k l r s e h f = ap₂ (λ (a b : Bool). a || b) (ten k r e) (ten l s h) ∙ f

-- ---- the measures that are given
pub whole : (a b c k l m : ℕ) → a ≡ min k 16 → b ≡ min l 16 → c ≡ min m 16 → ltb 10 a || ltb 10 b ≡ false → c < 10
    → measures_of a b c ≡ measures_of k l m
whole a b c k l m ea eb ec o s =
    let ka : a ≡ k = omega (arith, ltb-false 10 a (neither (ltb 10 a) (ltb 10 b) o).0) in
    let kb : b ≡ l = omega (arith, ltb-false 10 b (neither (ltb 10 a) (ltb 10 b) o).1) in
    let kc : c ≡ m = omega arith in
    rw (ka, kb, kc) refl

pub ruleset rungs = (reaches, misses, none, some, above, handed_on, later, refused_as, given_as, whole, lit<)
