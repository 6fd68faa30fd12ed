-- Members of a list and their places in it, and the list of what the pairs of two lists give.
use Rattle.std.specs.Prelude.{◌≡◌, ◌⊎◌, ℕ, zero, suc, ◌<◌, length, get_or}
use Rattle.std.proofs.Math.Path.{refl}
use Rattle.std.proofs.Common.{sym, ap, subst, inl, inr, not-suc-le-zero, le_of_suc-le-suc, arith}
use Rattle.std.proofs.Math.Option.{some}
use mathlib.Core.List.Memᴰ
use mathlib.Core.List.{List, [], ◌∷◌, ◌++◌, map, flat_map, Memᴰ}
use Rattle.std.proofs.Math.ListN.{get_elem?}

-- x stands in a list
abbrev pub In : {A : Type 0} → A → List A → Type 0
In x xs = Memᴰ x xs

-- ---- by place
module _ {A : Type 0} {z : A} where
  pub place_in : (xs : List A) (p : ℕ) → get_elem? xs p ≡ some z → In z xs
  place_in [] p e = let q : ◌≡◌ {A = ℕ} 0 1 = cc in absurd (omega arith)
  place_in (x ∷ xs) zero e = let q : z ≡ x = cc in Memᴰ.head q
  place_in (x ∷ xs) (suc p) e = Memᴰ.tail (place_in xs p e)

  pub in_place : {xs : List A} → In z xs → (p : ℕ) × (p < length xs) × (get_elem? xs p ≡ some z)
  in_place (Memᴰ.head e) = (0, omega arith, ap some (sym e))
  in_place (Memᴰ.tail i) = let h = in_place i in (suc h.0, omega (arith, h.1), h.2)

  -- what f gives for it
  pub place_map : (f : A → ℕ) (xs : List A) (p : ℕ) → get_elem? xs p ≡ some z → get_or (map f xs) p 0 ≡ f z
  place_map f [] p e = let q : ◌≡◌ {A = ℕ} 0 1 = cc in absurd (omega arith)
  place_map f (x ∷ xs) zero e = let q : x ≡ z = cc in ap f q
  place_map f (x ∷ xs) (suc p) e = place_map f xs p e

  -- before others, and behind them
  pub place_before : (xs ys : List A) (p : ℕ) → get_elem? xs p ≡ some z → get_elem? (xs ++ ys) p ≡ some z
  place_before [] ys p e = let q : ◌≡◌ {A = ℕ} 0 1 = cc in absurd (omega arith)
  place_before (x ∷ xs) ys zero e = e
  place_before (x ∷ xs) ys (suc p) e = place_before xs ys p e

-- what stands at a place inside a list
pub at_in : (xs : List ℕ) (p : ℕ) → p < length xs → In (get_or xs p 0) xs
at_in [] p l = absurd (not-suc-le-zero l)
at_in (x ∷ xs) zero l = Memᴰ.head refl
at_in (x ∷ xs) (suc p) l = Memᴰ.tail (at_in xs p (le_of_suc-le-suc l))

pub place_last : {A : Type 0} (xs : List A) (z : A) → get_elem? (xs ++ z ∷ []) (length xs) ≡ some z
place_last [] z = refl
place_last (x ∷ xs) z = place_last xs z

-- ---- pairs
-- what f gives for the pairs of two lists, start by start
unfoldable pub pairs : {A B C : Type 0} → (A → B → List C) → List A → List B → List C
pairs f xs ys = flat_map (λ x. flat_map (f x) ys) xs

module _ {A B : Type 0} (f : A → List B) where
  lists_have : {x : A} {xs : List A} {y : B} → In x xs → In y (f x) → In y (flat_map f xs)
  unfolding flat_map
  lists_have {y = y} (Memᴰ.head {xs = xs} e) j = Memᴰ.append_left (flat_map f xs) (subst (λ (x : A). In y (f x)) e j)
  lists_have (Memᴰ.tail {x = z} i) j = Memᴰ.append_right (f z) (lists_have i j)

  lists_are : (xs : List A) {y : B} → In y (flat_map f xs) → (x : A) × In x xs × In y (f x)
  unfolding flat_map
  lists_are [] {y = y} i = elim i [ ]
  lists_are (x ∷ xs) {y} i = go (Memᴰ.append_cases (f x) i) (λ j. lists_are xs j)
    where
      go : In y (f x) ⊎ In y (flat_map f xs) → (In y (flat_map f xs) → (z : A) × In z xs × In y (f z)) → (z : A) × In z (x ∷ xs) × In y (f z)
      go (inl j) rest = (x, Memᴰ.head refl, j)
      go (inr j) rest = let h = rest j in (h.0, Memᴰ.tail h.1, h.2)

module _ {A B C : Type 0} (f : A → B → List C) where
  pub pairs_has : {x : A} {y : B} {xs : List A} {ys : List B} {z : C} → In x xs → In y ys → In z (f x y) → In z (pairs f xs ys)
  unfolding pairs
  pairs_has {x} {ys = ys} i j k = lists_have (λ a. flat_map (f a) ys) i (lists_have (f x) j k)

  pub pairs_is : (xs : List A) (ys : List B) {z : C} → In z (pairs f xs ys) → (x : A) × (y : B) × In x xs × In y ys × In z (f x y)
  unfolding pairs
  pairs_is xs ys i =
      let a = lists_are (λ x. flat_map (f x) ys) xs i in
      let b = lists_are (f a.0) ys a.2 in
      (a.0, b.0, a.1, b.1, b.2)
