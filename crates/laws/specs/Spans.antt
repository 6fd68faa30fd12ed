-- The lists that a rule gives for the numbers from a on, one after another, and pairs of passing numbers as such a row.
use Prim.Native.Nat.{ℕ, zero, suc, ◌+◌, ◌*◌, ◌/◌, ◌%◌, ◌<◌}
use Rattle.std.proofs.Common.{add-zero, zero-add, add-suc, suc-add, zero-mul, suc-mul, mod-eq_of_lt, sym, ◌∙◌}
use Rattle.std.proofs.Math.Nat.{mul-add-div_right, mul-add-mod_self_right, div-eq_of_lt}
use native.Mathlib.Omega.{arith}
use Rattle.std.specs.Prelude.{◌≡◌, Bool, true, false}
use Rattle.std.proofs.Math.Path.{refl, ap}
use mathlib.Core.List.{List, [], ◌∷◌, ◌++◌, map, flat_map, append_assoc, append-nil}
use Rattle.laws.specs.Fold.{pick}
use Rattle.laws.specs.Search.{passing}
use Rattle.laws.specs.Members.{pairs}

-- n lists from g a on
unfoldable pub spans : {A : Type 0} → (ℕ → List A) → ℕ → ℕ → List A
spans g zero a = []
spans g (suc n) a = g a ++ spans g n (suc a)

-- two rules that give the same lists, each from its own number on
spans_same : {A : Type 0} (f g : ℕ → List A) (n a b : ℕ) → ((k : ℕ) → k < n → f (a + k) ≡ g (b + k)) → spans f n a ≡ spans g n b
unfolding spans
spans_same f g zero a b same = refl
spans_same {A} f g (suc n) a b same =
    let here : f a ≡ g b = rw (add-zero a, add-zero b) at (same 0 (omega arith)) in
    let rest : (k : ℕ) → k < n → f (suc a + k) ≡ g (suc b + k) = λ k l. rw (add-suc a k, add-suc b k, ← suc-add a k, ← suc-add b k) at (same (suc k) (omega arith)) in
    rw here (ap (λ (t : List A). g b ++ t) (spans_same f g n (suc a) (suc b) rest))

pub spans_join : {A : Type 0} (g : ℕ → List A) (n m a : ℕ) → spans g (n + m) a ≡ spans g n a ++ spans g m (a + n)
unfolding spans
spans_join g zero m a = rw (zero-add m, add-zero a)
spans_join {A} g (suc n) m a =
    rw (suc-add n m)
    (ap (λ (t : List A). g a ++ t) (spans_join g n m (suc a)) ∙ sym (append_assoc (g a) (spans g n (suc a)) (spans g m (suc a + n)))
    ∙ ap (λ (k : ℕ). (g a ++ spans g n (suc a)) ++ spans g m k) (suc-add a n ∙ sym (add-suc a n)))

spans_empty : {A : Type 0} (g : ℕ → List A) (n a : ℕ) → ((k : ℕ) → g k ≡ []) → spans g n a ≡ []
unfolding spans
spans_empty g zero a none = refl
spans_empty g (suc n) a none = rw (none a) (spans_empty g n (suc a) none)

-- ---- passing numbers
passing_lists : {A : Type 0} (f : ℕ → List A) (p : ℕ → Bool) (n a : ℕ) → flat_map f (passing p n a) ≡ spans (λ v. pick (p v) (f v) []) n a
unfolding flat_map passing spans
passing_lists f p zero a = refl
passing_lists {A} f p (suc n) a = go (p a) ∙ ap (λ (t : List A). pick (p a) (f a) [] ++ t) (passing_lists f p n (suc a))
  where
    go : (t : Bool) → flat_map f (pick t (a ∷ passing p n (suc a)) (passing p n (suc a))) ≡ pick t (f a) [] ++ flat_map f (passing p n (suc a))
    go true = refl
    go false = refl

lists_map : {A B C : Type 0} (f : B → List C) (g : A → B) (xs : List A) → flat_map f (map g xs) ≡ flat_map (λ x. f (g x)) xs
unfolding flat_map
lists_map f g [] = refl
lists_map {C = C} f g (x ∷ xs) = ap (λ (t : List C). f (g x) ++ t) (lists_map f g xs)

lists_same : {A B : Type 0} (f g : A → List B) (xs : List A) → ((x : A) → f x ≡ g x) → flat_map f xs ≡ flat_map g xs
unfolding flat_map
lists_same f g [] same = refl
lists_same {B = B} f g (x ∷ xs) same = rw (same x) (ap (λ (t : List B). g x ++ t) (lists_same f g xs same))

-- what the pair of a + k / w and b + k % w gives, if both pass
abbrev pub cell : {A B : Type 0} → (ℕ → B → List A) → (ℕ → B) → (ℕ → Bool) → (ℕ → Bool) → ℕ → ℕ → ℕ → ℕ → List A
cell f g p q w a b k = pick (p (a + k / w)) (pick (q (b + k % w)) (f (a + k / w) (g (b + k % w))) []) []

module _ {A B : Type 0} (f : ℕ → B → List A) (g : ℕ → B) (p q : ℕ → Bool) (w : ℕ) (b : ℕ) where
  -- row by row, w numbers in each
  abbrev inner : ℕ → List A
  inner v = spans (λ x. pick (q x) (f v (g x)) []) w b

  row_is : (n a : ℕ) → spans (cell f g p q w a b) w (n * w) ≡ pick (p (a + n)) (inner (a + n)) []
  row_is n a =
      spans_same (cell f g p q w a b) (λ x. pick (p (a + n)) (pick (q x) (f (a + n) (g x)) []) []) w (n * w) b
      (λ k l. at k (mul-add-div_right (omega arith) n k ∙ rw (div-eq_of_lt l) (add-zero n)) (mul-add-mod_self_right n w k ∙ mod-eq_of_lt l)) ∙ go (p (a + n))
    where
      at : (k : ℕ) {i j : ℕ} → i ≡ n → j ≡ k → pick (p (a + i)) (pick (q (b + j)) (f (a + i) (g (b + j))) []) [] ≡ pick (p (a + n)) (pick (q (b + k)) (f (a + n) (g (b + k))) []) []
      at k e h = rw (e, h)

      go : (t : Bool) → spans (λ x. pick t (pick (q x) (f (a + n) (g x)) []) []) w b ≡ pick t (inner (a + n)) []
      go true = refl
      go false = spans_empty (λ x. []) w b (λ k. refl)

  rows : (n a : ℕ) → spans (λ v. pick (p v) (inner v) []) n a ≡ spans (cell f g p q w a b) (n * w) 0
  unfolding spans
  rows zero a = rw (zero-mul w) refl
  rows (suc n) a =
      let one : suc n ≡ n + 1 = omega arith in
      let first : ℕ → List A = λ v. pick (p v) (inner v) [] in
      ap (λ (k : ℕ). spans first k a) one ∙ spans_join first n 1 a ∙ ap (λ (t : List A). spans first n a ++ t) (append-nil (first (a + n)))
      ∙ rw (rows n a, ← row_is n a)
      (sym (ap (λ (k : ℕ). spans (cell f g p q w a b) k 0) (suc-mul n w) ∙ spans_join (cell f g p q w a b) (n * w) w 0
      ∙ ap (λ (k : ℕ). spans (cell f g p q w a b) (n * w) 0 ++ spans (cell f g p q w a b) w k) (zero-add (n * w))))

  pub pairs_in_row : (n a : ℕ) → pairs f (passing p n a) (map g (passing q w b)) ≡ spans (cell f g p q w a b) (n * w) 0
  unfolding pairs
  pairs_in_row n a =
      lists_same (λ x. flat_map (f x) (map g (passing q w b))) inner (passing p n a) (λ x. lists_map (f x) g (passing q w b) ∙ passing_lists (λ y. f x (g y)) q w b)
      ∙ passing_lists inner p n a ∙ rows n a
