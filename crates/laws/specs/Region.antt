-- A region of a list: n elements from place a on. `region` takes it out, and `within` puts a function to work on it alone.
-- `within` has the shape that the borrow checker gives a list whose part `&mut s[a..a + n]` came back from a call (`put_mid`).
use Rattle.std.specs.Prelude.{◌≡◌, refl, ℕ, ◌+◌, ◌-◌, ◌≤◌, ◌<◌, length, get_or, set}
use Rattle.std.proofs.Math.Path.{sym, ap}
use Rattle.std.proofs.Common.{◌∙◌, add-zero, add_assoc, not-suc-le-zero, le_of_suc-le-suc, length-append, take-append-drop, drop_of_length-le, drop-drop, get_or-take, get_or-drop, length-take-le, take_all, ext_get_or}
use mathlib.Core.List.{List, [], ◌∷◌, ◌++◌, append-nil}
use Rattle.std.proofs.Math.Nat.{add-sub_cancel_left}
use native.Mathlib.Omega.{arith}
use Rattle.std.proofs.Math.ListN.{take, drop, length-take, length-drop}
use Rattle.std.proofs.Math.Seq.{take_at, drop_at, take-append-le}
use Rattle.std.proofs.lemmas.List.{drop-append-le}
use borrow.Rule.Slice.PartMut.{set_mid_at, put_mid}

unfoldable pub region : ℕ → ℕ → List ℕ → List ℕ
region a n xs = take n (drop a xs)

unfoldable pub within : ℕ → ℕ → (List ℕ → List ℕ) → List ℕ → List ℕ
within a n f xs = take a xs ++ (f (region a n xs) ++ drop n (drop a xs))

-- a list put in place of what stands from place a on
unfoldable pub placed : ℕ → List ℕ → List ℕ → List ℕ
placed a ys xs = within a (length ys) (λ old. ys) xs

pub length_region : (a n : ℕ) (xs : List ℕ) → a + n ≤ length xs → length (region a n xs) ≡ n
unfolding region
length_region a n xs h = simp (length-take, length-drop) (omega arith)

-- what stands at i of a region
pub get_or_region : (a n : ℕ) (xs : List ℕ) (i : ℕ) → i < n → get_or (region a n xs) i 0 ≡ get_or xs (a + i) 0
unfolding region
get_or_region a n xs i h = get_or-take n (drop a xs) i 0 h ∙ get_or-drop a xs i 0

-- a region of a region
pub region_region : (a n b k : ℕ) (xs : List ℕ) → b + k ≤ n → a + n ≤ length xs → region b k (region a n xs) ≡ region (a + b) k xs
region_region a n b k xs l fits =
    let part : b + k ≤ length (region a n xs) = rw (length_region a n xs fits) l in
    let long : length (region b k (region a n xs)) ≡ k = length_region b k (region a n xs) part in
    ext_get_or 0 (region b k (region a n xs)) (region (a + b) k xs) (long ∙ sym (length_region (a + b) k xs (omega arith)))
    (λ i h.
    let low : i < k = rw (← long) h in
    get_or_region b k (region a n xs) i low ∙ get_or_region a n xs (b + i) (omega arith) ∙ ap (λ (j : ℕ). get_or xs j 0) (sym (add_assoc a b i)) ∙ sym (get_or_region (a + b) k xs i low))

-- one element is a region
alone : (p : ℕ) (xs : List ℕ) → get_or xs p 0 ≡ get_or (region p 1 xs) 0 0
alone p xs = sym (get_or_region p 1 xs 0 (omega arith) ∙ ap (λ (k : ℕ). get_or xs k 0) (add-zero p))

module _ (a n : ℕ) (f : List ℕ → List ℕ) (xs : List ℕ) (fits : a + n ≤ length xs) (kept : length (f (region a n xs)) ≡ n) where
  pub length_within : length (within a n f xs) ≡ length xs
  unfolding within
  length_within = simp (length-append, length-take, length-drop, kept) (omega arith)

  rest_within : drop a (within a n f xs) ≡ f (region a n xs) ++ drop n (drop a xs)
  unfolding within
  rest_within = drop_at (take a xs) (f (region a n xs) ++ drop n (drop a xs)) a (length-take-le a xs (omega arith))

  -- the region afterwards
  pub region_within : region a n (within a n f xs) ≡ f (region a n xs)
  unfolding region
  region_within = ap (take n) rest_within ∙ take_at (f (region a n xs)) (drop n (drop a xs)) n kept

  after_within : drop n (drop a (within a n f xs)) ≡ drop n (drop a xs)
  after_within = ap (drop n) rest_within ∙ drop_at (f (region a n xs)) (drop n (drop a xs)) n kept

  -- a region that ends before it, and one that begins after it
  region_below : (b m : ℕ) → b + m ≤ a → region b m (within a n f xs) ≡ region b m xs
  unfolding region within
  region_below b m h =
      cut (f (region a n xs) ++ drop n (drop a xs)) ∙ sym (cut (drop a xs)) ∙ ap (λ (l : List ℕ). take m (drop b l)) (take-append-drop a xs)
    where
      cut : (ys : List ℕ) → take m (drop b (take a xs ++ ys)) ≡ take m (drop b (take a xs))
      cut ys =
          ap (take m) (drop-append-le b (take a xs) ys (simp length-take (omega arith)))
          ∙ take-append-le m (drop b (take a xs)) ys (simp (length-drop, length-take) (omega arith))

  region_above : (b m : ℕ) → a + n ≤ b → region b m (within a n f xs) ≡ region b m xs
  unfolding region
  region_above b m h = ap (take m) (past (within a n f xs) ∙ ap (drop (b - (a + n))) after_within ∙ sym (past xs))
    where
      past : (l : List ℕ) → drop b l ≡ drop (b - (a + n)) (drop n (drop a l))
      past l =
          let e : b ≡ a + n + (b - (a + n)) = omega arith in
          ap (λ (k : ℕ). drop k l) e ∙ sym (drop-drop (b - (a + n)) (a + n) l) ∙ ap (drop (b - (a + n))) (sym (drop-drop n a l))

  -- what stands before it, in it and after it
  pub get_or_below : (p : ℕ) → p < a → get_or (within a n f xs) p 0 ≡ get_or xs p 0
  get_or_below p l = alone p (within a n f xs) ∙ ap (λ (ys : List ℕ). get_or ys 0 0) (region_below p 1 (omega arith)) ∙ sym (alone p xs)

  pub get_or_inside : (j : ℕ) → j < n → get_or (within a n f xs) (a + j) 0 ≡ get_or (f (region a n xs)) j 0
  get_or_inside j l = sym (get_or_region a n (within a n f xs) j l) ∙ ap (λ (ys : List ℕ). get_or ys j 0) region_within

  pub get_or_above : (p : ℕ) → a + n ≤ p → get_or (within a n f xs) p 0 ≡ get_or xs p 0
  get_or_above p l = alone p (within a n f xs) ∙ ap (λ (ys : List ℕ). get_or ys 0 0) (region_above p 1 l) ∙ sym (alone p xs)

-- nothing on a region
pub within_same : (a n : ℕ) (xs : List ℕ) → within a n (λ ys. ys) xs ≡ xs
unfolding within region
within_same a n xs = ap (λ (l : List ℕ). take a xs ++ l) (take-append-drop n (drop a xs)) ∙ take-append-drop a xs

-- In the shape of a function's return: a part came back from a call as ys.
pub within_came : (a n k : ℕ) (f : List ℕ → List ℕ) (xs ys : List ℕ) → k ≡ n → ys ≡ f (take k (drop a xs)) → take a xs ++ (ys ++ drop k (drop a xs)) ≡ within a n f xs
unfolding within region
within_came a n k f xs ys e h = rw (h, e)

-- A write at j of a region, from outside.
pub set_within : (a n j : ℕ) (xs : List ℕ) (v : ℕ) → j < n → a + n ≤ length xs → set xs (a + j) v ≡ within a n (λ ys. set ys j v) xs
unfolding within region
set_within a n j xs v h fits = sym (set_mid_at a n j xs v (simp (length-take, length-drop) (omega arith)))

-- A list that is written out as what lies before a region, the region and what lies after it.
pub region_at : (a n : ℕ) (p q r : List ℕ) → length p ≡ a → length q ≡ n → region a n (p ++ (q ++ r)) ≡ q
unfolding region
region_at a n p q r ep eq = simp (drop_at p (q ++ r) a ep, take_at q r n eq)

-- A copy from the front is whole.
copy_end : (k : ℕ) (s d : List ℕ) → length s ≤ k → length d ≡ length s → take k s ++ drop k d ≡ s
copy_end k s d h e = rw (take_all k s h, drop_of_length-le d {i = k} (omega arith)) (append-nil s)

-- what a copy leaves in a list as long, and in a part of a list that came back from it
pub copied : {ys : List ℕ} (from to : List ℕ) → length to ≡ length from → ys ≡ take (length from) from ++ drop (length from) to → ys ≡ from
copied from to e h = h ∙ copy_end (length from) from to (omega arith) e

-- a list as long as the part, put in its place
pub part_given : (a : ℕ) (xs list : List ℕ) {ys : List ℕ} → ys ≡ list → put_mid a (a + length list - a) xs ys ≡ placed a list xs
unfolding placed
part_given a xs list {ys} same = within_came a (length list) (a + length list - a) (λ old. list) xs ys (add-sub_cancel_left a (length list)) same

pub part_put : (a : ℕ) (xs list : List ℕ) {ys : List ℕ} → a + length list ≤ length xs
    → ys ≡ take (length list) list ++ drop (length list) (take (a + length list - a) (drop a xs)) → put_mid a (a + length list - a) xs ys ≡ placed a list xs
part_put a xs list fits h =
    let cut : List ℕ = take (a + length list - a) (drop a xs) in
    let same : length cut ≡ length list = simp (length-take, length-drop) (omega arith) in
    part_given a xs list (copied list cut same h)

-- four elements set at the front
pub header_set : (c r k : ℕ) (xs : List ℕ) → 4 ≤ length xs → set (set (set (set xs 0 c) 1 r) 2 k) 3 0 ≡ (c ∷ r ∷ k ∷ 0 ∷ []) ++ drop 4 xs
header_set c r k [] h = absurd (not-suc-le-zero h)
header_set c r k (a ∷ []) h = absurd (not-suc-le-zero (le_of_suc-le-suc h))
header_set c r k (a ∷ b ∷ []) h = absurd (not-suc-le-zero (le_of_suc-le-suc (le_of_suc-le-suc h)))
header_set c r k (a ∷ b ∷ e ∷ []) h = absurd (not-suc-le-zero (le_of_suc-le-suc (le_of_suc-le-suc (le_of_suc-le-suc h))))
header_set c r k (a ∷ b ∷ e ∷ g ∷ xs) h = refl
