-- The member of a list with the least key, the earlier of equals: the first of the least by place; and the winner of a row of places each of which holds one member or none.
use Rattle.std.specs.Prelude.{◌≡◌, ◌↔◌, Bool, get_or}
use Rattle.std.proofs.Math.Path.{refl, ap}
use Rattle.std.proofs.Common.{sym, subst, ◌∙◌, zero-add, arith, length-append, below_more}
use Rattle.std.proofs.Math.Bool.{true, false}
use Rattle.std.proofs.Math.Option.{Option, none, some}
use mathlib.Core.List.Memᴰ
use mathlib.Core.List.{List, [], ◌∷◌, ◌++◌, map, map-append, append-nil, append_assoc}
use Prim.Native.Nat.{ℕ, zero, suc, ◌+◌, ◌≤◌, ◌<◌}
use Rattle.std.proofs.Math.Numerals.{add-one}
use Rattle.std.proofs.Math.Dec.{ltb}
use Rattle.std.proofs.Math.ListN.{length, get_elem?, get_or-append}
use Rattle.std.proofs.lemmas.List.{length-map}
use borrow.Author.Tests.{ltb-true, ltb-false}
use Rattle.laws.specs.Fold.{pick}
use Rattle.laws.specs.Members.{In, place_in, in_place, place_map, place_before, place_last}
use Rattle.laws.specs.FirstLeast.{FirstLeast, first_take, first_skip, first_unique, first_same, Foremost, none_foremost, foremost_is}
use Rattle.laws.specs.Spans.{spans, spans_join}

-- a later one wins only if its key is less
unfoldable pub beat : {A : Type 0} → (A → ℕ) → Option A → A → Option A
beat w none x = some x
beat w (some y) x = pick (ltb (w x) (w y)) (some x) (some y)

unfoldable pub winner : {A : Type 0} → (A → ℕ) → Option A → List A → Option A
winner w b [] = b
winner w b (x ∷ xs) = winner w (beat w b x) xs

module _ {A : Type 0} (w : A → ℕ) where
  -- the key of each place
  abbrev pub key_at : List A → ℕ → ℕ
  key_at xs j = get_or (map w xs) j 0

  -- z stands where the first of the least keys is
  pub record Leads (z : A) (xs : List A) : Type 0 where
    pub place : ℕ
    pub there : get_elem? xs place ≡ some z
    pub first : FirstLeast (key_at xs) (length xs) place

  -- the winner leads, or there is none
  data Won (xs : List A) : Option A → Type 0 where
    nobody : xs ≡ [] → Won xs none
    leads : {z : A} → Leads z xs → Won xs (some z)

  module _ (xs : List A) (x : A) where
    longer : length (xs ++ x ∷ []) ≡ length xs + 1
    longer = length-append xs (x ∷ [])

    old_key : (j : ℕ) → j < length xs → key_at xs j ≡ key_at (xs ++ x ∷ []) j
    old_key j l = rw (map-append w xs (x ∷ [])) (sym (get_or-append (map w xs) (w x ∷ []) 0 j (rw (length-map xs w) l)))

    new_key : key_at (xs ++ x ∷ []) (length xs) ≡ w x
    new_key = place_map w (xs ++ x ∷ []) (length xs) (place_last xs x)

    takes : ((j : ℕ) → j < length xs → w x < key_at xs j) → Leads x (xs ++ x ∷ [])
    takes less = record { place = length xs; there = place_last xs x; first = rw longer (first_take (λ j l. omega (arith, new_key, old_key j l, less j l))) }

    stays : {z : A} → Leads z xs → w z ≤ w x → Leads z (xs ++ x ∷ [])
    stays {z} h l = record {
      place = h.place;
      there = place_before xs (x ∷ []) h.place h.there;
      first = rw longer (first_skip (first_same (key_at (xs ++ x ∷ [])) h.first old_key) (omega (arith, new_key, old_key h.place h.first.low, place_map w xs h.place h.there)));
    }

    won_more : {b : Option A} → Won xs b → Won (xs ++ x ∷ []) (beat w b x)
    unfolding beat
    won_more (nobody e) = leads (takes (λ j l. absurd (omega (arith, ap length e))))
    won_more (leads {z = z} h) = go (ltb (w x) (w z)) refl
      where
        go : (t : Bool) → ltb (w x) (w z) ≡ t → Won (xs ++ x ∷ []) (pick t (some x) (some z))
        go true e = leads (takes (λ j l. omega (arith, ltb-true (w x) (w z) e, place_map w xs h.place h.there, h.first.least j l)))
        go false e = leads (stays h (ltb-false (w x) (w z) e))

  won_all : (xs : List A) {b : Option A} → Won xs b → (ys : List A) → Won (xs ++ ys) (winner w b ys)
  unfolding winner
  won_all xs h [] = rw (append-nil xs) h
  won_all xs h (y ∷ ys) = rw (← append_assoc xs (y ∷ []) ys) (won_all (xs ++ y ∷ []) (won_more xs y h) ys)

  won : (xs : List A) → Won xs (winner w none xs)
  won xs = won_all [] (nobody refl) xs

  module _ {xs : List A} where
    pub winner_leads : {z : A} → winner w none xs ≡ some z → Leads z xs
    winner_leads {z} e = go (subst (Won xs) e (won xs))
      where
        go : Won xs (some z) → Leads z xs
        go (leads h) = h

    pub winner_in : {z : A} → winner w none xs ≡ some z → In z xs
    winner_in e = let h = winner_leads e in place_in xs h.place h.there

    pub winner_least : {x z : A} → winner w none xs ≡ some z → In x xs → w z ≤ w x
    winner_least e i =
        let h = winner_leads e in
        let p = in_place i in
        omega (arith, h.first.least p.0 p.1, place_map w xs h.place h.there, place_map w xs p.0 p.2)

    -- there is a winner where there is a member
    pub winner_some : {x : A} → In x xs → (z : A) × (winner w none xs ≡ some z)
    winner_some {x} i = go (winner w none xs) refl (won xs)
      where
        go : (b : Option A) → winner w none xs ≡ b → Won xs b → (z : A) × (winner w none xs ≡ some z)
        go none q (nobody e) = absurd (Memᴰ.not-nil (rw e at i))
        go (some z) q h = (z, q)

    pub winner_none : (winner w none xs ≡ none) ↔ (xs ≡ [])
    unfolding winner
    winner_none = (λ e. go (subst (Won xs) e (won xs)), λ e. rw e refl)
      where
        go : Won xs none → xs ≡ []
        go (nobody e) = e

  winner_append : (b : Option A) (xs ys : List A) → winner w b (xs ++ ys) ≡ winner w (winner w b xs) ys
  unfolding winner
  winner_append b [] ys = refl
  winner_append b (x ∷ xs) ys = winner_append (beat w b x) xs ys

  -- ---- a row
  -- what a place holds: one member, whose key is the place's, or none, and then its key is not below top
  pub data Holds (top key : ℕ) (xs : List A) : Type 0 where
    empty : xs ≡ [] → top ≤ key → Holds top key xs
    holds : (z : A) → xs ≡ z ∷ [] → key ≡ w z → key < top → Holds top key xs

  module _ (g : ℕ → List A) (key : ℕ → ℕ) (top : ℕ) where
    -- the winner after n places
    data Ahead (n : ℕ) : Option A → Type 0 where
      no_one : ((j : ℕ) → j < n → top ≤ key j) → Ahead n none
      ahead : {r : ℕ} {z : A} → FirstLeast key n r → key r < top → g r ≡ z ∷ [] → key r ≡ w z → Ahead n (some z)

    ahead_more : (n : ℕ) {b : Option A} → Holds top (key n) (g n) → Ahead n b → Ahead (n + 1) (winner w b (g n))
    unfolding winner beat
    ahead_more n (empty e l) (no_one all) = rw e (no_one (below_more (λ (j : ℕ). top ≤ key j) n all l))
    ahead_more n (empty e l) (ahead f t s k) = rw e (ahead (first_skip f (omega arith)) t s k)
    ahead_more n (holds z e q l) (no_one all) = rw e (ahead (first_take (λ j i. omega (arith, all j i))) l e q)
    ahead_more n (holds z e q l) (ahead {z = y} f t s k) = rw e (go (ltb (w z) (w y)) refl)
      where
        go : (b : Bool) → ltb (w z) (w y) ≡ b → Ahead (n + 1) (pick b (some z) (some y))
        go true u = ahead (first_take (λ j i. omega (arith, ltb-true (w z) (w y) u, f.least j i))) l e q
        go false u = ahead (first_skip f (omega (arith, ltb-false (w z) (w y) u))) t s k

    row : (n : ℕ) → ((k : ℕ) → k < n → Holds top (key k) (g k)) → Ahead n (winner w none (spans g n 0))
    unfolding winner spans
    row zero all = no_one (λ j l. absurd (omega arith))
    row (suc n) all =
        let last : spans g (suc n) 0 ≡ spans g n 0 ++ g n = ap (λ (k : ℕ). spans g k 0) (sym (add-one n)) ∙ spans_join g n 1 0 ∙ rw (zero-add n, append-nil (g n)) in
        rw (last, winner_append none (spans g n 0) (g n), ← add-one n) (ahead_more n (all n (omega arith)) (row n (λ k l. all k (omega arith))))

    -- THE WINNER OF A ROW: none, or the member at the first of the least keys
    module _ (n : ℕ) (all : (k : ℕ) → k < n → Holds top (key k) (g k)) {r : ℕ} (f : Foremost key top n r) where
      pub row_none : n ≤ r → winner w none (spans g n 0) ≡ none
      row_none past = go (winner w none (spans g n 0)) refl (row n all)
        where
          go : (b : Option A) → winner w none (spans g n 0) ≡ b → Ahead n b → b ≡ none
          go none q h = refl
          go (some z) q (ahead {r = s} h t i k) = absurd (omega (arith, none_foremost f past s h.low))

      pub row_some : r < n → {z : A} → g r ≡ z ∷ [] → winner w none (spans g n 0) ≡ some z
      row_some l {z} e = go (winner w none (spans g n 0)) (row n all)
        where
          go : (b : Option A) → Ahead n b → b ≡ some z
          go none (no_one none_low) = absurd (omega (arith, none_low r l, (foremost_is f l).0))
          go (some y) (ahead {r = s} h t i k) = let same : s ≡ r = first_unique h (foremost_is f l).1 in let is : y ∷ [] ≡ z ∷ [] = sym i ∙ ap g same ∙ e in cc
