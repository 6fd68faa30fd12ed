-- Searches and tests over the numbers below a count: the first that passes, whether any does, whether all do, how many do, and the list of those that do.
use Rattle.std.specs.Prelude.{◌≡◌, ◌⊎◌, Bool, ◌&&◌, ◌||◌, List, [], ◌∷◌, ltb, length, get_or}
use Rattle.std.proofs.Math.Path.{refl}
use Rattle.std.proofs.Common.{sym, ap, ◌∙◌, inl, inr, not-suc-le-zero, le_of_suc-le-suc, le_antisymm, add-zero, zero-add, add-suc, suc-add, add-one, below_more, lt-ltb, le-ltb, ltb-true, ltb-false}
use Rattle.std.proofs.Math.Bool.{true, false}
use Rattle.std.proofs.lemmas.Bool.{false≢true}
use mathlib.Core.List.Memᴰ
use Prim.Native.Nat.{ℕ, zero, suc, ◌+◌, ◌<◌, ◌≤◌}
use Rattle.std.proofs.Math.Decide.{ℕ_discrete}
use native.Mathlib.Omega.{arith}
use Rattle.laws.specs.Fold.{pick, pick_keeps, bit}
use Rattle.laws.specs.Members.{In}

-- how many of 0, 1, .. come before the first that passes; n if none below n does
unfoldable pub first : (ℕ → Bool) → ℕ → ℕ
first p zero = 0
first p (suc n) = let r = suc (first (λ k. p (suc k)) n) in pick (p 0) 0 r

-- whether one below n passes
unfoldable pub any : (ℕ → Bool) → ℕ → Bool
any p n = ltb (first p n) n

-- whether all below n pass
unfoldable pub all : (ℕ → Bool) → ℕ → Bool
all p zero = true
all p (suc n) = p n && all p n

-- how many below n pass
unfoldable pub count : (ℕ → Bool) → ℕ → ℕ
count p zero = 0
count p (suc n) = count p n + bit (p n)

-- the numbers from a on, n of them, that pass
unfoldable pub passing : (ℕ → Bool) → ℕ → ℕ → List ℕ
passing p zero a = []
passing p (suc n) a = let rest = passing p n (suc a) in pick (p a) (a ∷ rest) rest

unfoldable pub implies : Bool → Bool → Bool
implies true b = b
implies false b = true

-- ---- tests joined
pub both : (a b : Bool) → a && b ≡ true → (a ≡ true) × (b ≡ true)
both true b e = (refl, e)
both false b e = absurd (false≢true e)

pub neither : (a b : Bool) → a || b ≡ false → (a ≡ false) × (b ≡ false)
neither true b e = absurd (false≢true (sym e))
neither false b e = (refl, e)

pub implied : (a b : Bool) → implies a b ≡ true → a ≡ true → b ≡ true
unfolding implies
implied true b e h = e
implied false b e h = absurd (false≢true h)

-- ---- the first
-- a search that stops at k, and one that finds none
first_at : (p : ℕ → Bool) (n k : ℕ) → k < n → ((j : ℕ) → j < k → p j ≡ false) → p k ≡ true → first p n ≡ k
unfolding first
first_at p zero k l before now = absurd (not-suc-le-zero l)
first_at p (suc n) zero l before now = rw now
first_at p (suc n) (suc k) l before now = rw (before 0 (omega arith)) (ap suc (first_at (λ j. p (suc j)) n k (le_of_suc-le-suc l) (λ j m. before (suc j) (omega arith)) now))

first_none : (p : ℕ → Bool) (n : ℕ) → ((j : ℕ) → j < n → p j ≡ false) → first p n ≡ n
unfolding first
first_none p zero before = refl
first_none p (suc n) before = rw (before 0 (omega arith)) (ap suc (first_none (λ j. p (suc j)) n (λ j m. before (suc j) (omega arith))))

-- at most n come before it
pub first_le : (p : ℕ → Bool) (n : ℕ) → first p n ≤ n
unfolding first
first_le p zero = omega arith
first_le p (suc n) = pick_keeps (λ k. k ≤ suc n) (p 0) 0 (suc (first (λ k. p (suc k)) n)) (omega arith) (omega (arith, first_le (λ k. p (suc k)) n))

-- two tests that agree below n stop at the same
pub first_same : (p q : ℕ → Bool) (n : ℕ) → ((k : ℕ) → k < n → p k ≡ q k) → first p n ≡ first q n
unfolding first
first_same p q zero same = refl
first_same p q (suc n) same = rw (same 0 (omega arith), first_same (λ k. p (suc k)) (λ k. q (suc k)) n (λ k l. same (suc k) (omega arith)))

-- below the first that passes, none does
first_before : (p : ℕ → Bool) (n k : ℕ) → k < first p n → p k ≡ false
unfolding first
first_before p zero k l = absurd (not-suc-le-zero l)
first_before p (suc n) k l = go (p 0) refl k l (λ j m. first_before (λ i. p (suc i)) n j m)
  where
    go : (b : Bool) → p 0 ≡ b → (k : ℕ) → k < pick b 0 (suc (first (λ i. p (suc i)) n)) → ((j : ℕ) → j < first (λ i. p (suc i)) n → p (suc j) ≡ false) → p k ≡ false
    go true e k l rest = absurd (not-suc-le-zero l)
    go false e zero l rest = e
    go false e (suc k) l rest = rest k (le_of_suc-le-suc l)

-- the first that passes does pass
first_passes : (p : ℕ → Bool) (n : ℕ) → first p n < n → p (first p n) ≡ true
unfolding first
first_passes p zero l = absurd (not-suc-le-zero l)
first_passes p (suc n) l = go (p 0) refl l (λ m. first_passes (λ i. p (suc i)) n m)
  where
    rest : ℕ
    rest = first (λ i. p (suc i)) n

    go : (b : Bool) → p 0 ≡ b → pick b 0 (suc rest) < suc n → (rest < n → p (suc rest) ≡ true) → p (pick b 0 (suc rest)) ≡ true
    go true e m more = e
    go false e m more = more (le_of_suc-le-suc m)

-- ---- any
any_yes : (p : ℕ → Bool) (n k : ℕ) → k < n → ((j : ℕ) → j < k → p j ≡ false) → p k ≡ true → true ≡ any p n
unfolding any
any_yes p n k l before now = rw (first_at p n k l before now) (sym (lt-ltb k n l))

pub any_no : (p : ℕ → Bool) (n k : ℕ) → n ≤ k → ((j : ℕ) → j < k → p j ≡ false) → false ≡ any p n
unfolding any
any_no p n k l before = rw (first_none p n (λ j m. before j (omega arith))) (sym (le-ltb n n (omega arith)))

pub any_none : (p : ℕ → Bool) (n k : ℕ) → any p n ≡ false → k < n → p k ≡ false
unfolding any
any_none p n k e l = first_before p n k (omega (arith, ltb-false (first p n) n e))

pub any_some : (p : ℕ → Bool) (n : ℕ) → any p n ≡ true → (first p n < n) × (p (first p n) ≡ true)
unfolding any
any_some p n e = let l = ltb-true (first p n) n e in (l, first_passes p n l)

pub any_has : (p : ℕ → Bool) (n k : ℕ) → k < n → p k ≡ true → any p n ≡ true
any_has p n k l now = go (any p n) refl
  where
    go : (b : Bool) → any p n ≡ b → b ≡ true
    go true e = refl
    go false e = absurd (false≢true (sym (any_none p n k e l) ∙ now))

-- ---- all
pub all_at : (p : ℕ → Bool) (n k : ℕ) → all p n ≡ true → k < n → p k ≡ true
unfolding all
all_at p zero k a l = absurd (not-suc-le-zero l)
all_at p (suc n) k a l = go (both (p n) (all p n) a) (ℕ_discrete k n) (λ b h. all_at p n k b h)
  where
    go : (p n ≡ true) × (all p n ≡ true) → Dec (k ≡ n) → (all p n ≡ true → k < n → p k ≡ true) → p k ≡ true
    go h (yes e) more = rw e h.0
    go h (no e) more = more h.1 (omega arith)

-- ---- how many
pub bit_le : (b : Bool) → bit b ≤ 1
unfolding bit
bit_le true = omega arith
bit_le false = omega arith

pub count_le : (p : ℕ → Bool) (n : ℕ) → count p n ≤ n
unfolding count
count_le p zero = omega arith
count_le p (suc n) = omega (arith, count_le p n, bit_le (p n))

-- below a larger number no fewer pass, and more where the smaller one itself does
pub count_up : (p : ℕ → Bool) (m n : ℕ) → m ≤ n → count p m ≤ count p n
unfolding count
count_up p m zero l = let e : m ≡ 0 = omega arith in rw e (omega arith)
count_up p m (suc n) l = go (λ k. count_up p m n k) (ℕ_discrete m (suc n))
  where
    go : (m ≤ n → count p m ≤ count p n) → Dec (m ≡ suc n) → count p m ≤ count p n + bit (p n)
    go rest (yes e) = rw e (omega arith)
    go rest (no e) = omega (arith, rest (omega arith))

-- and as many where none between passes
pub count_still : (p : ℕ → Bool) (m n : ℕ) → m ≤ n → ((v : ℕ) → m ≤ v → v < n → p v ≡ false) → count p n ≡ count p m
unfolding count bit
count_still p m zero l none = let e : m ≡ 0 = omega arith in rw e
count_still p m (suc n) l none = go (λ k. count_still p m n k (λ v h i. none v h (omega arith))) (ℕ_discrete m (suc n))
  where
    go : (m ≤ n → count p n ≡ count p m) → Dec (m ≡ suc n) → count p n + bit (p n) ≡ count p m
    go rest (yes e) = rw e
    go rest (no e) = rw (none n (omega arith) (omega arith), rest (omega arith)) (add-zero (count p m))

pub count_above : (p : ℕ → Bool) (v n : ℕ) → v < n → p v ≡ true → count p v < count p n
unfolding count bit
count_above p v n l e = omega (arith, rw e at (count_up p (suc v) n l))

module _ (p q : ℕ → Bool) (more : (v : ℕ) → p v ≡ true → q v ≡ true) where
  bit_mono : (v : ℕ) → bit (p v) ≤ bit (q v)
  unfolding bit
  bit_mono v = go (p v) refl
    where
      go : (b : Bool) → p v ≡ b → bit b ≤ bit (q v)
      go true e = rw (more v e) (omega arith)
      go false e = omega arith

  -- q passes whatever p does
  count_mono : (n : ℕ) → count p n ≤ count q n
  unfolding count
  count_mono zero = omega arith
  count_mono (suc n) = omega (arith, count_mono n, bit_mono n)

  -- and v besides
  pub count_more : (n v : ℕ) → v < n → p v ≡ false → q v ≡ true → count p n < count q n
  unfolding count bit
  count_more zero v l a b = absurd (not-suc-le-zero l)
  count_more (suc n) v l a b = go (λ k. count_more n v k a b) (ℕ_discrete v n)
    where
      go : (v < n → count p n < count q n) → Dec (v ≡ n) → count p n + bit (p n) < count q n + bit (q n)
      go rest (yes e) = rw (← e, a, b) (omega (arith, count_mono v))
      go rest (no e) = omega (arith, rest (omega arith), bit_mono n)

-- one that does not pass leaves room
pub count_room : (p : ℕ → Bool) (n v : ℕ) → v < n → p v ≡ false → count p n < n
count_room p n v l a = omega (arith, count_more p (λ _. true) (λ v e. refl) n v l a refl, count_le (λ _. true) n)

-- ---- the list
pub passing_is : (p : ℕ → Bool) (n a : ℕ) {v : ℕ} → In v (passing p n a) → (a ≤ v) × (v < a + n) × (p v ≡ true)
unfolding passing
passing_is p zero a {v = v} i = elim i [ ]
passing_is p (suc n) a {v} i = go (p a) refl i (λ j. passing_is p n (suc a) j)
  where
    go : (t : Bool) → p a ≡ t → In v (pick t (a ∷ passing p n (suc a)) (passing p n (suc a)))
        → (In v (passing p n (suc a)) → (suc a ≤ v) × (v < suc a + n) × (p v ≡ true)) → (a ≤ v) × (v < a + suc n) × (p v ≡ true)
    go true e j more = one (Memᴰ.cases_cons j)
      where
        one : (v ≡ a) ⊎ In v (passing p n (suc a)) → (a ≤ v) × (v < a + suc n) × (p v ≡ true)
        one (inl q) = (omega arith, omega arith, rw q e)
        one (inr k) = let m = more k in (omega (arith, m.0), omega (arith, m.1), m.2)
    go false e j more = let m = more j in (omega (arith, m.0), omega (arith, m.1), m.2)

pub passing_has : (p : ℕ → Bool) (n a v : ℕ) → a ≤ v → v < a + n → p v ≡ true → In v (passing p n a)
unfolding passing
passing_has p zero a v l k o = absurd (omega arith)
passing_has p (suc n) a v l k o = go (ℕ_discrete v a) (p a) refl (λ m. passing_has p n (suc a) v m (omega arith) o)
  where
    go : Dec (v ≡ a) → (t : Bool) → p a ≡ t → (suc a ≤ v → In v (passing p n (suc a))) → In v (pick t (a ∷ passing p n (suc a)) (passing p n (suc a)))
    go (yes e) true q more = Memᴰ.head e
    go (yes e) false q more = absurd (false≢true (sym q ∙ ap p (sym e) ∙ o))
    go (no e) true q more = Memᴰ.tail (more (omega arith))
    go (no e) false q more = more (omega arith)

-- it has as many numbers as pass, and at place k stands one below which k pass
pub passing_count : (p : ℕ → Bool) (n a : ℕ) → length (passing p n a) + count p a ≡ count p (a + n)
unfolding passing count bit
passing_count p zero a = rw (add-zero a, zero-add)
passing_count p (suc n) a = go (p a) refl (passing_count p n (suc a) ∙ ap (count p) (suc-add a n ∙ sym (add-suc a n)))
  where
    go : (t : Bool) → p a ≡ t → length (passing p n (suc a)) + (count p a + bit (p a)) ≡ count p (a + suc n)
        → length (pick t (a ∷ passing p n (suc a)) (passing p n (suc a))) + count p a ≡ count p (a + suc n)
    go true e rest = omega (arith, rw e at rest)
    go false e rest = omega (arith, rw e at rest)

pub passing_place : (p : ℕ → Bool) (n a k : ℕ) → k < length (passing p n a) → count p (get_or (passing p n a) k 0) ≡ k + count p a
unfolding passing count bit
passing_place p zero a k l = absurd (not-suc-le-zero l)
passing_place p (suc n) a k l = go (p a) refl k l (λ j m. passing_place p n (suc a) j m)
  where
    rest : List ℕ
    rest = passing p n (suc a)

    go : (t : Bool) → p a ≡ t → (k : ℕ) → k < length (pick t (a ∷ rest) rest) → ((j : ℕ) → j < length rest → count p (get_or rest j 0) ≡ j + (count p a + bit (p a)))
        → count p (get_or (pick t (a ∷ rest) rest) k 0) ≡ k + count p a
    go true e zero m more = sym (zero-add (count p a))
    go true e (suc k) m more = omega (arith, rw e at (more k (le_of_suc-le-suc m)))
    go false e k m more = omega (arith, rw e at (more k m))

-- so one that passes stands at the place that those before it leave
pub passing_at : (p : ℕ → Bool) (n a v k : ℕ) → a ≤ v → v < a + n → p v ≡ true → k + count p a ≡ count p v → get_or (passing p n a) k 0 ≡ v
unfolding passing count bit
passing_at p zero a v k l m o e = absurd (omega arith)
passing_at p (suc n) a v k l m o e = go (ℕ_discrete v a) (p a) refl k e (λ j h f. passing_at p n (suc a) v j h (omega arith) o f)
  where
    rest : List ℕ
    rest = passing p n (suc a)

    go : Dec (v ≡ a) → (t : Bool) → p a ≡ t → (k : ℕ) → k + count p a ≡ count p v → ((j : ℕ) → suc a ≤ v → j + (count p a + bit (p a)) ≡ count p v → get_or rest j 0 ≡ v)
        → get_or (pick t (a ∷ rest) rest) k 0 ≡ v
    go (yes z) true q zero f more = sym z
    go (yes z) true q (suc k) f more = absurd (omega (arith, ap (count p) z))
    go (yes z) false q k f more = absurd (false≢true (sym q ∙ ap p (sym z) ∙ o))
    go (no z) true q zero f more = absurd (omega (arith, count_above p a v (omega arith) q))
    go (no z) true q (suc k) f more = more k (omega arith) (rw q (omega arith))
    go (no z) false q k f more = more k (omega arith) (rw q (omega arith))

-- ---- for loops
-- A search loop that is left at k, with whether it found: the first that passes is k, and it is below n as it found.
pub record Sought (p : ℕ → Bool) (n k : ℕ) (found : Bool) : Type 0 where
  pub at : first p n ≡ k
  pub test : ltb k n ≡ found

pub sought_yes : (p : ℕ → Bool) (n k : ℕ) {b : Bool} → b ≡ true → k < n → ((j : ℕ) → j < k → p j ≡ false) → p k ≡ true → Sought p n k b
sought_yes p n k e l before now = record { at = first_at p n k l before now; test = lt-ltb k n l ∙ sym e }

pub sought_no : (p : ℕ → Bool) (n k : ℕ) {b : Bool} → b ≡ false → k ≤ n → n ≤ k → ((j : ℕ) → j < k → p j ≡ false) → Sought p n k b
sought_no p n k e m l before = record { at = first_none p n (λ j i. before j (omega arith)) ∙ le_antisymm l m; test = le-ltb k n l ∙ sym e }

-- The invariant of a search loop, and its laws.
pub record Clear (p : ℕ → Bool) (n k : ℕ) : Type 0 where
  pub within : k ≤ n
  pub clear : (j : ℕ) → j < k → p j ≡ false

pub clear_none : (p : ℕ → Bool) (n : ℕ) → Clear p n 0
clear_none p n = record { within = omega arith; clear = λ j l. absurd (not-suc-le-zero l) }

pub clear_turn : {p : ℕ → Bool} {n k : ℕ} {r : Bool} → Clear p n k → k < n → r ≡ p k → r ≡ false → Clear p n (k + 1)
clear_turn {p} {n} {k} {r} c l e h = record { within = omega arith; clear = below_more (λ j. p j ≡ false) k c.clear (sym e ∙ h) }

pub any_found : {p : ℕ → Bool} {n k : ℕ} {r : Bool} → Clear p n k → k < n → r ≡ p k → r ≡ true → true ≡ any p n
any_found {p} {n} {k} {r} c l e h = any_yes p n k l c.clear (sym e ∙ h)

pub any_missed : {p : ℕ → Bool} {n k : ℕ} → Clear p n k → n ≤ k → false ≡ any p n
any_missed {p} {n} {k} c l = any_no p n k l c.clear

-- for `search (needs, seeking)`
pub ruleset seeking = (clear_none, clear_turn, any_found, any_missed)

-- The invariant of a loop that counts those that pass, and its laws.
pub record Counted (p : ℕ → Bool) (n k c : ℕ) : Type 0 where
  pub within : k ≤ n
  pub is : c ≡ count p k

pub counted_none : (p : ℕ → Bool) (n : ℕ) → Counted p n 0 0
unfolding count
counted_none p n = record { within = omega arith; is = refl }

pub counted_turn : {p : ℕ → Bool} {n k c : ℕ} {r : ℕ} → Counted p n k c → k < n → r ≡ bit (p k) → Counted p n (k + 1) (c + r)
unfolding count
counted_turn {p} {n} {k} {c} {r} s l e = record { within = omega arith; is = rw (add-one, s.is, e) }

pub counted_few : {p : ℕ → Bool} {n k c : ℕ} → Counted p n k c → c ≤ n
counted_few {p} {n} {k} s = omega (arith, s.is, s.within, count_le p k)

pub counted_all : {p : ℕ → Bool} {n k c : ℕ} → Counted p n k c → n ≤ k → c ≡ count p n
counted_all {p} s l = s.is ∙ ap (count p) (le_antisymm s.within l)
