-- Folds over a count, for contracts of loops, and the laws that a loop's proof cites.
use Rattle.std.specs.Prelude.{◌≡◌, refl, Bool, true, false, List, ℕ, zero, suc, ◌+◌, ◌<◌, ◌≤◌, length}
use Rattle.std.proofs.Common.{ap, ◌∙◌, le_antisymm, add-one, arith}
-- the first of two where a test holds, else the second: the kit's, under a name that says so
pub use Rattle.std.specs.Prelude.{cond as pick}

-- a choice has what both sides have
pub pick_keeps : {A : Type 0} (P : A → Type 0) (b : Bool) (x y : A) → P x → P y → P (pick b x y)
pick_keeps P true x y p q = p
pick_keeps P false x y p q = q

unfoldable pub bit : Bool → ℕ
bit true = 1
bit false = 0

-- step 0, step 1, .. step n - 1, in this order, on a state
unfoldable pub run : {S : Type 0} → (ℕ → S → S) → ℕ → S → S
run f zero s = s
run f (suc n) s = f n (run f n s)

-- A loop whose body is a step: where it begins, and after a turn.
pub run_none : {S : Type 0} (f : ℕ → S → S) (s : S) → s ≡ run f 0 s
unfolding run
run_none f s = refl

run_next : {S : Type 0} (f : ℕ → S → S) (i : ℕ) (s t : S) → t ≡ run f i s → f i t ≡ run f (i + 1) s
unfolding run
run_next f i s t e = rw add-one (ap (f i) e)

-- The same in the shape of a loop's needs: at a turn's end, and where the loop is left with i ≤ n and n ≤ i.
pub run_turn : {S : Type 0} (f : ℕ → S → S) (i : ℕ) (s t u : S) → u ≡ f i t → t ≡ run f i s → u ≡ run f (i + 1) s
run_turn f i s t u e h = e ∙ run_next f i s t h

run_end : {S : Type 0} (f : ℕ → S → S) (n i : ℕ) (s t : S) → i ≤ n → n ≤ i → t ≡ run f i s → t ≡ run f n s
run_end f n i s t l m h = h ∙ ap (λ (k : ℕ). run f k s) (le_antisymm l m)

-- what each step keeps, the whole run keeps
pub run_keeps : {S : Type 0} (f : ℕ → S → S) (P : S → Type 0) → ((i : ℕ) (s : S) → P s → P (f i s)) → (n : ℕ) (s : S) → P s → P (run f n s)
unfolding run
run_keeps f P keep zero s h = h
run_keeps f P keep (suc n) s h = keep n (run f n s) (run_keeps f P keep n s h)

pub run_length : (f : ℕ → List ℕ → List ℕ) → ((i : ℕ) (s : List ℕ) → length (f i s) ≡ length s) → (n : ℕ) (s : List ℕ) → length (run f n s) ≡ length s
run_length f keep n s = run_keeps f (λ (t : List ℕ). length t ≡ length s) (λ i t h. keep i t ∙ h) n s refl

-- steps that leave a state as it is
run_fixed : {S : Type 0} (f : ℕ → S → S) (s : S) → ((i : ℕ) → f i s ≡ s) → (n : ℕ) → run f n s ≡ s
run_fixed f s h n = run_keeps f (λ t. t ≡ s) (λ i t e. ap (f i) e ∙ h i) n s refl

-- steps that do nothing
pub run_still : {S : Type 0} (f : ℕ → S → S) (n : ℕ) (s : S) → ((i : ℕ) (t : S) → f i t ≡ t) → run f n s ≡ s
run_still f n s h = run_fixed f s (λ i. h i s) n

-- the first step makes b, and the others leave it
pub run_after : {S : Type 0} (f : ℕ → S → S) (s b : S) → f 0 s ≡ b → ((i : ℕ) → f (suc i) b ≡ b) → (n : ℕ) → run f (suc n) s ≡ b
unfolding run
run_after f s b e h zero = e
run_after f s b e h (suc n) = ap (f (suc n)) (run_after f s b e h n) ∙ h n

-- The invariant of a counting loop on a lent list, and its laws: where the loop begins, after a turn whose body was a step, and where it is left.
pub record Ran (f : ℕ → List ℕ → List ℕ) (n i : ℕ) (s t : List ℕ) : Type 0 where
  pub within : i ≤ n
  pub same : length t ≡ length s
  pub is : t ≡ run f i s

pub ran_none : (f : ℕ → List ℕ → List ℕ) (n : ℕ) (s : List ℕ) → Ran f n 0 s s
ran_none f n s = record { within = omega arith; same = refl; is = run_none f s }

pub ran_turn : {f : ℕ → List ℕ → List ℕ} {n i : ℕ} {s t u : List ℕ} → Ran f n i s t → i < n → u ≡ f i t → length u ≡ length t → Ran f n (i + 1) s u
ran_turn {f} {n} {i} {s} {t} {u} r l e k = record { within = omega arith; same = k ∙ r.same; is = run_turn f i s t u e r.is }

pub ran_end : {f : ℕ → List ℕ → List ℕ} {n i : ℕ} {s t : List ℕ} → Ran f n i s t → n ≤ i → t ≡ run f n s
ran_end {f} {n} {i} {s} {t} r m = run_end f n i s t r.within m r.is

-- for `search (needs, counting)`
pub ruleset counting = (ran_none, ran_turn, ran_end)
