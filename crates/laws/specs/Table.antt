-- A table whose entries are given by a rule.
use Rattle.std.specs.Prelude.{◌≡◌, refl, List, [], ◌∷◌, ◌++◌, ℕ, zero, suc, ◌+◌, ◌<◌, ◌≤◌, get_or, length, set, replicate}
use Rattle.std.proofs.Common.{sym, ap, subst, ◌∙◌, add-zero, zero-add, add-suc, suc-add, le_of_suc-le-suc, not-suc-le-zero, add-one, arith, length-set, ext_get_or, get_or-set_same, get_or-set_other}
use Rattle.std.proofs.Math.Decide.{ℕ_discrete}

-- n entries, from f i on
unfoldable pub tabulate : {A : Type 0} → (ℕ → A) → ℕ → ℕ → List A
tabulate f zero i = []
tabulate f (suc n) i = f i ∷ tabulate f n (suc i)

pub length_tabulate : {A : Type 0} (f : ℕ → A) (n i : ℕ) → length (tabulate f n i) ≡ n
unfolding tabulate
length_tabulate f zero i = refl
length_tabulate f (suc n) i = ap suc (length_tabulate f n (suc i))

tabulate_from : {A : Type 0} (f : ℕ → A) (n i k : ℕ) (z : A) → k < n → get_or (tabulate f n i) k z ≡ f (i + k)
unfolding tabulate
tabulate_from f zero i k z h = absurd (not-suc-le-zero h)
tabulate_from f (suc n) i zero z h = ap f (sym (add-zero i))
tabulate_from f (suc n) i (suc k) z h = tabulate_from f n (suc i) k z (le_of_suc-le-suc h) ∙ ap f (suc-add i k ∙ sym (add-suc i k))

pub tabulate_at : {A : Type 0} (f : ℕ → A) (n k : ℕ) (z : A) → k < n → get_or (tabulate f n 0) k z ≡ f k
tabulate_at f n k z h = tabulate_from f n 0 k z h ∙ ap f (zero-add k)

-- A list that is the tabulated rule (by `refl` under `unfolding tabulate`, where it computes) has the rule at each index.
pub table_at : {A : Type 0} (f : ℕ → A) (n : ℕ) {l : List A} → l ≡ tabulate f n 0 → (k : ℕ) (z : A) → k < n → get_or l k z ≡ f k
table_at f n e k z h = ap (λ l. get_or l k z) e ∙ tabulate_at f n k z h

-- one entry more
pub tabulate_more : {A : Type 0} (f : ℕ → A) (n : ℕ) → tabulate f (n + 1) 0 ≡ tabulate f n 0 ++ (f n ∷ [])
unfolding tabulate
tabulate_more f n = rw add-one (from n 0 ∙ ap (λ k. tabulate f n 0 ++ (f k ∷ [])) (zero-add n))
  where
    from : (n i : ℕ) → tabulate f (suc n) i ≡ tabulate f n i ++ (f (i + n) ∷ [])
    from zero i = rw add-zero
    from (suc n) i = ap (λ l. f i ∷ l) (from n (suc i)) ∙ rw (suc-add, add-suc)

-- a rule that is another one place further on
pub tabulate_past : {A : Type 0} (f g : ℕ → A) → ((k : ℕ) → f (suc k) ≡ g k) → (n i : ℕ) → tabulate f n (suc i) ≡ tabulate g n i
unfolding tabulate
tabulate_past f g e zero i = refl
tabulate_past f g e (suc n) i = ap (λ x. x ∷ tabulate f n (suc (suc i))) (e i) ∙ ap (λ l. g i ∷ l) (tabulate_past f g e n (suc i))

-- inside a list it does not matter what is read past its end
pub get_or_default : (l : List ℕ) (n a b : ℕ) → n < length l → get_or l n a ≡ get_or l n b
get_or_default [] n a b h = absurd (not-suc-le-zero h)
get_or_default (x ∷ l) zero a b h = refl
get_or_default (x ∷ l) (suc n) a b h = get_or_default l n a b (le_of_suc-le-suc h)

-- ---- a list of n entries that is being filled: those before i are as the rule says
pub record Tabled (f : ℕ → ℕ) (n i : ℕ) (t : List ℕ) : Type 0 where
  pub within : i ≤ n
  pub long : length t ≡ n
  pub at : (k : ℕ) → k < i → get_or t k 0 ≡ f k

pub tabled_none : (f : ℕ → ℕ) (n : ℕ) (t : List ℕ) → length t ≡ n → Tabled f n 0 t
tabled_none f n t l = record { within = omega arith; long = l; at = λ k m. absurd (omega arith) }

pub tabled_more : {f : ℕ → ℕ} {n i w : ℕ} {t : List ℕ} → Tabled f n i t → i < n → w ≡ f i → Tabled f n (i + 1) (set t i w)
tabled_more {f} {n} {i} {w} {t} r l q = record { within = omega arith; long = length-set t i w ∙ r.long; at = λ k m. go k m (ℕ_discrete k i) }
  where
    go : (k : ℕ) → k < i + 1 → Dec (k ≡ i) → get_or (set t i w) k 0 ≡ f k
    go k m (yes z) = rw (z, get_or-set_same t i w 0 (omega (arith, r.long))) q
    go k m (no z) = get_or-set_other t i k w 0 z ∙ r.at k (omega arith)

pub tabled_same : {f g : ℕ → ℕ} {n i : ℕ} {t : List ℕ} → Tabled f n i t → ((k : ℕ) → k < n → f k ≡ g k) → Tabled g n i t
tabled_same r same = record { within = r.within; long = r.long; at = λ k l. r.at k l ∙ same k (omega (arith, r.within)) }

-- a place named otherwise
pub tabled_at : {f : ℕ → ℕ} {n a b : ℕ} {t : List ℕ} → Tabled f n a t → a ≡ b → Tabled f n b t
tabled_at {f} {n} {t = t} r e = subst (λ (i : ℕ). Tabled f n i t) e r

pub tabled_all : {f : ℕ → ℕ} {n i : ℕ} {t : List ℕ} → Tabled f n i t → n ≤ i → t ≡ tabulate f n 0
tabled_all {f} {n} {i} {t} r l = ext_get_or 0 t (tabulate f n 0) (r.long ∙ sym (length_tabulate f n 0)) (λ k m. r.at k (omega (arith, r.long)) ∙ sym (tabulate_at f n k 0 (omega (arith, r.long))))

-- one value everywhere
pub tabled_fill : (v : ℕ) {n i : ℕ} {t : List ℕ} → Tabled (λ _. v) n i t → n ≤ i → t ≡ replicate n v
unfolding tabulate
tabled_fill v {n} r l = tabled_all r l ∙ same n 0
  where
    same : (n i : ℕ) → tabulate (λ _. v) n i ≡ replicate n v
    same zero i = refl
    same (suc n) i = ap (λ (t : List ℕ). v ∷ t) (same n (suc i))

-- for `search (needs, tabling)`
pub ruleset tabling = (tabled_none, tabled_more, tabled_all)
