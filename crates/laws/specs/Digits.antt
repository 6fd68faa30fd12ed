-- A list as one number, whose digits are the entries: a digit is read and lowered in one step, where a list is walked through. The base is above all entries.
use Rattle.std.specs.Prelude.{ℕ, zero, suc, ◌+◌, ◌-◌, ◌*◌, ◌/◌, ◌%◌, ◌^◌, ◌≤◌, ◌<◌, ◌≡◌, List, [], ◌∷◌, get_or, length, set}
use Rattle.std.proofs.Common.{zero-add, mul-one, mul-add, mul_left_comm, mul-pos, mod-eq_of_lt, div-one, arith, ◌∙◌, ext_get_or}
use Rattle.std.proofs.Math.Nat.{pow-zero, pow-succ', one-le-pow, div-eq_of_lt, div-div-eq-div-mul, add-mul-div_left, add-mul-mod_self_left}
use Rattle.laws.specs.Table.{tabulate, length_tabulate, tabulate_at}

unfoldable pub packed : ℕ → List ℕ → ℕ
packed b [] = 0
packed b (x ∷ xs) = x + b * packed b xs

-- the digit at a place: place b ^ i has entry i
abbrev pub digit : ℕ → ℕ → ℕ → ℕ
digit b d place = d / place % b

-- the first n digits
unfoldable pub unpacked : ℕ → ℕ → ℕ → List ℕ
unpacked b n d = tabulate (λ i. digit b d (b ^ i)) n 0

-- ---- the laws
abbrev pub Below : ℕ → List ℕ → Type 0
Below b xs = (i : ℕ) → i < length xs → get_or xs i 0 < b

pub digit_packed : (b : ℕ) (xs : List ℕ) (i : ℕ) → Below b xs → i < length xs → digit b (packed b xs) (b ^ i) ≡ get_or xs i 0
unfolding packed
digit_packed b [] i low l = absurd (omega arith)
digit_packed b (x ∷ xs) zero low l = rw (pow-zero, div-one, add-mul-mod_self_left) (mod-eq_of_lt (low 0 l))
digit_packed b (x ∷ xs) (suc i) low l =
    let some : 0 < b = omega (arith, low 0 (omega arith)) in
    rw (pow-succ', ← div-div-eq-div-mul, add-mul-div_left x (packed b xs) some, div-eq_of_lt (low 0 (omega arith)), zero-add)
    (digit_packed b xs i (λ j k. low (suc j) (omega arith)) (omega arith))

-- an entry lowered
packed_set : (b : ℕ) (xs : List ℕ) (i v : ℕ) → i < length xs → v ≤ get_or xs i 0 → packed b (set xs i v) + (get_or xs i 0 - v) * b ^ i ≡ packed b xs
unfolding packed
packed_set b [] i v l h = absurd (omega arith)
packed_set b (x ∷ xs) zero v l h = rw (pow-zero, mul-one) (omega arith)
packed_set b (x ∷ xs) (suc i) v l h =
    let rest = packed_set b xs i v (omega arith) h in
    rw (← rest, pow-succ', mul-add, mul_left_comm (get_or xs i 0 - v) b (b ^ i)) (omega arith)

pub lowered_digit : (b : ℕ) (xs : List ℕ) (i v : ℕ) → 0 < b → i < length xs → v < get_or xs i 0
    → (packed b xs - (get_or xs i 0 - v) * b ^ i ≡ packed b (set xs i v)) × (packed b (set xs i v) < packed b xs)
lowered_digit b xs i v some l h =
    let sum = packed_set b xs i v l (omega arith) in
    let more : 0 < (get_or xs i 0 - v) * b ^ i = mul-pos (omega arith) (one-le-pow i b some) in
    (omega arith, omega arith)

pub unpacked_packed : (b : ℕ) (xs : List ℕ) → Below b xs → unpacked b (length xs) (packed b xs) ≡ xs
unfolding unpacked
unpacked_packed b xs low =
    ext_get_or 0 (tabulate (λ i. digit b (packed b xs) (b ^ i)) (length xs) 0) xs (length_tabulate (λ i. digit b (packed b xs) (b ^ i)) (length xs) 0)
    (λ i l.
    let k : i < length xs = rw (← (length_tabulate (λ i. digit b (packed b xs) (b ^ i)) (length xs) 0)) l in
    tabulate_at (λ i. digit b (packed b xs) (b ^ i)) (length xs) i 0 k ∙ digit_packed b xs i low k)
