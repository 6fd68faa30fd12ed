-- The library's decimal text of a number is the definition's.
use Rattle.std.specs.Prelude.{◌≡◌, [], ◌∷◌, ◌++◌, ℕ, zero, suc, ◌+◌, ◌/◌, ◌%◌, ◌^◌, ◌≤◌, ◌<◌}
use Rattle.std.specs.Fmt as lib
use Rattle.std.proofs.Common.{sym, ap, ◌∙◌, ⊎_elim, not-suc-le-zero, arith, lt-ltb, le-ltb}
use Rattle.std.proofs.lemmas.Fmt.{decimal_by_steps}
use Rattle.laws.specs.Graph.{below_or}
use Rattle.model.specs.Hallroute.{digits, decimal}

digits_one : (most n : ℕ) → n < 10 → digits (suc most) n ≡ (48 + n) ∷ []
unfolding digits
digits_one most n h = rw (lt-ltb n 10 h, digits)

digits_more : (most n : ℕ) → 10 ≤ n → digits (suc most) n ≡ digits most (n / 10) ++ ((48 + n % 10) ∷ [])
unfolding digits
digits_more most n h = rw (le-ltb n 10 h, digits)

-- any bound above the number serves
digits_enough : (m k n : ℕ) → n < m → n < k → digits m n ≡ digits k n
digits_enough zero k n h l = absurd (not-suc-le-zero h)
digits_enough (suc m) zero n h l = absurd (not-suc-le-zero l)
digits_enough (suc m) (suc k) n h l =
    ⊎_elim
    (λ s. digits_one m n s ∙ sym (digits_one k n s))
    (λ s. digits_more m n s ∙ ap (λ front. front ++ ((48 + n % 10) ∷ [])) (digits_enough m k (n / 10) (omega arith) (omega arith)) ∙ sym (digits_more k n s))
    (below_or n 10)

decimal_more : (n : ℕ) → 10 ≤ n → decimal n ≡ decimal (n / 10) ++ ((48 + n % 10) ∷ [])
decimal_more n h = digits_more n n h ∙ ap (λ front. front ++ ((48 + n % 10) ∷ [])) (digits_enough n (suc (n / 10)) (n / 10) (omega arith) (omega arith))

pub decimal_lem : (n : ℕ) → n < 2 ^ 64 → lib.decimal n ≡ decimal n
decimal_lem n h =
    decimal_by_steps (λ k ds. ds ≡ decimal k)
    (λ k l. sym (digits_one k k l))
    (λ k ds l e. ap (λ front. front ++ ((48 + k % 10) ∷ [])) e ∙ sym (decimal_more k l))
    n h
