-- A search that passes has a number that passes; and two tests of which each passes where the other does are the same.
use Rattle.std.specs.Prelude.{◌≡◌, refl, ◌⊎◌, Bool, true, false, ℕ, zero, suc, ◌<◌}
use Rattle.std.proofs.Common.{sym, ap, ◌∙◌, inl, inr, not-suc-le-zero, arith}
use Rattle.std.proofs.lemmas.Bool.{false≢true}
use Rattle.std.proofs.Math.Decide.{ℕ_discrete}
use Rattle.laws.specs.Search.{any, any_no}

pub record Hit (p : ℕ → Bool) (n : ℕ) : Type 0 where
  pub at : ℕ
  pub below : at < n
  pub passes : p at ≡ true

-- one below n passes, or none does
pub seek : (p : ℕ → Bool) (n : ℕ) → Hit p n ⊎ ((j : ℕ) → j < n → p j ≡ false)
seek p zero = inr (λ j l. absurd (not-suc-le-zero l))
seek p (suc n) = go (p n) refl (seek p n)
  where
    go : (b : Bool) → p n ≡ b → Hit p n ⊎ ((j : ℕ) → j < n → p j ≡ false) → Hit p (suc n) ⊎ ((j : ℕ) → j < suc n → p j ≡ false)
    go true e r = inl (record { at = n; below = omega arith; passes = e })
    go false e (inl h) = inl (record { at = h.at; below = omega (arith, h.below); passes = h.passes })
    go false e (inr none) = inr (λ j l. last j l (ℕ_discrete j n))
      where
        last : (j : ℕ) → j < suc n → Dec (j ≡ n) → p j ≡ false
        last j l (yes z) = ap p z ∙ e
        last j l (no z) = none j (omega arith)

pub any_hit : (p : ℕ → Bool) (n : ℕ) → any p n ≡ true → Hit p n
any_hit p n e = go (seek p n)
  where
    go : Hit p n ⊎ ((j : ℕ) → j < n → p j ≡ false) → Hit p n
    go (inl h) = h
    go (inr none) = absurd (false≢true (any_no p n n (omega arith) none ∙ e))

pub same_test : (a b : Bool) → (a ≡ true → b ≡ true) → (b ≡ true → a ≡ true) → a ≡ b
same_test true b there back = sym (there refl)
same_test false true there back = back refl
same_test false false there back = refl
