-- What a number above 0 does: no later test is asked, it is the answer, and what is lent stays as it was; and what 0 does.
use Rattle.std.specs.Prelude.{◌≡◌, refl, true, ℕ, zero, suc, ◌≤◌, ◌<◌, leb}
use Rattle.std.proofs.Common.{sym, ◌∙◌, arith, leb-true}
use Rattle.laws.specs.Ladder.{refuse_most}
use Rattle.model.specs.declared.Refusal.{Refusal}
use Rattle.model.specs.Numbers.{number, some_number}
use Rattle.model.specs.Calls.{or_else, if_accepted}

pub refused_first : (r rest : ℕ) → 0 < r → r ≡ or_else r rest
unfolding or_else
refused_first zero rest h = absurd (omega arith)
refused_first (suc r) rest h = refl

pub earlier : (n v rest : ℕ) → 0 < n → n ≡ v → n ≡ or_else v rest
earlier n v rest h e = e ∙ refused_first v rest (omega arith)

pub handed_on : (r : Refusal) (v rest : ℕ) → number r ≡ v → number r ≡ or_else v rest
handed_on r v rest e = earlier (number r) v rest (some_number r) e

-- 0 asks it, and then it decides
pub later : (n v rest : ℕ) → 0 ≡ v → n ≡ rest → n ≡ or_else v rest
unfolding or_else
later n v rest z h = simp (sym z) h

pub neither_refused : (n rest : ℕ) → or_else n rest ≡ 0 → (n ≡ 0) × (rest ≡ 0)
unfolding or_else
neither_refused zero rest e = (refl, e)
neither_refused (suc n) rest e = absurd (omega arith)

pub or_else_most : (n rest most : ℕ) → n ≤ most → rest ≤ most → or_else n rest ≤ most
unfolding or_else
or_else_most zero rest most h r = r
or_else_most (suc n) rest most h r = h

-- a literal number is at most 29
pub few_number : (n : ℕ) → leb n 29 ≡ true → n ≤ 29
few_number n e = leb-true n 29 e

-- for `search few`: the number of a call is at most 29
pub ruleset few = (or_else_most, refuse_most, few_number)

pub not_accepted : {A : Type 0} (n : ℕ) (new old : A) → 0 < n → old ≡ if_accepted n new old
unfolding if_accepted
not_accepted zero new old h = absurd (omega arith)
not_accepted (suc n) new old h = refl
