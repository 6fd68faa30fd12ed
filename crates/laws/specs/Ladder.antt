-- A ladder of refusals: the first test that holds gives its number, and 0 says that none does.
use Rattle.std.specs.Prelude.{◌≡◌, refl, Bool, true, false, not, ℕ, suc, ◌≤◌, eqb}
use Rattle.std.proofs.Common.{sym, ◌∙◌, arith, eqb-true}
use Rattle.std.proofs.lemmas.Bool.{false≢true, not-false}

-- the number n where the test holds, else what the rest gives
unfoldable pub refuse : Bool → ℕ → ℕ → ℕ
refuse true n rest = n
refuse false n rest = rest

-- a rung of a ladder that gives 0 was passed
pub passed : (b : Bool) (n rest : ℕ) → refuse b (suc n) rest ≡ 0 → (b ≡ false) × (rest ≡ 0)
unfolding refuse
passed true n rest e = absurd (omega arith)
passed false n rest e = (refl, e)

-- no rung gives more than a number that none has more than
pub refuse_most : (b : Bool) (n rest most : ℕ) → n ≤ most → rest ≤ most → refuse b n rest ≤ most
unfolding refuse
refuse_most true n rest most h r = h
refuse_most false n rest most h r = r

-- two numbers that a refusal did not find different
pub not_different : (a b : ℕ) → not (eqb a b) ≡ false → a ≡ b
not_different a b e = eqb-true a b (not-false (eqb a b) e)

-- For `search (needs, ladder) depth N` at each return of the function that climbs it: each test is the flag that a callee ensures.
pub refuse_here : (b : Bool) (n rest : ℕ) → b ≡ true → n ≡ refuse b n rest
unfolding refuse
refuse_here true n rest e = refl
refuse_here false n rest e = absurd (false≢true e)

pub refuse_past : (b : Bool) (n m rest : ℕ) → b ≡ false → n ≡ rest → n ≡ refuse b m rest
unfolding refuse
refuse_past true n m rest e h = absurd (false≢true (sym e))
refuse_past false n m rest e h = h

pub flag : {r b t : Bool} → r ≡ b → r ≡ t → b ≡ t
flag e h = sym e ∙ h

pub ruleset ladder = (refuse_here, refuse_past, flag)
