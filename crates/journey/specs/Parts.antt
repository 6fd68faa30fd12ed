-- Demand 3 in two parts: build and the calls reach a hall, and on a reached hall the last route call keeps the claim.
use Rattle.std.specs.Prelude.{ℕ, ◌<◌, ◌≡◌, List}
use Rattle.std.proofs.Common.{arith}
use Rattle.model.specs.declared.Measures.{Measures}
use Rattle.model.specs.Account.{Call, Account, opening, account_after}
use Rattle.model.specs.Calls.{build_number, Routed, route_answer}
use Rattle.audit.specs.Reached.{Reached}
use Rattle.audit.specs.Claim.{LastCall, Claim, Demand3}
use Rattle.audit.specs.Demand3.{route_claims}
use Rattle.reach.specs.Reach.{Reaches}

-- r is what a route call on the store st answered
pub record ClaimsReached (st : List ℕ) (source goal room : ℕ) (r : Routed) : Type 0 where
  pub claims : (a : Account) (lent : List ℕ) → Reached a lent st → LastCall a source goal room → Claim a source goal r

pub answer_claims : (st : List ℕ) (source goal room : ℕ) {r : Routed} → r ≡ route_answer st source goal room → ClaimsReached st source goal room r
answer_claims st source goal room e = record { claims = λ a lent there asked. rw e (route_claims there asked) }

-- the two parts are demand 3
pub parts_promise : {m : Measures} {base lent : List ℕ} {list : List Call} {st : List ℕ} {source goal room : ℕ} {r : Routed}
    → Reaches m base lent list st → ClaimsReached st source goal room r → Demand3 m base lent list source goal room r
parts_promise {m} {base} {lent} {list} there last =
    record { promised = λ accepted only asked. last.claims (account_after (opening m base) list) lent (there.reaches accepted only) asked }

-- where build refuses, demand 3 says nothing
pub refused_promise : {m : Measures} {base lent : List ℕ} {list : List Call} {source goal room : ℕ} {r : Routed}
    → 0 < build_number m base lent → Demand3 m base lent list source goal room r
refused_promise refused = record { promised = λ accepted only asked. absurd (omega arith) }
