-- Facts for the proofs: what the last route call answers and leaves, and that it keeps the claim.
use Prim.Native.Nat.{ℕ, ◌/◌}
use native.Mathlib.Omega.{arith}
use mathlib.Core.Path.{◌≡◌, sym, ap, ◌∙◌}
use mathlib.Core.List.{List}
use lib.ListN.{length}
use Rattle.std.proofs.Common.{Err}
use Rattle.std.specs.Result.{IsErrAnd}
use Rattle.std.proofs.lemmas.Result.{err_from_is_err_and}
use Rattle.model.specs.declared.Measures.{Measures}
use Rattle.model.specs.declared.Refusal.{Refusal}
use Rattle.model.specs.Numbers.{number, refusal, refusal_lem, some_number}
use Rattle.model.specs.Account.{Call}
use Rattle.model.specs.Calls.{if_accepted, build_number, build_into, Routed, route_answer, route_flat, store_after}
use Rattle.model.specs.Answers.{RouteAnswers, route_case}
use Rattle.audit.specs.Claim.{Demand3}
use Rattle.reach.specs.Reach.{steps_after, reach_into, reach_steps, Reaches}
use Rattle.reach.proofs.Calling.{old_kept, refused_steps}
use Rattle.journey.specs.Journey.{journey_answer, journey_steps}
use Rattle.journey.specs.Parts.{ClaimsReached, answer_claims, parts_promise, refused_promise}

-- of a route call's answer the theorem speaks
pub routed_keeps : (st : List ℕ) (source goal room : ℕ) (r : Routed) → RouteAnswers st source goal room r → ClaimsReached st source goal room r
routed_keeps st source goal room r a = answer_claims st source goal room (route_case st source goal room a)

module _ (m : Measures) (base lent : List ℕ) (list : List Call) (source goal : ℕ) (steps : List ℕ) where
  -- build refuses
  module _ (r : Refusal) (is : number r ≡ build_number m base lent) where
    pub refused_answer : (answer : Routed) → IsErrAnd answer (λ e. e ≡ r) → answer ≡ journey_answer m base lent list source goal (length steps / 6)
    unfolding journey_answer
    refused_answer answer e =
        let p = err_from_is_err_and answer e in
        let f : Refusal → Routed = λ x. Err x in
        p.1 ∙ ap f (p.2 ∙ sym (refusal_lem r) ∙ ap refusal is) ∙ old_kept m base lent list steps r is (route_answer (store_after (build_into m base lent) list) source goal (length steps / 6)) (Err (refusal (build_number m base lent)))

    pub refused_last : {out : List ℕ} → out ≡ reach_steps m base lent list steps → out ≡ journey_steps m base lent list source goal steps
    unfolding journey_steps
    refused_last e =
        let asked : List ℕ = route_flat (store_after (build_into m base lent) list) source goal (steps_after (build_into m base lent) list steps) in
        e ∙ sym (refused_steps m base lent list steps r is) ∙ old_kept m base lent list steps r is asked steps

    pub refused_keeps : (r : Routed) → Demand3 m base lent list source goal (length steps / 6) r
    refused_keeps answer = refused_promise (omega (arith, some_number r))

  -- build accepts
  module _ (accepted : 0 ≡ build_number m base lent) where
    -- `st` with `used` is what the calls leave of store and step list
    module _ {st : List ℕ} (made : st ≡ reach_into m base lent list) where
      pub asked_answer : (used : List ℕ) {r : Routed} → r ≡ route_answer st source goal (length used / 6) → length used ≡ length steps
          → r ≡ journey_answer m base lent list source goal (length steps / 6)
      unfolding journey_answer reach_into if_accepted
      asked_answer used e same = e ∙ rw (made, ← accepted, same)

      pub asked_steps : {used out : List ℕ} → used ≡ reach_steps m base lent list steps → out ≡ route_flat st source goal used → out ≡ journey_steps m base lent list source goal steps
      unfolding journey_steps reach_into reach_steps if_accepted
      asked_steps u e = e ∙ rw (u, made, ← accepted)

pub asked_keeps : {m : Measures} {base lent : List ℕ} {list : List Call} {st : List ℕ} {source goal : ℕ} (steps used : List ℕ) {r : Routed}
    → Reaches m base lent list st → ClaimsReached st source goal (length used / 6) r → length used ≡ length steps
    → Demand3 m base lent list source goal (length steps / 6) r
asked_keeps steps used there last same = rw (← same) (parts_promise there last)
