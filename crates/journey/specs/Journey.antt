-- A last route call after build and a list of calls: what it answers, and what it leaves in the step list.
use Rattle.std.specs.Prelude.{ℕ, List, Err}
use Rattle.model.specs.declared.Measures.{Measures}
use Rattle.model.specs.Numbers.{refusal}
use Rattle.model.specs.Account.{Call}
use Rattle.model.specs.Calls.{if_accepted, build_number, build_into, Routed, route_answer, route_flat, store_after}
use Rattle.reach.specs.Reach.{steps_after}

-- where build refuses, its number is the answer and the list is as it was
unfoldable pub journey_answer : Measures → List ℕ → List ℕ → List Call → ℕ → ℕ → ℕ → Routed
journey_answer m base lent list source goal room =
    if_accepted (build_number m base lent) (route_answer (store_after (build_into m base lent) list) source goal room) (Err (refusal (build_number m base lent)))

unfoldable pub journey_steps : Measures → List ℕ → List ℕ → List Call → ℕ → ℕ → List ℕ → List ℕ
journey_steps m base lent list source goal steps =
    if_accepted (build_number m base lent) (route_flat (store_after (build_into m base lent) list) source goal (steps_after (build_into m base lent) list steps)) steps
