-- A hall built, and a list of calls made in turn on its store: what this leaves in the memory that it is lent, and that it is a reached hall.
use Rattle.std.specs.Prelude.{ℕ, ◌%◌, ◌≡◌, refl, List, [], ◌∷◌, eqb}
use Rattle.laws.specs.Fold.{pick}
use Rattle.model.specs.declared.Measures.{Measures}
use Rattle.model.specs.Account.{Call, change, route, opening, account_after}
use Rattle.model.specs.Calls.{if_accepted, build_number, build_into, route_flat, store_after_call, store_after}
use Rattle.reach.specs.declared.HallCall.{HallCall}
use Rattle.reach.specs.declared.HallCall.TheVariants.{Change, Route}
use Rattle.audit.specs.Reached.{ChangesOnlyAtScale1, Reached, reached}

-- ---- the list of calls
-- room is how many steps the lent list holds
unfoldable pub call_of : ℕ → HallCall → Call
call_of room (Change cell cost) = change cell cost
call_of room (Route source goal) = route source goal room

abbrev pub calls_in : ℕ → List HallCall → List Call
calls_in room [] = []
calls_in room (c ∷ rest) = call_of room c ∷ calls_in room rest

-- two changes and a route call
example : calls_in 1001 (Change 0 255 ∷ Change 200 1 ∷ Route 5 7 ∷ []) ≡ change 0 255 ∷ change 200 1 ∷ route 5 7 1001 ∷ []
unfolding call_of
example = refl

-- ---- the list of calls, lent as numbers
-- a call by three numbers: kind 0 changes the cell of floor number a to the cost in b, whose low byte counts; any other kind is a route call from a to b
unfoldable pub hall_call : ℕ → ℕ → ℕ → HallCall
hall_call kind a b = pick (eqb kind 0) (Change a (b % 256)) (Route a b)

-- three numbers a call; one or two that are left at the end make no call
unfoldable pub calls_in_numbers : ℕ → List ℕ → List Call
calls_in_numbers room [] = []
calls_in_numbers room (_ ∷ []) = []
calls_in_numbers room (_ ∷ _ ∷ []) = []
calls_in_numbers room (kind ∷ a ∷ b ∷ rest) = call_of room (hall_call kind a b) ∷ calls_in_numbers room rest

-- two changes, a route call, and a number to spare
example_numbers : calls_in_numbers 1001 (0 ∷ 0 ∷ 255 ∷ 0 ∷ 200 ∷ 257 ∷ 1 ∷ 5 ∷ 7 ∷ 9 ∷ []) ≡ change 0 255 ∷ change 200 1 ∷ route 5 7 1001 ∷ []
unfolding calls_in_numbers call_of hall_call
example_numbers = refl

-- ---- what is lent, after calls
-- the step list: route calls write it, on the store as it is then
unfoldable pub steps_after_call : List ℕ → Call → List ℕ → List ℕ
steps_after_call st (change n cost) steps = steps
steps_after_call st (route source goal room) steps = route_flat st source goal steps

unfoldable pub steps_after : List ℕ → List Call → List ℕ → List ℕ
steps_after st [] steps = steps
steps_after st (c ∷ calls) steps = steps_after (store_after_call st c) calls (steps_after_call st c steps)

-- ---- build and the calls
-- where build refuses, no call is made, and what is lent is as it was
unfoldable pub reach_into : Measures → List ℕ → List ℕ → List Call → List ℕ
reach_into m base lent list = if_accepted (build_number m base lent) (store_after (build_into m base lent) list) lent

unfoldable pub reach_steps : Measures → List ℕ → List ℕ → List Call → List ℕ → List ℕ
reach_steps m base lent list steps = if_accepted (build_number m base lent) (steps_after (build_into m base lent) list steps) steps

-- st is what build by m and base in the store lent, and the calls of the list, leave
pub record Reaches (m : Measures) (base lent : List ℕ) (list : List Call) (st : List ℕ) : Type 0 where
  pub reaches : build_number m base lent ≡ 0 → ChangesOnlyAtScale1 m base lent list → Reached (account_after (opening m base) list) lent st

pub into_reaches : (m : Measures) (base lent : List ℕ) (list : List Call) {st : List ℕ} → st ≡ reach_into m base lent list → Reaches m base lent list st
unfolding reach_into if_accepted
into_reaches m base lent list e = record { reaches = λ accepted only. rw (e, accepted) (reached m base lent accepted list only) }
