-- Facts for the proofs: calls made in turn, and what build and the calls leave.
use Prim.Native.Nat.{ℕ, ◌/◌, ◌<◌}
use native.Mathlib.Omega.{arith}
use mathlib.Core.Path.{◌≡◌, refl, sym, ap, ◌∙◌}
use mathlib.Core.List.{List, [], ◌∷◌, ◌++◌}
use lib.ListN.{length, get_or}
use Rattle.model.specs.declared.Measures.{Measures}
use Rattle.model.specs.declared.Refusal.{Refusal}
use Rattle.model.specs.Numbers.{number, some_number}
use Rattle.model.specs.Account.{Call}
use Rattle.model.specs.Calls.{if_accepted, build_number, build_into, store_after_call, store_after}
use Rattle.model.specs.Refusals.{not_accepted}
use Rattle.hall.proofs.Building.{build_kept}
use Rattle.reach.specs.declared.HallCall.{HallCall}
use Rattle.reach.specs.Reach.{hall_call, call_of, calls_in_numbers, steps_after_call, steps_after, reach_into, reach_steps}

-- ---- calls made in turn
-- the calls before `rest` are made: those that are left lead to where all of them lead from the start
pub record Leads (all rest : List Call) (st₀ steps₀ st steps : List ℕ) : Type 0 where
  pub same_steps : length steps ≡ length steps₀
  pub to_store : store_after st rest ≡ store_after st₀ all
  pub to_steps : steps_after st rest steps ≡ steps_after st₀ all steps₀

module _ {all rest : List Call} {st₀ steps₀ st steps : List ℕ} (m : Leads all rest st₀ steps₀ st steps) where
  pub leads_turn : (c : HallCall) {left : List Call} {st' steps' : List ℕ} → rest ≡ call_of (length steps₀ / 6) c ∷ left
      → st' ≡ store_after_call st (call_of (length steps / 6) c) → steps' ≡ steps_after_call st (call_of (length steps / 6) c) steps
      → length steps' ≡ length steps → Leads all left st₀ steps₀ st' steps'
  unfolding store_after steps_after
  leads_turn c {left} {st'} {steps'} next e f l =
      let room = length steps₀ / 6 in
      let st_is : st' ≡ store_after_call st (call_of room c) = e ∙ rw m.same_steps in
      let steps_is : steps' ≡ steps_after_call st (call_of room c) steps = f ∙ rw m.same_steps in
      record {
        same_steps = l ∙ m.same_steps;
        to_store = rw st_is (rw next at m.to_store);
        to_steps = rw (st_is, steps_is) (rw next at m.to_steps);
      }

  -- none is left
  module _ (none : rest ≡ []) where
    pub leads_store : st ≡ store_after st₀ all
    unfolding store_after
    leads_store = rw none at m.to_store

    pub leads_steps : steps ≡ steps_after st₀ all steps₀
    unfolding steps_after
    leads_steps = rw none at m.to_steps

-- ---- calls lent as numbers
-- three numbers are the first call, and fewer are none
first_call : (room : ℕ) (numbers rest : List ℕ) → length numbers ≡ 3
    → calls_in_numbers room (numbers ++ rest) ≡ call_of room (hall_call (get_or numbers 0 0) (get_or numbers 1 0) (get_or numbers 2 0)) ∷ calls_in_numbers room rest
unfolding calls_in_numbers
first_call room [] rest l = absurd (omega arith)
first_call room (x ∷ []) rest l = absurd (omega arith)
first_call room (x ∷ y ∷ []) rest l = absurd (omega arith)
first_call room (x ∷ y ∷ z ∷ []) rest l = refl
first_call room (x ∷ y ∷ z ∷ w ∷ more) rest l = absurd (omega arith)

no_call : (room : ℕ) (rest : List ℕ) → length rest < 3 → calls_in_numbers room rest ≡ []
unfolding calls_in_numbers
no_call room [] l = refl
no_call room (x ∷ []) l = refl
no_call room (x ∷ y ∷ []) l = refl
no_call room (x ∷ y ∷ z ∷ rest) l = absurd (omega arith)

-- the calls before the numbers `rest` are made
pub record Made (calls rest st₀ steps₀ st steps : List ℕ) : Type 0 where
  pub leads : Leads (calls_in_numbers (length steps₀ / 6) calls) (calls_in_numbers (length steps₀ / 6) rest) st₀ steps₀ st steps

module _ {calls rest st₀ steps₀ st steps : List ℕ} (m : Made calls rest st₀ steps₀ st steps) where
  pub made_turn : (numbers : List ℕ) {left st' steps' : List ℕ} {c : HallCall} → rest ≡ numbers ++ left → length numbers ≡ 3
      → c ≡ hall_call (get_or numbers 0 0) (get_or numbers 1 0) (get_or numbers 2 0)
      → st' ≡ store_after_call st (call_of (length steps / 6) c) → steps' ≡ steps_after_call st (call_of (length steps / 6) c) steps
      → length steps' ≡ length steps → Made calls left st₀ steps₀ st' steps'
  made_turn numbers {left} {st'} {steps'} {c} cut three is e f l =
      let room = length steps₀ / 6 in
      let next : calls_in_numbers room rest ≡ call_of room c ∷ calls_in_numbers room left = ap (calls_in_numbers room) cut ∙ first_call room numbers left three ∙ rw is in
      record { leads = leads_turn m.leads c next e f l }

  -- fewer than three numbers are left
  module _ (over : length rest < 3) where
    none_left : calls_in_numbers (length steps₀ / 6) rest ≡ []
    none_left = no_call (length steps₀ / 6) rest over

    pub made_store : st ≡ store_after st₀ (calls_in_numbers (length steps₀ / 6) calls)
    made_store = leads_store m.leads none_left

    pub made_steps : steps ≡ steps_after st₀ (calls_in_numbers (length steps₀ / 6) calls) steps₀
    made_steps = leads_steps m.leads none_left

-- ---- build and the calls
module _ (m : Measures) (base lent : List ℕ) (list : List Call) (steps : List ℕ) where
  -- build refuses
  module _ (r : Refusal) (is : number r ≡ build_number m base lent) where
    pub old_kept : {A : Type 0} (new old : A) → old ≡ if_accepted (build_number m base lent) new old
    old_kept new old = rw (← is) (not_accepted (number r) new old (some_number r))

    pub refused_store : {out : List ℕ} → out ≡ build_into m base lent → out ≡ reach_into m base lent list
    unfolding reach_into
    refused_store e = e ∙ sym (build_kept m base lent r is) ∙ old_kept (store_after (build_into m base lent) list) lent

    pub refused_steps : steps ≡ reach_steps m base lent list steps
    unfolding reach_steps
    refused_steps = old_kept (steps_after (build_into m base lent) list steps) steps

  -- build accepts; `first` is the store that it leaves
  module _ (accepted : 0 ≡ build_number m base lent) {first : List ℕ} (built : first ≡ build_into m base lent) where
    pub reached_store : {st : List ℕ} → st ≡ store_after first list → st ≡ reach_into m base lent list
    unfolding reach_into if_accepted
    reached_store e = e ∙ rw (← accepted, built)

    pub reached_steps : {used : List ℕ} → used ≡ steps_after first list steps → used ≡ reach_steps m base lent list steps
    unfolding reach_steps if_accepted
    reached_steps e = e ∙ rw (← accepted, built)
