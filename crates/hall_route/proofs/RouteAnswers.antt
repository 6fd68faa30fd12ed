-- What route answers and leaves in the list, in the shapes of its returns.
use mathlib.Core.Path.{◌≡◌, refl, sym, ap, ◌∙◌}
use mathlib.Core.List.{List}
use Prim.Native.Nat.{ℕ, ◌/◌, ◌≤◌, ◌<◌}
use native.Mathlib.Omega.{arith}
use lib.Dec.{leb, ltb}
use lib.ListN.{length}
use Rattle.std.proofs.Common.{Option, Ok}
use borrow.Author.Tests.{le-leb, lt-leb, lt-ltb, le-ltb}
use Rattle.laws.specs.Ladder.{refuse}
use Rattle.model.specs.declared.Measures.{Measures}
use Rattle.model.specs.declared.Refusal.{Refusal}
use Rattle.model.specs.declared.Route.{Route}
use Rattle.model.specs.Numbers.{number, some_number}
use Rattle.model.specs.Sectors.{cells}
use Rattle.model.specs.Store.{measures_at, decode}
use Rattle.model.specs.Route.{Found, route_of}
use Rattle.model.specs.Route as found_as
use Rattle.model.specs.Calls.{or_else, if_accepted, check_number, step_list, outcome, found_number, route_number, routed_steps, route_flat}
use Rattle.model.specs.Answers.{RouteAnswers, routed_as, given_as}
use Rattle.store.specs.Passed.{Passed, check_passed}
use Rattle.route.specs.Finding.{found_into}
use Rattle.model.specs.Refusals.{handed_on, not_accepted}

-- how many steps were found
steps_found : (found : Found) → routed_steps (Ok (outcome found)) ≡ length (step_list found)
unfolding outcome step_list
steps_found (found_as.route steps leg run) = refl
steps_found found_as.none = refl

module _ (st : List ℕ) (source goal : ℕ) (list : List ℕ) where
  -- 25 "more steps than the lent list holds"
  abbrev room_number : Found → ℕ
  room_number found = refuse (ltb (length list / 6) (length (step_list found))) 25 0

  -- a refusal by its number, and that it leaves the list
  pub route_kept : (r : Refusal) → number r ≡ route_number st source goal (length list / 6) → list ≡ route_flat st source goal list
  unfolding route_flat
  route_kept r e = rw (← e) (not_accepted (number r) _ list (some_number r))

  pub refused_store : (r : Refusal) → number r ≡ check_number st → number r ≡ route_number st source goal (length list / 6)
  unfolding route_number
  refused_store r e = handed_on r _ _ e

  -- the store is opened
  module _ {m : Measures} (p : Passed m st) {size : ℕ} (all : size ≡ cells m) where
    past : route_number st source goal (length list / 6) ≡ refuse (leb size source) 23 (refuse (leb size goal) 24 (room_number (route_of (decode st) source goal)))
    unfolding route_number found_number or_else decode
    past = let e : size ≡ cells (measures_at st) = all ∙ ap cells p.read in rw (check_passed p, e)

    pub refused_23 : size ≤ source → 23 ≡ route_number st source goal (length list / 6)
    unfolding refuse
    refused_23 h = sym (past ∙ rw (le-leb size source h))

    module _ (from : source < size) where
      pub refused_24 : size ≤ goal → 24 ≡ route_number st source goal (length list / 6)
      unfolding refuse
      refused_24 h = sym (past ∙ rw (lt-leb size source from, le-leb size goal h))

      module _ (to : goal < size) where
        last : route_number st source goal (length list / 6) ≡ room_number (route_of (decode st) source goal)
        unfolding refuse
        last = past ∙ rw (lt-leb size source from, lt-leb size goal to)

        -- 25 where the list holds fewer steps
        module _ {found : Option Route} {out : List ℕ} (is_found : found ≡ outcome (route_of (decode st) source goal)) (came : out ≡ found_into (route_of (decode st) source goal) list)
            {steps room : ℕ} (counted : steps ≡ routed_steps (Ok found)) (same : room ≡ length list / 6) where
          steps_are : steps ≡ length (step_list (route_of (decode st) source goal))
          steps_are = counted ∙ ap (λ (f : Option Route). routed_steps (Ok f)) is_found ∙ steps_found (route_of (decode st) source goal)

          pub refused_25 : room < steps → (25 ≡ route_number st source goal (length list / 6)) × (out ≡ list)
          unfolding refuse found_into
          refused_25 h =
              let short = lt-ltb (length list / 6) (length (step_list (route_of (decode st) source goal))) (omega (arith, steps_are)) in
              (sym (last ∙ rw short), came ∙ rw short)

          pub routed_all : steps ≤ room → RouteAnswers st source goal (length list / 6) (Ok found) × (out ≡ route_flat st source goal list)
          unfolding refuse route_flat if_accepted found_into
          routed_all h =
              let enough = le-ltb (length list / 6) (length (step_list (route_of (decode st) source goal))) (omega (arith, steps_are)) in
              let zero : route_number st source goal (length list / 6) ≡ 0 = last ∙ rw enough in
              (routed_as (given_as (sym zero) is_found), rw zero (came ∙ rw enough refl))
