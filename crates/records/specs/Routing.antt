-- A route call on a flat list of room for the steps of as many records, or for 1,001: the answer is that of the records, and so are the steps.
use Prim.Native.Nat.{ℕ, zero, suc, ◌/◌, ◌≤◌, ◌<◌, min}
use native.Mathlib.Omega.{arith}
use Rattle.std.specs.Prelude.{◌≡◌, ◌⊎◌}
use Rattle.std.proofs.Math.Path.{refl, sym, ap}
use Rattle.std.proofs.Common.{◌∙◌, inl, inr, subst}
use mathlib.Core.List.{List, [], ◌++◌, append_assoc}
use Rattle.std.proofs.Math.Dec.{ltb}
use Rattle.std.proofs.Math.ListN.{length, drop}
use borrow.Author.Tests.{ltb-false, le-ltb}
use Rattle.laws.specs.Ladder.{passed}
use Rattle.laws.specs.Graph.{below_or}
use Rattle.model.specs.declared.RouteStep.{RouteStep}
use Rattle.model.specs.Numbers.{answered}
use Rattle.model.specs.Steps.{flat_steps}
use Rattle.model.specs.FlatSteps.{steps_in, no_steps_in, steps_back}
use Rattle.model.specs.Route.{Found, route, none, route_of}
use Rattle.model.specs.Store.{decode}
use Rattle.model.specs.Calls.{or_else, if_accepted, check_number, step_list, found_number, route_number, outcome, Routed, routed, routed_steps, route_steps, route_flat}
use Rattle.model.specs.Answers.{RoutedAs, RouteAnswers}
use Rattle.model.specs.Checked.{checked}
use Rattle.model.specs.FewSteps.{few_steps}
use Rattle.graph.specs.EdgeTable.{checked_fits}

module _ (st : List ℕ) (source goal : ℕ) where
  abbrev found : Found
  found = route_of (decode st) source goal

  -- the same number is refused
  same_number : (room cut : ℕ) → cut ≡ min room 1001 → route_number st source goal cut ≡ route_number st source goal room
  unfolding route_number or_else found_number
  same_number room cut c = go (check_number st) refl
    where
      test : length (step_list found) ≤ 1001 → (room < 1001) ⊎ (1001 ≤ room) → ltb cut (length (step_list found)) ≡ ltb room (length (step_list found))
      test few (inl l) = let e : cut ≡ room = omega arith in ap (λ (k : ℕ). ltb k (length (step_list found))) e
      test few (inr l) = le-ltb cut (length (step_list found)) (omega arith) ∙ sym (le-ltb room (length (step_list found)) (omega arith))

      go : (n : ℕ) → check_number st ≡ n → or_else n (found_number (decode st) source goal cut found) ≡ or_else n (found_number (decode st) source goal room found)
      go zero e = rw (test (few_steps (decode st) (checked_fits (checked st e)) source goal) (below_or room 1001))
      go (suc n) e = refl

  -- where none is refused the steps fit
  steps_fit : (room : ℕ) → route_number st source goal room ≡ 0 → (length (step_list found) ≤ room) × (length (step_list found) ≤ 1001)
  unfolding route_number or_else found_number
  steps_fit room = go (check_number st) refl
    where
      go : (n : ℕ) → check_number st ≡ n → or_else n (found_number (decode st) source goal room found) ≡ 0 → (length (step_list found) ≤ room) × (length (step_list found) ≤ 1001)
      go zero e z =
          let a = passed _ 22 _ z in
          let b = passed _ 23 _ a.1 in
          let c = passed _ 24 _ b.1 in
          (ltb-false room (length (step_list found)) c.0, few_steps (decode st) (checked_fits (checked st e)) source goal)
      go (suc n) e z = absurd (omega arith)

  -- the steps of an answer, which are in front of a flat list
  pub record Flatly (room : ℕ) (answer : Routed) (flat : List ℕ) : Type 0 where
    pub fit : (routed_steps answer ≤ room) × (routed_steps answer ≤ 1001)
    pub holds : steps_in (routed_steps answer) flat ≡ if_accepted (route_number st source goal room) (step_list found) []

  counted : (n : ℕ) (f : Found) (room : ℕ) → (n ≡ 0 → (length (step_list f) ≤ room) × (length (step_list f) ≤ 1001)) → (routed_steps (routed n f) ≤ room) × (routed_steps (routed n f) ≤ 1001)
  unfolding answered outcome step_list
  counted zero (route steps leg run) room fits = fits refl
  counted zero none room fits = (omega arith, omega arith)
  counted (suc n) f room fits = (omega arith, omega arith)

  fronted : (n : ℕ) (f : Found) (tail old rest : List ℕ) → steps_in (routed_steps (routed n f)) (if_accepted n (flat_steps (step_list f) ++ tail) old ++ rest) ≡ if_accepted n (step_list f) []
  unfolding answered outcome step_list if_accepted
  fronted zero (route steps leg run) tail old rest = ap (steps_in (length steps)) (append_assoc (flat_steps steps) tail rest) ∙ steps_back steps (tail ++ rest)
  fronted zero none tail old rest = no_steps_in _
  fronted (suc n) f tail old rest = no_steps_in _

  -- a route call on the part of a flat list that is room enough
  pub flatly : (part rest : List ℕ) {room cut : ℕ} {answer : Routed} {new flat : List ℕ} → cut ≡ min room 1001 → length part / 6 ≡ cut → RouteAnswers st source goal (length part / 6) answer
      → new ≡ route_flat st source goal part → flat ≡ new ++ rest
      → RouteAnswers st source goal room answer × Flatly room answer flat
  unfolding route_flat
  flatly part rest {room} {cut} {answer} {new} {flat} c long is came all =
      let bytes : List ℕ = flat_steps (step_list found) in
      let same : route_number st source goal (length part / 6) ≡ route_number st source goal room = ap (route_number st source goal) long ∙ same_number room cut c in
      let is_same : RouteAnswers st source goal room answer = subst (λ (k : ℕ). RoutedAs k found answer) same is in
      let written : flat ≡ if_accepted (route_number st source goal room) (bytes ++ drop (length bytes) part) part ++ rest =
      all ∙ ap (λ (l : List ℕ). l ++ rest) (came ∙ ap (λ (k : ℕ). if_accepted k (bytes ++ drop (length bytes) part) part) same) in (
        is_same,
        rw (is_same.case_is, written)
            (record { fit = counted (route_number st source goal room) found room (steps_fit room); holds = fronted (route_number st source goal room) found (drop (length bytes) part) part rest }),
      )

  -- the records that are written from it
  pub recorded : {answer : Routed} {flat : List ℕ} (list : List RouteStep) → RouteAnswers st source goal (length list) answer → Flatly (length list) answer flat
      → steps_in (routed_steps answer) flat ++ drop (routed_steps answer) list ≡ route_steps st source goal list
  unfolding route_steps answered outcome step_list if_accepted
  recorded {answer} list is f =
      ap (λ (l : List RouteStep). l ++ drop (routed_steps answer) list) f.holds
      ∙ ap (λ (a : Routed). if_accepted (route_number st source goal (length list)) (step_list found) [] ++ drop (routed_steps a) list) is.case_is ∙ go (route_number st source goal (length list)) found
    where
      go : (n : ℕ) (o : Found) → if_accepted n (step_list o) [] ++ drop (routed_steps (routed n o)) list ≡ if_accepted n (step_list o ++ drop (length (step_list o)) list) list
      go zero (route steps leg run) = refl
      go zero none = refl
      go (suc n) o = refl
