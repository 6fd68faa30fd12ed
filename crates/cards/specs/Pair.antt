-- The line of what a route call answers and leaves in a list of 1,001 steps: it is the text of the pair.
use Rattle.std.specs.Prelude.{◌≡◌, refl, List, ◌++◌, ℕ, zero, suc, ◌/◌, ◌≤◌, length, drop}
use Rattle.std.proofs.Common.{arith, ltb-false}
use Rattle.laws.specs.Ladder.{passed}
use Rattle.model.specs.Steps.{flat_steps}
use Rattle.model.specs.Route.{Found, route_of}
use Rattle.model.specs.Halls.{Hall}
use Rattle.model.specs.Store.{decode}
use Rattle.model.specs.Calls.{or_else, if_accepted, check_number, step_list, found_number, route_number, Routed, route_flat, routed_steps}
use Rattle.model.specs.Answers.{RoutedAs, RouteAnswers}
use Rattle.model.specs.Hallroute.{text, decimal, answer_text, pair_text}
use Rattle.cards.specs.Line.{line_of, line_of_found, line_of_refused}

-- a refusal leaves the list
line_of_left : (source goal n : ℕ) (found : Found) {answer : Routed} (list : List ℕ) → RoutedAs n found answer
    → line_of source goal answer (if_accepted n (flat_steps (step_list found) ++ drop (length (flat_steps (step_list found))) list) list)
    ≡ decimal source ++ (text " " ++ (decimal goal ++ (answer_text n found ++ text "\n")))
unfolding if_accepted
line_of_left source goal zero found list a = line_of_found source goal zero found (drop (length (flat_steps (step_list found))) list) a
line_of_left source goal (suc n) found list a = line_of_refused source goal n found list a

-- A route has no more steps than the room that the call was given.
room_left : (h : Hall) (source goal room : ℕ) (found : Found) → found_number h source goal room found ≡ 0 → length (step_list found) ≤ room
unfolding found_number
room_left h source goal room found e = ltb-false room (length (step_list found)) (passed _ 24 _ (passed _ 23 _ (passed _ 22 _ e).1).1).0

few_routed : (n m room : ℕ) (found : Found) → (m ≡ 0 → length (step_list found) ≤ room) → if_accepted (or_else n m) (length (step_list found)) 0 ≤ room
unfolding or_else if_accepted
few_routed (suc n) m room found fits = omega arith
few_routed zero (suc m) room found fits = omega arith
few_routed zero zero room found fits = fits refl

-- ---- with a list of 6,006 bytes
module _ {answer : Routed} (st : List ℕ) (source goal : ℕ) (list : List ℕ) (answered : RouteAnswers st source goal (length list / 6) answer) (size : length list ≡ 6006) where
  room : length list / 6 ≡ 1001
  room = omega arith

  pub few_steps : routed_steps answer ≤ 1001
  unfolding route_number
  few_steps =
      let found : Found = route_of (decode st) source goal in
      rw (answered.steps_are, room) (few_routed (check_number st) (found_number (decode st) source goal 1001 found) 1001 found (room_left (decode st) source goal 1001 found))

  -- the line is the text of the pair
  pub line_of_pair : {flat : List ℕ} → flat ≡ route_flat st source goal list → line_of source goal answer flat ≡ pair_text st source goal (route_of (decode st) source goal)
  unfolding route_flat route_number pair_text
  line_of_pair left =
      let line = line_of_left source goal (route_number st source goal (length list / 6)) (route_of (decode st) source goal) list answered in
      rw (left, room) (rw room at line)
