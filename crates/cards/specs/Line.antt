-- The text of a line, from an answer and the flat form of its steps, and that it is the line of what was found where these are.
use Rattle.std.specs.Prelude.{◌≡◌, List, ◌++◌, ℕ, zero, suc, Some, None, Ok, Err, length}
use Rattle.std.proofs.Common.{ap}
use Rattle.model.specs.declared.Route.{Route}
use Rattle.model.specs.Numbers.{number, answered}
use Rattle.model.specs.Steps.{flat_steps}
use Rattle.model.specs.FlatSteps.{steps_in, steps_back}
use Rattle.model.specs.Route.{Found, none, route}
use Rattle.model.specs.Calls.{step_list, outcome, Routed}
use Rattle.model.specs.Answers.{RoutedAs}
use Rattle.model.specs.Hallroute.{text, decimal, steps_text, answer_text}

-- what stands after source and goal
unfoldable pub route_text : Route → List ℕ → List ℕ
route_text r flat = text " " ++ (decimal r.steps ++ (text " " ++ (decimal r.leg ++ (text " " ++ (decimal r.run ++ steps_text (steps_in r.steps flat))))))

unfoldable pub routed_text : Routed → List ℕ → List ℕ
routed_text (Ok (Some r)) flat = route_text r flat
routed_text (Ok None) flat = text " none"
routed_text (Err e) flat = text " no " ++ decimal (number e)

unfoldable pub line_of : ℕ → ℕ → Routed → List ℕ → List ℕ
line_of source goal answer flat = decimal source ++ (text " " ++ (decimal goal ++ (routed_text answer flat ++ text "\n")))

-- ---- the line of what a route call answered
routed_text_lem : (n : ℕ) (found : Found) {answer : Routed} (rest : List ℕ) → RoutedAs n found answer → routed_text answer (flat_steps (step_list found) ++ rest) ≡ answer_text n found
unfolding route_text routed_text answered outcome answer_text step_list
routed_text_lem zero (route steps leg run) rest a =
    rw a.case_is (ap (λ l. text " " ++ (decimal (length steps) ++ (text " " ++ (decimal leg ++ (text " " ++ (decimal run ++ steps_text l)))))) (steps_back steps rest))
routed_text_lem zero none rest a = rw a.case_is
routed_text_lem (suc n) found rest a = rw a.case_is (ap (λ k. text " no " ++ decimal k) (rw a.case_is at a.number_is))

pub line_of_found : (source goal n : ℕ) (found : Found) {answer : Routed} (rest : List ℕ) → RoutedAs n found answer
    → line_of source goal answer (flat_steps (step_list found) ++ rest) ≡ decimal source ++ (text " " ++ (decimal goal ++ (answer_text n found ++ text "\n")))
unfolding line_of
line_of_found source goal n found rest a = rw (routed_text_lem n found rest a)

-- a refusal's line reads no step
pub line_of_refused : (source goal n : ℕ) (found : Found) {answer : Routed} (flat : List ℕ) → RoutedAs (suc n) found answer
    → line_of source goal answer flat ≡ decimal source ++ (text " " ++ (decimal goal ++ (answer_text (suc n) found ++ text "\n")))
unfolding line_of routed_text answered answer_text
line_of_refused source goal n found flat a =
    rw a.case_is (ap (λ k. decimal source ++ (text " " ++ (decimal goal ++ ((text " no " ++ decimal k) ++ text "\n")))) (rw a.case_is at a.number_is))
