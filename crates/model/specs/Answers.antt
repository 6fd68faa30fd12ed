-- What a call that answers a value promises: 01's or 02's number and values, by their definition for each case, and the case that follows from the number.
use Rattle.std.specs.Prelude.{◌≡◌, refl, List, ℕ, zero, suc, ◌≤◌, None, Result, Ok, Err, length}
use Rattle.std.proofs.Common.{ap, sym, ◌∙◌, arith}
use Rattle.std.specs.Result.{IsErrAnd}
use Rattle.std.proofs.lemmas.Result.{err_from_is_err_and}
use Rattle.model.specs.declared.Measures.{Measures}
use Rattle.model.specs.declared.Dimensions.{Dimensions}
use Rattle.model.specs.declared.Refusal.{Refusal}
use Rattle.model.specs.Numbers.{number, refusal, refusal_lem, number_lem, some_number, answered, number_of, value_of}
use Rattle.model.specs.Route.{Found, none, route, route_of}
use Rattle.model.specs.Store.{measures_at, decode, file_in}
use Rattle.model.specs.Refusals.{few}
use Rattle.model.specs.Calls.{if_accepted, measures_of, value_number, measure_number, plan_number, plan_measures, plan_answer, form_number, entries_number, read_number, read_answer, check_number}
use Rattle.model.specs.Calls.{step_list, found_number, route_number, Routed, outcome, routed, route_answer, routed_steps, routed_leg, routed_run}
use Rattle.model.specs.Calls.{windows_of, windows_number, windows_answer, write_number, write_answer}

-- the number and the value of an answer, where `none` stands for the value of a refusal
pub record AnswersAs {A : Type 0} (none : A) (n : ℕ) (v : A) (answer : Result A Refusal) : Type 0 where
  pub number_is : number_of answer ≡ n
  pub value_is : value_of none answer ≡ if_accepted n v none
  pub case_is : answer ≡ answered n v

-- a refusal by its number, and a value where that is 0
pub refused_as : {A : Type 0} {none v : A} {n : ℕ} {r : Refusal} → number r ≡ n → AnswersAs none n v (Err r)
unfolding answered if_accepted
refused_as {A} {none} {v} {n} {r} e = go n e
  where
    go : (k : ℕ) → number r ≡ k → AnswersAs none k v (Err r)
    go zero h = absurd (omega (arith, some_number r))
    go (suc k) h =
        let f : Refusal → Result A Refusal = λ x. Err x in
        record { number_is = h; value_is = refl; case_is = sym (ap f (ap refusal (sym h) ∙ refusal_lem r)) }

pub given_as : {A : Type 0} {none v w : A} {n : ℕ} → 0 ≡ n → w ≡ v → AnswersAs none n v (Ok w)
unfolding answered if_accepted
given_as {A} {none} {v} {w} {n} e f = let ok : A → Result A Refusal = λ x. Ok x in rw (← e) (record { number_is = refl; value_is = f; case_is = ap ok f })

-- the answer that a definition gives, whose number is one of the refusals' or 0
pub answered_as : {A : Type 0} (none : A) (n : ℕ) (v : A) {answer : Result A Refusal} → n ≤ 29 → answer ≡ answered n v → AnswersAs none n v answer
unfolding answered
answered_as _ zero v h e = rw e (given_as refl refl)
answered_as _ (suc n) v h e = rw e (refused_as (number_lem n h))

-- the refusal of an earlier call, handed on
pub refused_on : {A : Type 0} {none v : A} {n : ℕ} (answer : Result A Refusal) (r : Refusal) → IsErrAnd answer (λ e. e ≡ r) → number r ≡ n → AnswersAs none n v answer
refused_on {A} {none} {v} {n} answer r e h = let p = err_from_is_err_and answer e in rw (p.1, p.2) (refused_as h)

-- ---- plan and read file
abbrev pub PlanAnswers : Dimensions → Result Measures Refusal → Type 0
PlanAnswers d answer = AnswersAs (measures_of 0 0 0) (plan_number d) (plan_measures d) answer

pub plan_answers : (d : Dimensions) {answer : Result Measures Refusal} → answer ≡ plan_answer d → PlanAnswers d answer
unfolding plan_answer plan_number value_number measure_number
plan_answers d e = answered_as (measures_of 0 0 0) (plan_number d) (plan_measures d) (search few depth 12) e

pub plan_case : (d : Dimensions) {answer : Result Measures Refusal} → PlanAnswers d answer → answer ≡ plan_answer d
unfolding plan_answer
plan_case d a = a.case_is

abbrev pub ReadAnswers : List ℕ → ℕ → Result Measures Refusal → Type 0
ReadAnswers file size answer = AnswersAs (measures_of 0 0 0) (read_number file size) (measures_at file) answer

pub read_answers : (file : List ℕ) (size : ℕ) {answer : Result Measures Refusal} → answer ≡ read_answer file size → ReadAnswers file size answer
unfolding read_answer read_number form_number entries_number
read_answers file size e = answered_as (measures_of 0 0 0) (read_number file size) (measures_at file) (search few depth 12) e

pub read_case : (file : List ℕ) (size : ℕ) {answer : Result Measures Refusal} → ReadAnswers file size answer → answer ≡ read_answer file size
unfolding read_answer
read_case file size a = a.case_is

-- ---- route
abbrev pub found_leg : Found → ℕ
found_leg (route steps leg run) = leg
found_leg none = 0

abbrev pub found_run : Found → ℕ
found_run (route steps leg run) = run
found_run none = 0

pub record RoutedAs (n : ℕ) (found : Found) (answer : Routed) : Type 0 where
  pub number_is : number_of answer ≡ n
  pub steps_are : routed_steps answer ≡ if_accepted n (length (step_list found)) 0
  pub leg_is : routed_leg answer ≡ if_accepted n (found_leg found) 0
  pub run_is : routed_run answer ≡ if_accepted n (found_run found) 0
  pub case_is : answer ≡ routed n found

pub routed_as : {n : ℕ} {found : Found} {answer : Routed} → AnswersAs None n (outcome found) answer → RoutedAs n found answer
unfolding answered if_accepted step_list outcome
routed_as {n} {found} {answer} a = go n found a
  where
    go : (k : ℕ) (f : Found) → AnswersAs None k (outcome f) answer → RoutedAs k f answer
    go zero (route steps leg run) b = record { number_is = b.number_is; steps_are = ap routed_steps b.case_is; leg_is = ap routed_leg b.case_is; run_is = ap routed_run b.case_is; case_is = b.case_is }
    go zero none b = record { number_is = b.number_is; steps_are = ap routed_steps b.case_is; leg_is = ap routed_leg b.case_is; run_is = ap routed_run b.case_is; case_is = b.case_is }
    go (suc k) f b = record { number_is = b.number_is; steps_are = ap routed_steps b.case_is; leg_is = ap routed_leg b.case_is; run_is = ap routed_run b.case_is; case_is = b.case_is }

abbrev pub RouteAnswers : List ℕ → ℕ → ℕ → ℕ → Routed → Type 0
RouteAnswers st source goal room answer = RoutedAs (route_number st source goal room) (route_of (decode st) source goal) answer

pub route_answers : (st : List ℕ) (source goal room : ℕ) {answer : Routed} → answer ≡ route_answer st source goal room → RouteAnswers st source goal room answer
unfolding route_answer route_number check_number found_number
route_answers st source goal room e = routed_as (answered_as None (route_number st source goal room) (outcome (route_of (decode st) source goal)) (search few depth 12) e)

pub route_case : (st : List ℕ) (source goal room : ℕ) {answer : Routed} → RouteAnswers st source goal room answer → answer ≡ route_answer st source goal room
unfolding route_answer
route_case st source goal room a = a.case_is

-- ---- windows
abbrev pub WindowsAnswers : List ℕ → ℕ → ℕ → Result ℕ Refusal → Type 0
WindowsAnswers st s room answer = AnswersAs 0 (windows_number st s room) (length (windows_of (decode st) s)) answer

pub windows_answers : (st : List ℕ) (s room : ℕ) {answer : Result ℕ Refusal} → answer ≡ windows_answer st s room → WindowsAnswers st s room answer
unfolding windows_answer windows_number check_number
windows_answers st s room e = answered_as 0 (windows_number st s room) (length (windows_of (decode st) s)) (search few depth 12) e

pub windows_case : (st : List ℕ) (s room : ℕ) {answer : Result ℕ Refusal} → WindowsAnswers st s room answer → answer ≡ windows_answer st s room
unfolding windows_answer
windows_case st s room a = a.case_is

-- ---- write file
abbrev pub WriteAnswers : List ℕ → ℕ → Result ℕ Refusal → Type 0
WriteAnswers st room answer = AnswersAs 0 (write_number st room) (length (file_in st)) answer

pub write_answers : (st : List ℕ) (room : ℕ) {answer : Result ℕ Refusal} → answer ≡ write_answer st room → WriteAnswers st room answer
unfolding write_answer write_number check_number
write_answers st room e = answered_as 0 (write_number st room) (length (file_in st)) (search few depth 12) e

pub write_case : (st : List ℕ) (room : ℕ) {answer : Result ℕ Refusal} → WriteAnswers st room answer → answer ≡ write_answer st room
unfolding write_answer
write_case st room a = a.case_is
