-- The number and values of each answer, as the structs that the calls for C return.
use Rattle.std.specs.Prelude.{ℕ, Float, Result, length}
use Rattle.model.specs.declared.Measures.{Measures}
use Rattle.model.specs.declared.Dimensions.{Dimensions}
use Rattle.model.specs.declared.Refusal.{Refusal}
use Rattle.model.specs.Numbers.{number_of, value_of}
use Rattle.model.specs.Route.{Found}
use Rattle.model.specs.Calls.{if_accepted, measures_of, step_list, Routed, routed_steps, routed_leg, routed_run}
use Rattle.model.specs.Answers.{found_leg, found_run}
use Rattle.hall_c.specs.declared.MeasuresAnswer.{MeasuresAnswer}
use Rattle.hall_c.specs.declared.RouteAnswer.{RouteAnswer}
use Rattle.hall_c.specs.declared.WindowsAnswer.{WindowsAnswer}
use Rattle.hall_c.specs.declared.FileAnswer.{FileAnswer}

-- HALL_VERSION of include/hall.h
abbrev pub version : ℕ
version = 3

abbrev pub dimensions : Float → Float → Float → Float → Dimensions
dimensions x y unit radius = record { size_x = x; size_y = y; unit = unit; radius = radius }

-- ---- by the number, and what is given where that is 0
abbrev measures_answer : ℕ → Measures → MeasuresAnswer
measures_answer n m = record { number = n; columns = m.columns; rows = m.rows; scale = m.scale }

abbrev pub flat_measures : ℕ → Measures → MeasuresAnswer
flat_measures n m = measures_answer n (if_accepted n m (measures_of 0 0 0))

abbrev pub flat_route : ℕ → Found → RouteAnswer
flat_route n found = record { number = n; steps = if_accepted n (length (step_list found)) 0; leg = if_accepted n (found_leg found) 0; run = if_accepted n (found_run found) 0 }

abbrev pub flat_windows : ℕ → ℕ → WindowsAnswer
flat_windows n count = record { number = n; count = if_accepted n count 0 }

abbrev pub flat_file : ℕ → ℕ → FileAnswer
flat_file n size = record { number = n; length = if_accepted n size 0 }

-- ---- of an answer in Rattle
abbrev pub of_measures : Result Measures Refusal → MeasuresAnswer
of_measures a = measures_answer (number_of a) (value_of (measures_of 0 0 0) a)

abbrev pub of_route : Routed → RouteAnswer
of_route a = record { number = number_of a; steps = routed_steps a; leg = routed_leg a; run = routed_run a }

abbrev pub of_windows : Result ℕ Refusal → WindowsAnswer
of_windows a = record { number = number_of a; count = value_of 0 a }

abbrev pub of_file : Result ℕ Refusal → FileAnswer
of_file a = record { number = number_of a; length = value_of 0 a }
