-- `check_form` climbs the ladder of the refusals of a file's form: each return goes by what the tests before it found.
use Rattle.std.proofs.Common.{◌∙◌}
use borrow.Author.Tests.{lt-ltb, le-ltb}
use Rattle.laws.specs.Ladder.{refuse_here, refuse_past, flag}
use Rattle.model.specs.Numbers.{number_on, some_number}
use Rattle.model.specs.Calls.{form_number}
use Rattle.store.specs.Checks.{measures_refused, measures_passed, measures_found}
use borrow.Author.Rules.{rules}
use Rattle.hall_file.proofs.read.check_form.Goals as goal

pub returns-then-file-lt5 : goal.returns-then-file-lt5
unfolding form_number
returns-then-file-lt5 c = search (rules, refuse_here, lt-ltb)

pub returns-in_err-check_measures : goal.returns-in_err-check_measures
unfolding form_number
returns-in_err-check_measures c =
    number_on _ _ c.from_residual.ensures.1 ∙ search (rules, refuse_past, le-ltb, measures_refused, measures_found, some_number, c.in_err-check_measures.ensures) depth 20

pub returns-then-too_many : goal.returns-then-too_many
unfolding form_number
returns-then-too_many c = search (rules, refuse_here, refuse_past, le-ltb, measures_passed, measures_found, c.in_ok-check_measures.ensures, flag) depth 20

pub returns-then-wrong_length : goal.returns-then-wrong_length
unfolding form_number
returns-then-wrong_length c = search (rules, refuse_here, refuse_past, le-ltb, measures_passed, measures_found, c.in_ok-check_measures.ensures, flag) depth 20

pub returns : goal.returns
unfolding form_number
returns c = search (rules, refuse_past, le-ltb, measures_passed, measures_found, c.in_ok-check_measures.ensures, flag) depth 20
