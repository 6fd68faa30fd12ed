-- `check_file` climbs the ladder of the refusals of a file: each return goes by what the tests before it found.
use Rattle.laws.specs.Ladder.{refuse_here, refuse_past, flag}
use Rattle.model.specs.Calls.{entries_number, read_number}
use Rattle.std.proofs.Common.{◌∙◌}
use Rattle.model.specs.Numbers.{number_on}
use Rattle.model.specs.Refusals.{handed_on, later}
use Rattle.hall_file.proofs.Reading.{form_whole, form_measures, form_head}
use Rattle.store.specs.Checks.{size_found}
use borrow.Author.Rules.{rules}
use Rattle.hall_file.proofs.read.check_file.Goals as goal

pub returns-in_err-check_form : goal.returns-in_err-check_form
unfolding read_number
returns-in_err-check_form c = number_on _ _ c.from_residual.ensures.1 ∙ handed_on _ _ _ c.in_err-check_form.ensures

pub any_off-requires : goal.any_off-requires
any_off-requires c = search (rules, c.in_ok-check_form.ensures, form_whole)

pub returns-then-any_off : goal.returns-then-any_off
unfolding read_number entries_number
returns-then-any_off c = search (rules, c.in_ok-check_form.ensures, later, refuse_here, flag)

pub any_again-requires : goal.any_again-requires
any_again-requires c = search (rules, c.in_ok-check_form.ensures, form_whole, form_measures, flag)

pub returns-then-any_again : goal.returns-then-any_again
unfolding read_number entries_number
returns-then-any_again c = search (rules, c.in_ok-check_form.ensures, later, refuse_here, refuse_past, flag)

pub measures_at-requires : goal.measures_at-requires
measures_at-requires c = search (rules, c.in_ok-check_form.ensures, form_head)

pub returns-then-wrong_size : goal.returns-then-wrong_size
unfolding read_number entries_number
returns-then-wrong_size c = search (rules, c.in_ok-check_form.ensures, later, refuse_here, refuse_past, size_found, flag)

pub returns : goal.returns
unfolding read_number entries_number
returns c = search (rules, c.in_ok-check_form.ensures, later, refuse_past, size_found, flag)
