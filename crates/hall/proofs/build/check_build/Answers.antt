-- `check_build` climbs the ladder of the refusals of a build.
use Rattle.std.proofs.Common.{◌∙◌}
use Rattle.laws.specs.Ladder.{ladder}
use Rattle.model.specs.Numbers.{number_on, some_number}
use Rattle.model.specs.Calls.{build_number}
use Rattle.store.specs.Checks.{measures_refused, measures_passed}
use borrow.Author.Rules.{rules}
use Rattle.hall.proofs.build.check_build.Goals as goal

pub returns-in_err-check_measures : goal.returns-in_err-check_measures
unfolding build_number
returns-in_err-check_measures c = number_on _ _ c.from_residual.ensures.1 ∙ measures_refused _ _ _ (some_number _) c.in_err-check_measures.ensures

pub returns-then-wrong_size : goal.returns-then-wrong_size
unfolding build_number
returns-then-wrong_size c = measures_passed _ _ _ c.in_ok-check_measures.ensures (search (rules, ladder) depth 20)

pub returns-then-too_short : goal.returns-then-too_short
unfolding build_number
returns-then-too_short c = measures_passed _ _ _ c.in_ok-check_measures.ensures (search (rules, ladder) depth 20)

pub returns : goal.returns
unfolding build_number
returns c = measures_passed _ _ _ c.in_ok-check_measures.ensures (search (rules, ladder) depth 20)
