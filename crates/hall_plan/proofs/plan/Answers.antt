-- `plan` answers as a plan does: each return is a rung of its ladder.
use lib.Ieee.{of_bits}
use Rattle.laws.specs.Ladder.{ladder}
use Rattle.model.specs.Calls.{measure_number, plan_number}
use Rattle.model.specs.Refusals.{handed_on}
use Rattle.model.specs.Answers.{refused_on}
use Rattle.hall_plan.proofs.Rungs.{rungs}
use Rattle.hall_plan.proofs.plan.Goals as goal

pub returns-in_err-check_values : goal.returns-in_err-check_values
unfolding plan_number
returns-in_err-check_values c = refused_on _ _ c.from_residual.ensures.1 (handed_on _ _ _ c.in_err-check_values.ensures)

pub returns-then-sector_columns-sector_rows : goal.returns-then-sector_columns-sector_rows
unfolding plan_number measure_number of_bits
returns-then-sector_columns-sector_rows c = search (ladder, rungs, c.in_ok-check_values.ensures) depth 9

pub returns-then-d-sector_len : goal.returns-then-d-sector_len
unfolding plan_number measure_number of_bits
returns-then-d-sector_len c = search (ladder, rungs, c.in_ok-check_values.ensures) depth 9

pub returns-then-scale-ge10 : goal.returns-then-scale-ge10
unfolding plan_number measure_number of_bits
returns-then-scale-ge10 c = search (ladder, rungs, c.in_ok-check_values.ensures) depth 9

pub returns-then-scale-eq0 : goal.returns-then-scale-eq0
unfolding plan_number measure_number of_bits
returns-then-scale-eq0 c = search (ladder, rungs, c.in_ok-check_values.ensures) depth 9

pub returns-then-columns-rows : goal.returns-then-columns-rows
unfolding plan_number measure_number of_bits
returns-then-columns-rows c = search (ladder, rungs, c.in_ok-check_values.ensures) depth 9

pub returns : goal.returns
unfolding plan_number measure_number of_bits
returns c = search (ladder, rungs, c.in_ok-check_values.ensures) depth 9
