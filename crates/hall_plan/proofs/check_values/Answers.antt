-- `check_values` climbs the ladder of the refusals that look at one value: each return is a rung of it.
use lib.Ieee.{of_bits}
use Rattle.laws.specs.Ladder.{ladder}
use Rattle.model.specs.Calls.{value_number}
use Rattle.hall_plan.proofs.check_values.Goals as goal

pub returns-then-not_finite : goal.returns-then-not_finite
unfolding value_number of_bits
returns-then-not_finite c = search ladder depth 9

pub returns-then-d : goal.returns-then-d
unfolding value_number of_bits
returns-then-d c = search ladder depth 9

pub returns-then-d-2 : goal.returns-then-d-2
unfolding value_number of_bits
returns-then-d-2 c = search ladder depth 9

pub returns-then-d-3 : goal.returns-then-d-3
unfolding value_number of_bits
returns-then-d-3 c = search ladder depth 9

pub returns : goal.returns
unfolding value_number of_bits
returns c = search ladder depth 9
