-- `whole_near` gives the whole neighbours: each return is a law of Bits.antt.
use native.Mathlib.Omega.{arith}
use Prim.Native.Nat.{◌/◌}
use lib.Ieee.{of_bits}
use borrow.Author.Rules.{rules}
use Rattle.dimensions.proofs.Bits.{Near, digits, part, near_none, near_small, near_large, near_digits}
use Rattle.dimensions.proofs.whole_near.Goals as goal
use Rattle.dimensions.proofs.whole_near.Goals.{After-div_ceil}

pub returns-then-not-q : goal.returns-then-not-q
unfolding of_bits
returns-then-not-q c = search (rules, near_none)

pub returns-then-field-lt127 : goal.returns-then-field-lt127
unfolding of_bits
returns-then-field-lt127 c = near_small _ c.well_formed.0.1 (search rules) c.if-field-lt127.true

pub returns-then-field-gt130 : goal.returns-then-field-gt130
unfolding of_bits
returns-then-field-gt130 c = near_large _ c.well_formed.0.1 (search rules) c.if-field-gt130.true

-- by the digits
by_digits : (c : After-div_ceil) → Near c.args.q (digits c.args.q / part c.args.q) c.div_ceil.result
unfolding of_bits
by_digits c = rw c.div_ceil.ensures (near_digits c.args.q c.well_formed.0.1 (search rules) (omega arith) (omega arith))

pub overflow_cast-result-2 : goal.overflow_cast-result-2
overflow_cast-result-2 c = record { fits = omega (arith, (by_digits c).1) }

pub returns : goal.returns
returns c = by_digits (goal.at.returns c).After-div_ceil
