-- `offer_end`: the end is passed by where it is none or has no more, and takes the offer otherwise.
use native.Mathlib.Omega.{arith}
use Rattle.choice.specs.Ends.{end_weight, tried_none, tried_kept, tried_took}
use Rattle.choice.proofs.ends.offer_end.Goals as goal

pub returns-in_default : goal.returns-in_default
unfolding end_weight
returns-in_default c = record { tried = tried_none _ _ _ c.in_default.is; light = rw c.in_default.is (omega arith) }

pub returns-then-keys-v : goal.returns-then-keys-v
unfolding end_weight
returns-then-keys-v c = record { tried = tried_kept _ _ _ c.in-Some.is (omega arith); light = rw c.in-Some.is (omega arith) }

pub returns : goal.returns
unfolding end_weight
returns c = record { tried = rw c.from.ensures (tried_took _ _ _ c.in-Some.is (omega arith)); light = rw c.in-Some.is (omega arith) }
