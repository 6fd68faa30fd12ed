-- `remark` marks the sectors of the nine places one after the other.
use Rattle.laws.specs.Fold.{Ran}
use Rattle.model.specs.Nearby.{at_nearby}
use Rattle.builder.specs.Around.{sector_fresh}
use Rattle.builder.proofs.change.remark.Given as goal

abbrev pub invariant-loop-k : goal.invariant-loop-k
invariant-loop-k l = Ran (at_nearby l.m l.t (sector_fresh l.m l.costs)) 9 l.k l.initial.marks l.marks
