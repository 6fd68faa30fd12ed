-- `reset_nearby` is the run over its places.
use Rattle.laws.specs.Fold.{Ran}
use Rattle.model.specs.Change.{reset_sector}
use Rattle.model.specs.Nearby.{at_nearby}
use Rattle.sector_cost.proofs.reset_nearby.Given as goal

abbrev pub invariant-loop-k : goal.invariant-loop-k
invariant-loop-k l = Ran (at_nearby l.m l.t (reset_sector l.base)) 9 l.k l.initial.scaled l.scaled
