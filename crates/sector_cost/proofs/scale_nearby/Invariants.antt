-- `scale_nearby` is the run over its places.
use mathlib.Core.Path.{◌≡◌}
use Rattle.laws.specs.Fold.{Ran}
use Rattle.model.specs.Scaling.{scale_sector}
use Rattle.model.specs.Nearby.{at_nearby}
use Rattle.walks.specs.Board.{board_of}
use Rattle.sector_cost.proofs.scale_nearby.Given as goal

abbrev pub invariant-loop-k : goal.invariant-loop-k
invariant-loop-k l = Ran (at_nearby l.m l.t (scale_sector l.m l.base)) 9 l.k l.initial.scaled l.scaled × (l.board ≡ board_of l.m l.scaled)
