-- `scale_costfield` is the run over the cells of a sector.
use Rattle.laws.specs.Fold.{Ran}
use Rattle.model.specs.Scaling.{scale_cell}
use Rattle.walks.specs.Walks.{Shows}
use Rattle.sector_cost.proofs.scale_costfield.Given as goal

abbrev pub invariant-loop-index : goal.invariant-loop-index
invariant-loop-index l = Ran (scale_cell l.m l.base l.sector) 100 l.index l.initial.scaled l.scaled × Shows l.m l.sector l.corner l.scaled l.board
