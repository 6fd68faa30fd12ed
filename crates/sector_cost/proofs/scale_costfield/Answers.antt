-- `scale_costfield` is the run over the cells of a sector.
use Rattle.laws.specs.Fold.{counting}
use borrow.Author.Rules.{rules}
use Rattle.sector_cost.proofs.scale_costfield.Goals as goal

pub loop-index-init : goal.loop-index-init
loop-index-init c = (search (rules, counting), search rules)

pub loop-index-preserved : goal.loop-index-preserved
loop-index-preserved c = (search (rules, counting), search rules)
