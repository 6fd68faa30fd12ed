-- `scale_sectors` is the run over its sectors.
use native.Mathlib.Omega.{arith}
use Rattle.laws.specs.Fold.{ran_turn, counting}
use borrow.Author.Rules.{rules}
use Rattle.sector_cost.proofs.scale_sectors.Goals as goal

pub loop-s-init : goal.loop-s-init
loop-s-init c = (search (rules, counting), search rules)

pub loop-s-preserved : goal.loop-s-preserved
loop-s-preserved c = (ran_turn c.loop-s.invariant.0 (omega arith) (search rules) (search rules), search rules)
