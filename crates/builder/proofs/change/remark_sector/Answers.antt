-- `remark_sector` marks the sides of a sector one after the other.
use Rattle.laws.specs.Fold.{ran_turn, counting}
use Rattle.builder.specs.Around.{sector_fresh}
use native.Mathlib.Omega.{arith}
use borrow.Author.Rules.{rules}
use Rattle.builder.proofs.Marking.{fresh_set}
use Rattle.builder.proofs.change.remark_sector.Goals as goal

pub loop-i-init : goal.loop-i-init
loop-i-init c = search (rules, counting)

pub loop-i-preserved : goal.loop-i-preserved
loop-i-preserved c = ran_turn c.loop-i.invariant (search rules) (fresh_set _ _ _ _ c.args.s c.loop-i.i _ (omega arith) (omega arith) c.side_mark.ensures) (search rules)

pub returns : goal.returns
unfolding sector_fresh
returns c = search (rules, counting)
