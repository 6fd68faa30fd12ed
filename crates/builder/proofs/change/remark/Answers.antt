-- `remark` marks the sectors of the nine places one after the other.
use mathlib.Core.Path.{◌∙◌}
use Rattle.laws.specs.Fold.{ran_turn, ran_end, counting}
use Rattle.sector_cost.specs.Places.{place_some, place_none}
use Rattle.builder.specs.Around.{sector_fresh}
use Rattle.builder.proofs.Around.{remarked_by}
use borrow.Author.Rules.{rules}
use Rattle.builder.proofs.change.remark.Goals as goal
use Rattle.builder.proofs.change.remark.Goals.{in-Some, in_default}

pub loop-k-init : goal.loop-k-init
loop-k-init c = search (rules, counting)

pub loop-k-preserved : goal.loop-k-preserved
loop-k-preserved c =
    let step = sector_fresh c.args.m c.args.costs.now in
    let xs = c.loop-k.marks in
    ran_turn c.loop-k.invariant (search rules)
    (elim c.match-nearby_sector.branch [
      | in-Some w ↦ w.marks-is ∙ w.remark_sector.ensures ∙ place_some step _ _ _ xs c.nearby_sector.ensures w.in-Some.is
      | in_default w ↦ w.marks-is ∙ place_none step _ _ xs c.nearby_sector.ensures w.in_default.is
    ])
    (search rules)

pub returns : goal.returns
returns c = ran_end c.loop-k.invariant (search rules) ∙ remarked_by _ _ _ _ (search rules)
