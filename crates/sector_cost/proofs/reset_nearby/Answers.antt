-- `reset_nearby` is the run over its places.
use mathlib.Core.Path.{◌∙◌}
use Rattle.laws.specs.Fold.{ran_turn, counting}
use Rattle.model.specs.Change.{reset_sector}
use Rattle.sector_cost.specs.Places.{place_some, place_none}
use borrow.Author.Rules.{rules}
use Rattle.sector_cost.proofs.reset_nearby.Goals as goal
use Rattle.sector_cost.proofs.reset_nearby.Goals.{in-Some, in_default}

pub loop-k-init : goal.loop-k-init
loop-k-init c = search (rules, counting)

pub loop-k-preserved : goal.loop-k-preserved
loop-k-preserved c =
    let step = reset_sector c.args.base.now in
    let xs = c.loop-k.scaled in
    ran_turn c.loop-k.invariant (search rules)
    (elim c.match-nearby_sector.branch [
      | in-Some w ↦ w.scaled-is ∙ w.reset_sector.ensures ∙ place_some step _ _ _ xs c.nearby_sector.ensures w.in-Some.is
      | in_default w ↦ w.scaled-is ∙ place_none step _ _ xs c.nearby_sector.ensures w.in_default.is
    ])
    (search rules)
