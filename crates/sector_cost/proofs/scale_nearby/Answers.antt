-- `scale_nearby` is the run over its places.
use mathlib.Core.Path.{◌∙◌}
use Rattle.laws.specs.Fold.{ran_turn, counting}
use Rattle.model.specs.Scaling.{scale_sector}
use Rattle.sector_cost.specs.Places.{place_some, place_none}
use borrow.Author.Rules.{rules}
use Rattle.sector_cost.proofs.scale_nearby.Goals as goal
use Rattle.sector_cost.proofs.scale_nearby.Goals.{in-Some, in_default}

pub loop-k-init : goal.loop-k-init
loop-k-init c = (search (rules, counting), search rules)

pub loop-k-preserved : goal.loop-k-preserved
loop-k-preserved c =
    let step = scale_sector c.args.m c.args.base.now in
    let xs = c.loop-k.scaled in (
      ran_turn c.loop-k.invariant.0 (search rules)
          (elim c.match-nearby_sector.branch [
            | in-Some w ↦ w.scaled-is ∙ w.scale_costfield.ensures.list ∙ place_some step _ _ _ xs c.nearby_sector.ensures w.in-Some.is
            | in_default w ↦ w.scaled-is ∙ place_none step _ _ xs c.nearby_sector.ensures w.in_default.is
          ])
          (search rules),
      search rules,
    )
