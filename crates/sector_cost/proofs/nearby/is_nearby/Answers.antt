-- `is_nearby` searches the nine places.
use Rattle.std.specs.Prelude.{◌&&◌, eqb}
use Rattle.std.proofs.Common.{rules, tests, refl}
use Rattle.laws.specs.Ranges.{any_range}
use Rattle.model.specs.Change.{nearby, is_there, is_nearby}
use Rattle.sector_cost.proofs.nearby.is_nearby.Goals as goal

pub returns : goal.returns
unfolding is_nearby
returns c =
    any_range (λ k. is_there c.args.m c.args.t k && eqb (nearby c.args.m c.args.t k) c.args.s) _ _ _ _ _ c.any.ensures.ran refl (λ x b q k. search (rules, tests))
