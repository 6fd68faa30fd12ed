-- `sector_exceeds` searches the four sides of a sector.
use Rattle.std.specs.Prelude.{[]}
use Rattle.std.proofs.Common.{rules, tests}
use Rattle.std.proofs.lemmas.Iterator.{YieldsList-from_slice}
use Rattle.std.proofs.lemmas.Iterator.Search.{any_from_yields_List}
use Rattle.fields.specs.declared.sides.TheConstants.{SIDES}
use Rattle.fields.specs.Sides.{any_side}
use Rattle.model.specs.Change.{exceeds_at}
use Rattle.store.specs.Layout.{hall_of}
use Rattle.builder.specs.Around.{sector_exceeds}
use Rattle.builder.proofs.change.sector_exceeds.Goals as goal

pub returns : goal.returns
unfolding sector_exceeds
returns c =
    let a = c.args in
    let test = exceeds_at (hall_of a.m [] [] a.marks.now) a.t a.s in
    any_side test (any_from_yields_List test _ _ _ c.any.ensures.ran (YieldsList-from_slice SIDES cc) (λ x b q k. search (rules, tests)))
