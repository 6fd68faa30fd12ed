-- `any_end` searches the sides.
use Rattle.std.proofs.Common.{rules, tests, Bool}
use Rattle.std.proofs.lemmas.Iterator.{YieldsList-from_slice}
use Rattle.std.proofs.lemmas.Iterator.Search.{any_from_yields_List}
use Rattle.fields.specs.declared.sides.TheConstants.{SIDES}
use Rattle.fields.specs.Sides.{any_side}
use Rattle.model.specs.declared.Side.{Side}
use Rattle.model.specs.Cells.{side_number}
use Rattle.laws.specs.Search.{any, first}
use Rattle.store.specs.Stored.{held}
use Rattle.store.specs.Ends.{side_ends}
use Rattle.store.proofs.check.any_end.Goals as goal

pub returns : goal.returns
unfolding any first
returns c =
    let test : Side → Bool = λ side. side_ends c.args.store.now.measures (held c.args.store.now).marks (side_number side) in
    any_side test (any_from_yields_List test _ _ _ c.any.ensures.ran (YieldsList-from_slice SIDES cc) (λ x b q k. search (rules, tests)))
