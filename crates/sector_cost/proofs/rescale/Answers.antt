-- `rescale` resets all nine places before it rescales any; at scale 1 they stay as they were reset.
use Rattle.model.specs.Change.{for_nearby, rescaled}
use Rattle.sector_cost.specs.One.{rescaled_reset}
use Rattle.walks.specs.Showing.{showing_none}
use borrow.Author.Rules.{rules}
use Rattle.sector_cost.proofs.rescale.Goals as goal

pub show_floor-requires : goal.show_floor-requires
show_floor-requires c = (search rules, showing_none c.walls-board.ensures)

pub returns-then-m-ne1 : goal.returns-then-m-ne1
unfolding rescaled for_nearby
returns-then-m-ne1 c =
    rw (c.scale_nearby.ensures, c.reset_nearby.ensures)

pub returns-else-m-ne1 : goal.returns-else-m-ne1
returns-else-m-ne1 c = rescaled_reset _ _ _ _ c.if-m-ne1.false c.reset_nearby.ensures
