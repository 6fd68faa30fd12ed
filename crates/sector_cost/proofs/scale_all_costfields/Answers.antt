-- `scale_all_costfields` is the run over all sectors from a copy of base; at scale 1 that run leaves the copy.
use mathlib.Core.Path.{sym, ◌∙◌}
use Rattle.model.specs.Scaling.{scale_floor}
use Rattle.model.specs.ScaleOne.{floor_one}
use Rattle.walks.specs.Showing.{showing_none}
use borrow.Author.Rules.{rules}
use Rattle.sector_cost.proofs.scale_all_costfields.Goals as goal

pub returns-then-m-eq1 : goal.returns-then-m-eq1
returns-then-m-eq1 c = c.copy_from_slice.ensures.after ∙ sym (floor_one _ c.if-m-eq1.true _)

pub show_floor-requires : goal.show_floor-requires
show_floor-requires c = (search rules, showing_none c.walls-board.ensures)

pub returns : goal.returns
unfolding scale_floor
returns c =
    rw (c.scale_sectors.ensures, c.copy_from_slice.ensures.after)
