-- `outer_edge` answers by the sector beyond and the facing portal.
use mathlib.Core.Path.{sym, ◌∙◌}
use mathlib.Core.Bool.{true, false}
use Rattle.graph.specs.Weights.{outer_some}
use Rattle.graph.proofs.edges.outer_edge.Goals as goal

pub returns-then-is_portal : goal.returns-then-is_portal
returns-then-is_portal c =
    outer_some c.args.hall.now.opened c.args.p c.portal_sector.ensures c.portal_side.ensures c.in-Some.ensures true c.facing_in.ensures
    (sym c.if-is_portal.true ∙ c.is_portal.ensures)

pub returns-else-is_portal : goal.returns-else-is_portal
returns-else-is_portal c =
    outer_some c.args.hall.now.opened c.args.p c.portal_sector.ensures c.portal_side.ensures c.in-Some.ensures false c.facing_in.ensures
    (sym c.if-is_portal.false ∙ c.is_portal.ensures)
