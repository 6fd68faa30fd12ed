-- `node_rank` puts sector, first cell, last cell and side into one number.
use native.Mathlib.Omega.{arith}
use mathlib.Core.Path.{ap, ◌∙◌}
use Prim.Native.Nat.{ℕ, ◌<◌}
use Rattle.model.specs.Windows.{border_cell}
use Rattle.model.specs.Sides.{side_low}
use Rattle.model.specs.LeastPath.{cell_rank}
use Rattle.fields.specs.Sides.{cast_is}
use Rattle.store.specs.Stored.{stored}
use Rattle.graph.specs.Reading.{accepted_of, portal_sector_lem}
use Rattle.path.specs.Following.{rank_is}
use Rattle.path.proofs.least.node_rank.Goals as goal
use Rattle.path.proofs.least.node_rank.Goals.{After-portal_sector}

sector : (c : After-portal_sector) → c.portal_sector.result < 100
sector c =
    omega (arith, c.portal_sector.ensures, portal_sector_lem c.args.hall.now.opened c.args.p c.requires, (accepted_of c.args.hall.now.opened).few_sectors)

pub overflow_add-result-3 : goal.overflow_add-result-3
overflow_add-result-3 c = omega (
  arith,
  sector (goal.at.overflow_add-result-3 c).After-portal_sector,
  c.border_rank-first.ensures.1,
  c.border_rank-last.ensures.1,
  cast_is c.portal_side-side.result,
  side_low c.portal_side-side.result,
)

pub returns : goal.returns
returns c =
    let side = c.portal_side-side in
    rank_is (stored c.args.hall.now) c.args.p side.ensures c.portal_sector.ensures
    (c.border_rank-first.ensures.0 ∙ ap (λ (i : ℕ). cell_rank (border_cell side.result i)) c.portal_run-run.ensures.begins)
    (c.border_rank-last.ensures.0 ∙ ap (λ (i : ℕ). cell_rank (border_cell side.result i)) c.portal_run-run.ensures.ends) (cast_is side.result)

pub overflow_mul-result : goal.overflow_mul-result
overflow_mul-result c = omega (arith, sector c)

pub overflow_add-result : goal.overflow_add-result
overflow_add-result c = omega (arith, sector c, c.border_rank-first.ensures.1)

pub overflow_mul-result-2 : goal.overflow_mul-result-2
overflow_mul-result-2 c = omega (arith, sector c, c.border_rank-first.ensures.1)

pub overflow_add-result-2 : goal.overflow_add-result-2
overflow_add-result-2 c = omega (arith, sector c, c.border_rank-first.ensures.1, c.border_rank-last.ensures.1)

pub overflow_mul-result-3 : goal.overflow_mul-result-3
overflow_mul-result-3 c = omega (arith, sector c, c.border_rank-first.ensures.1, c.border_rank-last.ensures.1)
