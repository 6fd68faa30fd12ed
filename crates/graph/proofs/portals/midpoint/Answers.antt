-- `midpoint` answers the cell halfway between a window's first and last place.
use native.Mathlib.Omega.{arith}
use mathlib.Core.Path.{◌≡◌, ◌∙◌}
use Prim.Native.Nat.{ℕ, ◌+◌, ◌/◌}
use Rattle.model.specs.Windows.{border, first_place, last_place, crossing}
use Rattle.model.specs.declared.Side.{Side}
use Rattle.model.specs.Portals.{portal_mark, portal_window, midpoint}
use Rattle.store.specs.Stored.{stored}
use Rattle.model.specs.PortalCrossings.{mid_low}
use Rattle.graph.specs.Reading.{fits_of}
use Rattle.graph.proofs.portals.midpoint.Goals as goal

-- the same, over plain values
same : (n j : ℕ) {side other : Side} {a b : ℕ} → side ≡ other → a ≡ first_place n j → b ≡ last_place n j → border side ((a + b) / 2) ≡ border other ((first_place n j + last_place n j) / 2)
same n j e p q = rw (e, p, q)

pub returns : goal.returns
unfolding midpoint crossing
returns c =
    let h = stored c.args.hall.now in
    let is = c.border_index.ensures
    ∙ same (portal_mark h c.args.p) (portal_window c.args.p) c.portal_side.ensures c.portal_run-run.ensures.begins c.portal_run-run.ensures.ends in
    (is, omega (arith, is, mid_low h (fits_of c.args.hall.now.opened) c.args.p c.requires))
