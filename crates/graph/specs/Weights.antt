-- The edges of a portal in the cases that code meets, and that they are the graph's weights.
use Rattle.std.specs.Prelude.{if◌then◌else◌, Some, None, ℕ, ◌≤◌, ◌<◌, ◌≡◌, Bool, true, false, List, ltb, eqb, get_or}
use Rattle.std.proofs.Common.{arith, sym, ap, ◌∙◌}
use Rattle.std.proofs.Math.Path.{refl}
use borrow.Author.Tests.{lt-ltb, eq-eqb, ne_eqb}
use Rattle.laws.specs.Fold.{pick}
use Rattle.laws.specs.Options.{some_if, none_if}
use Rattle.laws.specs.Table.{table_at}
use Rattle.model.specs.declared.Measures.{Measures}
use Rattle.model.specs.declared.Side.{Side}
use Rattle.model.specs.Cells.{opposite}
use Rattle.model.specs.SectorSides.{beyond_low}
use Rattle.graph.specs.Reading.{accepted_of}
use Rattle.model.specs.Sectors.{sector_cells, floor_number, sector_of, place_of, costs_of, sectors, beyond, has_beyond}
use Rattle.model.specs.Moves.{moves, apart}
use Rattle.model.specs.Halls.{Hall}
use Rattle.model.specs.Portals.{sector_portals, arc_count, portal_sector, portal_side, portal_place, place_portal, arc_tail, arc_place, arc_at}
use Rattle.model.specs.Portals.{is_portal, midpoint, moves_from, portal_at, portal_window, facing, key, outer_edge, inner_edge, edge_at, portal_graph}
use Rattle.model.specs.PortalCrossings.{Fits, mid_low}
use Rattle.model.specs.PortalEdges.{weight_at}
use Rattle.model.specs.Store.{decode}
use Rattle.moves.specs.Levels.{moves_or_none}
use Rattle.store.specs.Passed.{Passed}
use Rattle.graph.specs.Near.{mid_of, sector_mids, near_by, mid_some, mid_none}

-- the edge to the facing portal q, by the sector t beyond
module _ {m : Measures} {st : List ℕ} (o : Passed m st) (p : ℕ) {s : ℕ} {side : Side} (e : s ≡ portal_sector p) (f : side ≡ portal_side p) where
  pub outer_none : None ≡ (if has_beyond m s side then Some (beyond m s side) else None) → 0 ≡ outer_edge (decode st) p
  unfolding outer_edge decode
  outer_none n = rw (← e, ← f, ← o.read, none_if (has_beyond m s side) (beyond m s side) n) refl

  module _ {t : ℕ} (n : Some t ≡ (if has_beyond m s side then Some (beyond m s side) else None)) where
    there : (has_beyond m s side ≡ true) × (t ≡ beyond m s side)
    there = some_if (has_beyond m s side) (beyond m s side) n

    pub outer_some : {q : ℕ} (d : Bool) → q ≡ portal_at t (opposite (portal_side p)) (portal_window p) → d ≡ is_portal (decode st) q → pick d (key 1) 0 ≡ outer_edge (decode st) p
    unfolding outer_edge facing decode
    outer_some {q} d k g = let one = rw (e, f, o.read) at there.0 in rw (g, k, there.1, e, f, o.read, one) refl

    pub near_beyond : s < sectors m → t ≤ 110
    near_beyond l = omega (arith, there.1, beyond_low m s side, (accepted_of o).few_sectors, (accepted_of o).few_rows)

-- ---- the edges of a portal as code finds them: the moves from its midpoint are spread once, the midpoints of its sector are known
-- the edge at place c, which has midpoint `mid`; at the portal's own place stands the edge to the facing one
unfoldable pub edge_by : List ℕ → ℕ → ℕ → ℕ → ℕ → ℕ
edge_by from mid outer own c = pick (eqb c own) outer (pick (ltb (near_by from mid) apart) (key (near_by from mid)) 0)

module _ (from : List ℕ) (mid outer own c : ℕ) where
  pub edge_own : c ≡ own → outer ≡ edge_by from mid outer own c
  unfolding edge_by
  edge_own e = rw (eq-eqb c own e)

  module _ (e : c ≡ own → ⊥) where
    pub edge_far : None ≡ moves_or_none (near_by from mid) → 0 ≡ edge_by from mid outer own c
    unfolding edge_by
    edge_far z = rw (ne_eqb c own e, none_if (ltb (near_by from mid) apart) (near_by from mid) z) refl

    pub edge_near : {near : ℕ} → Some near ≡ moves_or_none (near_by from mid) → key near ≡ edge_by from mid outer own c
    unfolding edge_by
    edge_near l = let some = some_if (ltb (near_by from mid) apart) (near_by from mid) l in rw (ne_eqb c own e, some.0, some.1) refl

inner_by : (h : Hall) → Fits h → (from : List ℕ) (q : ℕ) → pick (ltb (near_by from (mid_of h q)) apart) (key (near_by from (mid_of h q))) 0 ≡ inner_edge h from q
unfolding inner_edge mid_of near_by
inner_by h fits from q = go (is_portal h q) refl
  where
    go : (t : Bool) → is_portal h q ≡ t → pick (ltb (near_by from (mid_of h q)) apart) (key (near_by from (mid_of h q))) 0 ≡ inner_edge h from q
    go true e = rw (e, lt-ltb (midpoint h q) sector_cells (mid_low h fits q e))
    go false e = rw e refl

-- what the midpoints of its sector say of number p
module _ (h : Hall) (p : ℕ) {mids : List ℕ} (given : mids ≡ sector_mids h (portal_sector p)) where
  place_mid : (c : ℕ) → c < sector_portals → get_or mids c 0 ≡ mid_of h (place_portal (portal_sector p) c)
  unfolding sector_mids
  place_mid c l = table_at (λ k. mid_of h (place_portal (portal_sector p) k)) sector_portals given c 0 l

  own_mid : get_or mids (portal_place p) 0 ≡ mid_of h p
  own_mid = let same : place_portal (portal_sector p) (portal_place p) ≡ p = omega arith in place_mid (portal_place p) (omega arith) ∙ ap (λ (k : ℕ). mid_of h k) same

  pub own_none : Fits h → sector_cells ≤ get_or mids (portal_place p) 0 → is_portal h p ≡ false
  own_none fits l = go (is_portal h p) refl
    where
      go : (t : Bool) → is_portal h p ≡ t → is_portal h p ≡ false
      go true e = absurd (omega (arith, own_mid, mid_some h p e refl, mid_low h fits p e))
      go false e = e

  pub own_some : get_or mids (portal_place p) 0 < sector_cells → (is_portal h p ≡ true) × (get_or mids (portal_place p) 0 ≡ midpoint h p)
  own_some l = go (is_portal h p) refl
    where
      go : (t : Bool) → is_portal h p ≡ t → (is_portal h p ≡ true) × (get_or mids (portal_place p) 0 ≡ midpoint h p)
      go true e = (e, own_mid ∙ sym (mid_some h p e refl))
      go false e = absurd (omega (arith, own_mid, mid_none h p e))

-- the moves from a cell that is its midpoint
pub moves_own : (h : Hall) (p mid : ℕ) {x : ℕ} {from : List ℕ} → x ≡ floor_number (portal_sector p) mid → mid ≡ midpoint h p → mid < sector_cells
    → from ≡ moves (costs_of h.scaled (sector_of x)) (place_of x) → from ≡ moves_from h p
moves_own h p mid {x} a b l e =
    let sector : sector_of x ≡ portal_sector p = omega arith in
    let place : place_of x ≡ midpoint h p = omega arith in
    e ∙ rw (sector, place) refl

-- the graph's weight at place c of number p
module _ (h : Hall) (p c : ℕ) (low : c < sector_portals) (inside : arc_at p c < arc_count h.measures) where
  weight_is : (portal_graph h).weight (arc_at p c) ≡ pick (is_portal h p) (edge_at h p (moves_from h p) c) 0
  weight_is =
      let tail : arc_tail (arc_at p c) ≡ p = omega arith in
      let place : arc_place (arc_at p c) ≡ c = omega arith in
      let in_arcs : arc_at p c < (portal_graph h).arcs = unfold portal_graph in inside in
      rw (tail, place) at (weight_at h (arc_at p c) in_arcs)

  pub weight_none : is_portal h p ≡ false → 0 ≡ (portal_graph h).weight (arc_at p c)
  weight_none e = sym (weight_is ∙ rw e refl)

  pub weight_by : Fits h → {from mids : List ℕ} {outer : ℕ} → is_portal h p ≡ true → from ≡ moves_from h p → mids ≡ sector_mids h (portal_sector p) → outer ≡ outer_edge h p
      → edge_by from (get_or mids c 0) outer (portal_place p) c ≡ (portal_graph h).weight (arc_at p c)
  unfolding edge_by edge_at
  weight_by fits e f g o = rw (place_mid h p g c low, f, o, inner_by h fits (moves_from h p) (place_portal (portal_sector p) c)) (sym (weight_is ∙ rw e refl))
