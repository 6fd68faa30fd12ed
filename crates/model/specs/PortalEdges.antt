-- The portal graph holds exactly 01's edges: a facing pair at weight 1, and two portals of a sector whose midpoints are joined, at their fewest moves. Every edge leads both ways.
use Prim.Native.Nat.{ℕ, ◌≤◌, ◌<◌}
use native.Mathlib.Omega.{arith}
use Rattle.std.proofs.Math.Decide.{ℕ_discrete}
use Rattle.std.specs.Prelude.{◌≡◌, ◌≢◌, Bool, ◌&&◌, List, [], ltb, eqb, get_or, replicate}
use Rattle.std.proofs.Math.Path.{refl, ap₂}
use Rattle.std.proofs.Common.{sym, ap, ◌∙◌}
use Rattle.std.proofs.Math.Bool.{true, false}
use Rattle.std.proofs.lemmas.List.{get_or-replicate}
use borrow.Author.Tests.{ltb-true, lt-ltb, eqb-false, eq-eqb, ne_eqb}
use Rattle.laws.specs.Fold.{pick}
use Rattle.laws.specs.Search.{both}
use Rattle.laws.specs.Table.{tabulate, tabulate_at}
use Rattle.laws.specs.Graph.{Sound, BothWays}
use Rattle.model.specs.declared.Side.{Side}
use Rattle.model.specs.Cells.{opposite}
use Rattle.model.specs.Sides.{opposite_is}
use Rattle.model.specs.Sectors.{has_beyond, beyond}
use Rattle.model.specs.SectorSides.{lies_beyond}
use Rattle.model.specs.Moves.{apart, moves_to, joined}
use Rattle.model.specs.MovesFewest.{joined_is, is_joined, joined_back}
use Rattle.model.specs.Halls.{Hall}
use Rattle.model.specs.Portals.{side_portals, sector_portals, portal_count, portal_at, portal_sector, portal_side, portal_window, portal_place, place_portal, is_portal, midpoint, mid_cell, moves_from}
use Rattle.model.specs.Portals.{facing, head_of, key, outer_edge, inner_edge, edge_at, edges_from, edges_of, edges, arc_tail, arc_place, arc_at, portal_graph}
use Rattle.model.specs.PortalNumbers.{numbered, number_is, portal_is, portal_low}
use Rattle.model.specs.PortalCrossings.{Fits, mid_sector, moves_between}

-- AN EDGE of weight w from p to q
pub data Edge (h : Hall) (p q w : ℕ) : Type 0 where
  outer : is_portal h p ≡ true → is_portal h q ≡ true → has_beyond h.measures (portal_sector p) (portal_side p) ≡ true → q ≡ facing h p → w ≡ 1 → Edge h p q w
  inner : is_portal h p ≡ true → is_portal h q ≡ true → p ≢ q → joined h.scaled (mid_cell h p) (mid_cell h q) ≡ true → w ≡ moves_to h.scaled (mid_cell h p) (mid_cell h q) → Edge h p q w

module _ {h : Hall} {p q w : ℕ} where
  edge_from : Edge h p q w → is_portal h p ≡ true
  edge_from (outer a b t f e) = a
  edge_from (inner a b d j e) = a

  pub edge_to : Edge h p q w → is_portal h q ≡ true
  edge_to (outer a b t f e) = b
  edge_to (inner a b d j e) = b

  edge_low : Edge h p q w → w < apart
  edge_low (outer a b t f e) = omega arith
  edge_low (inner a b d j e) = omega (arith, (joined_is h.scaled (mid_cell h p) (mid_cell h q) j).near)

-- the portal that faces window j of a side
pub facing_at : (h : Hall) (s : ℕ) (side : Side) (j : ℕ) → j < side_portals → facing h (portal_at s side j) ≡ portal_at (beyond h.measures s side) (opposite side) j
unfolding facing
facing_at h s side j l = let n = numbered s side j l in rw (n.sector, n.on, n.window)

-- and it faces back
facing_back : (h : Hall) (p : ℕ) → is_portal h p ≡ true → has_beyond h.measures (portal_sector p) (portal_side p) ≡ true
    → (has_beyond h.measures (portal_sector (facing h p)) (portal_side (facing h p)) ≡ true) × (facing h (facing h p) ≡ p)
unfolding facing
facing_back h p is there =
    let b = lies_beyond h.measures (portal_sector p) (portal_is h p is).inside (portal_side p) there in
    let n = numbered (beyond h.measures (portal_sector p) (portal_side p)) (opposite (portal_side p)) (portal_window p) (omega arith) in
    (rw (n.sector, n.on) b.back_has, rw (n.sector, n.on, n.window, b.back, (opposite_is (portal_side p)).twice) (sym (number_is p)))

edge_back : {h : Hall} {p q w : ℕ} → Edge h p q w → Edge h q p w
edge_back {h} {p} (outer a b t f e) = let back = facing_back h p a t in outer b a (rw f back.0) (rw f (sym back.1)) e
edge_back {h} {p} {q} (inner a b d j e) = let back = joined_back h.scaled (mid_cell h p) (mid_cell h q) j in inner b a (λ s. d (sym s)) back.0 (e ∙ sym back.1)

-- ---- the table
-- place c of portal p
edges_at : (h : Hall) (p c : ℕ) → c < sector_portals → get_or (edges_of h p) c 0 ≡ pick (is_portal h p) (edge_at h p (moves_from h p) c) 0
unfolding edges_of edges_from
edges_at h p c l = go (is_portal h p)
  where
    go : (t : Bool) → get_or (pick t (tabulate (edge_at h p (moves_from h p)) sector_portals 0) (replicate sector_portals 0)) c 0 ≡ pick t (edge_at h p (moves_from h p) c) 0
    go true = tabulate_at (edge_at h p (moves_from h p)) sector_portals c 0 l
    go false = get_or-replicate sector_portals c 0 0 l

pub weight_at : (h : Hall) (e : ℕ) → e < (portal_graph h).arcs → (portal_graph h).weight e ≡ pick (is_portal h (arc_tail e)) (edge_at h (arc_tail e) (moves_from h (arc_tail e)) (arc_place e)) 0
unfolding portal_graph edges
weight_at h e l =
    ap (λ (row : List ℕ). get_or row (arc_place e) 0) (tabulate_at (edges_of h) (portal_count h.measures) (arc_tail e) [] (omega arith))
    ∙ edges_at h (arc_tail e) (arc_place e) (omega arith)

picked : (t : Bool) (w : ℕ) → 0 < pick t w 0 → (t ≡ true) × (pick t w 0 ≡ w)
picked true w l = (refl, refl)
picked false w l = absurd (omega arith)

-- ---- an edge for each arc
pub record EdgeOf (h : Hall) (e : ℕ) : Type 0 where
  pub cost : ℕ
  pub is : Edge h ((portal_graph h).tail e) ((portal_graph h).head e) cost
  pub weighs : (portal_graph h).weight e ≡ key cost

module _ (h : Hall) (fits : Fits h) where
  -- two portals of a sector are joined by the moves from the first
  joined_by : (p q : ℕ) → is_portal h p ≡ true → is_portal h q ≡ true → portal_sector p ≡ portal_sector q → get_or (moves_from h p) (midpoint h q) 0 < apart
      → joined h.scaled (mid_cell h p) (mid_cell h q) ≡ true
  joined_by p q a b s l =
      is_joined h.scaled (mid_cell h p) (mid_cell h q)
      (record { sector = mid_sector h fits p a ∙ s ∙ sym (mid_sector h fits q b); near = rw (moves_between h fits p q a b) l })

  place_edge : (p c : ℕ) → c < sector_portals → is_portal h p ≡ true → 0 < edge_at h p (moves_from h p) c → (w : ℕ) × Edge h p (head_of h p c) w × (edge_at h p (moves_from h p) c ≡ key w)
  unfolding edge_at head_of outer_edge inner_edge
  place_edge p c l a = go (eqb c (portal_place p)) refl
    where
      q : ℕ
      q = place_portal (portal_sector p) c

      m : ℕ
      m = get_or (moves_from h p) (midpoint h q) 0

      over : Bool
      over = has_beyond h.measures (portal_sector p) (portal_side p) && is_portal h (facing h p)

      near : Bool
      near = is_portal h q && ltb m apart

      go : (t : Bool) → eqb c (portal_place p) ≡ t → 0 < pick t (pick over (key 1) 0) (pick near (key m) 0)
          → (w : ℕ) × Edge h p (pick t (facing h p) q) w × (pick t (pick over (key 1) 0) (pick near (key m) 0) ≡ key w)
      go true _ r =
          let k = picked over (key 1) r in
          let b = both (has_beyond h.measures (portal_sector p) (portal_side p)) (is_portal h (facing h p)) k.0 in
          (1, outer a b.1 b.0 refl refl, k.1)
      go false d r =
          let k = picked near (key m) r in
          let b = both (is_portal h q) (ltb m apart) k.0 in
          (m, inner a b.0 (λ s. eqb-false c (portal_place p) d (omega arith)) (joined_by p q a b.0 (omega arith) (ltb-true m apart b.1)) (sym (moves_between h fits p q a b.0)), k.1)

  pub arc_edge : (e : ℕ) → e < (portal_graph h).arcs → 0 < (portal_graph h).weight e → EdgeOf h e
  unfolding portal_graph
  arc_edge e l r = go (is_portal h (arc_tail e)) refl (weight_at h e l)
    where
      go : (t : Bool) → is_portal h (arc_tail e) ≡ t → (portal_graph h).weight e ≡ pick t (edge_at h (arc_tail e) (moves_from h (arc_tail e)) (arc_place e)) 0 → EdgeOf h e
      go true a w = let x = place_edge (arc_tail e) (arc_place e) (omega arith) a (rw (← w) r) in record { cost = x.0; is = x.1; weighs = w ∙ x.2 }
      go false a w = absurd (omega (arith, w, r))

  pub weight_low : (e : ℕ) → e < (portal_graph h).arcs → (portal_graph h).weight e ≤ key 254
  weight_low e l = go (ℕ_discrete ((portal_graph h).weight e) 0)
    where
      go : Dec ((portal_graph h).weight e ≡ 0) → (portal_graph h).weight e ≤ key 254
      go (yes z) = omega arith
      go (no z) = let x = arc_edge e l (omega arith) in omega (arith, x.weighs, edge_low x.is)

-- ---- an arc for each edge
pub record Arc (h : Hall) (p q w : ℕ) : Type 0 where
  pub arc : ℕ
  pub below : arc < (portal_graph h).arcs
  pub tail_is : (portal_graph h).tail arc ≡ p
  pub head_is : (portal_graph h).head arc ≡ q
  pub weighs : (portal_graph h).weight arc ≡ key w

-- the places of a portal: its own, and that of another portal of its sector
module _ (h : Hall) (p c : ℕ) where
  pub head_own : c ≡ portal_place p → head_of h p c ≡ facing h p
  unfolding head_of
  head_own e = rw (eq-eqb c (portal_place p) e)

  pub head_other : c ≢ portal_place p → head_of h p c ≡ place_portal (portal_sector p) c
  unfolding head_of
  head_other e = rw (ne_eqb c (portal_place p) e)

  edge_own : c ≡ portal_place p → has_beyond h.measures (portal_sector p) (portal_side p) ≡ true → is_portal h (facing h p) ≡ true → edge_at h p (moves_from h p) c ≡ key 1
  unfolding edge_at outer_edge
  edge_own e t b = rw (eq-eqb c (portal_place p) e, t, b)

  edge_other : c ≢ portal_place p → (q : ℕ) → place_portal (portal_sector p) c ≡ q → is_portal h q ≡ true → get_or (moves_from h p) (midpoint h q) 0 < apart
      → edge_at h p (moves_from h p) c ≡ key (get_or (moves_from h p) (midpoint h q) 0)
  unfolding edge_at inner_edge
  edge_other e q is b l = rw (ne_eqb c (portal_place p) e, is, b, lt-ltb (get_or (moves_from h p) (midpoint h q) 0) apart l)

module _ (h : Hall) (fits : Fits h) where
  placed : (p c w : ℕ) → c < sector_portals → is_portal h p ≡ true → edge_at h p (moves_from h p) c ≡ key w → Arc h p (head_of h p c) w
  unfolding portal_graph
  placed p c w l a k =
      let tail : arc_tail (arc_at p c) ≡ p = omega arith in
      let place : arc_place (arc_at p c) ≡ c = omega arith in
      let on : arc_at p c < (portal_graph h).arcs = omega (arith, portal_low h p a) in
      record { arc = arc_at p c; below = on; tail_is = tail; head_is = ap₂ (head_of h) tail place; weighs = weight_at h (arc_at p c) on ∙ rw (tail, place, a) k }

  pub edge_arc : {p q w : ℕ} → Edge h p q w → Arc h p q w
  edge_arc {p} {q} {w} (outer a b t f e) =
      rw (f, e, ← (head_own h p (portal_place p) refl)) (placed p (portal_place p) 1 (omega arith) a (edge_own h p (portal_place p) refl t (rw f at b)))
  edge_arc {p} {q} {w} (inner a b d j e) =
      let near = joined_is h.scaled (mid_cell h p) (mid_cell h q) j in
      let same : portal_sector p ≡ portal_sector q = sym (mid_sector h fits p a) ∙ near.sector ∙ mid_sector h fits q b in
      let is : place_portal (portal_sector p) (portal_place q) ≡ q = omega arith in
      let other : portal_place q ≢ portal_place p = λ s. d (omega arith) in
      let between = moves_between h fits p q a b in
      let arc = placed p (portal_place q) (get_or (moves_from h p) (midpoint h q) 0) (omega arith) a (edge_other h p (portal_place q) other q is b (rw (← between) near.near)) in
      rw (e, between) (rw (head_other h p (portal_place q) other ∙ is) at arc)

  -- ---- the graph
  pub head_portal : (e : ℕ) → e < (portal_graph h).arcs → 0 < (portal_graph h).weight e → is_portal h ((portal_graph h).head e) ≡ true
  head_portal e l r = edge_to (arc_edge h fits e l r).is

  pub portal_node : (p : ℕ) → is_portal h p ≡ true → p < (portal_graph h).nodes
  unfolding portal_graph
  portal_node p a = portal_low h p a

  pub portal_sound : Sound (portal_graph h)
  portal_sound = record { tail_in = λ e l r. portal_node ((portal_graph h).tail e) (edge_from (arc_edge h fits e l r).is); head_in = λ e l r. portal_node ((portal_graph h).head e) (head_portal e l r) }

  -- EVERY EDGE LEADS BOTH WAYS
  pub portal_both_ways : BothWays (portal_graph h)
  portal_both_ways e l r =
      let x = arc_edge h fits e l r in
      let a = edge_arc (edge_back x.is) in
      (a.arc, a.below, a.tail_is, a.head_is, a.weighs ∙ sym x.weighs)
