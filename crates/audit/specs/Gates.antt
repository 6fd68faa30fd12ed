-- The portals of a hall whose marks are those of its costs: every move over a border has a facing pair beside it, at most 5 moves off on each side, and every edge is moves of the floor.
use Rattle.std.specs.Prelude.{ℕ, ◌≤◌, ◌<◌, ◌≡◌, refl, ◌⊎◌, true}
use Rattle.std.proofs.Common.{arith, sym, subst, subst₂, ◌∙◌, inl, inr}
use Rattle.laws.specs.Floor.{Floor, Inside}
use Rattle.laws.specs.Detour.{Gate, Portals}
use Rattle.model.specs.declared.Side.{Side}
use Rattle.model.specs.Cells.{opposite}
use Rattle.model.specs.CellSides.{border_low}
use Rattle.model.specs.Costs.{open_at}
use Rattle.model.specs.Sectors.{sectors, floor_number, beyond, has_beyond}
use Rattle.model.specs.SectorSides.{sector_cell}
use Rattle.model.specs.Moves.{moves_to}
use Rattle.model.specs.Windows.{border, is_open, window_count, first_place, last_place, crossing}
use Rattle.model.specs.WindowRuns.{Run, window_run, window_on, few_windows, open_lies, near, crossing_in}
use Rattle.model.specs.Halls.{Hall, mark_at}
use Rattle.model.specs.Portals.{portal_at, portal_sector, portal_side, portal_window, is_portal, midpoint, mid_cell, facing}
use Rattle.model.specs.PortalNumbers.{numbered, portal_is, window_portal}
use Rattle.model.specs.PortalCrossings.{cell_at_lem}
use Rattle.model.specs.PortalEdges.{Edge, outer, inner, facing_at}
use Rattle.audit.specs.Borders.{share_border}
use Rattle.audit.specs.Crossings.{floor_of, cross_leaving}
use Rattle.audit.specs.SectorMoves.{inside_joined, joined_inside}
use Rattle.audit.specs.Slides.{slide}
use Rattle.audit.specs.FreshMarks.{Fresh, opened, fits, beyond_is, far_mark, place_open, open_both, portal_beyond}

module _ (h : Hall) (fresh : Fresh h) where
  abbrev floor : Floor
  floor = floor_of h.measures h.scaled

  -- ---- a side that has a neighbour
  module _ (s : ℕ) (on : s < sectors h.measures) (k : Side) (there : has_beyond h.measures s k ≡ true) where
    abbrev mark : ℕ
    mark = mark_at h s k

    abbrev far : ℕ
    far = beyond h.measures s k

    -- the move over the border at an open place
    over_border : (i : ℕ) → i < 10 → is_open mark i ≡ true → floor.Cross (floor_number s (border k i)) (floor_number far (border (opposite k) i))
    over_border i l o =
        let b = open_both h fresh s on k there i l o in
        let x = beyond_is h fresh s on k there in
        record {
          leaves = b.0;
          enters = b.1;
          side = share_border h.measures s far k i l x.over;
          kind = (λ e. x.apart (sym (sector_cell s (border k i) (border_low k i l)) ∙ e ∙ sector_cell far (border (opposite k) i) (border_low (opposite k) i l)), tt);
        }

    -- window j
    module _ (j : ℕ) (counted : j < window_count mark) where
      run : Run mark j
      run = window_run mark ((fits h fresh).marked s k) j counted

      mid_low : crossing mark j < 10
      mid_low = omega (arith, (crossing_in run).1, run.inside)

      mid_open : is_open mark (crossing mark j) ≡ true
      mid_open = run.opens (crossing mark j) (crossing_in run).0 (crossing_in run).1

      mid_cross : floor.Cross (floor_number s (border k (crossing mark j))) (floor_number far (border (opposite k) (crossing (mark_at h far (opposite k)) j)))
      mid_cross = rw (far_mark h fresh s on k there) (over_border (crossing mark j) mid_low mid_open)

      -- a place of the window and its midpoint are at most 5 moves apart, on both sides
      to_mid : (i : ℕ) → first_place mark j ≤ i → i ≤ last_place mark j → (n : ℕ) × (n ≤ 5) × Inside floor (floor_number s (border k i)) (floor_number s (border k (crossing mark j))) n
      to_mid i a z =
          slide h.measures h.scaled s k 5 (first_place mark j) (last_place mark j) i (crossing mark j) run.inside a z (crossing_in run).0 (crossing_in run).1 (near run i a z).0
          (near run i a z).1
          (λ t c d. (open_both h fresh s on k there t (omega (arith, run.inside)) (run.opens t c d)).0)

      from_mid : (i : ℕ) → first_place mark j ≤ i → i ≤ last_place mark j
          → (n : ℕ) × (n ≤ 5) × Inside floor (floor_number far (border (opposite k) (crossing (mark_at h far (opposite k)) j))) (floor_number far (border (opposite k) i)) n
      from_mid i a z =
          rw (far_mark h fresh s on k there)
          (slide h.measures h.scaled far (opposite k) 5 (first_place mark j) (last_place mark j) (crossing mark j) i run.inside (crossing_in run).0
          (crossing_in run).1 a z (near run i a z).1 (near run i a z).0
          (λ t c d. (open_both h fresh s on k there t (omega (arith, run.inside)) (run.opens t c d)).1))

  -- ---- gates
  -- a facing pair of portals beside a move over a border
  abbrev GateBy : ℕ → ℕ → Type 0
  GateBy x y = Gate floor 5 (λ p. is_portal h p ≡ true) (mid_cell h) (λ p q. Edge h p q 1) x y

  -- by sector, side and place
  gate_at : (s : ℕ) (on : s < sectors h.measures) (k : Side) (there : has_beyond h.measures s k ≡ true) (i : ℕ) → i < 10 → open_at h.scaled (floor_number s (border k i)) ≡ true
      → open_at h.scaled (floor_number (beyond h.measures s k) (border (opposite k) i)) ≡ true
      → GateBy (floor_number s (border k i)) (floor_number (beyond h.measures s k) (border (opposite k) i))
  gate_at s on k there i l x y =
      record {
        near = portal_at s k j;
        far = portal_at t (opposite k) j;
        near_is = near';
        far_is = far';
        over = let n = numbered s k j low in outer near' far' (rw (n.sector, n.on) there) (sym (facing_at h s k j low)) refl;
        to = to'.0;
        from = from'.0;
        to_low = to'.1;
        from_low = from'.1;
        to_is = rw (cell_at_lem h s k j low) to'.2;
        from_is = rw (cell_at_lem h t (opposite k) j low) from'.2;
      }
    where
      t : ℕ
      t = beyond h.measures s k

      j : ℕ
      j = window_on (mark_at h s k) i

      open_here : is_open (mark_at h s k) i ≡ true
      open_here = place_open h fresh s on k there i l ∙ opened h.measures h.scaled s k i x y

      in_window : (j < window_count (mark_at h s k)) × (first_place (mark_at h s k) j ≤ i) × (i ≤ last_place (mark_at h s k) j)
      in_window = open_lies (mark_at h s k) ((fits h fresh).marked s k) i l open_here

      low : j < 5
      low = omega (arith, in_window.0, few_windows (mark_at h s k) ((fits h fresh).marked s k))

      near' : is_portal h (portal_at s k j) ≡ true
      near' = window_portal h s k j on in_window.0 low

      far' : is_portal h (portal_at t (opposite k) j) ≡ true
      far' = window_portal h t (opposite k) j (beyond_is h fresh s on k there).on (rw (far_mark h fresh s on k there) in_window.0) low

      to' : (n : ℕ) × (n ≤ 5) × Inside floor (floor_number s (border k i)) (floor_number s (border k (crossing (mark_at h s k) j))) n
      to' = to_mid s on k there j in_window.0 i in_window.1 in_window.2

      from' : (n : ℕ) × (n ≤ 5) × Inside floor (floor_number t (border (opposite k) (crossing (mark_at h t (opposite k)) j))) (floor_number t (border (opposite k) i)) n
      from' = from_mid s on k there j in_window.0 i in_window.1 in_window.2

  pub gate : (x y : ℕ) → floor.Cross x y → GateBy x y
  gate x y c =
      let w = cross_leaving h.measures h.scaled fresh.sized x y c in
      let leaves = subst (λ (a : ℕ). open_at h.scaled a ≡ true) w.from_is c.leaves in
      let enters = subst (λ (a : ℕ). open_at h.scaled a ≡ true) w.to_is c.enters in
      subst₂ GateBy (sym w.from_is) (sym w.to_is) (gate_at w.sector w.on w.side w.there w.at w.in_side leaves enters)

  -- ---- edges
  pub facing_cross : (p : ℕ) → is_portal h p ≡ true → floor.Cross (mid_cell h p) (mid_cell h (facing h p))
  unfolding mid_cell midpoint facing
  facing_cross p e =
      let a = portal_is h p e in
      rw (cell_at_lem h (beyond h.measures (portal_sector p) (portal_side p)) (opposite (portal_side p)) (portal_window p) (omega arith))
      (mid_cross (portal_sector p) a.inside (portal_side p) (portal_beyond h fresh p e) (portal_window p) a.among)

  pub edge_real : {p q w : ℕ} → Edge h p q w → Inside floor (mid_cell h p) (mid_cell h q) w ⊎ ((w ≡ 1) × floor.Cross (mid_cell h p) (mid_cell h q))
  edge_real {p} {q} {w} (outer a b there f u) = inr (u, rw f (facing_cross p a))
  edge_real {p} {q} {w} (inner a b d j u) = inl (rw u (joined_inside h.measures h.scaled (mid_cell h p) (mid_cell h q) j))

  -- THE PORTALS OF THE FLOOR: all that the detour asks of them
  abbrev pub portals : Portals floor 5
  portals = record {
    Portal = λ p. is_portal h p ≡ true;
    mid = mid_cell h;
    Edge = Edge h;
    mid_open = λ p e. (facing_cross p e).leaves;
    edge_is = λ p q w a. edge_real a;
    edge_made = λ p q n a b d i.
        let j = inside_joined h.measures h.scaled i in
        (moves_to h.scaled (mid_cell h p) (mid_cell h q), j.1, inner a b d j.0 refl);
    gate = gate;
  }
