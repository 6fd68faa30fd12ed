-- The two orders of portals: the number is list order (sector, then side N, E, S, W, then place), and `node_rank`, PortalNode order, tells portals apart too.
use Rattle.std.specs.Prelude.{ℕ, ◌+◌, ◌*◌, ◌<◌, ◌≡◌, true}
use Rattle.std.proofs.Common.{arith, ◌∙◌}
use Rattle.std.proofs.Math.Path.{sym, ap}
use Rattle.laws.specs.FirstPath.{Tells}
use Rattle.model.specs.declared.Side.{Side}
use Rattle.model.specs.Cells.{cell_at, side_number, side_at}
use Rattle.model.specs.Sides.{other, axis, side_number_lem, side_low}
use Rattle.model.specs.CellSides.{cell_on, on_border}
use Rattle.model.specs.Windows.{border_cell, border, window_count, first_place, last_place}
use Rattle.model.specs.WindowRuns.{window_run, first_apart}
use Rattle.model.specs.Halls.{Hall}
use Rattle.model.specs.Portals.{portal_sector, portal_side, portal_window, portal_mark, is_portal, portal_graph}
use Rattle.model.specs.PortalNumbers.{same_portal, portal_is}
use Rattle.model.specs.PortalCrossings.{Fits, portal_run}
use Rattle.model.specs.PortalEdges.{head_portal}
use Rattle.model.specs.LeastPath.{cell_rank, node_rank}

-- ---- cells of a border by their rank
rank_low : (side : Side) (i : ℕ) → i < 10 → cell_rank (border_cell side i) < 100
rank_low side i l = let b = on_border side i l in omega arith

rank_place : (side : Side) (i j : ℕ) → i < 10 → j < 10 → cell_rank (border_cell side i) ≡ cell_rank (border_cell side j) → i ≡ j
rank_place side i j l k e =
    let b = on_border side i l in
    let c = on_border side j k in
    let same : border side i ≡ border side j = omega arith in
    sym b.place ∙ ap (λ (n : ℕ). cell_on (cell_at n) (other (axis side))) same ∙ c.place

-- a rank, taken apart
unranked : (s a b k t c d l : ℕ) → a < 100 → b < 100 → k < 4 → c < 100 → d < 100 → l < 4 → ((s * 100 + a) * 100 + b) * 4 + k ≡ ((t * 100 + c) * 100 + d) * 4 + l → (s ≡ t) × (a ≡ c) × (k ≡ l)
unranked s a b k t c d l la lb lk lc ld ll e =
    let low : k ≡ l = omega arith in
    let mid : (s * 100 + a) * 100 + b ≡ (t * 100 + c) * 100 + d = omega arith in
    let high : s * 100 + a ≡ t * 100 + c = omega arith in
    (omega arith, omega arith, low)

module _ (h : Hall) (fits : Fits h) where
  -- the ranks of a window's first and last cell
  abbrev first_rank : ℕ → ℕ
  first_rank p = cell_rank (border_cell (portal_side p) (first_place (portal_mark h p) (portal_window p)))

  abbrev last_rank : ℕ → ℕ
  last_rank p = cell_rank (border_cell (portal_side p) (last_place (portal_mark h p) (portal_window p)))

  ranks_low : (p : ℕ) → is_portal h p ≡ true → (first_rank p < 100) × (last_rank p < 100)
  ranks_low p is =
      let run = portal_run h fits p is in (
        rank_low (portal_side p) (first_place (portal_mark h p) (portal_window p)) (omega (arith, run.ordered, run.inside)),
        rank_low (portal_side p) (last_place (portal_mark h p) (portal_window p)) run.inside,
      )

  same_window : (p q : ℕ) → portal_sector p ≡ portal_sector q → portal_side p ≡ portal_side q → is_portal h p ≡ true → is_portal h q ≡ true → first_rank p ≡ first_rank q → portal_window p ≡ portal_window q
  same_window p q s k ip iq e =
      let marked = fits.marked (portal_sector q) (portal_side q) in
      let among : portal_window p < window_count (portal_mark h q) = rw (s, k) at (portal_is h p ip).among in
      let run = window_run (portal_mark h q) marked (portal_window p) among in
      let sun = portal_run h fits q iq in
      first_apart (portal_mark h q) marked (portal_window p) (portal_window q) among (portal_is h q iq).among
      (rank_place (portal_side q) (first_place (portal_mark h q) (portal_window p)) (first_place (portal_mark h q) (portal_window q)) (omega arith) (omega arith) (rw (s, k) at e))

  rank_apart : (p q : ℕ) → is_portal h p ≡ true → is_portal h q ≡ true → node_rank h p ≡ node_rank h q → p ≡ q
  unfolding node_rank
  rank_apart p q ip iq e =
      let a = ranks_low p ip in
      let b = ranks_low q iq in
      let parts =
      unranked (portal_sector p) (first_rank p) (last_rank p) (side_number (portal_side p)) (portal_sector q) (first_rank q) (last_rank q) (side_number (portal_side q)) a.0 a.1
      (side_low (portal_side p)) b.0 b.1 (side_low (portal_side q)) e in
      let side : portal_side p ≡ portal_side q = sym (side_number_lem (portal_side p)) ∙ ap side_at parts.2 ∙ side_number_lem (portal_side q) in
      same_portal p q parts.0 side (same_window p q parts.0 side ip iq parts.1)

  pub rank_tells : Tells (portal_graph h) (node_rank h)
  rank_tells e f l k p q r = rank_apart ((portal_graph h).head e) ((portal_graph h).head f) (head_portal h fits e l p) (head_portal h fits f k q) r
