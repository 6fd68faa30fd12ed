-- A hall whose marks are those of its costs, as build leaves it: facing marks are equal, and a window's cells are open on both sides.
use Prim.Native.Nat.{ℕ, ◌+◌, ◌*◌, ◌/◌, ◌%◌, ◌≤◌, ◌<◌}
use native.Mathlib.Omega.{arith}
use Rattle.std.specs.Prelude.{◌≡◌, ◌⊎◌, Bool, ◌&&◌}
use Rattle.std.proofs.Math.Path.{refl, ap, fun_ext}
use Rattle.std.proofs.Common.{sym, ◌∙◌, inl, inr}
use Rattle.std.proofs.Math.Bool.{true, false}
use mathlib.Core.List.{List}
use Rattle.std.proofs.Math.ListN.{length, get_or, get_or-eq_default}
use Rattle.laws.specs.Fold.{pick}
use Rattle.laws.specs.Search.{both}
use Rattle.laws.specs.Table.{tabulate_at, length_tabulate}
use Rattle.laws.specs.Graph.{below_or}
use Rattle.model.specs.declared.Measures.{Measures}
use Rattle.model.specs.declared.Side.{Side}
use Rattle.model.specs.Cells.{side_number, side_at, opposite}
use Rattle.model.specs.Sides.{side_number_lem, side_low, opposite_is}
use Rattle.model.specs.Costs.{open_at}
use Rattle.model.specs.Sectors.{sectors, cells, floor_number, beyond, has_beyond}
use Rattle.model.specs.SectorSides.{Beyond, lies_beyond}
use Rattle.model.specs.Windows.{border, open_place, bits, mark_of, marks_of, is_open, window_count}
use Rattle.model.specs.WindowRuns.{bits_small, bits_open}
use Rattle.model.specs.Halls.{Hall, mark_at}
use Rattle.model.specs.Portals.{portal_sector, portal_side, portal_window, is_portal}
use Rattle.model.specs.PortalNumbers.{portal_is}
use Rattle.model.specs.PortalCrossings.{Fits}
use Rattle.model.specs.Computing.{computing}

-- a hall of at most 100 sectors, with a cost for each cell, whose marks are those of its costs
pub record Fresh (h : Hall) : Type 0 where
  pub small : sectors h.measures ≤ 100
  pub sized : length h.scaled ≡ cells h.measures
  pub marked : h.marks ≡ marks_of h.measures h.scaled

-- ---- marks
and_swap : (a b : Bool) → a && b ≡ b && a
and_swap true true = refl
and_swap true false = refl
and_swap false true = refl
and_swap false false = refl

no_windows : window_count 0 ≡ 0
unfolding computing
no_windows = refl

module _ (m : Measures) (costs : List ℕ) where
  pub mark_small : (s : ℕ) (k : Side) → mark_of m costs s k < 1024
  unfolding mark_of
  mark_small s k = go (has_beyond m s k)
    where
      go : (t : Bool) → pick t (bits (open_place m costs s k) 10) 0 < 1024
      go true = bits_small (open_place m costs s k) 10
      go false = omega arith

  pub opened : (s : ℕ) (k : Side) (i : ℕ) → open_at costs (floor_number s (border k i)) ≡ true → open_at costs (floor_number (beyond m s k) (border (opposite k) i)) ≡ true → open_place m costs s k i ≡ true
  unfolding open_place
  opened s k i x y = rw (x, y)

  mark_place : (s : ℕ) (k : Side) (i : ℕ) → has_beyond m s k ≡ true → i < 10 → is_open (mark_of m costs s k) i ≡ open_place m costs s k i
  unfolding mark_of
  mark_place s k i there l = rw there (bits_open (open_place m costs s k) 10 i l)

  -- FACING MARKS ARE EQUAL
  pub facing_marks : (s : ℕ) → s < sectors m → (k : Side) → has_beyond m s k ≡ true → mark_of m costs (beyond m s k) (opposite k) ≡ mark_of m costs s k
  unfolding mark_of open_place
  facing_marks s on k there = rw (there, b.back_has) (ap (λ (p : ℕ → Bool). bits p 10) (fun_ext places))
    where
      b : Beyond m s k
      b = lies_beyond m s on k there

      places : (i : ℕ) → open_place m costs (beyond m s k) (opposite k) i ≡ open_place m costs s k i
      places i = rw (b.back, (opposite_is k).twice) (and_swap (open_at costs (floor_number (beyond m s k) (border (opposite k) i))) (open_at costs (floor_number s (border k i))))

  -- a side without neighbour has no window
  pub mark_has : (s : ℕ) (k : Side) (j : ℕ) → j < window_count (mark_of m costs s k) → has_beyond m s k ≡ true
  unfolding mark_of
  mark_has s k j = go (has_beyond m s k)
    where
      go : (t : Bool) → j < window_count (pick t (bits (open_place m costs s k) 10) 0) → t ≡ true
      go true l = refl
      go false l = absurd (omega (arith, no_windows))

-- ---- a fresh hall
module _ (h : Hall) (fresh : Fresh h) where
  -- a mark read from the list
  mark_at_lem : (s : ℕ) (k : Side) → s < sectors h.measures → mark_at h s k ≡ mark_of h.measures h.scaled s k
  unfolding marks_of
  mark_at_lem s k on =
      let low : s * 4 + side_number k < sectors h.measures * 4 = omega (arith, side_low k) in
      let sector : (s * 4 + side_number k) / 4 ≡ s = omega (arith, side_low k) in
      let side : (s * 4 + side_number k) % 4 ≡ side_number k = omega (arith, side_low k) in
      ap (λ (l : List ℕ). get_or l (s * 4 + side_number k) 0) fresh.marked
      ∙ tabulate_at (λ n. mark_of h.measures h.scaled (n / 4) (side_at (n % 4))) (sectors h.measures * 4) (s * 4 + side_number k) 0 low
      ∙ rw (sector, side, side_number_lem k)

  pub fits : Fits h
  unfolding marks_of
  fits = record { small = fresh.small; marked = λ s k. go s k (below_or s (sectors h.measures)) }
    where
      go : (s : ℕ) (k : Side) → (s < sectors h.measures) ⊎ (sectors h.measures ≤ s) → mark_at h s k < 1024
      go s k (inl on) = rw (mark_at_lem s k on) (mark_small h.measures h.scaled s k)
      go s k (inr off) =
          let long : length h.marks ≡ sectors h.measures * 4 =
          ap length fresh.marked ∙ length_tabulate (λ n. mark_of h.measures h.scaled (n / 4) (side_at (n % 4))) (sectors h.measures * 4) 0 in
          let none : mark_at h s k ≡ 0 = get_or-eq_default h.marks 0 (omega arith) in
          omega arith

  -- a side that has a neighbour
  module _ (s : ℕ) (on : s < sectors h.measures) (k : Side) (there : has_beyond h.measures s k ≡ true) where
    pub beyond_is : Beyond h.measures s k
    beyond_is = lies_beyond h.measures s on k there

    abbrev mark : ℕ
    mark = mark_at h s k

    abbrev far : ℕ
    far = beyond h.measures s k

    pub far_mark : mark_at h far (opposite k) ≡ mark
    far_mark = mark_at_lem far (opposite k) beyond_is.on ∙ facing_marks h.measures h.scaled s on k there ∙ sym (mark_at_lem s k on)

    pub place_open : (i : ℕ) → i < 10 → is_open mark i ≡ open_place h.measures h.scaled s k i
    place_open i l = rw (mark_at_lem s k on) (mark_place h.measures h.scaled s k i there l)

    -- A WINDOW'S CELLS ARE OPEN ON BOTH SIDES
    pub open_both : (i : ℕ) → i < 10 → is_open mark i ≡ true → (open_at h.scaled (floor_number s (border k i)) ≡ true) × (open_at h.scaled (floor_number far (border (opposite k) i)) ≡ true)
    unfolding open_place
    open_both i l o = both (open_at h.scaled (floor_number s (border k i))) (open_at h.scaled (floor_number far (border (opposite k) i))) (rw (place_open i l) at o)

  -- a portal's side has a neighbour
  pub portal_beyond : (p : ℕ) → is_portal h p ≡ true → has_beyond h.measures (portal_sector p) (portal_side p) ≡ true
  portal_beyond p e =
      let a = portal_is h p e in
      mark_has h.measures h.scaled (portal_sector p) (portal_side p) (portal_window p) (rw (mark_at_lem (portal_sector p) (portal_side p) a.inside) at a.among)
