-- Cells of the plain floor that share a side, by axis and sense: inside a sector, along a border and over it.
use Rattle.std.specs.Prelude.{ℕ, suc, ◌<◌, ◌≡◌, ◌↔◌}
use Rattle.std.proofs.Common.{arith, inl, inr, ⊎_elim}
use Rattle.model.specs.declared.Measures.{Measures}
use Rattle.model.specs.declared.Side.{Side}
use Rattle.model.specs.declared.Side.TheVariants.{North, East, South, West}
use Rattle.model.specs.Cells.{cell_at, opposite}
use Rattle.model.specs.Sides.{Axis, Column, Row, Sense, Lower, Higher, other, other_twice, axis, sense, Next, next_digit, carry_next, Over, over_back}
use Rattle.model.specs.CellSides.{cell_on, on_border, border_low, facing_border}
use Rattle.model.specs.Sectors.{floor_number}
use Rattle.model.specs.SectorSides.{sector_on, floor_on, floor_on_lem}
use Rattle.model.specs.Windows.{border}
use Rattle.model.specs.Account.{OneApart, ShareSide}

module _ (m : Measures) where
  -- ---- two cells share a side where one lies one on from the other over some side
  share_by : (a : Axis) (x y : ℕ) → OneApart (floor_on m x a) (floor_on m y a) → floor_on m x (other a) ≡ floor_on m y (other a) → ShareSide m x y
  share_by Column x y d e = inr (e, d)
  share_by Row x y d e = inl (e, d)

  apart : (e : Sense) (x y : ℕ) → Next e x y → OneApart x y
  apart Lower x y h = inr h
  apart Higher x y h = inl h

  pub over_share : (k : Side) (x y : ℕ) → Over k (floor_on m x) (floor_on m y) → ShareSide m x y
  over_share k x y o = share_by (axis k) x y (apart (sense k) _ _ o.moves) o.stays

  pub share_over : (x y : ℕ) → ShareSide m x y → (k : Side) × Over k (floor_on m x) (floor_on m y)
  share_over x y (inl p) = ⊎_elim (λ e. (South, record { moves = e; stays = p.0 })) (λ e. (North, record { moves = e; stays = p.0 })) p.1
  share_over x y (inr p) = ⊎_elim (λ e. (East, record { moves = e; stays = p.0 })) (λ e. (West, record { moves = e; stays = p.0 })) p.1

  pub share_back : (x y : ℕ) → ShareSide m x y → ShareSide m y x
  share_back x y h = let t = share_over x y h in over_share (opposite t.0) y x (over_back t.0 t.1)

  -- ---- inside a sector
  pub over_inside : (s : ℕ) (k : Side) (i j : ℕ) → i < 100 → j < 100 → Over k (cell_on (cell_at i)) (cell_on (cell_at j)) ↔ Over k (floor_on m (floor_number s i)) (floor_on m (floor_number s j))
  over_inside s k i j l h =
      let n = next_digit (sense k) (sector_on m s (axis k)) (cell_on (cell_at i) (axis k)) (cell_on (cell_at j) (axis k)) in
      let p = floor_on_lem m s i l in
      let q = floor_on_lem m s j h in (
        λ o. record { moves = rw (p (axis k), q (axis k)) (n.0 o.moves); stays = omega (arith, p (other (axis k)), q (other (axis k)), o.stays) },
        λ o. record { moves = n.1 (rw (p (axis k), q (axis k)) at o.moves); stays = omega (arith, p (other (axis k)), q (other (axis k)), o.stays) },
      )

  -- the next place of a side is the next cell
  pub share_along : (s : ℕ) (k : Side) (i : ℕ) → suc i < 10 → ShareSide m (floor_number s (border k i)) (floor_number s (border k (suc i)))
  share_along s k i l =
      let b = on_border k i (omega arith) in
      let c = on_border k (suc i) l in
      let p = floor_on_lem m s (border k i) (border_low k i (omega arith)) in
      let q = floor_on_lem m s (border k (suc i)) (border_low k (suc i) l) in
      share_by (other (axis k)) (floor_number s (border k i)) (floor_number s (border k (suc i))) (inl (omega (arith, p (other (axis k)), q (other (axis k)), b.place, c.place)))
      (rw (other_twice (axis k)) (omega (arith, p (axis k), q (axis k), b.edge, c.edge)))

  -- ---- over a border
  pub share_border : (s t : ℕ) (k : Side) (i : ℕ) → i < 10 → Over k (sector_on m s) (sector_on m t) → ShareSide m (floor_number s (border k i)) (floor_number t (border (opposite k) i))
  share_border s t k i l o =
      let b = on_border k i l in
      let f = facing_border k i l in
      let p = floor_on_lem m s (border k i) (border_low k i l) in
      let q = floor_on_lem m t (border (opposite k) i) (border_low (opposite k) i l) in
      over_share k (floor_number s (border k i)) (floor_number t (border (opposite k) i))
      (record {
        moves = rw (p (axis k), q (axis k), b.edge, f.edge) (carry_next (sense k) _ _ o.moves);
        stays = omega (arith, p (other (axis k)), q (other (axis k)), b.place, f.place, o.stays);
      })
