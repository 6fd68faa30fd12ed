-- What a store that passes the check shows of its portals: sizes, marks, and windows with their places.
use Rattle.std.specs.Prelude.{ℕ, ◌+◌, ◌*◌, ◌/◌, ◌≤◌, ◌<◌, ◌≡◌, refl, true, false, List, ltb, length, get_or}
use Rattle.std.proofs.Common.{arith, ap, ◌∙◌}
use Rattle.std.proofs.Math.Path.{sym}
use Rattle.model.specs.declared.Measures.{Measures}
use Rattle.model.specs.Cells.{side_number}
use Rattle.model.specs.Sectors.{sectors, costs_of}
use Rattle.model.specs.Accepted.{Accepted}
use Rattle.model.specs.Windows.{window_count, first_place, last_place}
use Rattle.model.specs.Portals.{side_portals, portal_sector, portal_side, portal_place, portal_window, portal_mark, is_portal}
use Rattle.model.specs.Sides.{number_side}
use Rattle.model.specs.PortalNumbers.{portal_is, portal_none, portal_test}
use Rattle.model.specs.PortalCrossings.{Fits, portal_run}
use Rattle.model.specs.Store.{size_of, marks_in, hall_in, decode}
use Rattle.store.specs.Layout.{hall_read}
use Rattle.portal.specs.declared.runs.OpenRun.{OpenRun}
use Rattle.portal.specs.Runs.{places_of}
use Rattle.store.specs.Passed.{Passed}
use Rattle.graph.specs.EdgeTable.{checked_fits}

-- a window's first and last place, as they were found
pub record Places (mark j : ℕ) (w : OpenRun) : Type 0 where
  pub begins : w.«first» ≡ first_place mark j
  pub ends : w.last ≡ last_place mark j
  pub low_first : w.«first» < 10
  pub low_last : w.last < 10

module _ {m : Measures} {st : List ℕ} (o : Passed m st) where
  pub measures_are : (decode st).measures ≡ m
  unfolding decode
  measures_are = sym o.read

  pub accepted_of : Accepted m
  accepted_of = rw o.read o.passes.measures

  pub room_of : size_of m ≤ length st
  room_of = rw o.read o.passes.room

  pub fits_of : Fits (decode st)
  fits_of = checked_fits o.passes

  -- the scaled costs of sector s, by the measures that were read
  pub sector_read : (s : ℕ) {part : List ℕ} → part ≡ costs_of (hall_in m st).scaled s → part ≡ costs_of (decode st).scaled s
  sector_read s e = e ∙ ap (λ h. costs_of h.scaled s) (hall_read st o.read)

  -- the mark of a portal's side
  pub mark_read : (p : ℕ) → portal_sector p < sectors m → get_or (marks_in m st) (p / side_portals) 0 ≡ portal_mark (decode st) p
  unfolding decode
  mark_read p =
      let place : portal_sector p * 4 + side_number (portal_side p) ≡ p / side_portals = omega (arith, number_side (portal_place p / side_portals) (omega arith)) in
      rw (o.read, place) (λ l. refl)

  pub mark_low : (p : ℕ) → portal_mark (decode st) p ≤ 1023
  mark_low p = omega (arith, fits_of.marked (portal_sector p) (portal_side p))

  pub no_sector : (p : ℕ) → sectors m ≤ portal_sector p → false ≡ is_portal (decode st) p
  no_sector p l = sym (portal_none (decode st) p (rw measures_are l))

  pub window_test : (p n : ℕ) → portal_sector p < sectors m → n ≡ window_count (portal_mark (decode st) p) → ltb (portal_window p) n ≡ is_portal (decode st) p
  window_test p n l e = rw e (sym (portal_test (decode st) p (rw measures_are l)))

  -- a portal's sector
  pub portal_sector_lem : (p : ℕ) → is_portal (decode st) p ≡ true → portal_sector p < sectors m
  portal_sector_lem p e = rw (← measures_are) (portal_is (decode st) p e).inside

  -- the places that were found of a portal's window
  pub places_of_lem : (p : ℕ) → is_portal (decode st) p ≡ true → {n : ℕ} {w : OpenRun} → n ≡ portal_mark (decode st) p → w ≡ places_of n (portal_window p)
      → Places (portal_mark (decode st) p) (portal_window p) w
  places_of_lem p e q f =
      let run = portal_run (decode st) fits_of p e in
      rw (f, q) (record { begins = refl; ends = refl; low_first = omega (arith, run.ordered, run.inside); low_last = run.inside })
