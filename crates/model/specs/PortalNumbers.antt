-- Portals by number: from sector, side and window, and back. What a portal is, taken apart and put together.
use Rattle.std.specs.Prelude.{ℕ, ◌/◌, ◌%◌, ◌≤◌, ◌<◌, ◌≡◌, true, false, ltb}
use Rattle.std.proofs.Common.{arith, sym, ap, ◌∙◌}
use borrow.Author.Tests.{ltb-true, lt-ltb, le-ltb}
use Rattle.laws.specs.Search.{both}
use Rattle.model.specs.declared.Side.{Side}
use Rattle.model.specs.Cells.{side_number, side_at}
use Rattle.model.specs.Sides.{side_number_lem, side_low, number_side}
use Rattle.model.specs.Sectors.{sectors}
use Rattle.model.specs.Windows.{window_count}
use Rattle.model.specs.Halls.{Hall, mark_at}
use Rattle.model.specs.Portals.{side_portals, sector_portals, portal_count, portal_at, portal_sector, portal_side, portal_window, portal_mark, is_portal}

-- what a number made of sector, side and window says of them
pub record Numbered (s : ℕ) (side : Side) (j p : ℕ) : Type 0 where
  pub sector : portal_sector p ≡ s
  pub on : portal_side p ≡ side
  pub window : portal_window p ≡ j

pub numbered : (s : ℕ) (side : Side) (j : ℕ) → j < side_portals → Numbered s side j (portal_at s side j)
numbered s side j l =
    let low : side_number side < 4 = side_low side in
    let place : portal_at s side j % sector_portals / side_portals ≡ side_number side = omega arith in
    record { sector = omega arith; on = ap side_at place ∙ side_number_lem side; window = omega arith }

-- and every number is made of them
pub number_is : (p : ℕ) → p ≡ portal_at (portal_sector p) (portal_side p) (portal_window p)
number_is p = omega (arith, number_side (p % sector_portals / side_portals) (omega arith))

pub same_portal : (p q : ℕ) → portal_sector p ≡ portal_sector q → portal_side p ≡ portal_side q → portal_window p ≡ portal_window q → p ≡ q
same_portal p q s k j = number_is p ∙ rw (s, k, j) (sym (number_is q))

-- A PORTAL: its sector is on the floor, and its side has its window
pub record Portal (h : Hall) (p : ℕ) : Type 0 where
  pub inside : portal_sector p < sectors h.measures
  pub among : portal_window p < window_count (portal_mark h p)

module _ (h : Hall) (p : ℕ) where
  pub portal_is : is_portal h p ≡ true → Portal h p
  unfolding is_portal
  portal_is e =
      let t = both (ltb (portal_sector p) (sectors h.measures)) (ltb (portal_window p) (window_count (portal_mark h p))) e in
      record { inside = ltb-true (portal_sector p) (sectors h.measures) t.0; among = ltb-true (portal_window p) (window_count (portal_mark h p)) t.1 }

  is_portal_lem : Portal h p → is_portal h p ≡ true
  unfolding is_portal
  is_portal_lem t = rw (lt-ltb (portal_sector p) (sectors h.measures) t.inside, lt-ltb (portal_window p) (window_count (portal_mark h p)) t.among)

  -- as code asks: by the sector, and then by the window
  pub portal_none : sectors h.measures ≤ portal_sector p → is_portal h p ≡ false
  unfolding is_portal
  portal_none l = rw (le-ltb (portal_sector p) (sectors h.measures) l)

  pub portal_test : portal_sector p < sectors h.measures → is_portal h p ≡ ltb (portal_window p) (window_count (portal_mark h p))
  unfolding is_portal
  portal_test l = rw (lt-ltb (portal_sector p) (sectors h.measures) l)

  pub portal_low : is_portal h p ≡ true → p < portal_count h.measures
  portal_low e = omega (arith, (portal_is e).inside)

-- window j of a side is a portal
pub window_portal : (h : Hall) (s : ℕ) (side : Side) (j : ℕ) → s < sectors h.measures → j < window_count (mark_at h s side) → j < side_portals → is_portal h (portal_at s side j) ≡ true
window_portal h s side j on counted l =
    let n = numbered s side j l in
    is_portal_lem h (portal_at s side j) (record { inside = rw n.sector on; among = rw (n.sector, n.on, n.window) counted })
