-- `landing` over the plain floor: in every direction, n steps move column and row separately, and end on the floor exactly where both stay on it.
use Prim.Native.Nat.{ℕ, ◌+◌, ◌-◌, ◌*◌, ◌/◌, ◌%◌, ◌≤◌, ◌<◌}
use native.Mathlib.Omega.{arith}
use Rattle.std.specs.Prelude.{◌≡◌, ◌↔◌, true, leb}
use borrow.Author.Tests.{leb-true, le-leb}
use Rattle.laws.specs.Search.{both}
use Rattle.model.specs.declared.Measures.{Measures}
use Rattle.model.specs.declared.CompassDir.{CompassDir}
use Rattle.model.specs.Sectors.{column_of, row_of, floor_number, across, down}
use Rattle.model.specs.Sides.{Column, Row}
use Rattle.model.specs.SectorSides.{sector_is, floor_on_lem}
use Rattle.model.specs.Directions.{eastward, southward, stepped, landing, shifted, on_axis, on_floor}

-- ---- one axis: a sector's place on it, a cell's place in the sector, and n steps of e, where 1 stands still
-- n steps end on an axis of so many sectors exactly where they go neither below its first cell nor past its last
axis_on : (sector wide c e n : ℕ) → c < 10 → n ≤ 9 → (on_axis (sector + stepped c e n / 10) wide ≡ true) ↔ ((n ≤ sector * 10 + c + n * e) × (sector * 10 + c + n * e < wide * 10 + n))
axis_on sector wide c e n l k = (
  λ h. let t = both (leb 1 (sector + stepped c e n / 10)) (leb (sector + stepped c e n / 10) wide) h in
      let low = leb-true 1 (sector + stepped c e n / 10) t.0 in
      let high = leb-true (sector + stepped c e n / 10) wide t.1 in
      (omega arith, omega arith),
  λ h. let low : 1 ≤ sector + stepped c e n / 10 = omega (arith, h.0) in
      let high : sector + stepped c e n / 10 ≤ wide = omega (arith, h.1) in
      rw (le-leb 1 (sector + stepped c e n / 10) low, le-leb (sector + stepped c e n / 10) wide high),
)

-- and then they end n × (e - 1) cells further on
axis_moved : (sector c e n : ℕ) → c < 10 → n ≤ 9 → 1 ≤ sector + stepped c e n / 10 → (sector + stepped c e n / 10 - 1) * 10 + stepped c e n % 10 + n ≡ sector * 10 + c + n * e
axis_moved sector c e n l k h = omega arith

-- ---- the two axes of a floor
-- a place so many steps from another lies on an axis so many cells wide
abbrev pub Stays : ℕ → ℕ → ℕ → ℕ → Type 0
Stays from steps e wide = (steps ≤ from + steps * e) × (from + steps * e < wide + steps)

module _ (m : Measures) (s i n : ℕ) (d : CompassDir) (cell : i < 100) (few : n ≤ 9) where
  -- THE END OF THE FLOOR: the landing is on the floor exactly where column and row stay on it
  pub landing_on : (on_floor m s (landing i d n).east (landing i d n).south ≡ true)
      ↔ (Stays (across m (floor_number s i)) n (eastward d) (m.columns * 10) × Stays (down m (floor_number s i)) n (southward d) (m.rows * 10))
  unfolding on_floor landing
  landing_on =
      let east = axis_on (column_of m s) m.columns (i % 10) (eastward d) n (omega arith) few in
      let south = axis_on (row_of m s) m.rows (i / 10) (southward d) n (omega arith) few in
      rw (floor_on_lem m s i cell Column, floor_on_lem m s i cell Row) (
        λ h. let t = both (on_axis (column_of m s + stepped (i % 10) (eastward d) n / 10) m.columns) (on_axis (row_of m s + stepped (i / 10) (southward d) n / 10) m.rows) h in
            (east.0 t.0, south.0 t.1),
        λ h. rw (east.1 h.0, south.1 h.1),
      )

  -- THE LANDING: column and row move by n × (e - 1)
  pub landing_moved : on_floor m s (landing i d n).east (landing i d n).south ≡ true
      → let there = floor_number (shifted m s (landing i d n).east (landing i d n).south) (landing i d n).index in
      (across m there + n ≡ across m (floor_number s i) + n * eastward d) × (down m there + n ≡ down m (floor_number s i) + n * southward d)
  unfolding on_floor landing
  landing_moved h =
      let x : ℕ = stepped (i % 10) (eastward d) n in
      let y : ℕ = stepped (i / 10) (southward d) n in
      let t = both (on_axis (column_of m s + x / 10) m.columns) (on_axis (row_of m s + y / 10) m.rows) h in
      let east = leb-true 1 (column_of m s + x / 10) (both (leb 1 (column_of m s + x / 10)) (leb (column_of m s + x / 10) m.columns) t.0).0 in
      let south = both (leb 1 (row_of m s + y / 10)) (leb (row_of m s + y / 10) m.rows) t.1 in
      let down_low = leb-true 1 (row_of m s + y / 10) south.0 in
      let row : row_of m s + y / 10 - 1 < m.rows = omega (arith, leb-true (row_of m s + y / 10) m.rows south.1) in
      let low : y % 10 * 10 + x % 10 < 100 = omega arith in
      let column_part : (y % 10 * 10 + x % 10) % 10 ≡ x % 10 = omega arith in
      let row_part : (y % 10 * 10 + x % 10) / 10 ≡ y % 10 = omega arith in
      let sector : ℕ = shifted m s (x / 10) (y / 10) in
      let there = sector_is m (column_of m s + x / 10 - 1) (row_of m s + y / 10 - 1) row in
      rw (
        floor_on_lem m sector (y % 10 * 10 + x % 10) low Column,
        floor_on_lem m sector (y % 10 * 10 + x % 10) low Row,
        floor_on_lem m s i cell Column,
        floor_on_lem m s i cell Row,
        column_part,
        row_part,
        there.0,
        there.1,
      )
      (axis_moved (column_of m s) (i % 10) (eastward d) n (omega arith) few east, axis_moved (row_of m s) (i / 10) (southward d) n (omega arith) few down_low)
