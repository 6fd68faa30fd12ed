-- 01, item 3, by axis and sense: the sector beyond a side; and cells of the plain floor.
use Prim.Native.Nat.{ℕ, zero, suc, ◌+◌, ◌-◌, ◌*◌, ◌/◌, ◌%◌, ◌≤◌, ◌<◌}
use Rattle.std.proofs.Common.{div-add-mod', mod-lt, mod-eq_of_lt, div-lt_iff_lt-mul, le-div_iff_mul-le, sym, ap, ap₂, ◌∙◌, inl, inr}
use Rattle.std.proofs.Math.Nat.{div-eq_of_lt, add-div_right, add-mul-div_right, add-mul-mod_self_right}
use Rattle.std.proofs.Math.Decide.{ℕ_discrete}
use native.Mathlib.Omega.{arith}
use Rattle.std.specs.Prelude.{◌≡◌, refl, ◌↔◌, ◌⊎◌, ◌≢◌, Bool, true, false}
use Rattle.std.proofs.lemmas.Bool.{false≢true}
use borrow.Author.Tests.{ltb-true, lt-ltb, leb-true, le-leb}
use Rattle.model.specs.declared.Measures.{Measures}
use Rattle.model.specs.declared.Side.{Side}
use Rattle.model.specs.declared.Side.TheVariants.{North, East, South, West}
use Rattle.model.specs.Cells.{cell_at, opposite}
use Rattle.model.specs.Sectors.{sectors, sector_number, column_of, row_of, floor_number, sector_of, place_of, across, down, beyond, has_beyond}
use Rattle.model.specs.Sides.{Axis, Column, Row, other, axis, sense, last, Room, moved, next_same, next_other, next_moved, next_room, room_or_last, last_none, Over, over_back}
use Rattle.model.specs.CellSides.{cell_on}

-- the places of a sector
abbrev pub sector_on : Measures → ℕ → Axis → ℕ
sector_on m s Column = column_of m s
sector_on m s Row = row_of m s

abbrev pub wide : Measures → Axis → ℕ
wide m Column = m.columns
wide m Row = m.rows

-- the sector at place x of an axis and place y of the other
abbrev pub sector_by : Measures → Axis → ℕ → ℕ → ℕ
sector_by m Column x y = sector_number m x y
sector_by m Row x y = sector_number m y x

-- a floor with a sector has a row
pub has_rows : (m : Measures) (s : ℕ) → s < sectors m → 0 < m.rows
has_rows m s l = go (ℕ_discrete m.rows 0)
  where
    go : Dec (m.rows ≡ 0) → 0 < m.rows
    go (yes e) = absurd (omega (arith, ap (λ (r : ℕ). m.columns * r) e))
    go (no e) = omega arith

pub sector_low : (m : Measures) (s : ℕ) → s < sectors m → (a : Axis) → sector_on m s a < wide m a
sector_low m s l Column = (div-lt_iff_lt-mul (has_rows m s l)).1 l
sector_low m s l Row = mod-lt s (has_rows m s l)

pub same_sector : (m : Measures) (a : Axis) (s t : ℕ) → sector_on m s a ≡ sector_on m t a → sector_on m s (other a) ≡ sector_on m t (other a) → s ≡ t
same_sector m Column s t e f = omega (arith, ap (λ (z : ℕ). z * m.rows) e, div-add-mod' s m.rows, div-add-mod' t m.rows)
same_sector m Row s t e f = omega (arith, ap (λ (z : ℕ). z * m.rows) f, div-add-mod' s m.rows, div-add-mod' t m.rows)

-- a sector by column and row
pub sector_is : (m : Measures) (c r : ℕ) → r < m.rows → (column_of m (sector_number m c r) ≡ c) × (row_of m (sector_number m c r) ≡ r)
sector_is m c r l =
    let sum : c * m.rows + r ≡ r + c * m.rows = omega arith in (
      omega (arith, ap (λ (n : ℕ). n / m.rows) sum, add-mul-div_right r c {z = m.rows} (omega arith), div-eq_of_lt l),
      omega (arith, ap (λ (n : ℕ). n % m.rows) sum, add-mul-mod_self_right r c m.rows, mod-eq_of_lt l),
    )

sector_on_lem : (m : Measures) (c r : ℕ) → c < m.columns → r < m.rows → sector_number m c r < sectors m
sector_on_lem m c r l h = (div-lt_iff_lt-mul {k = m.rows} {y = m.columns} (omega arith)).0 (rw (sector_is m c r h).0 l)

-- and by a place on an axis and one on the other
pub record By (m : Measures) (a : Axis) (x y s : ℕ) : Type 0 where
  pub on : s < sectors m
  pub along : sector_on m s a ≡ x
  pub level : sector_on m s (other a) ≡ y

pub sector_by_lem : (m : Measures) (a : Axis) (x y : ℕ) → x < wide m a → y < wide m (other a) → By m a x y (sector_by m a x y)
sector_by_lem m Column x y l h = record { on = sector_on_lem m x y l h; along = (sector_is m x y h).0; level = (sector_is m x y h).1 }
sector_by_lem m Row x y l h = record { on = sector_on_lem m y x h l; along = (sector_is m y x l).1; level = (sector_is m y x l).0 }

-- BEYOND, by axis and sense
module _ (m : Measures) (s : ℕ) (on : s < sectors m) where
  some : 0 < m.rows
  some = has_rows m s on

  parts : s / m.rows * m.rows + s % m.rows ≡ s
  parts = div-add-mod' s m.rows

  has_room : (k : Side) → (has_beyond m s k ≡ true) ↔ Room (sense k) (wide m (axis k)) (sector_on m s (axis k))
  unfolding has_beyond
  has_room North = (ltb-true 0 (row_of m s), lt-ltb 0 (row_of m s))
  has_room East = (
    λ e. rw (add-div_right s some) at ((div-lt_iff_lt-mul some).1 (ltb-true (s + m.rows) (sectors m) e)),
    λ h. lt-ltb (s + m.rows) (sectors m) ((div-lt_iff_lt-mul some).0 (rw (add-div_right s some) h)),
  )
  has_room South = (ltb-true (row_of m s + 1) m.rows, lt-ltb (row_of m s + 1) m.rows)
  has_room West = (
    λ e. (le-div_iff_mul-le some).1 (omega (arith, leb-true m.rows s e)),
    λ h. le-leb m.rows s (omega (arith, (le-div_iff_mul-le {x = 1} some).0 h)),
  )

  beyond_is : (k : Side) → Room (sense k) (wide m (axis k)) (sector_on m s (axis k)) → beyond m s k ≡ sector_by m (axis k) (moved (sense k) (sector_on m s (axis k))) (sector_on m s (other (axis k)))
  unfolding beyond
  beyond_is North h = omega (arith, parts)
  beyond_is East h = omega (arith, parts)
  beyond_is South h = omega (arith, parts)
  beyond_is West h = less (s / m.rows) h parts
    where
      less : (c : ℕ) → 0 < c → c * m.rows + s % m.rows ≡ s → s - m.rows ≡ (c - 1) * m.rows + s % m.rows
      less zero l e = absurd (omega arith)
      less (suc c) l e = let z : suc c - 1 ≡ c = omega arith in rw z (omega arith)

  -- a sector is without one exactly at its end of the floor
  pub at_end : (k : Side) → (has_beyond m s k ≡ false) ↔ (sector_on m s (axis k) ≡ last (sense k) (wide m (axis k)))
  at_end k = (
    λ e. there e (room_or_last (sense k) (wide m (axis k)) (sector_on m s (axis k)) (sector_low m s on (axis k))),
    λ q. back (has_beyond m s k) refl q,
  )
    where
      there : has_beyond m s k ≡ false → Room (sense k) (wide m (axis k)) (sector_on m s (axis k)) ⊎ (sector_on m s (axis k) ≡ last (sense k) (wide m (axis k)))
          → sector_on m s (axis k) ≡ last (sense k) (wide m (axis k))
      there e (inl r) = absurd (false≢true (sym e ∙ (has_room k).1 r))
      there e (inr q) = q

      back : (t : Bool) → has_beyond m s k ≡ t → sector_on m s (axis k) ≡ last (sense k) (wide m (axis k)) → t ≡ false
      back true e q = absurd (last_none (sense k) (wide m (axis k)) (sector_on m s (axis k)) q ((has_room k).0 e))
      back false e q = refl

  -- what lies beyond is one on over the side, and nothing else is
  pub is_beyond : (k : Side) (t : ℕ) → t < sectors m → Over k (sector_on m s) (sector_on m t) → (has_beyond m s k ≡ true) × (beyond m s k ≡ t)
  is_beyond k t l o =
      let r = next_room (sense k) (sector_low m s on (axis k)) (sector_low m t l (axis k)) o.moves in
      let n = next_moved (sense k) (sector_low m s on (axis k)) r in
      let b = sector_by_lem m (axis k) (moved (sense k) (sector_on m s (axis k))) (sector_on m s (other (axis k))) n.0 (sector_low m s on (other (axis k))) in
      ((has_room k).1 r, beyond_is k r ∙ same_sector m (axis k) _ t (b.along ∙ next_same (sense k) _ n.1 o.moves) (b.level ∙ o.stays))

-- what lies beyond a side of sector s that has one
pub record Beyond (m : Measures) (s : ℕ) (k : Side) : Type 0 where
  pub on : beyond m s k < sectors m
  pub over : Over k (sector_on m s) (sector_on m (beyond m s k))
  pub back : beyond m (beyond m s k) (opposite k) ≡ s
  pub back_has : has_beyond m (beyond m s k) (opposite k) ≡ true
  pub apart : s ≢ beyond m s k

pub lies_beyond : (m : Measures) (s : ℕ) → s < sectors m → (k : Side) → has_beyond m s k ≡ true → Beyond m s k
lies_beyond m s on k e =
    let r = (has_room m s on k).0 e in
    let n = next_moved (sense k) (sector_low m s on (axis k)) r in
    let b = sector_by_lem m (axis k) (moved (sense k) (sector_on m s (axis k))) (sector_on m s (other (axis k))) n.0 (sector_low m s on (other (axis k))) in
    let over : Over k (sector_on m s) (sector_on m (beyond m s k)) = rw (beyond_is m s on k r) (record { moves = rw b.along n.1; stays = sym b.level }) in
    let on' : beyond m s k < sectors m = rw (beyond_is m s on k r) b.on in
    let back = is_beyond m (beyond m s k) on' (opposite k) s on (over_back k over) in
    record { on = on'; over = over; back = back.1; back_has = back.0; apart = λ q. next_other (sense k) over.moves (ap (λ (t : ℕ). sector_on m t (axis k)) q) }

pub beyond_low : (m : Measures) (s : ℕ) (k : Side) → beyond m s k ≤ s + m.rows + 1
unfolding beyond
beyond_low m s North = omega arith
beyond_low m s East = omega arith
beyond_low m s South = omega arith
beyond_low m s West = omega arith

-- ---- cells of the plain floor
abbrev pub floor_on : Measures → ℕ → Axis → ℕ
floor_on m n Column = across m n
floor_on m n Row = down m n

pub floor_is : (m : Measures) (n : ℕ) (a : Axis) → floor_on m n a ≡ sector_on m (sector_of n) a * 10 + cell_on (cell_at (place_of n)) a
unfolding across down
floor_is m n Column = refl
floor_is m n Row = refl

pub sector_cell : (s i : ℕ) → i < 100 → sector_of (floor_number s i) ≡ s
sector_cell s i l = omega arith

pub floor_on_lem : (m : Measures) (s i : ℕ) → i < 100 → (a : Axis) → floor_on m (floor_number s i) a ≡ sector_on m s a * 10 + cell_on (cell_at i) a
floor_on_lem m s i l a =
    let place : place_of (floor_number s i) ≡ i = omega arith in
    floor_is m (floor_number s i) a ∙ ap₂ (λ (t j : ℕ). sector_on m t a * 10 + cell_on (cell_at j) a) (sector_cell s i l) place
