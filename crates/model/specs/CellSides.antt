-- 01, item 1, by axis and sense: the cell beside over a side, and the border cells of a side.
use Rattle.std.specs.Prelude.{ℕ, ◌+◌, ◌-◌, ◌*◌, ◌%◌, ◌≤◌, ◌<◌, ◌≡◌, refl, ◌⊎◌, Bool, true, false, leb, ltb}
use Rattle.std.proofs.Common.{arith, sym, ◌∙◌, inl, inr, ltb-true, lt-ltb, leb-true, le-leb}
use Rattle.laws.specs.Fold.{pick}
use Rattle.model.specs.declared.FieldCell.{FieldCell}
use Rattle.model.specs.declared.Side.{Side}
use Rattle.model.specs.declared.Side.TheVariants.{North, East, South, West}
use Rattle.model.specs.Cells.{cell_at, opposite, beside}
use Rattle.model.specs.Sides.{Axis, Column, Row, Sense, other, turned, axis, sense, opposite_is, last, Room, moved, next_moved, room_or_last, Over, over_back}
use Rattle.model.specs.Windows.{border_cell, border}

-- the places of a cell
abbrev pub cell_on : FieldCell → Axis → ℕ
cell_on c Column = c.column
cell_on c Row = c.row

pub cell_low : (a : Axis) (i : ℕ) → i < 100 → cell_on (cell_at i) a < 10
cell_low Column i l = omega arith
cell_low Row i l = omega arith

same_cell : (a : Axis) (i j : ℕ) → cell_on (cell_at i) a ≡ cell_on (cell_at j) a → cell_on (cell_at i) (other a) ≡ cell_on (cell_at j) (other a) → i ≡ j
same_cell Column i j e f = omega arith
same_cell Row i j e f = omega arith

-- BESIDE, by axis and sense
picked : (t : Bool) (j : ℕ) → pick t j 100 < 100 → (t ≡ true) × (pick t j 100 ≡ j)
picked true j l = (refl, refl)
picked false j l = absurd (omega arith)

pub beside_over : (i : ℕ) (k : Side) → i < 100 → beside i k < 100 → Over k (cell_on (cell_at i)) (cell_on (cell_at (beside i k)))
unfolding beside
beside_over i North l h = let t = picked (leb 10 i) (i - 10) h in let b = leb-true 10 i t.0 in rw t.1 (record { moves = omega arith; stays = omega arith })
beside_over i East l h = let t = picked (ltb (i % 10) 9) (i + 1) h in let b = ltb-true (i % 10) 9 t.0 in rw t.1 (record { moves = omega arith; stays = omega arith })
beside_over i South l h = let t = picked (ltb i 90) (i + 10) h in rw t.1 (record { moves = omega arith; stays = omega arith })
beside_over i West l h = let t = picked (ltb 0 (i % 10)) (i - 1) h in let b = ltb-true 0 (i % 10) t.0 in rw t.1 (record { moves = omega arith; stays = omega arith })

pub over_beside : (i j : ℕ) (k : Side) → i < 100 → j < 100 → Over k (cell_on (cell_at i)) (cell_on (cell_at j)) → beside i k ≡ j
unfolding beside
over_beside i j North l h o = rw (le-leb 10 i (omega arith)) (omega arith)
over_beside i j East l h o = rw (lt-ltb (i % 10) 9 (omega arith)) (omega arith)
over_beside i j South l h o = rw (lt-ltb i 90 (omega arith)) (omega arith)
over_beside i j West l h o = rw (lt-ltb 0 (i % 10) (omega arith)) (omega arith)

-- a cell without one is at the end of its sector
cell_by : Axis → ℕ → ℕ → ℕ
cell_by Column x y = y * 10 + x
cell_by Row x y = x * 10 + y

cell_by_lem : (a : Axis) (x y : ℕ) → x < 10 → y < 10 → (cell_by a x y < 100) × (cell_on (cell_at (cell_by a x y)) a ≡ x) × (cell_on (cell_at (cell_by a x y)) (other a) ≡ y)
unfolding cell_by
cell_by_lem Column x y l h = (omega arith, omega arith, omega arith)
cell_by_lem Row x y l h = (omega arith, omega arith, omega arith)

pub beside_none : (i : ℕ) (k : Side) → i < 100 → 100 ≤ beside i k → cell_on (cell_at i) (axis k) ≡ last (sense k) 10
beside_none i k l h = go (room_or_last (sense k) 10 (cell_on (cell_at i) (axis k)) (cell_low (axis k) i l))
  where
    go : Room (sense k) 10 (cell_on (cell_at i) (axis k)) ⊎ (cell_on (cell_at i) (axis k) ≡ last (sense k) 10) → cell_on (cell_at i) (axis k) ≡ last (sense k) 10
    go (inl r) =
        let n = next_moved (sense k) (cell_low (axis k) i l) r in
        let b = cell_by_lem (axis k) (moved (sense k) (cell_on (cell_at i) (axis k))) (cell_on (cell_at i) (other (axis k))) n.0 (cell_low (other (axis k)) i l) in
        absurd (omega (arith, b.0, over_beside i _ k l b.0 (record { moves = rw b.1 n.1; stays = sym b.2 })))
    go (inr q) = q

pub beside_back : (i : ℕ) (k : Side) → i < 100 → beside i k < 100 → beside (beside i k) (opposite k) ≡ i
beside_back i k l h = over_beside (beside i k) i (opposite k) h l (over_back k (beside_over i k l h))

-- THE BORDER CELLS, by axis and sense: place i of side k, on an axis and at a sense's end of it
pub record OnBorder (k : Side) (i : ℕ) (a : Axis) (e : Sense) : Type 0 where
  pub edge : cell_on (cell_at (border k i)) a ≡ last e 10
  pub place : cell_on (cell_at (border k i)) (other a) ≡ i
  pub column_low : (border_cell k i).column < 10
  pub row_low : (border_cell k i).row < 10

pub on_border : (k : Side) (i : ℕ) → i < 10 → OnBorder k i (axis k) (sense k)
on_border North i l = omega arith
on_border East i l = omega arith
on_border South i l = omega arith
on_border West i l = omega arith

pub facing_border : (k : Side) (i : ℕ) → i < 10 → OnBorder (opposite k) i (axis k) (turned (sense k))
facing_border k i l = let o = opposite_is k in rw (o.axis_is, o.sense_is) at (on_border (opposite k) i l)

pub border_low : (k : Side) (i : ℕ) → i < 10 → border k i < 100
border_low k i l = let b = on_border k i l in omega arith

-- a cell at the end of an axis is the border cell of its place on the other
pub is_border : (a : Axis) (i : ℕ) {k : Side} {j : ℕ} {e : Sense} → OnBorder k j a e → cell_on (cell_at i) a ≡ last e 10 → cell_on (cell_at i) (other a) ≡ j → i ≡ border k j
is_border a i {k} {j} b e f = same_cell a i (border k j) (e ∙ sym b.edge) (f ∙ sym b.place)
