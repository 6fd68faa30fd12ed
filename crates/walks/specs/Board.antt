-- The board: the plain floor as one list, 120 rows of 120 places, with ten walls on each side of the floor. On it a step in a direction adds the same number everywhere, and past the end of the floor there is a wall to read.
use Prim.Native.Nat.{ℕ, ◌+◌, ◌-◌, ◌*◌, ◌/◌, ◌%◌, ◌≤◌, ◌<◌}
use Rattle.std.proofs.Math.Nat.{mul-add, mul_left_comm}
use Rattle.std.proofs.Common.{div-add-mod', mod-lt, div-lt_iff_lt-mul, ap, ◌∙◌, length-set, get_or-set_same, get_or-set_other, ltb-true, ltb-false}
use Rattle.std.proofs.Math.Decide.{ℕ_discrete}
use native.Mathlib.Omega.{arith}
use Rattle.std.specs.Prelude.{◌≡◌, Bool, ◌&&◌, List, eqb, ltb, length, set}
use Rattle.std.proofs.Math.Path.{refl, sym}
use Rattle.std.proofs.Math.Bool.{true, false, not}
use Rattle.std.proofs.Math.ListN.{get_or, get_or-eq_default}
use Rattle.std.proofs.Math.Seq.{ext_get_or}
use Rattle.laws.specs.Fold.{pick, pick_keeps}
use Rattle.laws.specs.Search.{both}
use Rattle.laws.specs.Table.{tabulate, length_tabulate, tabulate_at}
use Rattle.model.specs.declared.Measures.{Measures}
use Rattle.model.specs.declared.CompassDir.{CompassDir}
use Rattle.model.specs.Costs.{open_at}
use Rattle.model.specs.Sectors.{sectors, column_of, row_of, sector_number, floor_number}
use Rattle.model.specs.Directions.{eastward, southward, stepped, landing, on_axis, on_floor}
use Rattle.model.specs.Nearby.{on_axis_lem}
use Rattle.model.specs.SectorSides.{sector_is}
use Rattle.model.specs.Scaling.{is_wall}
use Rattle.fields.specs.Bounds.{steps_small, stepped_small}
use Rattle.model.specs.Accepted.{Accepted}
use Rattle.walks.specs.Lines.{on_line}

-- the sector that place p lies in, by column and row, each plus one; whether there is such a sector; and the floor number of the cell there
abbrev pub column_at : ℕ → ℕ
column_at p = p % 120 / 10

abbrev pub row_at : ℕ → ℕ
row_at p = p / 120 / 10

abbrev pub is_cell : Measures → ℕ → Bool
is_cell m p = on_axis (column_at p) m.columns && on_axis (row_at p) m.rows

abbrev pub number_at : Measures → ℕ → ℕ
number_at m p = floor_number (sector_number m (column_at p - 1) (row_at p - 1)) (p / 120 % 10 * 10 + p % 120 % 10)

-- what place p shows: the cost of a cell of the floor, or a wall
unfoldable pub shown : Measures → List ℕ → ℕ → ℕ
shown m xs p = pick (is_cell m p) (get_or xs (number_at m p) 255) 255

unfoldable pub board_of : Measures → List ℕ → List ℕ
board_of m xs = tabulate (shown m xs) 14400 0

length_board : (m : Measures) (xs : List ℕ) → length (board_of m xs) ≡ 14400
unfolding board_of
length_board m xs = length_tabulate (shown m xs) 14400 0

pub board_long : (m : Measures) (xs : List ℕ) {bs : List ℕ} → bs ≡ board_of m xs → length bs ≡ 14400
board_long m xs e = ap length e ∙ length_board m xs

-- where the first cell of sector s is shown, and where its cell i is
unfoldable pub corner : Measures → ℕ → ℕ
corner m s = (row_of m s * 10 + 10) * 120 + column_of m s * 10 + 10

abbrev pub spot : ℕ → ℕ → ℕ
spot o i = o + i / 10 * 120 + i % 10

-- what a step adds to a place, plus 121
abbrev pub stride : CompassDir → ℕ
stride d = eastward d + 120 * southward d

-- what is shown x places on from sector column c and y rows on from sector row r, both counted from ten before them
pub shown_at : (m : Measures) (xs : List ℕ) (c r x y : ℕ) → c ≤ 9 → x < 30
    → shown m xs ((r * 10 + y) * 120 + (c * 10 + x)) ≡ pick (on_axis (c + x / 10) m.columns && on_axis (r + y / 10) m.rows) (get_or xs (floor_number (sector_number m (c + x / 10 - 1) (r + y / 10 - 1)) (y % 10 * 10 + x % 10)) 255) 255
unfolding shown
shown_at m xs c r x y few small =
    let p = (r * 10 + y) * 120 + (c * 10 + x) in
    let column : p % 120 / 10 ≡ c + x / 10 = omega arith in
    let row : p / 120 / 10 ≡ r + y / 10 = omega arith in
    let left : p / 120 % 10 ≡ y % 10 = omega arith in
    let top : p % 120 % 10 ≡ x % 10 = omega arith in
    rw (column, row, left, top)

-- a place past the walls before the floor, by its sector column and row and its place in the sector
place_parts : (p : ℕ) → 1 ≤ column_at p → 1 ≤ row_at p → p ≡ ((row_at p - 1) * 10 + (p / 120 % 10 + 10)) * 120 + ((column_at p - 1) * 10 + (p % 120 % 10 + 10))
place_parts p h k = omega arith

one_less : (n k : ℕ) → 1 ≤ n → n ≤ k → n - 1 < k
one_less n k h l = omega arith

-- the same from sector s, whose column and row are below ten
module _ (m : Measures) (s : ℕ) (ok : Accepted m) (on : s < sectors m) where
  column_few : column_of m s ≤ 9
  column_few = omega (arith, (div-lt_iff_lt-mul ok.some_rows).1 on)

  row_few : row_of m s ≤ 9
  row_few = omega (arith, mod-lt s ok.some_rows)

  -- all its cells are on the board
  pub corner_high : corner m s + 1090 ≤ 14400
  unfolding corner
  corner_high = omega (arith, row_few, column_few)

  -- the place that k steps from cell i lead to
  module _ (i : ℕ) (d : CompassDir) (k : ℕ) (cell : i < 100) (few : k ≤ 9) where
    abbrev x : ℕ
    x = stepped (i % 10) (eastward d) k

    abbrev y : ℕ
    y = stepped (i / 10) (southward d) k

    x_small : x < 30
    x_small = stepped_small (i % 10) (eastward d) k (omega arith) (steps_small d).0 few

    y_small : y < 30
    y_small = stepped_small (i / 10) (southward d) k (omega arith) (steps_small d).1 few

    sum : spot (corner m s) i + k * stride d ≡ (row_of m s * 10 + y) * 120 + (column_of m s * 10 + x) + 121 * k
    unfolding corner
    sum = omega (arith, mul-add k (eastward d) (120 * southward d), mul_left_comm k 120 (southward d))

    pub line_low : 121 * k ≤ spot (corner m s) i + k * stride d
    line_low = omega (arith, sum)

    line_place : on_line (spot (corner m s) i) (stride d) k ≡ (row_of m s * 10 + y) * 120 + (column_of m s * 10 + x)
    line_place = omega (arith, sum)

    pub line_high : on_line (spot (corner m s) i) (stride d) k < 14400
    line_high = omega (arith, line_place, x_small, y_small, row_few, column_few)

    -- A WALL of a walk is a wall of the board
    pub wall_shown : (xs : List ℕ) → is_wall m xs s (landing i d k) ≡ not (open_at (board_of m xs) (on_line (spot (corner m s) i) (stride d) k))
    unfolding is_wall open_at on_floor landing board_of
    wall_shown xs =
        let p = on_line (spot (corner m s) i) (stride d) k in
        let at : get_or (board_of m xs) p 255 ≡ shown m xs p = tabulate_at (shown m xs) 14400 p 255 line_high in
        rw (at, line_place, shown_at m xs (column_of m s) (row_of m s) x y column_few x_small)
        (go (on_axis (column_of m s + x / 10) m.columns && on_axis (row_of m s + y / 10) m.rows))
      where
        go : (b : Bool) → pick b (not (open_at xs (floor_number (sector_number m (column_of m s + x / 10 - 1) (row_of m s + y / 10 - 1)) (y % 10 * 10 + x % 10)))) true ≡ not (not (eqb (pick b (get_or xs (floor_number (sector_number m (column_of m s + x / 10 - 1) (row_of m s + y / 10 - 1)) (y % 10 * 10 + x % 10)) 255) 255) 255))
        go true = refl
        go false = refl

  -- ---- a cell of sector s that is blocked
  module _ (j : ℕ) (cell : j < 100) (xs : List ℕ) where
    abbrev ys : List ℕ
    ys = set xs (floor_number s j) 255

    -- a list read where it was set to 255, or past its end
    set_here : (n : ℕ) → get_or (set xs n 255) n 255 ≡ 255
    set_here n = go (ltb n (length xs)) refl
      where
        go : (b : Bool) → ltb n (length xs) ≡ b → get_or (set xs n 255) n 255 ≡ 255
        go true e = get_or-set_same xs n 255 255 (ltb-true n (length xs) e)
        go false e = get_or-eq_default (set xs n 255) 255 (rw length-set (ltb-false n (length xs) e))

    spot_place : spot (corner m s) j ≡ (row_of m s * 10 + (j / 10 + 10)) * 120 + (column_of m s * 10 + (j % 10 + 10))
    unfolding corner
    spot_place = omega arith

    spot_high : spot (corner m s) j < 14400
    spot_high = omega (arith, spot_place, row_few, column_few)

    -- its place shows the wall
    here : shown m ys (spot (corner m s) j) ≡ 255
    here =
        let column : column_of m s + (j % 10 + 10) / 10 - 1 ≡ column_of m s = omega arith in
        let row : row_of m s + (j / 10 + 10) / 10 - 1 ≡ row_of m s = omega arith in
        let index : (j / 10 + 10) % 10 * 10 + (j % 10 + 10) % 10 ≡ j = omega arith in
        let sector : sector_number m (column_of m s) (row_of m s) ≡ s = omega (arith, div-add-mod' s m.rows) in
        rw (spot_place, shown_at m ys (column_of m s) (row_of m s) (j % 10 + 10) (j / 10 + 10) column_few (omega arith), column, row, index, sector)
        (pick_keeps (λ v. v ≡ 255) (on_axis (column_of m s + (j % 10 + 10) / 10) m.columns && on_axis (row_of m s + (j / 10 + 10) / 10) m.rows) (get_or ys (floor_number s j) 255) 255 (set_here (floor_number s j)) refl)

    -- another place shows what it did
    there : (p : ℕ) → (p ≡ spot (corner m s) j → ⊥) → shown m ys p ≡ shown m xs p
    unfolding shown
    there p other = go (is_cell m p) refl
      where
        c : ℕ
        c = column_at p - 1

        r : ℕ
        r = row_at p - 1

        go : (b : Bool) → is_cell m p ≡ b → pick b (get_or ys (number_at m p) 255) 255 ≡ pick b (get_or xs (number_at m p) 255) 255
        go true e = get_or-set_other xs (floor_number s j) (number_at m p) 255 255 (λ q. other (same q))
          where
            same : number_at m p ≡ floor_number s j → p ≡ spot (corner m s) j
            same q =
                let t = both (on_axis (column_at p) m.columns) (on_axis (row_at p) m.rows) e in
                let across = on_axis_lem (column_at p) m.columns t.0 in
                let down = on_axis_lem (row_at p) m.rows t.1 in
                let inside : r < m.rows = one_less (row_at p) m.rows down.0 down.1 in
                let sector : sector_number m c r ≡ s = omega arith in
                let column : column_of m s ≡ c = ap (column_of m) (sym sector) ∙ (sector_is m c r inside).0 in
                let row : row_of m s ≡ r = ap (row_of m) (sym sector) ∙ (sector_is m c r inside).1 in
                let tens : j / 10 ≡ p / 120 % 10 = omega arith in
                let ones : j % 10 ≡ p % 120 % 10 = omega arith in
                rw (spot_place, column, row, tens, ones) (place_parts p across.0 down.0)
        go false e = refl

    -- BLOCKED in the list is blocked on the board
    pub board_set : board_of m ys ≡ set (board_of m xs) (spot (corner m s) j) 255
    unfolding board_of
    board_set = ext_get_or 0 (board_of m ys) (set (board_of m xs) (spot (corner m s) j) 255) (length_board m ys ∙ sym (length-set (board_of m xs) (spot (corner m s) j) 255 ∙ length_board m xs)) (λ p l. at p (rw length_board at l) (ℕ_discrete p (spot (corner m s) j)))
      where
        at : (p : ℕ) → p < 14400 → Dec (p ≡ spot (corner m s) j) → get_or (board_of m ys) p 0 ≡ get_or (set (board_of m xs) (spot (corner m s) j) 255) p 0
        at p l (yes e) = rw e (tabulate_at (shown m ys) 14400 (spot (corner m s) j) 0 spot_high ∙ here ∙ sym (get_or-set_same (board_of m xs) (spot (corner m s) j) 255 0 (rw length_board spot_high)))
        at p l (no e) = tabulate_at (shown m ys) 14400 p 0 l ∙ there p e ∙ sym (get_or-set_other (board_of m xs) (spot (corner m s) j) p 255 0 e ∙ tabulate_at (shown m xs) 14400 p 0 l)
