-- At scale 1 a change of a built hall gives the build of the altered base costs, and 22 cannot occur there.
use Prim.Native.Nat.{ℕ, zero, suc, ◌+◌, ◌-◌, ◌*◌, ◌/◌, ◌%◌, ◌≤◌, ◌<◌}
use Rattle.std.proofs.Common.{div-add-mod', mod-lt, div-lt_iff_lt-mul, ap₂, ◌∙◌, true≢false, get_or-set_other}
use Rattle.std.proofs.Math.Nat.{add-div_right}
use native.Mathlib.Omega.{arith}
use Rattle.std.specs.Prelude.{◌≡◌, ◌≢◌, Bool, false, ◌&&◌, not, ltb, eqb, length, get_or}
use Rattle.std.proofs.Math.Path.{refl, sym, ap}
use Rattle.std.proofs.Math.Bool.{true}
use mathlib.Core.List.{List}
use Rattle.std.proofs.Math.ListN.{set}
use Rattle.std.proofs.Math.Seq.{ext_get_or}
use borrow.Author.Tests.{ltb-true, leb-true, le-leb, le-ltb, eq-eqb}
use Rattle.laws.specs.Fold.{pick}
use Rattle.laws.specs.Search.{any_has, any_no}
use Rattle.laws.specs.Table.{tabulate, tabulate_at, length_tabulate}
use Rattle.model.specs.declared.Measures.{Measures}
use Rattle.model.specs.declared.Side.{Side}
use Rattle.model.specs.declared.Side.TheVariants.{North, East, South, West}
use Rattle.model.specs.Cells.{side_at, opposite}
use Rattle.model.specs.Costs.{open_at}
use Rattle.model.specs.Sectors.{sectors, cells, column_of, row_of, sector_of, floor_number, beyond, has_beyond}
use Rattle.model.specs.Directions.{on_axis, on_floor}
use Rattle.model.specs.Windows.{border, open_place, bits, mark_of, marks_of, window_count}
use Rattle.model.specs.WindowRuns.{bits_same}
use Rattle.model.specs.Halls.{Hall, mark_at}
use Rattle.model.specs.Change.{nearby, is_there, is_nearby, remarked, changed, exceeds_at, exceeds}
use Rattle.model.specs.ScaleOne.{floor_one, rescaled_one}
use Rattle.model.specs.ScaleLengths.{length_floor}
use Rattle.model.specs.Calls.{built}
use Rattle.model.specs.CellSides.{border_low}
use Rattle.model.specs.SectorSides.{sector_cell, has_rows, lies_beyond}
use Rattle.audit.specs.FreshMarks.{Fresh, far_mark}

-- ---- the sectors around a change
-- a place of the nine
near_at : (m : Measures) (t k s : ℕ) → k < 9 → is_there m t k ≡ true → nearby m t k ≡ s → is_nearby m t s ≡ true
unfolding is_nearby
near_at m t k s l there e = any_has (λ j. is_there m t j && eqb (nearby m t j) s) 9 k l (rw (there, eq-eqb (nearby m t k) s e))

near_own : (m : Measures) (t : ℕ) → is_nearby m t t ≡ true
unfolding is_there nearby
near_own m t = near_at m t 0 t (omega arith) refl refl

on_axis_lem : (n wide : ℕ) → 1 ≤ n → n ≤ wide → on_axis n wide ≡ true
on_axis_lem n wide l k = rw (le-leb 1 n l, le-leb n wide k)

module _ (m : Measures) (t : ℕ) (on : t < sectors m) where
  column : column_of m t < m.columns
  column = (div-lt_iff_lt-mul (has_rows m t on)).1 on

  row : row_of m t < m.rows
  row = mod-lt t (has_rows m t on)

  parts : column_of m t * m.rows + row_of m t ≡ t
  parts = omega (arith, div-add-mod' t m.rows)

  -- the sector beyond a side
  near_side : (k : Side) → has_beyond m t k ≡ true → is_nearby m t (beyond m t k) ≡ true
  unfolding is_there nearby on_floor beyond has_beyond
  near_side North h =
      let low = ltb-true 0 (row_of m t) h in
      let here : column_of m t + 1 - 1 ≡ column_of m t = omega arith in
      let up : column_of m t * m.rows + (row_of m t + 0 - 1) ≡ t - 1 = omega (arith, parts) in
      near_at m t 1 (t - 1) (omega arith) (rw (on_axis_lem (column_of m t + 1) m.columns (omega arith) (omega (arith, column)), on_axis_lem (row_of m t + 0) m.rows (omega arith) (omega (arith, row)))) (rw here up)
  near_side East h =
      let room = ltb-true (t + m.rows) (sectors m) h in
      let next : column_of m t + 2 ≤ m.columns = more in
      let on' : suc (column_of m t) * m.rows + (row_of m t + 1 - 1) ≡ t + m.rows = omega (arith, parts) in
      let there : column_of m t + 2 - 1 ≡ suc (column_of m t) = omega arith in
      near_at m t 2 (t + m.rows) (omega arith) (rw (on_axis_lem (column_of m t + 2) m.columns (omega arith) (omega arith), on_axis_lem (row_of m t + 1) m.rows (omega arith) (omega (arith, row)))) (rw there on')
    where
      more : column_of m t + 2 ≤ m.columns
      more =
          let room = ltb-true (t + m.rows) (sectors m) h in
          let c = (div-lt_iff_lt-mul (has_rows m t on)).1 room in
          omega (arith, c, add-div_right t (has_rows m t on))
  near_side South h =
      let room = ltb-true (row_of m t + 1) m.rows h in
      let here : column_of m t + 1 - 1 ≡ column_of m t = omega arith in
      let down : column_of m t * m.rows + (row_of m t + 2 - 1) ≡ t + 1 = omega (arith, parts) in
      near_at m t 3 (t + 1) (omega arith) (rw (on_axis_lem (column_of m t + 1) m.columns (omega arith) (omega (arith, column)), on_axis_lem (row_of m t + 2) m.rows (omega arith) (omega arith))) (rw here down)
  near_side West h = go (column_of m t) refl
    where
      go : (c : ℕ) → column_of m t ≡ c → is_nearby m t (t - m.rows) ≡ true
      go zero e = absurd (omega (arith, row, leb-true m.rows t h, parts, ap (λ (n : ℕ). n * m.rows) e))
      go (suc c) e =
          let back : c * m.rows + (row_of m t + 1 - 1) ≡ t - m.rows = omega (arith, parts, ap (λ (n : ℕ). n * m.rows) e) in
          let less : column_of m t + 0 - 1 ≡ c = omega arith in
          near_at m t 4 (t - m.rows) (omega arith) (rw (on_axis_lem (column_of m t + 0) m.columns (omega arith) (omega (arith, column)), on_axis_lem (row_of m t + 1) m.rows (omega arith) (omega (arith, row)))) (rw less back)

-- ---- marks after a change of one cost
open_other : (costs : List ℕ) (n v x : ℕ) → x ≢ n → open_at (set costs n v) x ≡ open_at costs x
unfolding open_at
open_other costs n v x e = ap (λ (c : ℕ). not (eqb c 255)) (get_or-set_other costs n x v 255 e)

module _ (m : Measures) (costs : List ℕ) (n v : ℕ) where
  abbrev t : ℕ
  t = sector_of n

  -- a sector that is not nearby is another one, and none of its sides borders on the changed sector
  not_own : (s : ℕ) → is_nearby m t s ≡ false → s ≢ t
  not_own s far e = true≢false (sym (near_own m t) ∙ ap (is_nearby m t) (sym e) ∙ far)

  not_beside : (s : ℕ) → s < sectors m → (k : Side) → has_beyond m s k ≡ true → is_nearby m t s ≡ false → beyond m s k ≢ t
  not_beside s on k there far e =
      let b = lies_beyond m s on k there in
      let on' : t < sectors m = rw (← e) b.on in
      let back : beyond m t (opposite k) ≡ s = rw e at b.back in
      let has : has_beyond m t (opposite k) ≡ true = rw e at b.back_has in
      true≢false (sym (near_side m t on' (opposite k) has) ∙ ap (is_nearby m t) back ∙ far)

  -- so its marks stay
  mark_kept : (s : ℕ) → s < sectors m → (k : Side) → is_nearby m t s ≡ false → mark_of m costs s k ≡ mark_of m (set costs n v) s k
  unfolding mark_of open_place
  mark_kept s on k far = go (has_beyond m s k) refl
    where
      other : (r i : ℕ) → r ≢ t → i < 100 → floor_number r i ≢ n
      other r i d l e = d (sym (sector_cell r i l) ∙ ap sector_of e)

      go : (b : Bool) → has_beyond m s k ≡ b → pick b (bits (open_place m costs s k) 10) 0 ≡ pick b (bits (open_place m (set costs n v) s k) 10) 0
      go true there =
          bits_same (open_place m costs s k) (open_place m (set costs n v) s k) 10
          (λ i l. ap₂ ◌&&◌ (sym (open_other costs n v (floor_number s (border k i)) (other s (border k i) (not_own s far) (border_low k i l))))
          (sym (open_other costs n v (floor_number (beyond m s k) (border (opposite k) i)) (other (beyond m s k) (border (opposite k) i) (not_beside s on k there far) (border_low (opposite k) i l)))))
      go false there = refl

  -- THE MARKS AFTER THE CHANGE are those of the altered costs
  pub remarked_is : remarked m (set costs n v) t (marks_of m costs) ≡ marks_of m (set costs n v)
  unfolding remarked marks_of
  remarked_is = ext_get_or 0 (tabulate new (sectors m * 4) 0) (tabulate fresh (sectors m * 4) 0) (length_tabulate new (sectors m * 4) 0 ∙ sym (length_tabulate fresh (sectors m * 4) 0)) (λ k l. at k (omega (arith, length_tabulate new (sectors m * 4) 0)))
    where
      fresh : ℕ → ℕ
      fresh k = mark_of m (set costs n v) (k / 4) (side_at (k % 4))

      old : ℕ → ℕ
      old k = mark_of m costs (k / 4) (side_at (k % 4))

      new : ℕ → ℕ
      new k = pick (is_nearby m t (k / 4)) (mark_of m (set costs n v) (k / 4) (side_at (k % 4))) (get_or (tabulate (λ j. mark_of m costs (j / 4) (side_at (j % 4))) (sectors m * 4) 0) k 0)

      kept : (k : ℕ) → k < sectors m * 4 → (b : Bool) → is_nearby m t (k / 4) ≡ b → pick b (fresh k) (get_or (tabulate old (sectors m * 4) 0) k 0) ≡ fresh k
      kept k l true e = refl
      kept k l false e = tabulate_at old (sectors m * 4) k 0 l ∙ mark_kept (k / 4) (omega arith) (side_at (k % 4)) e

      at : (k : ℕ) → k < sectors m * 4 → get_or (tabulate new (sectors m * 4) 0) k 0 ≡ get_or (tabulate fresh (sectors m * 4) 0) k 0
      at k l = tabulate_at new (sectors m * 4) k 0 l ∙ kept k l (is_nearby m t (k / 4)) refl ∙ sym (tabulate_at fresh (sectors m * 4) k 0 l)

-- ---- the change
module _ (m : Measures) (base : List ℕ) (n v : ℕ) (one : m.scale ≡ 1) (long : length base ≡ cells m) (on : n < cells m) where
  -- A CHANGE IS A BUILD
  pub changed_built : changed (built m base) n v ≡ built m (set base n v)
  unfolding changed built
  changed_built = rw (floor_one m one base, floor_one m one (set base n v), rescaled_one m one base n v (omega arith) long) (ap (λ (marks : List ℕ). record { measures = m; base = set base n v; scaled = set base n v; marks = marks }) (remarked_is m base n v))

-- ---- 22
-- a build gives a fresh hall
pub built_fresh : (m : Measures) (base : List ℕ) → sectors m ≤ 100 → length base ≡ cells m → Fresh (built m base)
unfolding built
built_fresh m base small long = record { small = small; sized = length_floor (cells m) m base long; marked = refl }

none_more : (a b c : Bool) (x y : ℕ) → (a ≡ true → y ≡ x) → a && b && c && ltb x y ≡ false
none_more false b c x y e = refl
none_more true b c x y e = rw (le-ltb x y (omega (arith, e refl))) (last b c)
  where
    last : (b c : Bool) → true && b && c && false ≡ false
    last true true = refl
    last true false = refl
    last false c = refl

-- 22 CANNOT OCCUR: in a fresh hall facing sides have as many windows
pub fresh_exceeds : (h : Hall) → Fresh h → (t : ℕ) → exceeds h t ≡ false
unfolding exceeds exceeds_at
fresh_exceeds h fresh t =
    sym (any_no (λ k. exceeds_at h t (k / 4) (side_at (k % 4))) (sectors h.measures * 4) (sectors h.measures * 4) (omega arith) (λ k l. level (k / 4) (omega arith) (side_at (k % 4))))
  where
    level : (s : ℕ) → s < sectors h.measures → (k : Side) → exceeds_at h t s k ≡ false
    level s on k =
        none_more (has_beyond h.measures s k) (is_nearby h.measures t s) (not (is_nearby h.measures t (beyond h.measures s k))) (window_count (mark_at h (beyond h.measures s k) (opposite k))) (window_count (mark_at h s k))
        (λ there. ap window_count (sym (far_mark h fresh s on k there)))
