-- The marks that the store check refuses, found without asking each side for its neighbour: those above 1,023, and those on a side at that side's end of the floor.
use Rattle.std.specs.Prelude.{◌≡◌, ◌⊎◌, Bool, ◌||◌, List, ltb, get_or}
use Rattle.std.proofs.Math.Path.{refl, sym}
use Rattle.std.proofs.Common.{ap, ◌∙◌, inl, inr}
use Rattle.std.proofs.Math.Bool.{true, false}
use Prim.Native.Nat.{ℕ, ◌+◌, ◌*◌, ◌/◌, ◌%◌, ◌<◌}
use native.Mathlib.Omega.{arith}
use borrow.Author.Tests.{ltb-true, lt-ltb}
use Rattle.laws.specs.Fold.{pick}
use Rattle.laws.specs.Search.{any, any_has}
use Rattle.laws.specs.Hits.{any_hit, same_test}
use Rattle.model.specs.declared.Measures.{Measures}
use Rattle.model.specs.declared.Side.{Side}
use Rattle.model.specs.Cells.{side_at}
use Rattle.model.specs.Sides.{Axis, Column, Row, Sense, Lower, Higher, other, axis, sense, last}
use Rattle.model.specs.Sectors.{sectors, has_beyond}
use Rattle.model.specs.SectorSides.{sector_on, wide, sector_by, By, sector_by_lem, sector_low, same_sector, at_end}
use Rattle.model.specs.Accepted.{Accepted}
use Rattle.model.specs.Calls.{bad_mark}
use Rattle.store.specs.declared.check.EndLine.{EndLine}

abbrev pub is_above : List ℕ → ℕ → ℕ → Bool
is_above marks limit k = ltb limit (get_or marks k 0)

-- ---- the sectors at a side's end of the floor
-- what one place on an axis adds to a sector's number
abbrev stride : Measures → Axis → ℕ
stride m Column = m.rows
stride m Row = 1

-- the first of them, what leads from each to the next, and how many there are
unfoldable pub end_line : Measures → Side → EndLine
end_line m k = record { from = last (sense k) (wide m (axis k)) * stride m (axis k); step = stride m (other (axis k)); count = wide m (other (axis k)) }

abbrev pub sector_in : EndLine → ℕ → ℕ
sector_in line i = line.from + i * line.step

-- a mark on side n of sector i of a line, and on any of the line at the end of side n
abbrev pub line_mark : List ℕ → EndLine → ℕ → ℕ → Bool
line_mark marks line n i = is_above marks 0 (sector_in line i * 4 + n)

abbrev pub side_ends : Measures → List ℕ → ℕ → Bool
side_ends m marks n = any (line_mark marks (end_line m (side_at n)) n) (end_line m (side_at n)).count

-- ---- one of two tests
or_left : (a b : Bool) → a ≡ true → (a || b) ≡ true
or_left a b e = rw e

or_right : (a b : Bool) → b ≡ true → (a || b) ≡ true
or_right true b e = refl
or_right false b e = e

either : (a b : Bool) → (a || b) ≡ true → (a ≡ true) ⊎ (b ≡ true)
either true b e = inl refl
either false b e = inr e

module _ {m : Measures} (h : Accepted m) (k : Side) where
  -- they are those without a sector beyond
  end_by : (i : ℕ) → i < (end_line m k).count → By m (axis k) (last (sense k) (wide m (axis k))) i (sector_in (end_line m k) i)
  unfolding end_line
  end_by i l = rw (strides (axis k) (last (sense k) (wide m (axis k))) i) (sector_by_lem m (axis k) (last (sense k) (wide m (axis k))) i (last_low (sense k) (wide m (axis k)) (some (axis k))) l)
    where
      strides : (a : Axis) (x y : ℕ) → x * stride m a + y * stride m (other a) ≡ sector_by m a x y
      strides Column x y = omega arith
      strides Row x y = omega arith

      some : (a : Axis) → 0 < wide m a
      some Column = h.some_columns
      some Row = h.some_rows

      last_low : (e : Sense) (n : ℕ) → 0 < n → last e n < n
      last_low Lower n l = l
      last_low Higher n l = omega arith

  end_none : (i : ℕ) → i < (end_line m k).count → has_beyond m (sector_in (end_line m k) i) k ≡ false
  end_none i l = let b = end_by i l in (at_end m (sector_in (end_line m k) i) b.on k).1 b.along

  none_end : (s : ℕ) → s < sectors m → has_beyond m s k ≡ false → (i : ℕ) × (i < (end_line m k).count) × (sector_in (end_line m k) i ≡ s)
  unfolding end_line
  none_end s l e =
      let i : ℕ = sector_on m s (other (axis k)) in
      let b = end_by i (sector_low m s l (other (axis k))) in
      (i, sector_low m s l (other (axis k)), same_sector m (axis k) (sector_in (end_line m k) i) s (b.along ∙ sym ((at_end m s l k).0 e)) b.level)

-- as the check makes and takes it
pub line_is : (m : Measures) (k : Side) {from step count : ℕ} → from ≡ (end_line m k).from → step ≡ (end_line m k).step → count ≡ (end_line m k).count
    → ◌≡◌ {A = EndLine} (record { from = from; step = step; count = count }) (end_line m k)
line_is m k p q r = λ i. record { from = p i; step = q i; count = r i }

abbrev pub Within : Measures → EndLine → Type 0
Within m line = (i : ℕ) → i < line.count → sector_in line i < sectors m

pub end_within : {m : Measures} → Accepted m → (k : Side) {line : EndLine} → line ≡ end_line m k → Within m line
end_within h k e = rw e (λ i l. (end_by h k i l).on)

pub side_found : (m : Measures) (marks : List ℕ) (n : ℕ) {side : Side} {line : EndLine} {r : Bool} → side ≡ side_at n → line ≡ end_line m side
    → r ≡ any (line_mark marks line n) line.count → r ≡ side_ends m marks n
side_found m marks n p q r = r ∙ ap (λ (line : EndLine). any (line_mark marks line n) line.count) (q ∙ ap (end_line m) p)

module _ (m : Measures) (marks : List ℕ) (h : Accepted m) where
  abbrev bad : Bool
  bad = any (bad_mark m marks) (sectors m * 4)

  abbrev large : Bool
  large = any (is_above marks 1023) (sectors m * 4)

  abbrev ends : Bool
  ends = any (side_ends m marks) 4

  -- a mark that is refused is large, or at an end
  found : (n : ℕ) → n < sectors m * 4 → (b : Bool) → has_beyond m (n / 4) (side_at (n % 4)) ≡ b → pick b (is_above marks 1023 n) (is_above marks 0 n) ≡ true → (large || ends) ≡ true
  found n l true q e = or_left large ends (any_has (is_above marks 1023) (sectors m * 4) n l e)
  found n l false q e =
      let t = none_end h (side_at (n % 4)) (n / 4) (omega arith) q in
      let line : EndLine = end_line m (side_at (n % 4)) in
      let at : n ≡ sector_in (end_line m (side_at (n % 4))) t.0 * 4 + n % 4 = omega (arith, t.2) in
      let hit : side_ends m marks (n % 4) ≡ true = any_has (line_mark marks line (n % 4)) line.count t.0 t.1 (ap (is_above marks 0) (sym at) ∙ e) in
      or_right large ends (any_has (side_ends m marks) 4 (n % 4) (omega arith) hit)

  -- and the other way round
  large_bad : (n : ℕ) → n < sectors m * 4 → is_above marks 1023 n ≡ true → bad ≡ true
  unfolding bad_mark
  large_bad n l e = any_has (bad_mark m marks) (sectors m * 4) n l (go (has_beyond m (n / 4) (side_at (n % 4))))
    where
      go : (b : Bool) → pick b (is_above marks 1023 n) (is_above marks 0 n) ≡ true
      go true = e
      go false = lt-ltb 0 (get_or marks n 0) (omega (arith, ltb-true 1023 (get_or marks n 0) e))

  end_bad : (n i : ℕ) → n < 4 → i < (end_line m (side_at n)).count → line_mark marks (end_line m (side_at n)) n i ≡ true → bad ≡ true
  unfolding bad_mark
  end_bad n i k l e =
      let s : ℕ = sector_in (end_line m (side_at n)) i in
      let own : (sector_in (end_line m (side_at n)) i * 4 + n) / 4 ≡ sector_in (end_line m (side_at n)) i = omega arith in
      let side : (sector_in (end_line m (side_at n)) i * 4 + n) % 4 ≡ n = omega arith in
      any_has (bad_mark m marks) (sectors m * 4) (s * 4 + n) (omega (arith, (end_by h (side_at n) i l).on)) (rw (own, side, end_none h (side_at n) i l) e)

  pub bad_any : bad ≡ (large || ends)
  unfolding bad_mark
  bad_any = same_test bad (large || ends) there (λ e. back (either large ends e))
    where
      there : bad ≡ true → (large || ends) ≡ true
      there e = let p = any_hit (bad_mark m marks) (sectors m * 4) e in found p.at p.below (has_beyond m (p.at / 4) (side_at (p.at % 4))) refl p.passes

      back : (large ≡ true) ⊎ (ends ≡ true) → bad ≡ true
      back (inl q) = let p = any_hit (is_above marks 1023) (sectors m * 4) q in large_bad p.at p.below p.passes
      back (inr q) =
          let p = any_hit (side_ends m marks) 4 q in
          let o = any_hit (line_mark marks (end_line m (side_at p.at)) p.at) (end_line m (side_at p.at)).count p.passes in
          end_bad p.at o.at p.below o.below o.passes
