-- The measures that 01 accepts: its two tests, and what they show once they are passed.
use Rattle.std.specs.Prelude.{ℕ, ◌≤◌, ◌<◌, ◌≡◌, refl, Bool, true, false, ◌||◌, ltb}
use Rattle.std.proofs.Common.{mul-le-mul, arith}
use borrow.Author.Tests.{ltb-false, le-ltb}
use Rattle.laws.specs.Search.{neither}
use Rattle.model.specs.declared.Measures.{Measures}
use Rattle.model.specs.Sectors.{sectors}

abbrev pub outside : ℕ → ℕ → ℕ → Bool
outside low high n = ltb n low || ltb high n

-- 11 "columns or rows outside 1 to 10", 12 "scale outside 1 to 9"
unfoldable pub bad_sectors : Measures → Bool
bad_sectors m = outside 1 10 m.columns || outside 1 10 m.rows

unfoldable pub bad_scale : Measures → Bool
bad_scale m = outside 1 9 m.scale

-- at most a hundred sectors follow: a field too, so that sums and products are bounded wherever the record is known
pub record Accepted (m : Measures) : Type 0 where
  pub some_columns : 1 ≤ m.columns
  pub few_columns : m.columns ≤ 10
  pub some_rows : 1 ≤ m.rows
  pub few_rows : m.rows ≤ 10
  pub some_scale : 1 ≤ m.scale
  pub few_scale : m.scale ≤ 9
  pub few_sectors : sectors m ≤ 100

-- ---- from the tests to the record
inside : (low high n : ℕ) → outside low high n ≡ false → (low ≤ n) × (n ≤ high)
inside low high n e =
    let t = neither (ltb n low) (ltb high n) e in
    (ltb-false n low t.0, ltb-false high n t.1)

sides_inside : (m : Measures) → bad_sectors m ≡ false → ((1 ≤ m.columns) × (m.columns ≤ 10)) × ((1 ≤ m.rows) × (m.rows ≤ 10))
unfolding bad_sectors
sides_inside m e =
    let t = neither (outside 1 10 m.columns) (outside 1 10 m.rows) e in
    (inside 1 10 m.columns t.0, inside 1 10 m.rows t.1)

pub accepted : (m : Measures) → bad_sectors m ≡ false → bad_scale m ≡ false → Accepted m
unfolding bad_scale
accepted m e f =
    let s = sides_inside m e in
    let k = inside 1 9 m.scale f in
    record {
      some_columns = s.0.0;
      few_columns = s.0.1;
      some_rows = s.1.0;
      few_rows = s.1.1;
      some_scale = k.0;
      few_scale = k.1;
      few_sectors = mul-le-mul s.0.1 s.1.1;
    }

pub many_sectors : (m : Measures) → 100 < sectors m → bad_sectors m ≡ true
many_sectors m h = go (bad_sectors m) refl
  where
    go : (b : Bool) → bad_sectors m ≡ b → bad_sectors m ≡ true
    go true e = e
    go false e =
        let s = sides_inside m e in
        let few : sectors m ≤ 100 = mul-le-mul s.0.1 s.1.1 in
        absurd (omega arith)

-- ---- and back
module _ {m : Measures} (a : Accepted m) where
  pub good_sectors : bad_sectors m ≡ false
  unfolding bad_sectors
  good_sectors = rw (
    le-ltb m.columns 1 a.some_columns,
    le-ltb 10 m.columns a.few_columns,
    le-ltb m.rows 1 a.some_rows,
    le-ltb 10 m.rows a.few_rows,
  )

  pub good_scale : bad_scale m ≡ false
  unfolding bad_scale
  good_scale = rw (le-ltb m.scale 1 a.some_scale, le-ltb 9 m.scale a.few_scale)
