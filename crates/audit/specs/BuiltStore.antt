-- A store that build wrote: it holds the hall, and passes the check.
use Rattle.std.specs.Prelude.{ℕ, ◌*◌, ◌/◌, ◌%◌, ◌≤◌, ◌<◌, ◌≡◌, Bool, true, List, eqb, length, get_or}
use Rattle.std.proofs.Common.{arith, sym}
use Rattle.std.proofs.Math.Path.{refl, ap}
use Rattle.std.proofs.Math.Bool.{false}
use Rattle.std.proofs.Math.Dec.{ltb}
use borrow.Author.Tests.{ltb-false, le-ltb, eqb-true, not-false}
use Rattle.laws.specs.Fold.{pick}
use Rattle.laws.specs.Search.{any, any_no}
use Rattle.laws.specs.Ladder.{refuse, passed}
use Rattle.laws.specs.Table.{tabulate_at, length_tabulate}
use Rattle.model.specs.declared.Measures.{Measures}
use Rattle.model.specs.declared.Side.{Side}
use Rattle.model.specs.Cells.{side_at}
use Rattle.model.specs.Sectors.{sectors, cells, has_beyond}
use Rattle.model.specs.Accepted.{Accepted, accepted, good_sectors, good_scale}
use Rattle.model.specs.Windows.{mark_of, marks_of}
use Rattle.model.specs.Halls.{Hall}
use Rattle.model.specs.ScaleLengths.{length_floor}
use Rattle.model.specs.Store.{measures_at, size_of, marks_in, decode, encode, written}
use Rattle.model.specs.StoreLayout.{Laid, length_written, decode_written}
use Rattle.model.specs.Calls.{build_number, built, bad_mark, check_number}
use Rattle.audit.specs.FreshMarks.{Fresh, mark_small}
use Rattle.audit.specs.ChangeAtOne.{built_fresh}

-- ---- what build accepts
pub record Accepts (m : Measures) (base st : List ℕ) : Type 0 where
  pub measures : Accepted m
  pub long : length base ≡ cells m
  pub room : size_of m ≤ length st

pub accepts : (m : Measures) (base st : List ℕ) → build_number m base st ≡ 0 → Accepts m base st
unfolding build_number
accepts m base st e =
    let a = passed _ 10 _ e in
    let b = passed _ 11 _ a.1 in
    let c = passed _ 16 _ b.1 in
    let d = passed _ 17 _ c.1 in
    record {
      measures = accepted m a.0 b.0;
      long = eqb-true (length base) (cells m) (not-false (eqb (length base) (cells m)) c.0);
      room = ltb-false (length st) (size_of m) d.0;
    }

-- ---- marks
bare : (m : Measures) (costs : List ℕ) (s : ℕ) (k : Side) → has_beyond m s k ≡ false → mark_of m costs s k ≡ 0
unfolding mark_of
bare m costs s k e = rw e

small : (m : Measures) (costs : List ℕ) (s : ℕ) (k : Side) (t : Bool) → has_beyond m s k ≡ t → pick t (ltb 1023 (mark_of m costs s k)) (ltb 0 (mark_of m costs s k)) ≡ false
small m costs s k true e = le-ltb 1023 (mark_of m costs s k) (omega (arith, mark_small m costs s k))
small m costs s k false e = le-ltb 0 (mark_of m costs s k) (omega (arith, bare m costs s k e))

-- none is refused
mark_good : (m : Measures) (costs : List ℕ) (k : ℕ) → k < sectors m * 4 → bad_mark m (marks_of m costs) k ≡ false
unfolding bad_mark marks_of
mark_good m costs k l = rw (tabulate_at (λ j. mark_of m costs (j / 4) (side_at (j % 4))) (sectors m * 4) k 0 l) (small m costs (k / 4) (side_at (k % 4)) (has_beyond m (k / 4) (side_at (k % 4))) refl)

marks_good : (m : Measures) (costs : List ℕ) → any (bad_mark m (marks_of m costs)) (sectors m * 4) ≡ false
marks_good m costs = sym (any_no (bad_mark m (marks_of m costs)) (sectors m * 4) (sectors m * 4) (omega arith) (mark_good m costs))

-- ---- the store
module _ (m : Measures) (base st : List ℕ) (ok : Accepts m base st) where
  pub fresh : Fresh (built m base)
  fresh = built_fresh m base ok.measures.few_sectors ok.long

  pub laid : Laid (built m base)
  unfolding built marks_of
  laid = record {
    base_cells = ok.long;
    scaled_cells = length_floor (cells m) m base ok.long;
    marks_sides = length_tabulate (λ k. mark_of m (built m base).scaled (k / 4) (side_at (k % 4))) (sectors m * 4) 0;
  }

  abbrev store : List ℕ
  store = written (built m base) st

  pub decoded : decode store ≡ built m base
  decoded = decode_written (built m base) laid st

  measured_is : measures_at store ≡ m
  unfolding decode built
  measured_is = ap (λ (h : Hall). h.measures) decoded

  marks_are : marks_in (measures_at store) store ≡ marks_of m (built m base).scaled
  unfolding decode built
  marks_are = ap (λ (h : Hall). h.marks) decoded

  fourth : get_or store 3 0 ≡ 0
  unfolding written encode
  fourth = refl

  as_long : length store ≡ length st
  unfolding built
  as_long = length_written (built m base) laid st ok.room

  -- THE STORE CHECK passes
  pub checks : check_number store ≡ 0
  unfolding check_number refuse written encode built
  checks =
      let four : ltb (length store) 4 ≡ false = le-ltb (length store) 4 (omega (arith, as_long, ok.room)) in
      let room : ltb (length store) (size_of m) ≡ false = le-ltb (length store) (size_of m) (omega (arith, as_long, ok.room)) in
      rw (four, marks_are, measured_is, good_sectors ok.measures, good_scale ok.measures, fourth, room, marks_good m (built m base).scaled)
