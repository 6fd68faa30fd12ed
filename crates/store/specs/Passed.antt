-- A store that passes the store check.
use Rattle.std.specs.Prelude.{◌≡◌, refl, Bool, true, false, List, ℕ, ◌*◌, ◌/◌, ◌%◌, ◌<◌, ltb, length, get_or}
use Rattle.std.proofs.Common.{sym, arith, le-ltb}
use Rattle.laws.specs.Fold.{pick}
use Rattle.laws.specs.Ladder.{refuse}
use Rattle.laws.specs.Search.{any, any_no}
use Rattle.model.specs.declared.Measures.{Measures}
use Rattle.model.specs.Cells.{side_at}
use Rattle.model.specs.Sectors.{sectors, has_beyond}
use Rattle.model.specs.Accepted.{good_sectors, good_scale}
use Rattle.model.specs.Store.{measures_at, size_of, marks_in}
use Rattle.model.specs.Calls.{bad_mark, check_number}
use Rattle.model.specs.Checked.{Checked}

-- a store that passes, and its measures
pub record Passed (m : Measures) (st : List ℕ) : Type 0 where
  pub passes : Checked st
  pub read : m ≡ measures_at st

-- the check refuses no mark of it
no_bad_mark : {st : List ℕ} → Checked st → (n : ℕ) → n < sectors (measures_at st) * 4 → bad_mark (measures_at st) (marks_in (measures_at st) st) n ≡ false
unfolding bad_mark
no_bad_mark {st} k n l = go (has_beyond (measures_at st) (n / 4) (side_at (n % 4))) refl
  where
    mark : ℕ
    mark = get_or (marks_in (measures_at st) st) n 0

    go : (b : Bool) → has_beyond (measures_at st) (n / 4) (side_at (n % 4)) ≡ b → pick b (ltb 1023 mark) (ltb 0 mark) ≡ false
    go true e = le-ltb 1023 mark (k.small_marks n l)
    go false e = le-ltb 0 mark (omega (arith, k.no_marks n l e))

-- and nothing else
pub check_passed : {m : Measures} {st : List ℕ} → Passed m st → check_number st ≡ 0
unfolding check_number refuse
check_passed {m} {st} p =
    let k = p.passes in
    let long : ltb (length st) 4 ≡ false = le-ltb (length st) 4 (omega (arith, k.room)) in
    let fourth : ltb 0 (get_or st 3 0) ≡ false = le-ltb 0 (get_or st 3 0) (omega (arith, k.fourth)) in
    let room : ltb (length st) (size_of (measures_at st)) ≡ false = le-ltb (length st) (size_of (measures_at st)) k.room in
    let marks : any (bad_mark (measures_at st) (marks_in (measures_at st) st)) (sectors (measures_at st) * 4) ≡ false = sym (any_no _ _ _ (omega arith) (no_bad_mark k)) in
    rw (long, good_sectors k.measures, good_scale k.measures, fourth, room, marks)
