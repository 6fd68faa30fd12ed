-- What the check of a store shows, once it is passed.
use Rattle.std.specs.Prelude.{◌≡◌, Bool, true, false, List, ℕ, ◌*◌, ◌/◌, ◌%◌, ◌≤◌, ◌<◌, ltb, length, get_or}
use Rattle.std.proofs.Common.{sym, arith, ltb-false}
use Rattle.std.proofs.lemmas.Bool.{false≢true}
use Rattle.laws.specs.Fold.{pick}
use Rattle.laws.specs.Search.{any_none}
use Rattle.laws.specs.Ladder.{passed}
use Rattle.model.specs.Cells.{side_at}
use Rattle.model.specs.Sectors.{sectors, has_beyond}
use Rattle.model.specs.Accepted.{Accepted, accepted}
use Rattle.model.specs.Store.{measures_at, size_of, marks_in}
use Rattle.model.specs.Calls.{bad_mark, check_number}

-- a store that passes
pub record Checked (st : List ℕ) : Type 0 where
  pub measures : Accepted (measures_at st)
  pub fourth : get_or st 3 0 ≡ 0
  pub room : size_of (measures_at st) ≤ length st
  pub small_marks : (k : ℕ) → k < sectors (measures_at st) * 4 → get_or (marks_in (measures_at st) st) k 0 ≤ 1023
  pub no_marks : (k : ℕ) → k < sectors (measures_at st) * 4 → has_beyond (measures_at st) (k / 4) (side_at (k % 4)) ≡ false → get_or (marks_in (measures_at st) st) k 0 ≡ 0

-- a mark that is not refused
mark_small : (b : Bool) (n : ℕ) → pick b (ltb 1023 n) (ltb 0 n) ≡ false → n ≤ 1023
mark_small true n e = ltb-false 1023 n e
mark_small false n e = omega (arith, ltb-false 0 n e)

mark_none : (b : Bool) (n : ℕ) → b ≡ false → pick b (ltb 1023 n) (ltb 0 n) ≡ false → n ≡ 0
mark_none true n h e = absurd (false≢true (sym h))
mark_none false n h e = omega (arith, ltb-false 0 n e)

pub checked : (st : List ℕ) → check_number st ≡ 0 → Checked st
unfolding check_number bad_mark
checked st e =
    let m = measures_at st in
    let a = passed _ 17 _ e in
    let b = passed _ 10 _ a.1 in
    let c = passed _ 11 _ b.1 in
    let d = passed _ 18 _ c.1 in
    let f = passed _ 17 _ d.1 in
    let g = passed _ 19 _ f.1 in
    let good : (k : ℕ) → k < sectors m * 4 → bad_mark m (marks_in m st) k ≡ false = λ k h. any_none (bad_mark m (marks_in m st)) (sectors m * 4) k g.0 h in
    record {
      measures = accepted m b.0 c.0;
      fourth = omega (arith, ltb-false 0 (get_or st 3 0) d.0);
      room = ltb-false (length st) (size_of m) f.0;
      small_marks = λ k h. mark_small (has_beyond m (k / 4) (side_at (k % 4))) (get_or (marks_in m st) k 0) (good k h);
      no_marks = λ k h n. mark_none (has_beyond m (k / 4) (side_at (k % 4))) (get_or (marks_in m st) k 0) n (good k h);
    }
