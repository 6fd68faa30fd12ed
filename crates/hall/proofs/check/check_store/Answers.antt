-- `check_store` climbs the ladder of the store check: each return goes by what the tests before it found, and at the end all are passed.
use Rattle.std.proofs.Common.{◌≡◌, ◌<◌, ◌≤◌, ℕ, true, false, List, ltb, sym, ◌∙◌, arith}
use borrow.Author.Tests.{lt-ltb, le-ltb, ltb-false}
use Rattle.laws.specs.Ladder.{refuse_here, refuse_past, flag}
use Rattle.model.specs.Numbers.{number_on, some_number}
use Rattle.model.specs.Store.{fourth_at}
use Rattle.model.specs.Calls.{check_number}
use Rattle.model.specs.Checked.{checked}
use Rattle.store.specs.Checks.{measures_refused, measures_passed, measures_accepted, measures_found, room_found, marks_found}
use borrow.Author.Rules.{rules}
use Rattle.hall.proofs.check.check_store.Goals as goal

-- what the test of the fourth byte found
module _ (st : List ℕ) (r : ℕ) (is : r ≡ fourth_at st) where
  fourth_bad : 0 < r → ltb 0 (fourth_at st) ≡ true
  fourth_bad h = lt-ltb 0 (fourth_at st) (omega arith)

  fourth_good : r ≤ 0 → ltb 0 (fourth_at st) ≡ false
  fourth_good h = le-ltb 0 (fourth_at st) (omega arith)

pub returns-then-st-lt4-clause-number : goal.returns-then-st-lt4-clause-number
unfolding check_number
returns-then-st-lt4-clause-number c = search (rules, refuse_here, lt-ltb)

pub returns-in_err-check_measures-clause-number : goal.returns-in_err-check_measures-clause-number
unfolding check_number
returns-in_err-check_measures-clause-number c =
    number_on _ _ c.from_residual.ensures.1 ∙ search (rules, refuse_past, le-ltb, measures_refused, measures_found, some_number, c.in_err-check_measures.ensures) depth 20

pub returns-then-fourth_byte-gt0-clause-number : goal.returns-then-fourth_byte-gt0-clause-number
unfolding check_number
returns-then-fourth_byte-gt0-clause-number c = search (rules, refuse_here, refuse_past, le-ltb, measures_passed, measures_found, c.in_ok-check_measures.ensures, fourth_bad) depth 20

pub returns-then-too_short-clause-number : goal.returns-then-too_short-clause-number
unfolding check_number
returns-then-too_short-clause-number c =
    search (rules, refuse_here, refuse_past, le-ltb, measures_passed, measures_found, c.in_ok-check_measures.ensures, fourth_good, room_found) depth 20

pub invariant_of-store : goal.invariant_of-store
invariant_of-store c = record {
  accepted = measures_accepted _ c.in_ok-check_measures.ensures;
  fits = ltb-false _ _ (flag c.too_short.ensures c.if-too_short.false);
}

pub returns-then-any_bad_mark-clause-number : goal.returns-then-any_bad_mark-clause-number
unfolding check_number
returns-then-any_bad_mark-clause-number c =
    search (rules, refuse_here, refuse_past, le-ltb, measures_passed, measures_found, c.in_ok-check_measures.ensures, fourth_good, room_found, marks_found) depth 20

pub invariant_of-result : goal.invariant_of-result
unfolding check_number
invariant_of-result c =
    let none : 0 ≡ check_number c.args.st.now = search (rules, refuse_past, le-ltb, measures_passed, measures_found, c.in_ok-check_measures.ensures, fourth_good, room_found, marks_found) depth 20 in
    record { opened = record { passes = checked _ (sym none); read = c.measures_at-measures.ensures } }

pub returns-clause-number : goal.returns-clause-number
unfolding check_number
returns-clause-number c = search (rules, refuse_past, le-ltb, measures_passed, measures_found, c.in_ok-check_measures.ensures, fourth_good, room_found, marks_found) depth 20
