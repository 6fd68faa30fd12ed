-- What windows answers and leaves in the list, in the shapes of its returns.
use mathlib.Core.Path.{◌≡◌, sym, ap, ◌∙◌}
use mathlib.Core.List.{List}
use Prim.Native.Nat.{ℕ, ◌+◌, ◌*◌, ◌/◌, ◌≤◌, ◌<◌}
use native.Mathlib.Omega.{arith}
use lib.Dec.{ltb}
use lib.ListN.{length, get_or}
use Rattle.std.proofs.Common.{Ok}
use borrow.Author.Tests.{le-leb, lt-leb, lt-ltb, le-ltb}
use Rattle.laws.specs.Ladder.{refuse}
use Rattle.laws.specs.Table.{tabulate_at}
use Rattle.model.specs.declared.Measures.{Measures}
use Rattle.model.specs.declared.Refusal.{Refusal}
use Rattle.model.specs.Numbers.{number, some_number}
use Rattle.model.specs.Sides.{number_side}
use Rattle.model.specs.Sectors.{sectors}
use Rattle.model.specs.Store.{measures_at, marks_in, decode}
use Rattle.model.specs.Calls.{or_else, if_accepted, check_number, windows_of, windows_number, windows_flat}
use Rattle.model.specs.Answers.{WindowsAnswers, given_as}
use Rattle.portal.specs.SectorWindows.{windows_by, FourMarks, windows_by_lem, over, few_by}
use Rattle.store.specs.Layout.{sector_marks}
use Rattle.store.specs.Passed.{Passed, check_passed}
use Rattle.model.specs.Refusals.{handed_on, not_accepted}

-- ---- the marks of a sector
module _ {st : List ℕ} {m : Measures} (s : ℕ) {marks : List ℕ} (p : Passed m st) (on : s < sectors m) (are : marks ≡ sector_marks (marks_in m st) s) where
  side_mark : (i : ℕ) → i < 4 → get_or marks i 0 ≡ get_or (marks_in (measures_at st) st) (s * 4 + i) 0
  unfolding sector_marks
  side_mark i h = rw (are, p.read) (tabulate_at (λ k. get_or (marks_in (measures_at st) st) (s * 4 + k) 0) 4 i 0 h)

  pub four_marks : FourMarks marks
  four_marks =
      record { small = λ i h. let l : s < sectors (measures_at st) = rw p.read at on in rw (side_mark i h) (p.passes.small_marks (s * 4 + i) (omega arith)) }

  windows_are : windows_of (decode st) s ≡ windows_by marks 4
  unfolding decode
  windows_are = windows_by_lem (decode st) s marks (λ i h. side_mark i h ∙ ap (λ j. get_or (marks_in (measures_at st) st) (s * 4 + j) 0) (sym (number_side i h)))

-- ---- what is answered, and left in the list
module _ (st : List ℕ) (s : ℕ) (list : List ℕ) where
  -- a refusal by its number, and that it leaves the list
  pub windows_kept : (r : Refusal) → number r ≡ windows_number st s (length list / 3) → list ≡ windows_flat st s list
  unfolding windows_flat
  windows_kept r e = rw (← e) (not_accepted (number r) _ list (some_number r))

  pub refused_store : (r : Refusal) → number r ≡ check_number st → number r ≡ windows_number st s (length list / 3)
  unfolding windows_number
  refused_store r e = handed_on r _ _ e

  -- the store is opened
  module _ {m : Measures} (p : Passed m st) {n : ℕ} (all : n ≡ sectors m) where
    same : n ≡ sectors (measures_at st)
    same = all ∙ ap sectors p.read

    pub refused_26 : n ≤ s → 26 ≡ windows_number st s (length list / 3)
    unfolding windows_number or_else refuse
    refused_26 h = rw (check_passed p, ← same, le-leb n s h)

    module _ (on : s < n) {marks : List ℕ} (are : marks ≡ sector_marks (marks_in m st) s) where
      four : FourMarks marks
      four = four_marks s p (omega arith) are

      number_left : windows_number st s (length list / 3) ≡ refuse (ltb (length list / 3) (length (windows_by marks 4))) 27 0
      unfolding windows_number or_else refuse
      number_left = rw (check_passed p, ← same, lt-leb n s on, windows_are s p (omega arith) are)

      pub refused_27 : {count : ℕ} → (FourMarks marks → count ≡ length (windows_by marks 4)) → length list / 3 < count → 27 ≡ windows_number st s (length list / 3)
      unfolding refuse
      refused_27 c h = sym (number_left ∙ rw (lt-ltb (length list / 3) (length (windows_by marks 4)) (omega (arith, c four))))

      module _ {count : ℕ} (c : FourMarks marks → count ≡ length (windows_by marks 4)) (room : count ≤ length list / 3) where
        pub room_listed : 3 * length (windows_by marks 4) ≤ length list
        room_listed = omega (arith, c four)

        pub few_listed : {found : ℕ} → found ≡ length (windows_by marks 4) → found < 256
        few_listed e = omega (arith, few_by four 4 (omega arith))

        accepted : 0 ≡ windows_number st s (length list / 3)
        unfolding refuse
        accepted = sym (number_left ∙ rw (le-ltb (length list / 3) (length (windows_by marks 4)) (omega (arith, c four))))

        pub listed_all : {found : ℕ} {out : List ℕ} → found ≡ length (windows_by marks 4) → out ≡ over (windows_by marks 4) list
            → WindowsAnswers st s (length list / 3) (Ok found) × (out ≡ windows_flat st s list)
        unfolding windows_flat if_accepted
        listed_all e o =
            let w = windows_are s p (omega arith) are in
            (given_as accepted (e ∙ sym (ap length w)), rw (← accepted, w, o))
