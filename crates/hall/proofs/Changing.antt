-- What change asks once it is not refused, what it answers, and what it leaves in the store.
use mathlib.Core.Path.{◌≡◌, sym, ap, ◌∙◌}
use mathlib.Core.List.{List}
use Prim.Native.Nat.{ℕ, ◌≤◌, ◌<◌}
use native.Mathlib.Omega.{arith}
use lib.Dec.{leb}
use borrow.Author.Tests.{le-leb, lt-leb}
use Rattle.laws.specs.Ladder.{refuse}
use Rattle.model.specs.declared.Measures.{Measures}
use Rattle.model.specs.declared.Refusal.{Refusal}
use Rattle.model.specs.Numbers.{number, some_number}
use Rattle.model.specs.Sectors.{cells}
use Rattle.model.specs.Store.{measures_at, decode, written}
use Rattle.model.specs.Change.{changed}
use Rattle.model.specs.Calls.{or_else, check_number, alter_number, change_number, change_into}
use Rattle.builder.specs.Parts.{Changeable, altered_number, altered_into}
use Rattle.model.specs.Refusals.{handed_on, not_accepted}
use Rattle.store.specs.Passed.{Passed, check_passed}

module _ (st : List ℕ) (n cost : ℕ) where
  pub change_first : (r : Refusal) → number r ≡ check_number st → number r ≡ change_number st n cost
  unfolding change_number
  change_first r e = handed_on r _ _ e

  -- whatever its number, a refusal leaves the store
  pub change_kept : (r : Refusal) → number r ≡ change_number st n cost → st ≡ change_into st n cost
  unfolding change_into
  change_kept r e = rw (← e) (not_accepted (number r) (written (changed (decode st) n cost) st) st (some_number r))

  -- the store is opened
  module _ {m : Measures} (p : Passed m st) {size : ℕ} (all : size ≡ cells m) where
    past : change_number st n cost ≡ refuse (leb size n) 21 (altered_number st n cost)
    unfolding change_number alter_number altered_number or_else decode
    past = let e : size ≡ cells (measures_at st) = all ∙ ap cells p.read in rw (check_passed p, e)

    pub change_21 : size ≤ n → 21 ≡ change_number st n cost
    unfolding refuse
    change_21 h = sym (past ∙ rw (le-leb size n h))

    module _ (l : n < size) where
      pub changeable : Changeable m st n
      changeable =
          let k = p.passes in
          record { stored = k; read = p.read; measures = rw p.read k.measures; room = rw p.read k.room; on = omega arith }

      last : change_number st n cost ≡ altered_number st n cost
      unfolding refuse
      last = past ∙ rw (lt-leb size n l)

      pub change_last : {q : ℕ} → q ≡ altered_number st n cost → q ≡ change_number st n cost
      change_last e = e ∙ sym last

      pub change_left : {out : List ℕ} → out ≡ altered_into st n cost → out ≡ change_into st n cost
      unfolding change_into altered_into
      change_left o = rw last o
