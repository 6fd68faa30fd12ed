-- What build asks once it is not refused, and what it leaves in the store.
use mathlib.Core.Path.{◌≡◌, sym}
use mathlib.Core.List.{List}
use Prim.Native.Nat.{ℕ}
use lib.ListN.{length}
use borrow.Author.Tests.{ltb-false}
use Rattle.laws.specs.Ladder.{passed, not_different}
use Rattle.model.specs.declared.Measures.{Measures}
use Rattle.model.specs.declared.Refusal.{Refusal}
use Rattle.model.specs.Numbers.{number, some_number}
use Rattle.model.specs.Sectors.{cells}
use Rattle.model.specs.Accepted.{accepted}
use Rattle.model.specs.Store.{size_of, written}
use Rattle.model.specs.Calls.{if_accepted, build_number, built, build_into}
use Rattle.builder.specs.Parts.{Buildable}
use Rattle.model.specs.Refusals.{not_accepted}

module _ (m : Measures) (base st : List ℕ) where
  pub build_kept : (r : Refusal) → number r ≡ build_number m base st → st ≡ build_into m base st
  unfolding build_into
  build_kept r e = rw (← e) (not_accepted (number r) (written (built m base) st) st (some_number r))

  module _ (is : 0 ≡ build_number m base st) where
    pub buildable : Buildable m base st
    unfolding build_number
    buildable =
        let a = passed _ 10 _ (sym is) in
        let b = passed _ 11 _ a.1 in
        let d = passed _ 16 _ b.1 in
        let e = passed _ 17 _ d.1 in
        record {
          costs = record { measures = accepted m a.0 b.0; long = not_different (length base) (cells m) d.0 };
          room = ltb-false (length st) (size_of m) e.0;
        }

    pub build_written : {out : List ℕ} → out ≡ written (built m base) st → out ≡ build_into m base st
    unfolding build_into if_accepted
    build_written o = rw (← is) o
