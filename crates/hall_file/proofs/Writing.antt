-- What write file answers and leaves in the output, in the shapes of its returns.
use mathlib.Core.Path.{◌≡◌, sym, ap, ◌∙◌}
use mathlib.Core.List.{List, ◌++◌}
use Prim.Native.Nat.{ℕ, ◌+◌, ◌*◌, ◌≤◌, ◌<◌}
use lib.Dec.{ltb}
use lib.ListN.{length, drop}
use borrow.Author.Tests.{lt-ltb, le-ltb}
use Rattle.std.proofs.Common.{Ok}
use Rattle.laws.specs.Ladder.{refuse}
use Rattle.model.specs.declared.Measures.{Measures}
use Rattle.model.specs.declared.Refusal.{Refusal}
use Rattle.model.specs.Numbers.{number, some_number}
use Rattle.model.specs.Store.{hall_in, decode, named_cells, file_of, file_in}
use Rattle.model.specs.Calls.{or_else, if_accepted, check_number, write_number, write_into}
use Rattle.model.specs.Answers.{WriteAnswers, given_as}
use Rattle.model.specs.Refusals.{handed_on, not_accepted}
use Rattle.model.specs.FileWritten.{length_file}
use Rattle.store.specs.Passed.{Passed, check_passed}

module _ (st out : List ℕ) where
  -- a refusal by its number, and that it leaves the output
  pub write_kept : (r : Refusal) → number r ≡ write_number st (length out) → out ≡ write_into st out
  unfolding write_into
  write_kept r e = rw (← e) (not_accepted (number r) (file_in st ++ drop (length (file_in st)) out) out (some_number r))

  pub refused_store : (r : Refusal) → number r ≡ check_number st → number r ≡ write_number st (length out)
  unfolding write_number
  refused_store r e = handed_on r _ _ e

  -- the store is opened: the file, by the measures, base costs and count that were read
  module _ {m : Measures} {base : List ℕ} {count : ℕ} (p : Passed m st) (part : base ≡ (hall_in m st).base) (all : count ≡ length (named_cells base)) where
    file_is : file_of m base ≡ file_in st
    unfolding decode
    file_is = rw (part, p.read)

    size_is : 5 + 3 * count ≡ length (file_in st)
    size_is = rw all (sym (length_file m base)) ∙ ap length file_is

    number_left : write_number st (length out) ≡ refuse (ltb (length out) (5 + 3 * count)) 29 0
    unfolding write_number or_else
    number_left = rw (check_passed p, size_is)

    pub refused_29 : length out < 5 + 3 * count → 29 ≡ write_number st (length out)
    unfolding refuse
    refused_29 h = sym (number_left ∙ rw (lt-ltb (length out) (5 + 3 * count) h))

    module _ (room : 5 + 3 * count ≤ length out) where
      accepted : 0 ≡ write_number st (length out)
      unfolding refuse
      accepted = sym (number_left ∙ rw (le-ltb (length out) (5 + 3 * count) room))

      pub written_answer : WriteAnswers st (length out) (Ok (5 + 3 * count))
      written_answer = given_as accepted size_is

      pub written_output : {new : List ℕ} → new ≡ file_of m base ++ drop (length (file_of m base)) out → new ≡ write_into st out
      unfolding write_into if_accepted
      written_output e = e ∙ rw (← accepted, file_is)
