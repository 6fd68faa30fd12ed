-- 02, request 2, "Reading the written file gives these back", of what the calls answer and leave.
use Rattle.std.specs.Prelude.{◌≡◌, List, length, take}
use Rattle.std.proofs.Math.Path.{sym, ap}
use Rattle.std.proofs.Common.{◌∙◌, arith, Result, Ok}
use Prim.Native.Nat.{ℕ, ◌≤◌}
use borrow.Author.Tests.{ltb-false}
use Rattle.laws.specs.Ladder.{passed}
use Rattle.model.specs.declared.Measures.{Measures}
use Rattle.model.specs.declared.Refusal.{Refusal}
use Rattle.model.specs.Numbers.{number, some_number, value_of}
use Rattle.model.specs.Sectors.{cells}
use Rattle.model.specs.Store.{measures_at, decode, file_in}
use Rattle.model.specs.Calls.{or_else, if_accepted, measures_of, check_number, read_number, read_answer, read_into, write_number, write_answer, write_into}
use Rattle.model.specs.Answers.{AnswersAs, ReadAnswers, WriteAnswers, write_case}
use Rattle.model.specs.Refusals.{neither_refused, handed_on, not_accepted}
use Rattle.model.specs.FileWritten.{reads_back, written_front}

-- the refusals of write file, then those that read file has for the file
unfoldable pub back_number : List ℕ → ℕ → ℕ → ℕ
back_number st room size = or_else (write_number st room) (read_number (file_in st) size)

-- what read file answers for the file
abbrev pub BackAnswers : List ℕ → ℕ → ℕ → Result Measures Refusal → Type 0
BackAnswers st room size answer = AnswersAs (measures_of 0 0 0) (back_number st room size) (measures_at (file_in st)) answer

-- and the list as it leaves it
unfoldable pub back_into : List ℕ → ℕ → List ℕ → List ℕ
back_into st room base = if_accepted (write_number st room) (read_into (file_in st) base) base

-- where write file is not refused, and the list is of the right length, the answer has the store's sizes and scale, and the list its base costs
abbrev pub ComesBack : List ℕ → ℕ → ℕ → Result Measures Refusal → List ℕ → Type 0
ComesBack st room size r base = write_number st room ≡ 0 → size ≡ cells (measures_at st) → (r ≡ Ok (measures_at st)) × (base ≡ (decode st).base)

module _ (st out base : List ℕ) where
  store_passed : write_number st (length out) ≡ 0 → (check_number st ≡ 0) × (length (file_in st) ≤ length out)
  unfolding write_number
  store_passed e =
      let n = neither_refused (check_number st) _ e in
      (n.0, ltb-false (length out) (length (file_in st)) (passed _ 28 _ n.1).0)

  -- so what is answered and left says that the floor comes back
  pub comes_back : {r : Result Measures Refusal} {new : List ℕ} → BackAnswers st (length out) (length base) r → new ≡ back_into st (length out) base → ComesBack st (length out) (length base) r new
  unfolding back_number back_into or_else if_accepted read_answer
  comes_back a filled ok right =
      let back = reads_back st (store_passed ok).0 base right in
      (a.case_is ∙ rw ok back.0, filled ∙ rw ok back.1)

  -- a refusal is handed on, and leaves the list
  module _ (r : Refusal) (is : number r ≡ write_number st (length out)) where
    pub refused_back : number r ≡ back_number st (length out) (length base)
    unfolding back_number
    refused_back = handed_on r _ _ is

    pub base_kept : base ≡ back_into st (length out) base
    unfolding back_into
    base_kept = rw (← is) (not_accepted (number r) (read_into (file_in st) base) base (some_number r))

  -- a file of n bytes was given: n is the file's length, which the output has
  module _ {n : ℕ} (a : WriteAnswers st (length out) (Ok n)) where
    given : write_number st (length out) ≡ 0
    given = sym a.number_is

    size_is : n ≡ length (file_in st)
    unfolding if_accepted
    size_is = a.value_is ∙ rw given

    pub inside : n ≤ length out
    inside = omega (arith, size_is, (store_passed given).1)

    -- and what is read from `[..n]` of it is the file
    module _ {file : List ℕ} (e : file ≡ take n (write_into st out)) where
      file_is : file ≡ file_in st
      file_is =
          let long : n ≡ value_of 0 (write_answer st (length out)) = ap (value_of 0) (write_case st (length out) a) in
          e ∙ ap (λ (k : ℕ). take k (write_into st out)) long ∙ written_front st out given

      pub answers_back : {r : Result Measures Refusal} → ReadAnswers file (length base) r → BackAnswers st (length out) (length base) r
      unfolding back_number or_else
      answers_back read = rw given (rw file_is at read)

      pub filled_back : {new : List ℕ} → new ≡ read_into file base → new ≡ back_into st (length out) base
      unfolding back_into if_accepted
      filled_back read = rw given (rw file_is at read)
