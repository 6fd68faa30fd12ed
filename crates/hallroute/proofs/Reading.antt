-- How much of the input is the hall file, and what reading and building it leave.
use mathlib.Core.Path.{◌≡◌, sym, ap, ◌∙◌}
use mathlib.Core.Bool.{Bool, true, false}
use mathlib.Core.List.{List}
use Prim.Native.Nat.{ℕ, suc, ◌+◌, ◌*◌, ◌≤◌, ◌<◌, min}
use native.Mathlib.Omega.{arith}
use lib.Dec.{ltb}
use lib.ListN.{length}
use Rattle.std.proofs.Common.{Ok}
use borrow.Author.Tests.{lt-ltb, le-ltb, eq-eqb}
use Rattle.laws.specs.Ladder.{refuse}
use Rattle.model.specs.declared.Measures.{Measures}
use Rattle.model.specs.declared.Refusal.{Refusal}
use Rattle.model.specs.Numbers.{number, some_number}
use Rattle.model.specs.Sectors.{cells}
use Rattle.model.specs.Store.{u16_at, measures_at, size_of, base_in}
use Rattle.model.specs.Accepted.{many_sectors, good_sectors, good_scale}
use Rattle.model.specs.Calls.{if_accepted, form_number, read_number, read_into, build_number, build_into}
use Rattle.model.specs.Answers.{ReadAnswers}
use Rattle.model.specs.Hallroute.{file_size}
use Rattle.model.specs.FileCosts.{readable}
use Rattle.model.specs.Refusals.{refused_first, not_accepted}
use Rattle.hallroute.specs.Opening.{file_number, open_into}

-- ---- the file in the input
module _ (input : List ℕ) where
  pub size_head : length input < 5 → (length input ≡ file_size input) × (length input ≤ length input)
  unfolding file_size
  size_head h = (rw (lt-ltb (length input) 5 h), omega arith)

  module _ {n : ℕ} (count : n ≡ u16_at input 3) (head : 5 ≤ length input) where
    pub size_counted : {size : ℕ} → size ≡ min (length input) (5 + 3 * n) → (size ≡ file_size input) × (size ≤ length input)
    unfolding file_size
    size_counted e = (e ∙ rw (le-ltb (length input) 5 head, ← count), omega (arith, e))

-- ---- how many base costs it is read into
either_number : (b : Bool) (n m : ℕ) → 0 < refuse b (suc n) (suc m)
unfolding refuse
either_number true n m = omega arith
either_number false n m = omega arith

module _ (file : List ℕ) where
  -- a file of bad form is refused whatever the list
  bad_form : (size : ℕ) → 0 < form_number file → read_number file size ≡ file_number file
  unfolding read_number
  bad_form size h = sym (refused_first (form_number file) _ h) ∙ refused_first (form_number file) _ h

  pub base_head : length file < 5 → read_number file 0 ≡ file_number file
  unfolding form_number refuse
  base_head h = bad_form 0 (rw (lt-ltb (length file) 5 h) (omega arith))

  module _ {m : Measures} {size : ℕ} (read : m ≡ measures_at file) (all : size ≡ cells m) where
    pub base_large : 10000 < size → read_number file 0 ≡ file_number file
    unfolding form_number refuse
    base_large h =
        let all : size ≡ cells (measures_at file) = all ∙ ap cells read in
        bad_form 0 (rw (many_sectors (measures_at file) (omega arith)) (either_number (ltb (length file) 5) 9 10))

-- ---- what reading it and building its hall leave
pub file_refused : (file st : List ℕ) (size : ℕ) → read_number file size ≡ file_number file → (r : Refusal) → number r ≡ read_number file size → (number r ≡ file_number file) × (st ≡ open_into file st)
unfolding open_into
file_refused file st size same r e = (e ∙ same, rw (← same, ← e) (not_accepted (number r) _ st (some_number r)))

module _ (file base st : List ℕ) (same : read_number file (length base) ≡ file_number file)
    (room : 20804 ≤ length st) {m : Measures} (read : ReadAnswers file (length base) (Ok m)) {filled : List ℕ} (kept : length filled ≡ length base) (are : filled ≡ read_into file base) where
  no : read_number file (length base) ≡ 0
  no = sym read.number_is

  its : m ≡ measures_at file
  unfolding if_accepted
  its = read.value_is ∙ rw no

  size : length base ≡ cells (measures_at file)
  size = (readable file (length base) no).room

  costs : filled ≡ base_in file (cells (measures_at file))
  unfolding read_into if_accepted
  costs = are ∙ rw (no, size)

  build_0 : build_number (measures_at file) filled st ≡ 0
  unfolding build_number refuse
  build_0 =
      let ok = (readable file (length base) no).form.measures in
      rw (good_sectors ok, good_scale ok, eq-eqb (length filled) (cells (measures_at file)) (kept ∙ size), le-ltb (length st) (size_of (measures_at file)) (omega arith))

  pub file_built : {r : ℕ} {out : List ℕ} → r ≡ build_number m filled st → out ≡ build_into m filled st → (r ≡ file_number file) × (out ≡ open_into file st)
  unfolding build_into open_into if_accepted
  file_built e o = (e ∙ rw (its, build_0, ← same, no), o ∙ rw (its, build_0, ← same, no, costs))
