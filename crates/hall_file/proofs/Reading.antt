-- What read file answers and leaves in the list, in the shapes of its returns.
use mathlib.Core.Path.{◌≡◌, sym}
use mathlib.Core.List.{List}
use Prim.Native.Nat.{ℕ, ◌+◌, ◌*◌, ◌≤◌}
use native.Mathlib.Omega.{arith}
use lib.ListN.{length}
use Rattle.std.proofs.Common.{Ok}
use Rattle.model.specs.declared.Measures.{Measures}
use Rattle.model.specs.declared.Refusal.{Refusal}
use Rattle.model.specs.Accepted.{Accepted}
use Rattle.model.specs.Numbers.{number, some_number}
use Rattle.model.specs.Store.{measures_at, entry_count, base_in}
use Rattle.model.specs.Calls.{if_accepted, form_number, read_number, read_into}
use Rattle.model.specs.Answers.{ReadAnswers, given_as}
use Rattle.model.specs.FileCosts.{Formed, formed, Readable, readable}
use Rattle.model.specs.Refusals.{not_accepted}

-- a file whose form is not refused
module _ (file : List ℕ) (is : 0 ≡ form_number file) where
  form : Formed file
  form = formed file (sym is)

  pub form_measures : Accepted (measures_at file)
  form_measures = form.measures

  pub form_head : 3 ≤ length file
  form_head = omega (arith, form.head)

  pub form_whole : 5 + 3 * entry_count file ≤ length file
  form_whole = omega (arith, form.whole)

module _ (file list : List ℕ) where
  pub refused_list : (r : Refusal) → number r ≡ read_number file (length list) → list ≡ read_into file list
  unfolding read_into
  refused_list r e = rw (← e) (not_accepted (number r) (base_in file (length list)) list (some_number r))

  module _ (is : 0 ≡ read_number file (length list)) where
    pub read_on : Readable file (length list)
    read_on = readable file (length list) (sym is)

    pub read_given : {m : Measures} → m ≡ measures_at file → ReadAnswers file (length list) (Ok m)
    read_given e = given_as is e

    pub read_list : {out : List ℕ} → out ≡ base_in file (length list) → out ≡ read_into file list
    unfolding read_into if_accepted
    read_list e = rw (← is) e
