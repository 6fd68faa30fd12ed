-- 02, request 1, at work: one file in two orders, which meet the premises of `any_order`.
use Rattle.std.specs.Prelude.{ℕ, zero, suc, ◌<◌, ◌≡◌, refl, List, [], ◌∷◌, length}
use Rattle.std.proofs.Common.{arith, sym, ◌∙◌}
use Rattle.model.specs.Store.{entry_count, entry_number, entry_cost}
use Rattle.model.specs.Calls.{read_into}
use Rattle.model.specs.FileCosts.{EntryOf, SameEntries, any_order}
use Rattle.model.specs.Computing.{computing}

-- cells 5 and 7 with their costs, and the same two the other way round
abbrev upwards : List ℕ
upwards = 1 ∷ 1 ∷ 1 ∷ 2 ∷ 0 ∷ 5 ∷ 0 ∷ 7 ∷ 0 ∷ 2 ∷ 255 ∷ []

abbrev downwards : List ℕ
downwards = 1 ∷ 1 ∷ 1 ∷ 2 ∷ 0 ∷ 7 ∷ 0 ∷ 5 ∷ 0 ∷ 255 ∷ 2 ∷ []

-- a file of two entries, each of which the other file has
both_in : (f g : List ℕ) → entry_count f ≡ 2 → EntryOf g (entry_number f 0) (entry_cost f 0) → EntryOf g (entry_number f 1) (entry_cost f 1)
    → (k : ℕ) → k < entry_count f → EntryOf g (entry_number f k) (entry_cost f k)
both_in f g two a b zero l = a
both_in f g two a b (suc zero) l = b
both_in f g two a b (suc (suc k)) l = absurd (omega arith)

same_entries : SameEntries upwards downwards
unfolding computing
same_entries = record {
  there = both_in upwards downwards refl (record { place = 1; within = omega arith; number_is = refl; cost_is = refl }) (record { place = 0; within = omega arith; number_is = refl; cost_is = refl });
  back = both_in downwards upwards refl (record { place = 1; within = omega arith; number_is = refl; cost_is = refl }) (record { place = 0; within = omega arith; number_is = refl; cost_is = refl });
}

-- so both files fill any two lists of 100 costs alike
pub one_list : (a b : List ℕ) → length a ≡ 100 → length b ≡ 100 → read_into upwards a ≡ read_into downwards b
unfolding computing
one_list a b la lb = any_order upwards downwards a b (la ∙ sym lb) (rw la) (rw lb) same_entries
