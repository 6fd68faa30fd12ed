-- 02, request 2, at work: two stores that differ and have one file, the one that no build gives written, read and built again, and the longest file.
use Rattle.std.proofs.Common.{arith, ◌∙◌}
use Rattle.std.specs.Prelude.{ℕ, zero, suc, ◌≤◌, ◌<◌, ◌≡◌, refl, Bool, true, List, [], ◌∷◌, length, replicate}
use Rattle.std.proofs.lemmas.List.{length-replicate, get_or-replicate}
use Rattle.laws.specs.Fold.{bit}
use Rattle.laws.specs.Search.{count}
use Rattle.model.specs.Calls.{build_into, check_number, read_into}
use Rattle.model.specs.Store.{size_of, is_named, named_cells, file_in}
use Rattle.model.specs.FileWritten.{SameFloor, same_file, same_floor, reads_back, named_count, length_file}
use Rattle.model.specs.Computing.{computing}
use Rattle.audit.specs.Starred.{hall, floor}
use Rattle.audit.specs.Written.{blocked_5, lent}
use Rattle.audit.specs.BuiltStore.{Accepts}
use Rattle.audit.specs.BuiltAgain.{SameAgain, built_again, built_passes, built_file}

-- the premises of the three theorems, met by a store whose scaled costs fit nothing
pub one_floor : SameFloor lent blocked_5
unfolding computing
one_floor = same_floor lent blocked_5 refl refl refl

pub one_file : file_in lent ≡ file_in blocked_5
one_file = same_file lent blocked_5 one_floor

pub lent_back : read_into (file_in lent) (replicate 100 9) ≡ floor (hall 1 1 1) (5 ∷ [])
unfolding computing
lent_back = (reads_back lent refl (replicate 100 9) refl).1

pub lent_again : SameAgain lent (replicate 100 9) (replicate 212 9)
unfolding computing
lent_again = built_again lent (replicate 100 9) (replicate 212 9) refl refl (omega arith)

-- ---- a hall of 100 sectors in which every cell is blocked: its file has 30,005 bytes, the most there are (`file_most`)
abbrev all_blocked : List ℕ
all_blocked = replicate 10000 255

every_counted : (p : ℕ → Bool) (n : ℕ) → ((v : ℕ) → v < n → p v ≡ true) → count p n ≡ n
unfolding count bit
every_counted p zero each = refl
every_counted p (suc n) each = rw (each n (omega arith), every_counted p n (λ v l. each v (omega arith))) (omega arith)

each_named : (v : ℕ) → v < 10000 → is_named all_blocked v ≡ true
unfolding is_named
each_named v l = rw (get_or-replicate {A = ℕ} 10000 v 255 0 l)

all_named : length (named_cells all_blocked) ≡ 10000
all_named = named_count all_blocked ∙ rw (length-replicate {A = ℕ} 10000 255) (every_counted (is_named all_blocked) 10000 each_named)

module _ (lent : List ℕ) (room : size_of (hall 10 10 1) ≤ length lent) where
  ok : Accepts (hall 10 10 1) all_blocked lent
  ok = record {
    measures = record { some_columns = omega arith; few_columns = omega arith; some_rows = omega arith; few_rows = omega arith; some_scale = omega arith; few_scale = omega arith; few_sectors = omega arith };
    long = length-replicate {A = ℕ} 10000 255;
    room = room;
  }

  pub longest : (check_number (build_into (hall 10 10 1) all_blocked lent) ≡ 0) × (length (file_in (build_into (hall 10 10 1) all_blocked lent)) ≡ 30005)
  longest = (built_passes (hall 10 10 1) all_blocked lent ok, rw (built_file (hall 10 10 1) all_blocked lent ok, length_file (hall 10 10 1) all_blocked, all_named))
