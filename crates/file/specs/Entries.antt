-- The entries of a file put one after the other into a list of costs, and their floor numbers marked as they are met.
use Rattle.std.specs.Prelude.{◌≡◌, ◌≢◌, refl, Bool, true, false, List, ℕ, ◌+◌, ◌<◌, ◌≤◌, leb, length, get_or, set, replicate}
use Rattle.std.proofs.Common.{sym, ap, ◌∙◌, arith, length-set, get_or-set_same, get_or-set_other, eq-eqb, ne_eqb}
use Rattle.std.proofs.lemmas.Bool.{false≢true}
use Rattle.std.proofs.Math.Decide.{ℕ_discrete}
use Rattle.std.proofs.lemmas.List.{length-replicate, get_or-replicate}
use Rattle.laws.specs.Fold.{run}
use Rattle.laws.specs.Search.{first, any, any_no, any_some, any_has, Clear, clear_none, clear_turn, any_found, any_missed}
use Rattle.laws.specs.Hits.{same_test}
use Rattle.laws.specs.Puts.{put, length_puts, puts_none, puts_one}
use Rattle.model.specs.Sectors.{cells}
use Rattle.model.specs.Accepted.{Accepted}
use Rattle.model.specs.Store.{measures_at, entry_count, entry_number, entry_cost, entry_names, base_in}
use Rattle.model.specs.Calls.{entry_off, entry_again}
use Rattle.model.specs.FileCosts.{Readable, Filled, entry_on, one_place, base_filled, filled_only}

-- ---- the costs
abbrev pub put_entry : List ℕ → ℕ → List ℕ → List ℕ
put_entry file = put (entry_number file) (entry_cost file)

-- the list of a file that is read: filled with 1, then each entry put where its floor number says
pub filled_from : (file : List ℕ) (size n : ℕ) {ones out : List ℕ} → Readable file size → n ≡ entry_count file → ones ≡ replicate size 1 → out ≡ run (put_entry file) n ones → out ≡ base_in file size
filled_from file size n {ones} {out} r en eo e = e ∙ rw (en, eo) (filled_only file size puts base)
  where
    base : Filled file size (base_in file size)
    base = base_filled file size r

    plain : List ℕ
    plain = replicate size 1

    room : length plain ≡ size
    room = length-replicate size 1

    puts : Filled file size (run (put_entry file) (entry_count file) plain)
    puts = record {
      long = length_puts (entry_number file) (entry_cost file) plain (entry_count file) ∙ room;
      inside = base.inside;
      named = λ k l. puts_one (entry_number file) (entry_cost file) plain (entry_count file) (entry_number file k) k (entry_cost file k) (omega (arith, base.inside k l, room)) l refl
          (λ j m same. ap (entry_cost file) (one_place file size r j k m l same));
      unnamed = λ n l u. puts_none (entry_number file) (entry_cost file) plain (entry_count file) n u ∙ get_or-replicate size n 1 0 l;
    }

-- ---- the floor numbers
-- what the test of a floor number decides
pub off_is : (file : List ℕ) (k : ℕ) {size number : ℕ} → size ≡ cells (measures_at file) → number ≡ entry_number file k → leb size number ≡ entry_off file k
unfolding entry_off
off_is file k a b = rw (a, b)

-- The loop that looks for a repeat: of the file's entries none before k was met before, and a number is marked if one of those has it.
pub record Unrepeated (file : List ℕ) (k : ℕ) (met : List Bool) : Type 0 where
  pub clear : Clear (entry_again file) (entry_count file) k
  pub long : length met ≡ 10000
  pub marked : (n : ℕ) → n < 10000 → get_or met n false ≡ any (entry_names file n) k

pub unrepeated_none : (file : List ℕ) → Unrepeated file 0 (replicate 10000 false)
unrepeated_none file = record {
  clear = clear_none (entry_again file) (entry_count file);
  long = length-replicate {A = Bool} 10000 false;
  marked = λ n l. get_or-replicate 10000 n false false l ∙ any_no (entry_names file n) 0 0 (omega arith) (λ j m. absurd (omega arith));
}

-- the search one number further, where that number does not pass
any_still : (p : ℕ → Bool) (k : ℕ) → p k ≡ false → any p (k + 1) ≡ any p k
any_still p k e = same_test _ _ there (λ h. let f = any_some p k h in any_has p (k + 1) (first p k) (omega (arith, f.0)) f.1)
  where
    there : any p (k + 1) ≡ true → any p k ≡ true
    there h =
        let f = any_some p (k + 1) h in
        any_has p k (first p (k + 1)) (before (ℕ_discrete (first p (k + 1)) k) f.0 f.1) f.1
      where
        before : {n : ℕ} → Dec (n ≡ k) → n < k + 1 → p n ≡ true → n < k
        before (yes z) l t = absurd (false≢true (sym e ∙ ap p (sym z) ∙ t))
        before (no z) l t = omega arith

-- whether an entry names a cell, by its number
names_is : (file : List ℕ) (n k : ℕ) → entry_number file k ≡ n → entry_names file n k ≡ true
unfolding entry_names
names_is file n k e = eq-eqb (entry_number file k) n e

names_not : (file : List ℕ) (n k : ℕ) → entry_number file k ≢ n → entry_names file n k ≡ false
unfolding entry_names
names_not file n k e = ne_eqb (entry_number file k) n e

-- the floor numbers of such a file have a place among the marks
pub entry_marked : (file : List ℕ) (k : ℕ) → Accepted (measures_at file) → any (entry_off file) (entry_count file) ≡ false → k < entry_count file → entry_number file k < 10000
entry_marked file k a e l = omega (arith, entry_on file (entry_count file) k e l, a.few_sectors)

module _ {file : List ℕ} {k : ℕ} {met : List Bool} (u : Unrepeated file k met) (l : k < entry_count file) (low : entry_number file k < 10000) {number : ℕ} (is : number ≡ entry_number file k) where
  again_is : get_or met number false ≡ entry_again file k
  unfolding entry_again
  again_is = rw is (u.marked (entry_number file k) low)

  pub repeated : get_or met number false ≡ true → true ≡ any (entry_again file) (entry_count file)
  repeated h = any_found u.clear l again_is h

  pub unrepeated_turn : get_or met number false ≡ false → Unrepeated file (k + 1) (set met number true)
  unrepeated_turn h = record {
    clear = clear_turn u.clear l again_is h;
    long = length-set met number true ∙ u.long;
    marked = λ n m. one n m (ℕ_discrete n number);
  }
    where
      one : (n : ℕ) → n < 10000 → Dec (n ≡ number) → get_or (set met number true) n false ≡ any (entry_names file n) (k + 1)
      one n m (yes e) =
          let own : entry_names file n k ≡ true = names_is file n k (sym is ∙ sym e) in
          rw e (get_or-set_same met number true false (omega (arith, u.long))) ∙ sym (any_has (entry_names file n) (k + 1) k (omega arith) own)
      one n m (no e) =
          let other : entry_names file n k ≡ false = names_not file n k (λ h. e (sym h ∙ sym is)) in
          get_or-set_other met number n true false e ∙ u.marked n m ∙ sym (any_still (entry_names file n) k other)

pub unrepeated_all : {file : List ℕ} {k : ℕ} {met : List Bool} → Unrepeated file k met → entry_count file ≤ k → false ≡ any (entry_again file) (entry_count file)
unrepeated_all u l = any_missed u.clear l
