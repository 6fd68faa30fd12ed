-- 02, request 2: what write file gives. The file has an entry for each cell that does not cost 1. Reading it gives sizes, scale and base costs back, so that two stores have the same file if and only if these are equal.
use Prim.Native.Nat.{ℕ, zero, suc, ◌+◌, ◌*◌, ◌/◌, ◌%◌, ◌≤◌, ◌<◌}
use Rattle.std.proofs.Math.Nat.{add-zero, zero-add}
use native.Mathlib.Omega.{arith}
use Rattle.std.specs.Prelude.{◌≡◌, ◌≢◌, Bool, true, false, List, [], ◌∷◌, ◌++◌, map, Ok, ltb, eqb, length, get_or, take, drop}
use Rattle.std.proofs.Math.Path.{refl, sym, ap}
use Rattle.std.proofs.Common.{◌∙◌, length-append, get_or-append-add}
use Rattle.std.proofs.Math.Bool.{not, true≢false}
use Rattle.std.proofs.lemmas.List.{length-map}
use Rattle.std.proofs.Math.ListN.{get_or-map}
use Rattle.std.proofs.Math.Seq.{take-append_seam}
use borrow.Author.Tests.{eq-eqb, eqb-true, eqb-false, ltb-true, ltb-false, le-ltb, lt-leb}
use Rattle.laws.specs.Search.{any, any_no, count, count_up, count_above, passing, passing_is, passing_count, passing_place, passing_at}
use Rattle.laws.specs.Members.{at_in}
use Rattle.laws.specs.Ladder.{refuse, not_different}
use Rattle.laws.specs.Table.{get_or_default}
use Rattle.model.specs.declared.Measures.{Measures}
use Rattle.model.specs.Numbers.{answered, value_of}
use Rattle.model.specs.Sectors.{cells}
use Rattle.model.specs.Accepted.{Accepted}
use Rattle.model.specs.Store.{u16_bytes, measures_at, decode, entry_count, entry_number, entry_cost, is_named, named_cells, file_of, file_in, base_in}
use Rattle.model.specs.Calls.{or_else, if_accepted, check_number, entry_off, entry_again, read_number, read_answer, read_into}
use Rattle.model.specs.Calls.{write_number, write_answer, write_into}
use Rattle.model.specs.U16s.{length_u16s, low_byte, high_byte, u16_of, u16_past}
use Rattle.model.specs.StoreLayout.{decode_laid}
use Rattle.model.specs.Checked.{checked}
use Rattle.model.specs.FileCosts.{Formed, Readable, Filled, Unnamed, TwoPlaces, read_room, two_places, base_filled, filled_only}

-- ---- the cells that have an entry
module _ (base : List ℕ) where
  pub cost_other : (v : ℕ) → is_named base v ≡ true → get_or base v 0 ≢ 1
  unfolding is_named
  cost_other v e h = true≢false (sym e ∙ ap not (eq-eqb (get_or base v 0) 1 h))

  pub cost_one : (v : ℕ) → is_named base v ≡ false → get_or base v 0 ≡ 1
  unfolding is_named
  cost_one v e = not_different (get_or base v 0) 1 e

  -- as many as there are cells with another cost than 1
  pub named_count : length (named_cells base) ≡ count (is_named base) (length base)
  unfolding named_cells count
  named_count = sym (add-zero (length (passing (is_named base) (length base) 0))) ∙ passing_count (is_named base) (length base) 0 ∙ ap (count (is_named base)) (zero-add (length base))

  -- below the one at place k are k
  named_place : (k : ℕ) → k < length (named_cells base) → count (is_named base) (get_or (named_cells base) k 0) ≡ k
  unfolding named_cells count
  named_place k l = passing_place (is_named base) (length base) 0 k l ∙ add-zero k

  -- and one below which are k stands at place k
  pub named_at : (v k : ℕ) → v < length base → is_named base v ≡ true → k ≡ count (is_named base) v → get_or (named_cells base) k 0 ≡ v
  unfolding named_cells count
  named_at v k l o e = passing_at (is_named base) (length base) 0 v k (omega arith) (rw zero-add l) o (add-zero k ∙ e)

  named_is : (k : ℕ) → k < length (named_cells base) → (get_or (named_cells base) k 0 < length base) × ((is_named base) (get_or (named_cells base) k 0) ≡ true)
  unfolding named_cells
  named_is k l = let i = passing_is (is_named base) (length base) 0 (at_in (passing (is_named base) (length base) 0) k l) in (rw zero-add at i.1, i.2)

  named_ascend : (j k : ℕ) → j < k → k < length (named_cells base) → get_or (named_cells base) j 0 < get_or (named_cells base) k 0
  named_ascend j k h l = go (ltb a b) refl
    where
      a : ℕ
      a = get_or (named_cells base) j 0

      b : ℕ
      b = get_or (named_cells base) k 0

      go : (t : Bool) → ltb a b ≡ t → a < b
      go true e = ltb-true a b e
      go false e = absurd (omega (arith, count_up (is_named base) b a (ltb-false a b e), named_place j (omega arith), named_place k l))

-- ---- the bytes of the file
module _ (m : Measures) (base : List ℕ) where
  abbrev u16s : List ℕ
  u16s = length (named_cells base) ∷ named_cells base

  abbrev costs : List ℕ
  costs = map (λ n. get_or base n 0) (named_cells base)

  pub length_file : length (file_of m base) ≡ 5 + 3 * length (named_cells base)
  unfolding file_of
  length_file = simp (length-append, length_u16s, length-map) (omega arith)

  -- behind sizes and scale
  byte_past : (p i : ℕ) → p ≡ 3 + i → get_or (file_of m base) p 0 ≡ get_or (u16_bytes u16s ++ costs) i 0
  unfolding file_of
  byte_past p i e = rw e (get_or-append-add (m.columns ∷ m.rows ∷ m.scale ∷ []) (u16_bytes u16s ++ costs) i 0)

  -- the two bytes of the floor number of entry k, and its cost
  module _ (k : ℕ) (l : k < length (named_cells base)) where
    pub file_low : get_or (file_of m base) (5 + 2 * k) 0 ≡ get_or (named_cells base) k 0 % 256
    file_low = byte_past (5 + 2 * k) (2 * suc k) (omega arith) ∙ low_byte costs u16s (suc k) (omega arith)

    pub file_high : get_or (file_of m base) (5 + 2 * k + 1) 0 ≡ get_or (named_cells base) k 0 / 256
    file_high = byte_past (5 + 2 * k + 1) (2 * suc k + 1) (omega arith) ∙ high_byte costs u16s (suc k) (omega arith)

    pub file_cost : get_or (file_of m base) (5 + 2 * length (named_cells base) + k) 0 ≡ get_or base (get_or (named_cells base) k 0) 0
    file_cost =
        let far : length (u16_bytes u16s) ≡ 2 * suc (length (named_cells base)) = length_u16s u16s in
        byte_past (5 + 2 * length (named_cells base) + k) (length (u16_bytes u16s) + k) (omega arith) ∙ get_or-append-add (u16_bytes u16s) costs k 0
        ∙ get_or_default costs k 0 (get_or base 0 0) (rw (length-map (named_cells base) (λ n. get_or base n 0)) l) ∙ get_or-map (λ n. get_or base n 0) (named_cells base) k 0

  -- ---- its entries, as a reader meets them
  file_count : entry_count (file_of m base) ≡ length (named_cells base)
  unfolding file_of
  file_count = u16_past (m.columns ∷ m.rows ∷ m.scale ∷ []) (u16_bytes u16s ++ costs) 3 0 refl ∙ u16_of costs u16s 0 (omega arith)

  entry_number_lem : (k : ℕ) → k < length (named_cells base) → entry_number (file_of m base) k ≡ get_or (named_cells base) k 0
  unfolding file_of
  entry_number_lem k l =
      let e : 5 + 2 * k ≡ 3 + 2 * suc k = omega arith in
      rw e (u16_past (m.columns ∷ m.rows ∷ m.scale ∷ []) (u16_bytes u16s ++ costs) 3 (2 * suc k) refl ∙ u16_of costs u16s (suc k) (omega arith))

-- What 02 says of the file, as properties, which fix it (FileOnly): sizes and scale, an entry for each cell with another cost than 1 and for no other, by ascending floor number, and no other bytes.
pub record FileFor (m : Measures) (base file : List ℕ) : Type 0 where
  pub measures : measures_at file ≡ m
  pub whole : length file ≡ 5 + 3 * entry_count file
  pub ascending : (j k : ℕ) → j < k → k < entry_count file → entry_number file j < entry_number file k
  pub on : (k : ℕ) → k < entry_count file → entry_number file k < length base
  pub cost : (k : ℕ) → k < entry_count file → entry_cost file k ≡ get_or base (entry_number file k) 0
  pub not_one : (k : ℕ) → k < entry_count file → entry_cost file k ≢ 1
  pub every : (v : ℕ) → v < length base → get_or base v 0 ≢ 1 → (k : ℕ) × (k < entry_count file) × (entry_number file k ≡ v)

module _ (m : Measures) (base : List ℕ) where
  abbrev file : List ℕ
  file = file_of m base

  measures_kept : measures_at file ≡ m
  unfolding file_of
  measures_kept = refl

  in_list : (k : ℕ) → k < entry_count file → k < length (named_cells base)
  in_list k l = rw (← file_count m base) l

  own_cost : (k : ℕ) → k < entry_count file → entry_cost file k ≡ get_or base (entry_number file k) 0
  own_cost k l = rw (file_count m base, file_cost m base k (in_list k l), entry_number_lem m base k (in_list k l))

  pub file_for : FileFor m base (file_of m base)
  file_for = record {
    measures = measures_kept;
    whole = rw (file_count m base) (length_file m base);
    ascending = λ j k h l. rw (entry_number_lem m base j (omega (arith, in_list k l)), entry_number_lem m base k (in_list k l)) (named_ascend base j k h (in_list k l));
    on = λ k l. rw (entry_number_lem m base k (in_list k l)) (named_is base k (in_list k l)).0;
    cost = own_cost;
    not_one = λ k l. rw (own_cost k l, entry_number_lem m base k (in_list k l)) (cost_other base _ (named_is base k (in_list k l)).1);
    every = λ v l other. found v l other (is_named base v) refl;
  }
    where
      found : (v : ℕ) → v < length base → get_or base v 0 ≢ 1 → (b : Bool) → is_named base v ≡ b → (k : ℕ) × (k < entry_count file) × (entry_number file k ≡ v)
      found v l other true e =
          let k : ℕ = count (is_named base) v in
          let low : k < length (named_cells base) = rw (named_count base) (count_above (is_named base) v (length base) l e) in
          (k, rw (file_count m base) low, entry_number_lem m base k low ∙ named_at base v k l e refl)
      found v l other false e = absurd (other (cost_one base v e))

-- no more entries than cells, as their numbers ascend
module _ {m : Measures} {base file : List ℕ} (f : FileFor m base file) where
  place_low : (k : ℕ) → k < entry_count file → k ≤ entry_number file k
  place_low zero l = omega arith
  place_low (suc k) l = omega (arith, place_low k (omega arith), f.ascending k (suc k) (omega arith) l)

  few_entries : entry_count file ≤ length base
  few_entries = go (entry_count file) refl
    where
      go : (n : ℕ) → entry_count file ≡ n → n ≤ length base
      go zero e = omega arith
      go (suc n) e = omega (arith, place_low n (omega arith), f.on n (omega arith))

-- ---- read again
-- such a file is accepted with a list as long as the costs that it was made from, and fills it with these
module _ {m : Measures} {base file : List ℕ} (f : FileFor m base file) (a : Accepted m) (long : length base ≡ cells m) where
  room : length base ≡ cells (measures_at file)
  room = long ∙ ap cells (sym f.measures)

  off_none : any (entry_off file) (entry_count file) ≡ false
  unfolding entry_off
  off_none = sym (any_no (entry_off file) (entry_count file) (entry_count file) (omega arith) (λ k l. lt-leb (cells (measures_at file)) (entry_number file k) (omega (arith, f.on k l, room))))

  again_none : any (entry_again file) (entry_count file) ≡ false
  again_none = go (any (entry_again file) (entry_count file)) refl
    where
      clash : TwoPlaces file → any (entry_again file) (entry_count file) ≡ false
      clash t = absurd (omega (arith, f.ascending t.earlier t.later t.in_order t.within, t.same))

      go : (b : Bool) → any (entry_again file) (entry_count file) ≡ b → any (entry_again file) (entry_count file) ≡ false
      go true e = clash (two_places file e)
      go false e = e

  file_formed : Formed file
  file_formed = record { measures = rw f.measures a; head = omega (arith, f.whole); whole = f.whole }

  file_readable : Readable file (length base)
  file_readable = record { form = file_formed; on = off_none; once = again_none; room = room }

  file_fills : Filled file (length base) base
  file_fills = record {
    long = refl;
    inside = f.on;
    named = λ k l. sym (f.cost k l);
    unnamed = λ v l none. one v l none (eqb (get_or base v 0) 1) refl;
  }
    where
      one : (v : ℕ) → v < length base → Unnamed file v → (b : Bool) → eqb (get_or base v 0) 1 ≡ b → get_or base v 0 ≡ 1
      one v l none true e = eqb-true (get_or base v 0) 1 e
      one v l none false e = let k = f.every v l (eqb-false (get_or base v 0) 1 e) in absurd (none k.0 k.1 k.2)

  file_number_lem : (size : ℕ) → read_number file size ≡ refuse (not (eqb size (cells m))) 16 0
  file_number_lem size = read_room file size file_formed (omega (arith, few_entries f, a.few_sectors)) off_none again_none ∙ ap (λ (n : Measures). refuse (not (eqb size (cells n))) 16 0) f.measures

  file_gives : base_in file (length base) ≡ base
  file_gives = filled_only file (length base) (base_filled file (length base) file_readable) file_fills

-- ---- of a store that passes the check
module _ (st : List ℕ) (e : check_number st ≡ 0) where
  long_base : length (decode st).base ≡ cells (measures_at st)
  unfolding decode
  long_base = (decode_laid st (checked st e).room).base_cells

  stored_file : FileFor (measures_at st) (decode st).base (file_in st)
  stored_file = file_for (measures_at st) (decode st).base

  -- read file asks of it the length of the list alone: 28, and every number but 16, cannot occur
  pub length_decides : (size : ℕ) → read_number (file_in st) size ≡ refuse (not (eqb size (cells (measures_at st)))) 16 0
  length_decides = file_number_lem stored_file (checked st e).measures long_base

  -- "Reading the written file gives these back": accepted with a list of the right length, it gives the store's sizes and scale, and fills the list with its base costs
  pub reads_back : (list : List ℕ) → length list ≡ cells (measures_at st)
      → (read_answer (file_in st) (length list) ≡ Ok (measures_at st)) × (read_into (file_in st) list ≡ (decode st).base)
  unfolding read_answer read_into answered if_accepted refuse
  reads_back list right =
      let ok : read_number (file_in st) (length list) ≡ 0 = length_decides (length list) ∙ rw (eq-eqb (length list) (cells (measures_at st)) right) in
      let back : base_in (file_in st) (length list) ≡ (decode st).base = rw (right ∙ sym long_base) (file_gives stored_file (checked st e).measures long_base) in
      (rw ok (rw stored_file.measures refl), rw ok back)

  -- the longest: one entry for each of 10,000 cells
  pub file_most : length (file_in st) ≤ 30005
  file_most = omega (arith, stored_file.whole, few_entries stored_file, long_base, (checked st e).measures.few_sectors)

  -- so that with this room 29 cannot occur
  pub room_enough : (room : ℕ) → 30005 ≤ room → write_number st room ≡ 0
  unfolding write_number or_else refuse
  room_enough room h = rw (e, le-ltb room (length (file_in st)) (omega (arith, file_most)))

-- what write file leaves begins with the file, as long as it answers
pub written_front : (st out : List ℕ) → write_number st (length out) ≡ 0 → take (value_of 0 (write_answer st (length out))) (write_into st out) ≡ file_in st
unfolding write_answer write_into answered if_accepted
written_front st out e = rw e (take-append_seam (file_in st) (drop (length (file_in st)) out))

-- "two stores have the same file if and only if these are equal"
pub record SameFloor (a b : List ℕ) : Type 0 where
  pub measures : measures_at a ≡ measures_at b
  pub base : (decode a).base ≡ (decode b).base

pub same_file : (a b : List ℕ) → SameFloor a b → file_in a ≡ file_in b
same_file a b s = rw (s.measures, s.base)

pub same_floor : (a b : List ℕ) → check_number a ≡ 0 → check_number b ≡ 0 → file_in a ≡ file_in b → SameFloor a b
same_floor a b ca cb e =
    let m : measures_at a ≡ measures_at b = sym (stored_file a ca).measures ∙ ap measures_at e ∙ (stored_file b cb).measures in
    let list : List ℕ = (decode a).base in
    let ra = reads_back a ca list (long_base a ca) in
    let rb = reads_back b cb list (long_base a ca ∙ ap cells m) in
    record { measures = m; base = sym ra.1 ∙ ap (λ f. read_into f list) e ∙ rb.1 }
