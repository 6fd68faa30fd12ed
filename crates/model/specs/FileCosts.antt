-- 02, request 1: what an accepted file gives. Each entry's cell has that entry's cost, every other cell costs 1, and the order of the entries has no part in it.
use Rattle.std.specs.Prelude.{ℕ, ◌+◌, ◌*◌, ◌≤◌, ◌<◌, ◌≡◌, refl, ◌≢◌, ◌⊎◌, Bool, true, false, not, List, ltb, eqb, length, get_or}
use Rattle.std.proofs.Common.{arith, sym, ap, ◌∙◌, inl, inr, true≢false, ext_get_or, ltb-true, ltb-false, le-ltb, leb-false, eqb-true, eq-eqb}
use Rattle.std.proofs.lemmas.Bool.{eqb-false}
use Rattle.laws.specs.Search.{first, any, any_none, any_some, any_has}
use Rattle.laws.specs.Ladder.{refuse, passed, not_different}
use Rattle.laws.specs.Table.{tabulate_at, length_tabulate}
use Rattle.model.specs.Sectors.{cells}
use Rattle.model.specs.Accepted.{Accepted, accepted, good_sectors, good_scale}
use Rattle.model.specs.Store.{measures_at, entry_count, entry_number, entry_cost, entry_names, cost_in, base_in}
use Rattle.model.specs.Calls.{or_else, if_accepted, form_number, entry_off, entry_again, entries_number, read_number, read_into}
use Rattle.model.specs.Refusals.{neither_refused}

-- ---- the checks
-- what 10 to 14 show of a file once they are passed, and what all its refusals do
pub record Formed (file : List ℕ) : Type 0 where
  pub measures : Accepted (measures_at file)
  pub head : 5 ≤ length file
  pub whole : length file ≡ 5 + 3 * entry_count file

pub record Readable (file : List ℕ) (size : ℕ) : Type 0 where
  pub form : Formed file
  pub on : any (entry_off file) (entry_count file) ≡ false
  pub once : any (entry_again file) (entry_count file) ≡ false
  pub room : size ≡ cells (measures_at file)

pub formed : (file : List ℕ) → form_number file ≡ 0 → Formed file
unfolding form_number
formed file e =
    let a = passed _ 9 _ e in
    let b = passed _ 10 _ a.1 in
    let c = passed _ 11 _ b.1 in
    let d = passed _ 12 _ c.1 in
    let f = passed _ 13 _ d.1 in
    record {
      measures = accepted (measures_at file) b.0 c.0;
      head = ltb-false (length file) 5 a.0;
      whole = not_different (length file) (5 + 3 * entry_count file) f.0;
    }

pub readable : (file : List ℕ) (size : ℕ) → read_number file size ≡ 0 → Readable file size
unfolding read_number entries_number
readable file size e =
    let n = neither_refused (form_number file) (entries_number file size) e in
    let a = passed _ 14 _ n.1 in
    let b = passed _ 27 _ a.1 in
    let c = passed _ 15 _ b.1 in
    record { form = formed file n.0; on = a.0; once = b.0; room = not_different size (cells (measures_at file)) c.0 }

-- and back: of such a file the list's length alone decides
pub read_room : (file : List ℕ) (size : ℕ) → Formed file → entry_count file ≤ 10000 → any (entry_off file) (entry_count file) ≡ false → any (entry_again file) (entry_count file) ≡ false
    → read_number file size ≡ refuse (not (eqb size (cells (measures_at file)))) 16 0
unfolding read_number or_else form_number entries_number refuse
read_room file size f few on once =
    rw (
      le-ltb (length file) 5 f.head,
      good_sectors f.measures,
      good_scale f.measures,
      le-ltb 10000 (entry_count file) few,
      eq-eqb (length file) (5 + 3 * entry_count file) f.whole,
      on,
      once,
    )

-- an entry of a file none of whose floor numbers is too large
pub entry_on : (file : List ℕ) (n k : ℕ) → any (entry_off file) n ≡ false → k < n → entry_number file k < cells (measures_at file)
unfolding entry_off
entry_on file n k e h = leb-false (cells (measures_at file)) (entry_number file k) (any_none (entry_off file) n k e h)

-- ---- the entries
-- an entry passes the test for its own cell alone
pub names_own : (file : List ℕ) (n k : ℕ) → entry_names file n k ≡ true → entry_number file k ≡ n
unfolding entry_names
names_own file n k e = eqb-true (entry_number file k) n e

pub names_other : (file : List ℕ) (n k : ℕ) → entry_names file n k ≡ false → entry_number file k ≢ n
unfolding entry_names
names_other file n k e = eqb-false (entry_number file k) n e

-- the test of 28 holds exactly where a floor number stands at two places of the file
pub record TwoPlaces (file : List ℕ) : Type 0 where
  pub earlier : ℕ
  pub later : ℕ
  pub in_order : earlier < later
  pub within : later < entry_count file
  pub same : entry_number file earlier ≡ entry_number file later

pub two_places : (file : List ℕ) → any (entry_again file) (entry_count file) ≡ true → TwoPlaces file
unfolding entry_again
two_places file e =
    let k = any_some (entry_again file) (entry_count file) e in
    let j = any_some _ _ k.1 in
    record { earlier = _; later = _; in_order = j.0; within = k.0; same = names_own file _ _ j.1 }

pub places_two : (file : List ℕ) → TwoPlaces file → any (entry_again file) (entry_count file) ≡ true
unfolding entry_again entry_names
places_two file t =
    any_has (entry_again file) (entry_count file) t.later t.within
    (any_has (entry_names file (entry_number file t.later)) t.later t.earlier t.in_order (eq-eqb (entry_number file t.earlier) (entry_number file t.later) t.same))

-- ---- the cost of a cell
-- an entry of a cell and its cost, at some place of the file; and no entry of a cell
pub record EntryOf (file : List ℕ) (n cost : ℕ) : Type 0 where
  pub place : ℕ
  pub within : place < entry_count file
  pub number_is : entry_number file place ≡ n
  pub cost_is : entry_cost file place ≡ cost

abbrev pub Unnamed : List ℕ → ℕ → Type 0
Unnamed file n = (k : ℕ) → k < entry_count file → entry_number file k ≢ n

-- what the search finds: a cell has the cost of an entry of the cell, or no entry names it and it costs 1
abbrev CostFound : List ℕ → ℕ → Type 0
CostFound file n = EntryOf file n (cost_in file n) ⊎ (Unnamed file n × (cost_in file n ≡ 1))

cost_found : (file : List ℕ) (n : ℕ) → CostFound file n
unfolding cost_in any
cost_found file n = go (any (entry_names file n) (entry_count file)) refl
  where
    go : (b : Bool) → any (entry_names file n) (entry_count file) ≡ b → CostFound file n
    go true e =
        let s = any_some (entry_names file n) (entry_count file) e in
        inl (record { place = first (entry_names file n) (entry_count file); within = s.0; number_is = names_own file n _ s.1; cost_is = rw e })
    go false e = inr ((λ k l. names_other file n k (any_none (entry_names file n) (entry_count file) k e l)), rw e)

-- ---- the list
-- what an accepted file fills a list of `size` costs with
pub record Filled (file : List ℕ) (size : ℕ) (out : List ℕ) : Type 0 where
  pub long : length out ≡ size
  pub inside : (k : ℕ) → k < entry_count file → entry_number file k < size
  pub named : (k : ℕ) → k < entry_count file → get_or out (entry_number file k) 0 ≡ entry_cost file k
  pub unnamed : (n : ℕ) → n < size → Unnamed file n → get_or out n 0 ≡ 1

-- these say all of it: two such lists are one
pub filled_only : (file : List ℕ) (size : ℕ) {a b : List ℕ} → Filled file size a → Filled file size b → a ≡ b
filled_only file size {a} {b} p q = ext_get_or 0 a b (p.long ∙ sym q.long) (λ n l. go n (omega (arith, p.long)) (cost_found file n))
  where
    go : (n : ℕ) → n < size → CostFound file n → get_or a n 0 ≡ get_or b n 0
    go n l (inl e) = rw (← e.number_is) (p.named e.place e.within ∙ sym (q.named e.place e.within))
    go n l (inr u) = p.unnamed n l u.0 ∙ sym (q.unnamed n l u.0)

module _ (file : List ℕ) (size : ℕ) (r : Readable file size) where
  -- a floor number stands at one place
  apart : (j k : ℕ) → j < k → k < entry_count file → entry_number file j ≢ entry_number file k
  apart j k h l e = true≢false (sym (places_two file (record { earlier = j; later = k; in_order = h; within = l; same = e })) ∙ r.once)

  pub one_place : (j k : ℕ) → j < entry_count file → k < entry_count file → entry_number file j ≡ entry_number file k → j ≡ k
  one_place j k h l e = go (ltb j k) refl (ltb k j) refl
    where
      go : (s : Bool) → ltb j k ≡ s → (t : Bool) → ltb k j ≡ t → j ≡ k
      go true a t b = absurd (apart j k (ltb-true j k a) l e)
      go false a true b = absurd (apart k j (ltb-true k j b) h (sym e))
      go false a false b = omega (arith, ltb-false j k a, ltb-false k j b)

  -- so each entry's cell has that entry's cost
  own_cost : (k : ℕ) → k < entry_count file → cost_in file (entry_number file k) ≡ entry_cost file k
  own_cost k l = go (cost_found file (entry_number file k))
    where
      go : CostFound file (entry_number file k) → cost_in file (entry_number file k) ≡ entry_cost file k
      go (inl e) = sym e.cost_is ∙ ap (entry_cost file) (one_place e.place k e.within l e.number_is)
      go (inr u) = absurd (u.0 k l refl)

  other_cost : (n : ℕ) → Unnamed file n → cost_in file n ≡ 1
  other_cost n u = go (cost_found file n)
    where
      go : CostFound file n → cost_in file n ≡ 1
      go (inl e) = absurd (u e.place e.within e.number_is)
      go (inr v) = v.1

  pub base_filled : Filled file size (base_in file size)
  unfolding base_in
  base_filled =
      let on : (k : ℕ) → k < entry_count file → entry_number file k < size = λ k l. omega (arith, entry_on file (entry_count file) k r.on l, r.room) in
      record {
        long = length_tabulate (cost_in file) size 0;
        inside = on;
        named = λ k l. tabulate_at (cost_in file) size (entry_number file k) 0 (on k l) ∙ own_cost k l;
        unnamed = λ n l u. tabulate_at (cost_in file) size n 0 l ∙ other_cost n u;
      }

-- in an accepted file each entry's cell has that entry's cost, and every other cell costs 1
pub read_fills : (file list : List ℕ) → read_number file (length list) ≡ 0 → Filled file (length list) (read_into file list)
unfolding read_into if_accepted
read_fills file list e = rw e (base_filled file (length list) (readable file (length list) e))

-- ---- the order
-- each entry of the one file is an entry of the other, at whatever place
pub record SameEntries (f g : List ℕ) : Type 0 where
  pub there : (k : ℕ) → k < entry_count f → EntryOf g (entry_number f k) (entry_cost f k)
  pub back : (k : ℕ) → k < entry_count g → EntryOf f (entry_number g k) (entry_cost g k)

refilled : (f g : List ℕ) (size : ℕ) {out : List ℕ} → SameEntries f g → Filled f size out → Filled g size out
refilled f g size {out} same p = record {
  long = p.long;
  inside = λ k l. let e = same.back k l in rw (← e.number_is) (p.inside e.place e.within);
  named = λ k l. let e = same.back k l in rw (← e.number_is) (p.named e.place e.within ∙ e.cost_is);
  unnamed = λ n l u. p.unnamed n l (λ k m h. let e = same.there k m in u e.place e.within (e.number_is ∙ h));
}

-- two accepted files with the same entries, in any order, fill the same list, whatever stood in the lists that they are read into
pub any_order : (f g a b : List ℕ) → length a ≡ length b → read_number f (length a) ≡ 0 → read_number g (length b) ≡ 0 → SameEntries f g → read_into f a ≡ read_into g b
any_order f g a b long p q same = filled_only g (length b) (rw (← long) (refilled f g (length a) same (read_fills f a p))) (read_fills g b q)
