-- A hall file made cell by cell: what stands in the list after the cells passed.
use Rattle.std.specs.Prelude.{◌≡◌, ◌≢◌, Bool, List, [], ◌∷◌, ◌++◌, ℕ, zero, suc, ◌+◌, ◌-◌, ◌*◌, ◌/◌, ◌%◌, ◌≤◌, ◌<◌, ltb, length, get_or, set, drop, not, eqb}
use Rattle.std.proofs.Math.Path.{refl}
use Rattle.std.proofs.Common.{sym, ap, ◌∙◌, add-zero, arith, length-set, get_or-set_other, get_or-append-add, get_or-drop, eq-eqb, ne_eqb, ltb-true, ltb-false}
use Rattle.std.proofs.Math.Bool.{true, false}
use Rattle.std.specs.Int.{from_bool}
use Rattle.laws.specs.Fold.{bit}
use Rattle.laws.specs.Search.{count_le, count_up, count_above, Counted, counted_none, counted_turn, counted_all}
use Rattle.laws.specs.Toward.{toward, front_of}
use Rattle.model.specs.declared.Measures.{Measures}
use Rattle.model.specs.Store.{u16_bytes, is_named, named_cells, file_of}
use Rattle.model.specs.FileWritten.{named_count, named_at, length_file, file_low, file_high, file_cost}

-- ---- how many entries
pub counted_named : (base : List ℕ) {n k : ℕ} → Counted (is_named base) (length base) n k → length base ≤ n → k ≡ length (named_cells base)
counted_named base c l = counted_all c l ∙ sym (named_count base)

-- what the test of a cell's cost adds
pub count_bit : (base : List ℕ) (n : ℕ) → from_bool (not (eqb (get_or base n 0) 1)) ≡ bit (is_named base n)
unfolding bit is_named
count_bit base n = go (not (eqb (get_or base n 0) 1))
  where
    go : (b : Bool) → from_bool b ≡ bit b
    go true = refl
    go false = refl

-- ---- the bytes
-- sizes, scale and count
abbrev pub opening : Measures → ℕ → List ℕ
opening m entries = m.columns ∷ m.rows ∷ m.scale ∷ entries % 256 ∷ entries / 256 ∷ []

-- entry k of a file of so many entries: a cell by its number, and its cost
abbrev pub set_entry : ℕ → ℕ → ℕ → ℕ → List ℕ → List ℕ
set_entry n cost k entries file = set (set (set file (5 + 2 * k) (n % 256)) (5 + 2 * k + 1) (n / 256)) (5 + 2 * entries + k) cost

-- what the test of a cell's cost decides
skips : (base : List ℕ) (n : ℕ) → get_or base n 0 ≡ 1 → is_named base n ≡ false
unfolding is_named
skips base n h = rw (eq-eqb (get_or base n 0) 1 h)

takes : (base : List ℕ) (n : ℕ) → get_or base n 0 ≢ 1 → is_named base n ≡ true
unfolding is_named
takes base n h = rw (ne_eqb (get_or base n 0) 1 h)

-- After n cells, with k entries: these stand in both parts as in the whole file, whatever its measures, and what is past the file is as it was lent.
pub record Made (base lent : List ℕ) (entries n k : ℕ) (out : List ℕ) : Type 0 where
  pub all : entries ≡ length (named_cells base)
  pub counted : Counted (is_named base) (length base) n k
  pub fits : 5 + 3 * entries ≤ length out
  pub same : length out ≡ length lent
  pub numbers : (m : Measures) (p : ℕ) → 5 ≤ p → p < 5 + 2 * k → get_or out p 0 ≡ get_or (file_of m base) p 0
  pub costs : (m : Measures) (p : ℕ) → 5 + 2 * entries ≤ p → p < 5 + 2 * entries + k → get_or out p 0 ≡ get_or (file_of m base) p 0
  pub behind : (p : ℕ) → 5 + 3 * entries ≤ p → get_or out p 0 ≡ get_or lent p 0

pub made_none : (base lent : List ℕ) (entries : ℕ) → entries ≡ length (named_cells base) → 5 + 3 * entries ≤ length lent → Made base lent entries 0 0 lent
made_none base lent entries all fits = record {
  all = all;
  counted = counted_none (is_named base) (length base);
  fits = fits;
  same = refl;
  numbers = λ m p l h. absurd (omega arith);
  costs = λ m p l h. absurd (omega arith);
  behind = λ p l. refl;
}

module _ {base lent : List ℕ} {entries n k : ℕ} {out : List ℕ} (s : Made base lent entries n k out) where
  pub made_few : k ≤ entries
  made_few = omega (arith, s.all, named_count base, s.counted.is, count_up (is_named base) n (length base) s.counted.within)

  pub made_small : entries ≤ length base
  made_small = omega (arith, s.all, named_count base, count_le (is_named base) (length base))

  room : n < length base → is_named base n ≡ true → k < entries
  room l e = omega (arith, s.all, named_count base, s.counted.is, count_above (is_named base) n (length base) l e)

  pub made_room : n < length base → get_or base n 0 ≢ 1 → k < entries
  made_room l h = room l (takes base n h)

  -- a cell that has an entry
  module _ (l : n < length base) (e : is_named base n ≡ true) where
    place : k < length (named_cells base)
    place = omega (arith, room l e, s.all)

    cell : get_or (named_cells base) k 0 ≡ n
    cell = named_at base n k l e s.counted.is

    -- the list with the first byte of the floor number, and with both
    abbrev low : List ℕ
    low = set out (5 + 2 * k) (n % 256)

    abbrev both : List ℕ
    both = set low (5 + 2 * k + 1) (n / 256)

    long_low : length low ≡ length out
    long_low = length-set out (5 + 2 * k) (n % 256)

    long_both : length both ≡ length out
    long_both = length-set low (5 + 2 * k + 1) (n / 256) ∙ long_low

    -- what was right is right, and entry k besides
    put_right : (m : Measures) (p : ℕ) → (p ≢ 5 + 2 * k → p ≢ 5 + 2 * k + 1 → p ≢ 5 + 2 * entries + k → get_or out p 0 ≡ get_or (file_of m base) p 0)
        → get_or (set_entry n (get_or base n 0) k entries out) p 0 ≡ get_or (file_of m base) p 0
    put_right m p old =
        let r = room l e in
        let file : List ℕ = file_of m base in
        toward file both (5 + 2 * entries + k) (omega (arith, s.fits, long_both)) (sym (rw (← s.all, cell) at (file_cost m base k place))) p
        (λ third. toward file low (5 + 2 * k + 1) (omega (arith, s.fits, long_low)) (sym (rw cell at (file_high m base k place))) p
        (λ second. toward file out (5 + 2 * k) (omega (arith, s.fits)) (sym (rw cell at (file_low m base k place))) p (λ one. old one second third)))

    put_past : (p : ℕ) → 5 + 3 * entries ≤ p → get_or (set_entry n (get_or base n 0) k entries out) p 0 ≡ get_or lent p 0
    put_past p h =
        let r = room l e in
        get_or-set_other both (5 + 2 * entries + k) p (get_or base n 0) 0 (λ z. omega arith) ∙ get_or-set_other low (5 + 2 * k + 1) p (n / 256) 0 (λ z. omega arith)
        ∙ get_or-set_other out (5 + 2 * k) p (n % 256) 0 (λ z. omega arith) ∙ s.behind p h

  pub made_put : {cost count r : ℕ} {new : List ℕ} → n < length base → cost ≡ get_or base n 0 → cost ≢ 1 → count ≡ entries → r ≡ k + 1 → new ≡ set_entry n cost k count out → length new ≡ length out
      → Made base lent entries (n + 1) r new
  unfolding bit
  made_put {cost} {count} {r} {new} l c h en er e long =
      let named : is_named base n ≡ true = takes base n (λ z. h (c ∙ z)) in
      let put : new ≡ set_entry n (get_or base n 0) k entries out = rw (c, en) at e in
      record {
        all = s.all;
        counted = rw er (counted_turn s.counted l (rw named));
        fits = omega (arith, s.fits);
        same = long ∙ s.same;
        numbers = λ m p h i. rw put (put_right l named m p (λ one second third. s.numbers m p h (omega arith)));
        costs = λ m p h i. rw put (put_right l named m p (λ one second third. s.costs m p h (omega arith)));
        behind = λ p h. rw put (put_past l named p h);
      }

  pub made_skip : n < length base → get_or base n 0 ≡ 1 → Made base lent entries (n + 1) k out
  unfolding bit
  made_skip l h = record {
    all = s.all;
    counted = rw (add-zero k) at (counted_turn {r = 0} s.counted l (rw (skips base n h)));
    fits = s.fits;
    same = s.same;
    numbers = s.numbers;
    costs = s.costs;
    behind = s.behind;
  }

-- the file opens so
opened : (m : Measures) (base rest : List ℕ) (entries : ℕ) → entries ≡ length (named_cells base) → (p : ℕ) → p < 5 → get_or (opening m entries ++ rest) p 0 ≡ get_or (file_of m base) p 0
unfolding file_of u16_bytes
opened m base rest entries e zero l = refl
opened m base rest entries e (suc zero) l = refl
opened m base rest entries e (suc (suc zero)) l = refl
opened m base rest entries e (suc (suc (suc zero))) l = ap (λ (n : ℕ). n % 256) e
opened m base rest entries e (suc (suc (suc (suc zero)))) l = ap (λ (n : ℕ). n / 256) e
opened m base rest entries e (suc (suc (suc (suc (suc p))))) l = absurd (omega arith)

opened_past : (m : Measures) (entries : ℕ) (out : List ℕ) (p : ℕ) → 5 ≤ p → get_or (opening m entries ++ drop 5 out) p 0 ≡ get_or out p 0
opened_past m entries out p l =
    let far : p ≡ 5 + (p - 5) = omega arith in
    rw far (get_or-append-add (opening m entries) (drop 5 out) (p - 5) 0 ∙ get_or-drop 5 out (p - 5) 0)

-- all entries, and then the opening
module _ (m : Measures) {base lent : List ℕ} {entries n k : ℕ} {out whole : List ℕ} (s : Made base lent entries n k out) (l : length base ≤ n) (e : whole ≡ opening m entries ++ drop 5 out) (long : length whole ≡ length out) where
  every : k ≡ entries
  every = counted_named base s.counted l ∙ sym s.all

  entries_is : length (file_of m base) ≡ 5 + 3 * entries
  entries_is = rw s.all (length_file m base)

  front_right : (p : ℕ) (b c : Bool) → ltb p 5 ≡ b → ltb p (5 + 2 * entries) ≡ c → p < 5 + 3 * entries → get_or (opening m entries ++ drop 5 out) p 0 ≡ get_or (file_of m base) p 0
  front_right p true c eb ec h = opened m base (drop 5 out) entries s.all p (ltb-true p 5 eb)
  front_right p false true eb ec h =
      let low = ltb-false p 5 eb in
      opened_past m entries out p low ∙ s.numbers m p low (omega (arith, every, ltb-true p (5 + 2 * entries) ec))
  front_right p false false eb ec h =
      let low = ltb-false p (5 + 2 * entries) ec in
      opened_past m entries out p (omega arith) ∙ s.costs m p low (omega (arith, every))

  pub made_all : whole ≡ file_of m base ++ drop (length (file_of m base)) lent
  made_all =
      front_of (file_of m base) lent whole (omega (arith, entries_is, s.fits, s.same)) (long ∙ s.same)
      (λ p h. rw e (front_right p (ltb p 5) (ltb p (5 + 2 * entries)) refl refl (omega (arith, entries_is))))
      (λ p h. rw e (opened_past m entries out p (omega (arith, entries_is)) ∙ s.behind p (omega (arith, entries_is))))

-- for `search (needs, making)`
pub ruleset making = (made_none, made_few, made_small, made_room, made_put, made_skip, made_all)
