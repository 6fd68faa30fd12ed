-- The levels of a spread of moves: the first, the next, and what they tell once no cell is new.
use Prim.Native.Nat.{ℕ, zero, suc, ◌+◌, ◌-◌, ◌*◌, ◌/◌, ◌%◌, ◌^◌, ◌≤◌, ◌<◌}
use native.Mathlib.Nat.{add-zero, zero-add}
use native.Mathlib.Omega.{arith}
use mathlib.Core.Path.{◌≡◌, refl, sym, ap, ◌∙◌}
use mathlib.Core.Logic.{◌⊎◌, inl, inr}
use mathlib.Core.Bool.{Bool, true, false}
use mathlib.Core.List.{List, []}
use Rattle.std.specs.Bool.{then_some}
use Rattle.std.specs.Cmp.Lexicographic.{same_text}
use lib.Pointwise.{pointwise}
use Rattle.std.specs.Int.{bit_at}
use Rattle.std.proofs.lemmas.Nat.Bits.{bit_at-zero, bit_at-pow_same, bit_at-pow_other}
use lib.Dec.{ltb, eqb}
use lib.ListN.{length, get_or, set, length-set}
use lib.Seq.{ext_get_or, get_or-set_same, get_or-set_other}
use borrow.Author.Tests.{lt-ltb, ltb-true, le-ltb, eqb-true, eq-eqb}
use Rattle.laws.specs.Fold.{pick}
use Rattle.laws.specs.Graph.{below_or}
use Rattle.laws.specs.Table.{tabulate, length_tabulate, tabulate_at}
use Rattle.model.specs.declared.Side.{Side}
use Rattle.model.specs.declared.Side.TheVariants.{North, East, South, West}
use Rattle.model.specs.Cells.{beside}
use Rattle.model.specs.Costs.{open_at}
use Rattle.model.specs.Moves.{moves}
use Rattle.moves.specs.Levels.{spot, open_words, first_word, first_level, grown_word, grown, word_at, cell_bit, missing, moves_by, moves_in, moves_or_none}
use Rattle.moves.proofs.Bits.{cut_bit}
use Rattle.moves.proofs.Words.{Out, from_other, one_spot, cells_out, open_yes, open_no, side_bit, side_there, side_none, grown_bit, grown_only, NextBit, by_side}
use Rattle.moves.proofs.Steps.{far, far_start, far_capped, far_none, far_blocked, far_open, far_before, far_next, far_still, far_few, moves_long}

-- ---- levels
-- level d has exactly the cells with at most d moves
pub record Level (far : ℕ → ℕ) (l : List (List ℕ)) (d : ℕ) : Type 0 where
  pub out : (h k : ℕ) → h < 2 → Out k → bit_at (word_at l d h) k ≡ 0
  pub yes : (i : ℕ) → i < 100 → far i ≤ d → cell_bit l d i ≡ 1
  pub no : (i : ℕ) → i < 100 → d < far i → cell_bit l d i ≡ 0

pub record Levels (costs : List ℕ) (from : ℕ) (l : List (List ℕ)) (n : ℕ) : Type 0 where
  pub long : length l ≡ 101
  pub each : (d : ℕ) → d < n → Level (far costs from) l d

level_kept : {far : ℕ → ℕ} {l₀ l : List (List ℕ)} {d : ℕ} → Level far l₀ d → get_or l d [] ≡ get_or l₀ d [] → Level far l d
level_kept {far} {l₀} {l} {d} v kept = record {
  out = λ h k m o. ap (λ (level : List ℕ). bit_at (get_or level h 0) k) kept ∙ v.out h k m o;
  yes = λ i h m. same i ∙ v.yes i h m;
  no = λ i h m. same i ∙ v.no i h m;
}
  where
    same : (i : ℕ) → cell_bit l d i ≡ cell_bit l₀ d i
    same i = ap (λ (level : List ℕ). bit_at (get_or level (i / 50) 0) (spot i)) kept

-- ---- the first level
module _ (costs : List ℕ) (from : ℕ) (low : from < 100) (l₀ : List (List ℕ)) (long : length l₀ ≡ 101) where
  abbrev begun : List (List ℕ)
  begun = set l₀ 0 (first_level from)

  first_at : (h : ℕ) → h < 2 → word_at begun 0 h ≡ first_word from h
  unfolding first_level
  first_at h m = ap (λ (level : List ℕ). get_or level h 0) (get_or-set_same l₀ 0 (first_level from) [] (omega arith)) ∙ tabulate_at (first_word from) 2 h 0 m

  first_own : bit_at (first_word from (from / 50)) (spot from) ≡ 1
  unfolding first_word
  first_own = rw (eq-eqb (from / 50) (from / 50) refl) (bit_at-pow_same (spot from))

  first_other : (h k : ℕ) → (h ≡ from / 50 → k ≡ spot from → ⊥) → bit_at (first_word from h) k ≡ 0
  unfolding first_word
  first_other h k n = go (eqb h (from / 50)) refl
    where
      go : (t : Bool) → eqb h (from / 50) ≡ t → bit_at (pick t (2 ^ spot from) 0) k ≡ 0
      go true e = bit_at-pow_other (spot from) k (λ q. n (eqb-true h (from / 50) e) q)
      go false e = bit_at-zero k

  level_first : Level (far costs from) begun 0
  level_first = record {
    out = λ h k m o. ap (λ (n : ℕ). bit_at n k) (first_at h m) ∙ first_other h k (λ a e. away k o e);
    yes = λ i h m. let z : i ≡ from = far_none costs from low i h (omega arith) in bit_is i h ∙ ap (λ (k : ℕ). bit_at (first_word from (k / 50)) (spot k)) z ∙ first_own;
    no = λ i h m. bit_is i h ∙ first_other (i / 50) (spot i) (λ a e. omega (arith, far_start costs from low, ap (λ (k : ℕ). far costs from k) (one_spot i from a e)));
  }
    where
      bit_is : (i : ℕ) → i < 100 → cell_bit begun 0 i ≡ bit_at (first_word from (i / 50)) (spot i)
      bit_is i h = ap (λ (n : ℕ). bit_at n (spot i)) (first_at (i / 50) (omega arith))

      away : (k : ℕ) → Out k → k ≡ spot from → ⊥
      away k o e = off (from % 50 / 10) (from % 10) (omega arith) (omega arith) o e
        where
          off : (y x : ℕ) → y < 5 → x < 10 → Out k → k ≡ y * 11 + x → ⊥
          off y x a b (inl c) e = omega arith
          off y x a b (inr c) e = omega arith

  levels_first : Levels costs from begun 1
  levels_first = record {
    long = length-set l₀ 0 (first_level from) ∙ long;
    each = λ d h. let z : d ≡ 0 = omega arith in rw z level_first;
  }

-- ---- the next level
module _ (costs : List ℕ) (from : ℕ) (low : from < 100) (start : open_at costs from ≡ true) {words : List ℕ} (given : words ≡ open_words costs) {l₀ : List (List ℕ)} {d : ℕ} (few : d < 100) (all : Levels costs from l₀ (d + 1)) where
  abbrev l : List (List ℕ)
  l = set l₀ (d + 1) (grown words (get_or l₀ d []))

  grown_at : get_or l (d + 1) [] ≡ grown words (get_or l₀ d [])
  grown_at = get_or-set_same l₀ (d + 1) (grown words (get_or l₀ d [])) [] (omega (arith, all.long))

  upper : word_at l (d + 1) 0 ≡ grown_word (get_or words 0 0) (word_at l₀ d 0) (word_at l₀ d 1 * 2 ^ 44 % 2 ^ 64)
  unfolding grown
  upper = ap (λ (level : List ℕ). get_or level 0 0) grown_at

  lower : word_at l (d + 1) 1 ≡ grown_word (get_or words 1 0) (word_at l₀ d 1) (word_at l₀ d 0 / 2 ^ 44)
  unfolding grown
  lower = ap (λ (level : List ℕ). get_or level 1 0) grown_at

  level : Level (far costs from) l₀ d
  level = all.each d (omega arith)

  module _ (i : ℕ) (inside : i < 100) where
    next : NextBit (cell_bit l (d + 1) i) (bit_at (get_or words (i / 50) 0) (spot i)) (cell_bit l₀ d i) (side_bit l₀ d i)
    next = go (below_or i 50)
      where
        fits : spot i < 64
        fits = omega arith

        go : (i < 50) ⊎ (50 ≤ i) → NextBit (cell_bit l (d + 1) i) (bit_at (get_or words (i / 50) 0) (spot i)) (cell_bit l₀ d i) (side_bit l₀ d i)
        go (inl a) =
            let half : i / 50 ≡ 0 = omega arith in
            let b = grown_bit (get_or words 0 0) (word_at l₀ d 0) (word_at l₀ d 1 * 2 ^ 44 % 2 ^ 64) (spot i) fits in
            rw (half, upper) (by_side (from_other l₀ d 11 0 (spot i)) b (cut_bit (word_at l₀ d 1 * 2 ^ 44) (spot i) fits ∙ sym (zero-add (bit_at (word_at l₀ d 1 * 2 ^ 44) (spot i)))))
        go (inr a) =
            let half : i / 50 ≡ 1 = omega arith in
            let b = grown_bit (get_or words 1 0) (word_at l₀ d 1) (word_at l₀ d 0 / 2 ^ 44) (spot i) fits in
            rw (half, lower) (by_side (from_other l₀ d 11 1 (spot i)) b (sym (add-zero (bit_at (word_at l₀ d 0 / 2 ^ 44) (spot i)))))

    -- a cell with at most d + 1 moves
    next_yes : far costs from i ≤ d + 1 → cell_bit l (d + 1) i ≡ 1
    next_yes m = go (below_or d (far costs from i))
      where
        opens : bit_at (get_or words (i / 50) 0) (spot i) ≡ 1
        opens = open_yes costs given i inside (far_open costs from low start i inside (omega arith))

        bit_one : {n c : ℕ} → n < 2 → c ≡ 1 → c ≤ n → n ≡ 1
        bit_one a b e = omega arith

        go : (d < far costs from i) ⊎ (far costs from i ≤ d) → cell_bit l (d + 1) i ≡ 1
        go (inr h) = omega (arith, opens, next.kept, level.yes i inside h)
        go (inl h) =
            let b = far_before costs from low i d inside (omega arith) (omega arith) in
            bit_one (omega arith) opens (next.gained b.side (side_there l₀ d level.out i inside b.side b.inside ∙ level.yes (beside i b.side) b.inside b.near))

    -- and one with more
    side_off : d + 1 < far costs from i → open_at costs i ≡ true → (side : Side) → side_bit l₀ d i side ≡ 0
    side_off m o side = go (below_or (beside i side) 100)
      where
        go : (beside i side < 100) ⊎ (100 ≤ beside i side) → side_bit l₀ d i side ≡ 0
        go (inr h) = side_none l₀ d level.out i inside side h
        go (inl h) = side_there l₀ d level.out i inside side h ∙ level.no (beside i side) h (apart (below_or d (far costs from (beside i side))))
          where
            apart : (d < far costs from (beside i side)) ⊎ (far costs from (beside i side) ≤ d) → d < far costs from (beside i side)
            apart (inl n) = n
            apart (inr n) = absurd (omega (arith, far_next costs from low i side inside h o (far_open costs from low start (beside i side) h (omega arith))))

    next_no : d + 1 < far costs from i → cell_bit l (d + 1) i ≡ 0
    next_no m = go (open_at costs i) refl
      where
        none : {n a b c e f : ℕ} → n ≤ a + b + c + e + f → a ≡ 0 → b ≡ 0 → c ≡ 0 → e ≡ 0 → f ≡ 0 → n ≡ 0
        none h p q r s t = omega arith

        go : (t : Bool) → open_at costs i ≡ t → cell_bit l (d + 1) i ≡ 0
        go false o = omega (arith, next.only, open_no costs given i inside o)
        go true o = none next.some (level.no i inside (omega arith)) (side_off m o North) (side_off m o East) (side_off m o South) (side_off m o West)

  next_out : (h k : ℕ) → h < 2 → Out k → bit_at (word_at l (d + 1) h) k ≡ 0
  next_out h k m o = go (below_or h 1)
    where
      go : (h < 1) ⊎ (1 ≤ h) → bit_at (word_at l (d + 1) h) k ≡ 0
      go (inl a) =
          let z : h ≡ 0 = omega arith in
          rw (z, upper) (omega (arith, grown_only (get_or words 0 0) (word_at l₀ d 0) (word_at l₀ d 1 * 2 ^ 44 % 2 ^ 64) k, cells_out costs given 0 k (omega arith) o))
      go (inr a) =
          let z : h ≡ 1 = omega arith in
          rw (z, lower) (omega (arith, grown_only (get_or words 1 0) (word_at l₀ d 1) (word_at l₀ d 0 / 2 ^ 44) k, cells_out costs given 1 k (omega arith) o))

  levels_more : Levels costs from l (d + 1 + 1)
  levels_more = record { long = length-set l₀ (d + 1) (grown words (get_or l₀ d [])) ∙ all.long; each = λ e h. go e (below_or e (d + 1)) h }
    where
      go : (e : ℕ) → (e < d + 1) ⊎ (d + 1 ≤ e) → e < d + 1 + 1 → Level (far costs from) l e
      go e (inl k) h = level_kept (all.each e k) (get_or-set_other l₀ (d + 1) e (grown words (get_or l₀ d [])) [] (λ q. omega arith))
      go e (inr k) h = let z : e ≡ d + 1 = omega arith in rw z (record { out = next_out; yes = next_yes; no = next_no })

  -- where it is level d, no cell has d + 1 moves
  whole_still : grown words (get_or l₀ d []) ≡ get_or l₀ d [] → (i : ℕ) → i < 100 → far costs from i < 255 → far costs from i < d + 1
  whole_still z i h m = let most : far costs from i ≤ d = far_still costs from low d none i h m in omega arith
    where
      none : (j : ℕ) → j < 100 → far costs from j ≡ d + 1 → ⊥
      none j b e =
          let same : cell_bit l (d + 1) j ≡ cell_bit l₀ d j = ap (λ (level : List ℕ). bit_at (get_or level (j / 50) 0) (spot j)) (grown_at ∙ z) in
          omega (arith, same, next_yes j b (omega arith), level.no j b (omega arith))

-- ---- what the levels tell
module _ (costs : List ℕ) (from : ℕ) (low : from < 100) {l : List (List ℕ)} {n : ℕ} (all : Levels costs from l n) (whole : (i : ℕ) → i < 100 → far costs from i < 255 → far costs from i < n) where
  -- the levels that lack a cell are those below its moves
  missing_is : (i k : ℕ) → i < 100 → k ≤ n → (far costs from i < k → missing l k i ≡ far costs from i) × (k ≤ far costs from i → missing l k i ≡ k)
  unfolding missing
  missing_is i zero h m = ((λ q. absurd (omega arith)), (λ q. refl))
  missing_is i (suc k) h m =
      let more = missing_is i k h (omega arith) in
      (λ q. reached q more (below_or (far costs from i) k), λ q. omega (arith, more.1 (omega arith), (all.each k m).no i h q))
    where
      reached : far costs from i < suc k → (far costs from i < k → missing l k i ≡ far costs from i) × (k ≤ far costs from i → missing l k i ≡ k) → (far costs from i < k) ⊎ (k ≤ far costs from i)
          → missing l k i + (1 - cell_bit l k i) ≡ far costs from i
      reached q more (inl a) = omega (arith, more.0 a, (all.each k m).yes i h (omega arith))
      reached q more (inr a) = omega (arith, more.1 a, (all.each k m).yes i h (omega arith))

  by_is : (i : ℕ) → i < 100 → moves_by l n i ≡ far costs from i
  unfolding moves_by
  by_is i h = go (below_or (far costs from i) n)
    where
      go : (far costs from i < n) ⊎ (n ≤ far costs from i) → pick (ltb (missing l n i) n) (missing l n i) 255 ≡ far costs from i
      go (inl m) = rw ((missing_is i n h (omega arith)).0 m, lt-ltb (far costs from i) n m) refl
      go (inr m) = rw ((missing_is i n h (omega arith)).1 m, le-ltb n n (omega arith)) (omega (arith, far_capped costs from low i h, top (below_or (far costs from i) 255)))
        where
          top : (far costs from i < 255) ⊎ (255 ≤ far costs from i) → 255 ≤ far costs from i
          top (inl a) = absurd (omega (arith, whole i h a))
          top (inr a) = a

  told : moves_in l n ≡ moves costs from
  unfolding moves_in
  told =
      ext_get_or 0 (tabulate (moves_by l n) 100 0) (moves costs from) (length_tabulate (moves_by l n) 100 0 ∙ sym (moves_long costs from low))
      (λ i h. let b : i < 100 = omega (arith, length_tabulate (moves_by l n) 100 0) in tabulate_at (moves_by l n) 100 i 0 b ∙ by_is i b)

-- as `moves_at` reads them
pub told_at : (l : List (List ℕ)) (n i : ℕ) → i < 100 → n ≤ 101 → then_some (ltb (missing l n i) n) (missing l n i) ≡ moves_or_none (get_or (moves_in l n) i 0)
unfolding moves_in moves_by
told_at l n i low few = rw (tabulate_at (moves_by l n) 100 i 0 low) (go (ltb (missing l n i) n) refl)
  where
    go : (t : Bool) → ltb (missing l n i) n ≡ t → then_some t (missing l n i) ≡ moves_or_none (pick t (missing l n i) 255)
    go true e = rw (lt-ltb (missing l n i) 255 (omega (arith, ltb-true (missing l n i) n e))) refl
    go false e = refl

-- ---- as `fill` makes them
-- the levels up to d
pub record Made (costs : List ℕ) (from d : ℕ) (l : List (List ℕ)) (count : ℕ) : Type 0 where
  pub counted : count ≡ d + 1
  pub levels : Levels costs from l (d + 1)

module _ (costs : List ℕ) {from : ℕ} (low : from < 100) where
  module _ (l : List (List ℕ)) {level : List ℕ} (long : length l ≡ 101) (e : level ≡ first_level from) where
    pub first_made : Made costs from 0 (set l 0 level) 1
    first_made = record { counted = refl; levels = rw e (levels_first costs from low l long) }

    -- from a blocked cell
    pub first_last : false ≡ open_at costs from → moves_in (set l 0 level) 1 ≡ moves costs from
    first_last shut = told costs from low first_made.levels (λ i h m. whole i (far_blocked costs from low (sym shut) i h m))
      where
        whole : (i : ℕ) → i ≡ from → far costs from i < 1
        whole i z = omega (arith, far_start costs from low, ap (λ (k : ℕ). far costs from k) z)

module _ {costs : List ℕ} {from d : ℕ} {l : List (List ℕ)} {count : ℕ} (low : from < 100) (made : Made costs from d l count) where
  module _ {level words : List ℕ} (start : true ≡ open_at costs from) (given : words ≡ open_words costs) (few : d < 100) (e : level ≡ grown words (get_or l d [])) where
    pub next_made : Made costs from (d + 1) (set l (d + 1) level) (d + 2)
    next_made = record { counted = omega arith; levels = rw e (levels_more costs from low (sym start) given few made.levels) }

    -- with a level whose next is the same
    pub next_same : true ≡ pointwise eqb level (get_or l d []) → moves_in l count ≡ moves costs from
    next_same same = rw made.counted (told costs from low made.levels (whole_still costs from low (sym start) given few made.levels (sym e ∙ same_text _ _ same)))

  -- with a level for each count of moves that there can be
  pub all_made : 100 ≤ d → d ≤ 100 → moves_in l count ≡ moves costs from
  all_made h m =
      let z : d + 1 ≡ 101 = omega arith in
      rw (made.counted, z) (told costs from low (rw z at made.levels) (λ i h m. omega (arith, far_few costs from low i h m)))

pub ruleset filling = (first_made, first_last, next_made, next_same, all_made)
