-- A sector's cells as two words of bits: the bits of cells beside each other, the open cells, and a word that grows by the cells beside its own.
use Prim.Native.Nat.{ℕ, zero, suc, ◌+◌, ◌-◌, ◌*◌, ◌/◌, ◌%◌, ◌^◌, ◌≤◌, ◌<◌}
use native.Mathlib.Numerals.{add-one}
use native.Mathlib.Omega.{arith}
use mathlib.Core.Path.{◌≡◌, refl, sym, ap, ap₂, ◌∙◌}
use mathlib.Core.Logic.{◌⊎◌, inl, inr}
use mathlib.Core.Bool.{true, false}
use mathlib.Core.List.{List}
use Rattle.std.specs.Int.{bit_at}
use Rattle.std.proofs.lemmas.Nat.Bits.{bit_at-zero, bit_at_above}
use lib.Bits.{bit_or}
use lib.ListN.{get_or}
use lib.Pow.{shl_exact}
use borrow.Author.Tests.{eqb-true, eqb-false}
use Rattle.laws.specs.Graph.{below_or}
use Rattle.laws.specs.Table.{table_at}
use Rattle.model.specs.declared.Side.{Side}
use Rattle.model.specs.declared.Side.TheVariants.{North, East, South, West}
use Rattle.model.specs.Cells.{cell_at, beside}
use Rattle.model.specs.Sides.{Axis, Column, Row, Sense, Lower, Higher, axis, sense, last, Over}
use Rattle.model.specs.CellSides.{cell_on, beside_over, beside_none}
use Rattle.model.specs.Costs.{open_at}
use Rattle.model.specs.Windows.{is_open}
use Rattle.model.specs.WindowRuns.{bits_small, bits_open}
use Rattle.moves.specs.Levels.{spot, packed, open_row, open_word, open_words, around, grown_word, word_at, cell_bit}
use Rattle.moves.proofs.Bits.{and_bit, or_bit, down_bit, up_bit, up_low, cut_bit}

-- a bit that no cell has: the last of a row, and past the rows
abbrev pub Out : ℕ → Type 0
Out k = (k % 11 ≡ 10) ⊎ (55 ≤ k)

-- ---- cells and their bits
-- one cell to a bit of a half
pub one_spot : (i j : ℕ) → i / 50 ≡ j / 50 → spot i ≡ spot j → i ≡ j
one_spot i j e f =
    let s = same (i % 50 / 10) (i % 10) (j % 50 / 10) (j % 10) (omega arith) (omega arith) f in
    parts i ∙ rw (e, s.0, s.1) (sym (parts j))
  where
    same : (y x z w : ℕ) → x < 10 → w < 10 → y * 11 + x ≡ z * 11 + w → (y ≡ z) × (x ≡ w)
    same y x z w a b e = (omega arith, omega arith)

    parts : (i : ℕ) → i ≡ i / 50 * 50 + i % 50 / 10 * 10 + i % 10
    parts i =
        let ten : i % 50 % 10 ≡ i % 10 = omega arith in
        let five : i % 50 ≡ i % 50 / 10 * 10 + i % 50 % 10 = omega arith in
        go (i % 50 / 10 * 10) (i % 10) (five ∙ ap (λ (x : ℕ). i % 50 / 10 * 10 + x) ten)
      where
        go : (m x : ℕ) → i % 50 ≡ m + x → i ≡ i / 50 * 50 + m + x
        go m x e = omega arith

-- ---- the open cells
module _ (row : ℕ → ℕ) (small : (y : ℕ) → row y < 1024) where
  -- bit x of row y in a word of n rows
  packed_bit : (n y x : ℕ) → x < 11 → (y < n → bit_at (packed row n) (y * 11 + x) ≡ bit_at (row y) x) × (n ≤ y → bit_at (packed row n) (y * 11 + x) ≡ 0)
  unfolding packed
  packed_bit zero y x h = ((λ q. absurd (omega arith)), (λ q. bit_at-zero (y * 11 + x)))
  packed_bit (suc n) y x h =
      let more = packed_bit n y x h in
      let o = or_bit (packed row n) (row n * 2 ^ (n * 11)) (y * 11 + x) in (
        (λ q. inside (below_or y n) q more.0 more.1 o.left o.right o.either),
        λ q.
            let at : y * 11 + x ≡ n * 11 + ((y - n) * 11 + x) = omega arith in
            let off : bit_at (row n * 2 ^ (n * 11)) (y * 11 + x) ≡ 0 =
            ap (λ (k : ℕ). bit_at (row n * 2 ^ (n * 11)) k) at ∙ up_bit (row n) (n * 11) ((y - n) * 11 + x) ∙ bit_at_above (row n) 10 ((y - n) * 11 + x) (small n) (omega arith) in
            omega (arith, o.either, more.1 (omega arith), off),
      )
    where
      inside : {b : ℕ} → (y < n) ⊎ (n ≤ y) → y < suc n → (y < n → bit_at (packed row n) (y * 11 + x) ≡ bit_at (row y) x)
          → (n ≤ y → bit_at (packed row n) (y * 11 + x) ≡ 0) → bit_at (packed row n) (y * 11 + x) ≤ b
          → bit_at (row n * 2 ^ (n * 11)) (y * 11 + x) ≤ b → b ≤ bit_at (packed row n) (y * 11 + x) + bit_at (row n * 2 ^ (n * 11)) (y * 11 + x) → b ≡ bit_at (row y) x
      inside (inl a) q f g u v w = omega (arith, f a, up_low (row n) (n * 11) (y * 11 + x) (omega arith))
      inside (inr a) q f g u v w =
          let z : y ≡ n = omega arith in
          let on : bit_at (row n * 2 ^ (n * 11)) (y * 11 + x) ≡ bit_at (row y) x = rw z (up_bit (row n) (n * 11) x) in
          omega (arith, g a, on)

pub row_small : (costs : List ℕ) (y : ℕ) → open_row costs y < 1024
unfolding open_row
row_small costs y = bits_small (λ x. open_at costs (y * 10 + x)) 10

module _ (costs : List ℕ) {words : List ℕ} (given : words ≡ open_words costs) where
  word_is : (h : ℕ) → h < 2 → get_or words h 0 ≡ open_word costs h
  unfolding open_words
  word_is h l = table_at (open_word costs) 2 given h 0 l

  pub cells_out : (h k : ℕ) → h < 2 → Out k → bit_at (get_or words h 0) k ≡ 0
  unfolding open_word
  cells_out h k l o =
      let at : k ≡ k / 11 * 11 + k % 11 = omega arith in
      let b = packed_bit (λ y. open_row costs (h * 5 + y)) (λ y. row_small costs (h * 5 + y)) 5 (k / 11) (k % 11) (omega arith) in
      rw (word_is h l) (ap (λ (m : ℕ). bit_at (open_word costs h) m) at ∙ go (below_or (k / 11) 5) o b.0 b.1)
    where
      go : {b : ℕ} → (k / 11 < 5) ⊎ (5 ≤ k / 11) → Out k → (k / 11 < 5 → b ≡ bit_at (open_row costs (h * 5 + k / 11)) (k % 11)) → (5 ≤ k / 11 → b ≡ 0) → b ≡ 0
      go (inl a) (inl e) f g = f a ∙ bit_at_above (open_row costs (h * 5 + k / 11)) 10 (k % 11) (row_small costs (h * 5 + k / 11)) (omega arith)
      go (inl a) (inr e) f g = absurd (omega arith)
      go (inr a) e f g = g a

  module _ (i : ℕ) (low : i < 100) where
    cell_bit_lem : bit_at (get_or words (i / 50) 0) (spot i) ≡ bit_at (open_row costs (i / 10)) (i % 10)
    unfolding open_word
    cell_bit_lem =
        let row : i / 50 * 5 + i % 50 / 10 ≡ i / 10 = omega arith in
        let b = packed_bit (λ y. open_row costs (i / 50 * 5 + y)) (λ y. row_small costs (i / 50 * 5 + y)) 5 (i % 50 / 10) (i % 10) (omega arith) in
        rw (word_is (i / 50) (omega arith)) (b.0 (omega arith) ∙ ap (λ (y : ℕ). bit_at (open_row costs y) (i % 10)) row)

    cell_open : is_open (open_row costs (i / 10)) (i % 10) ≡ open_at costs i
    unfolding open_row
    cell_open = let at : i / 10 * 10 + i % 10 ≡ i = omega arith in bits_open (λ x. open_at costs (i / 10 * 10 + x)) 10 (i % 10) (omega arith) ∙ ap (open_at costs) at

    pub open_yes : open_at costs i ≡ true → bit_at (get_or words (i / 50) 0) (spot i) ≡ 1
    unfolding is_open
    open_yes o = cell_bit_lem ∙ eqb-true (bit_at (open_row costs (i / 10)) (i % 10)) 1 (cell_open ∙ o)

    pub open_no : open_at costs i ≡ false → bit_at (get_or words (i / 50) 0) (spot i) ≡ 0
    unfolding is_open
    open_no o = cell_bit_lem ∙ off (bit_at (open_row costs (i / 10)) (i % 10)) (omega arith) (eqb-false (bit_at (open_row costs (i / 10)) (i % 10)) 1 (cell_open ∙ o))
      where
        off : (n : ℕ) → n < 2 → (n ≡ 1 → ⊥) → n ≡ 0
        off n h f = go (below_or n 1)
          where
            go : (n < 1) ⊎ (1 ≤ n) → n ≡ 0
            go (inl a) = omega arith
            go (inr a) = absurd (f (omega arith))

-- ---- the bits of the cells beside a cell
-- how far on the bit of the next cell of an axis is
abbrev pub reach : Axis → ℕ
reach Column = 1
reach Row = 11

-- a word shifted by u bits, so that the bit of a cell comes to the cell that has it beside itself in a sense
abbrev pub shifted : Sense → ℕ → ℕ → ℕ
shifted Lower u word = word * 2 ^ u
shifted Higher u word = word / 2 ^ u

-- the bit that comes to bit s of half h from the other half, where a word has 55 bits
abbrev pub from_other : List (List ℕ) → ℕ → ℕ → ℕ → ℕ → Sense → ℕ
from_other l d u zero s Lower = 0
from_other l d u (suc h) s Lower = bit_at (word_at l d 0 / 2 ^ (55 - u)) s
from_other l d u zero s Higher = bit_at (word_at l d 1 * 2 ^ (55 - u)) s
from_other l d u (suc h) s Higher = 0

-- only the next row may lie in the other half
abbrev pub over : Axis → ℕ → ℕ
over Column n = 0
over Row n = n

-- what the words shifted to bit s have there, by side
abbrev pub sides : ℕ → ℕ → (Sense → ℕ) → Side → ℕ
sides word s from k = bit_at (shifted (sense k) (reach (axis k)) word) s + over (axis k) (from (sense k))

abbrev pub side_bit : List (List ℕ) → ℕ → ℕ → Side → ℕ
side_bit l d i = sides (word_at l d (i / 50)) (spot i) (from_other l d 11 (i / 50) (spot i))

-- a level is a line of 110 bits, and this is where a cell stands on it
abbrev on_line : ℕ → ℕ
on_line i = i / 10 * 11 + i % 10

on_line_lem : (i : ℕ) → on_line i ≡ i / 50 * 55 + spot i
on_line_lem i = let row : i / 10 ≡ i / 50 * 5 + i % 50 / 10 = omega arith in go (i / 10) (i / 50) (i % 50 / 10) (i % 10) row
  where
    go : (y h z x : ℕ) → y ≡ h * 5 + z → y * 11 + x ≡ h * 55 + (z * 11 + x)
    go y h z x e = omega arith

spot_low : (i : ℕ) → spot i < 54
spot_low i = go (i % 50 / 10) (i % 10) (omega arith) (omega arith)
  where
    go : (y x : ℕ) → y < 5 → x < 10 → y * 11 + x < 54
    go y x a b = omega arith

-- q is u places on from p
abbrev On : Sense → ℕ → ℕ → ℕ → Type 0
On Lower u p q = p ≡ q + u
On Higher u p q = q ≡ p + u

-- the end of the line is less than u places on
abbrev Past : Sense → ℕ → ℕ → Type 0
Past Lower u p = p < u
Past Higher u p = 110 ≤ p + u

reach_low : (a : Axis) → reach a < 55
reach_low Column = omega arith
reach_low Row = omega arith

line_low : (i : ℕ) → i < 100 → on_line i < 110
line_low i l = omega arith

-- THE LINE, by side: the cell beside is as far on as its axis reaches, and from a cell at an end that is past the line or at a bit that no cell has
line_over : (k : Side) (i j : ℕ) → Over k (cell_on (cell_at i)) (cell_on (cell_at j)) → On (sense k) (reach (axis k)) (on_line i) (on_line j)
line_over North i j o = omega arith
line_over East i j o = omega arith
line_over South i j o = omega arith
line_over West i j o = omega arith

line_end : (k : Side) (i : ℕ) → i < 100 → cell_on (cell_at i) (axis k) ≡ last (sense k) 10
    → Past (sense k) (reach (axis k)) (on_line i) ⊎ ((q : ℕ) × (q < 110) × (q % 11 ≡ 10) × On (sense k) (reach (axis k)) (on_line i) q)
line_end North i l e = inl (omega arith)
line_end East i l e = inr (on_line i + 1, omega arith, omega arith, refl)
line_end South i l e = inl (omega arith)
line_end West i l e = go (below_or (on_line i) 1)
  where
    go : (on_line i < 1) ⊎ (1 ≤ on_line i) → (on_line i < 1) ⊎ ((q : ℕ) × (q < 110) × (q % 11 ≡ 10) × (on_line i ≡ q + 1))
    go (inl a) = inl a
    go (inr a) = inr (on_line i - 1, omega arith, omega arith, omega arith)

module _ (l : List (List ℕ)) (d : ℕ) (out : (h k : ℕ) → h < 2 → Out k → bit_at (word_at l d h) k ≡ 0) where
  line_bit : ℕ → ℕ
  line_bit p = bit_at (word_at l d (p / 55)) (p % 55)

  place : (h k p : ℕ) → k < 55 → p ≡ h * 55 + k → bit_at (word_at l d h) k ≡ line_bit p
  unfolding line_bit
  place h k p b e =
      let half : h ≡ p / 55 = omega arith in
      let at : k ≡ p % 55 = omega arith in
      ap₂ (λ (h k : ℕ). bit_at (word_at l d h) k) half at

  -- a bit of the line between two rows
  between : (q : ℕ) → q < 110 → q % 11 ≡ 10 → line_bit q ≡ 0
  unfolding line_bit
  between q a b = out (q / 55) (q % 55) (omega arith) (inl (omega arith))

  -- a word shifted to the left, where it has a bit, and one shifted to the right
  up : (h u k j : ℕ) → j ≡ u + k → bit_at (word_at l d h * 2 ^ u) j ≡ bit_at (word_at l d h) k
  up h u k j e = ap (λ (j : ℕ). bit_at (word_at l d h * 2 ^ u) j) e ∙ up_bit (word_at l d h) u k

  down : (h u k j : ℕ) → u + k ≡ j → bit_at (word_at l d h / 2 ^ u) k ≡ bit_at (word_at l d h) j
  down h u k j e = down_bit (word_at l d h) u k ∙ ap (λ (m : ℕ). bit_at (word_at l d h) m) e

  high : (h k : ℕ) → h < 2 → 55 ≤ k → bit_at (word_at l d h) k ≡ 0
  high h k a b = out h k a (inr b)

  -- bit s of half h in the shifted words is the bit u places on along the line
  shifted_there : (e : Sense) (u h s q : ℕ) → u < 55 → h < 2 → s < 55 → q < 110 → On e u (h * 55 + s) q → bit_at (shifted e u (word_at l d h)) s + from_other l d u h s e ≡ line_bit q
  shifted_there Lower u zero s q a b c w o = omega (arith, up 0 u (s - u) s (omega arith), place 0 (s - u) q (omega arith) (omega arith))
  shifted_there Lower u (suc zero) s q a b c w o = go (below_or s u)
    where
      go : (s < u) ⊎ (u ≤ s) → bit_at (word_at l d 1 * 2 ^ u) s + bit_at (word_at l d 0 / 2 ^ (55 - u)) s ≡ line_bit q
      go (inl f) = omega (arith, up_low (word_at l d 1) u s f, down 0 (55 - u) s q (omega arith), place 0 q q (omega arith) (omega arith))
      go (inr f) = omega (arith, up 1 u (s - u) s (omega arith), place 1 (s - u) q (omega arith) (omega arith), down 0 (55 - u) s (55 - u + s) refl, high 0 (55 - u + s) (omega arith) (omega arith))
  shifted_there Lower u (suc (suc h)) s q a b c w o = absurd (omega arith)
  shifted_there Higher u zero s q a b c w o = go (below_or s (55 - u))
    where
      go : (s < 55 - u) ⊎ (55 - u ≤ s) → bit_at (word_at l d 0 / 2 ^ u) s + bit_at (word_at l d 1 * 2 ^ (55 - u)) s ≡ line_bit q
      go (inl f) = omega (arith, up_low (word_at l d 1) (55 - u) s f, down 0 u s q (omega arith), place 0 q q (omega arith) (omega arith))
      go (inr f) =
          let r : ℕ = s - (55 - u) in
          omega (arith, down 0 u s (u + s) refl, high 0 (u + s) (omega arith) (omega arith), up 1 (55 - u) r s (omega arith), place 1 r q (omega arith) (omega arith))
  shifted_there Higher u (suc zero) s q a b c w o = omega (arith, down 1 u s (s + u) (omega arith), place 1 (s + u) q (omega arith) (omega arith))
  shifted_there Higher u (suc (suc h)) s q a b c w o = absurd (omega arith)

  -- and 0 where the line ends
  shifted_none : (e : Sense) (u h s : ℕ) → u < 55 → h < 2 → s < 55 → Past e u (h * 55 + s) → bit_at (shifted e u (word_at l d h)) s + from_other l d u h s e ≡ 0
  shifted_none Lower u zero s a b c o = omega (arith, up_low (word_at l d 0) u s (omega arith))
  shifted_none Lower u (suc h) s a b c o = absurd (omega arith)
  shifted_none Higher u zero s a b c o = absurd (omega arith)
  shifted_none Higher u (suc zero) s a b c o = omega (arith, down 1 u s (u + s) refl, high 1 (u + s) (omega arith) (omega arith))
  shifted_none Higher u (suc (suc h)) s a b c o = absurd (omega arith)

  -- nothing comes from the other half along a row
  other_none : (h s : ℕ) (e : Sense) → s < 54 → from_other l d 1 h s e ≡ 0
  other_none zero s Lower b = refl
  other_none (suc h) s Lower b = down 0 54 s (54 + s) refl ∙ past (below_or 0 s)
    where
      past : (0 < s) ⊎ (s ≤ 0) → bit_at (word_at l d 0) (54 + s) ≡ 0
      past (inl f) = high 0 (54 + s) (omega arith) (omega arith)
      past (inr f) = out 0 (54 + s) (omega arith) (inl (omega arith))
  other_none zero s Higher b = up_low (word_at l d 1) 54 s b
  other_none (suc h) s Higher b = refl

  module _ (i : ℕ) (low : i < 100) where
    side_is : (k : Side) → side_bit l d i k ≡ bit_at (shifted (sense k) (reach (axis k)) (word_at l d (i / 50))) (spot i) + from_other l d (reach (axis k)) (i / 50) (spot i) (sense k)
    side_is k = ap (λ (n : ℕ). bit_at (shifted (sense k) (reach (axis k)) (word_at l d (i / 50))) (spot i) + n) (go (axis k))
      where
        go : (a : Axis) → over a (from_other l d 11 (i / 50) (spot i) (sense k)) ≡ from_other l d (reach a) (i / 50) (spot i) (sense k)
        go Column = sym (other_none (i / 50) (spot i) (sense k) (spot_low i))
        go Row = refl

    -- the bit of the cell beside, where there is one
    pub side_there : (side : Side) → beside i side < 100 → side_bit l d i side ≡ cell_bit l d (beside i side)
    side_there k h =
        let q : ℕ = on_line (beside i k) in
        let o = line_over k i (beside i k) (beside_over i k low h) in
        side_is k
        ∙ shifted_there (sense k) (reach (axis k)) (i / 50) (spot i) q (reach_low (axis k)) (omega arith) (omega (arith, spot_low i)) (line_low (beside i k) h) (rw (on_line_lem i) at o)
        ∙ sym (place (beside i k / 50) (spot (beside i k)) q (omega (arith, spot_low (beside i k))) (on_line_lem (beside i k)))

    -- and else 0
    pub side_none : (side : Side) → 100 ≤ beside i side → side_bit l d i side ≡ 0
    side_none k h = side_is k ∙ go (line_end k i low (beside_none i k low h))
      where
        bit : ℕ
        bit = bit_at (shifted (sense k) (reach (axis k)) (word_at l d (i / 50))) (spot i) + from_other l d (reach (axis k)) (i / 50) (spot i) (sense k)

        go : Past (sense k) (reach (axis k)) (on_line i) ⊎ ((q : ℕ) × (q < 110) × (q % 11 ≡ 10) × On (sense k) (reach (axis k)) (on_line i) q) → bit ≡ 0
        go (inl p) = shifted_none (sense k) (reach (axis k)) (i / 50) (spot i) (reach_low (axis k)) (omega arith) (omega (arith, spot_low i)) (rw (on_line_lem i) at p)
        go (inr p) =
            shifted_there (sense k) (reach (axis k)) (i / 50) (spot i) p.0 (reach_low (axis k)) (omega arith) (omega (arith, spot_low i)) p.1 (rw (on_line_lem i) at p.3)
            ∙ between p.0 p.1 p.2

-- bit k of a grown word n: the open cells that are in the word or in one beside it
pub record GrownBit (n cells word across k : ℕ) : Type 0 where
  only : bit_at n k ≤ bit_at cells k
  some : bit_at n k ≤ bit_at word k + bit_at (word * 2 ^ 1) k + bit_at (word / 2 ^ 1) k + bit_at (word * 2 ^ 11) k + bit_at (word / 2 ^ 11) k + bit_at across k
  own : bit_at word k + bit_at cells k ≤ bit_at n k + 1
  near : (side : Side) → bit_at (shifted (sense side) (reach (axis side)) word) k + bit_at cells k ≤ bit_at n k + 1
  beyond : bit_at across k + bit_at cells k ≤ bit_at n k + 1

pub grown_bit : (cells word across k : ℕ) → k < 64 → GrownBit (grown_word cells word across) cells word across k
unfolding grown_word around
grown_bit cells word across k h =
    let a : ℕ = bit_or word (word * 2 ^ 1 % 2 ^ 64) in
    let b : ℕ = bit_or a (word / 2 ^ 1) in
    let c : ℕ = bit_or b (word * 2 ^ 11 % 2 ^ 64) in
    let e : ℕ = bit_or c (word / 2 ^ 11) in
    let o₁ = or_bit word (word * 2 ^ 1 % 2 ^ 64) k in
    let o₂ = or_bit a (word / 2 ^ 1) k in
    let o₃ = or_bit b (word * 2 ^ 11 % 2 ^ 64) k in
    let o₄ = or_bit c (word / 2 ^ 11) k in
    let o₅ = or_bit e across k in
    let n = and_bit (bit_or e across) cells k in
    let one = cut_bit (word * 2 ^ 1) k h in
    let row = cut_bit (word * 2 ^ 11) k h in
    record {
      only = n.right;
      some = omega (arith, n.left, o₁.either, o₂.either, o₃.either, o₄.either, o₅.either, one, row);
      own = omega (arith, n.both, o₁.left, o₂.left, o₃.left, o₄.left, o₅.left);
      near = elim [
        | North ↦ omega (arith, n.both, o₃.right, o₄.left, o₅.left, row)
        | East ↦ omega (arith, n.both, o₂.right, o₃.left, o₄.left, o₅.left)
        | South ↦ omega (arith, n.both, o₄.right, o₅.left)
        | West ↦ omega (arith, n.both, o₁.right, o₂.left, o₃.left, o₄.left, o₅.left, one)
      ];
      beyond = omega (arith, n.both, o₅.right);
    }

pub grown_only : (cells word across k : ℕ) → bit_at (grown_word cells word across) k ≤ bit_at cells k
unfolding grown_word
grown_only cells word across k = (and_bit (around word across) cells k).right

-- the same by side: bit n of a cell, by that of the open cells, its own and those of the sides
pub record NextBit (n cell own : ℕ) (side : Side → ℕ) : Type 0 where
  pub only : n ≤ cell
  pub some : n ≤ own + side North + side East + side South + side West
  pub kept : own + cell ≤ n + 1
  pub gained : (s : Side) → side s ≡ 1 → cell ≤ n

pub by_side : {n cells word across k : ℕ} (from : Sense → ℕ) → GrownBit n cells word across k → bit_at across k ≡ from Lower + from Higher
    → NextBit (bit_at n k) (bit_at cells k) (bit_at word k) (sides word k from)
by_side from b e = record { only = b.only; some = omega (arith, b.some); kept = b.own; gained = λ s q. omega (arith, b.near s, b.beyond, part (axis s) (sense s)) }
  where
    part : (a : Axis) (e : Sense) → over a (from e) ≤ from Lower + from Higher
    part Column e = omega arith
    part Row Lower = omega arith
    part Row Higher = omega arith

-- ---- as `open_word` makes them
pub packed_none : (row : ℕ → ℕ) → 0 ≡ packed row 0
unfolding packed
packed_none row = refl

pub packed_more : (row : ℕ → ℕ) (y : ℕ) {word r : ℕ} → word ≡ packed row y → r ≡ row y → row y < 1024 → y < 5 → bit_or word (r * 2 ^ (y * 11) % 2 ^ 64) ≡ packed row (y + 1)
unfolding packed
packed_more row y e f small l = rw (add-one y, e, f, shl_exact 10 (y * 11) 64 small (omega arith)) refl
