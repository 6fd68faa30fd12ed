-- A sector's cells as two words of bits, and the levels of a spread of moves: level d has the cells that at most d moves reach.
use Rattle.std.specs.Prelude.{if◌then◌else◌, Option, Some, None, ℕ, zero, suc, ◌+◌, ◌-◌, ◌*◌, ◌/◌, ◌%◌, ◌^◌, List, [], ◌∷◌, ltb, eqb, get_or}
use Rattle.std.specs.Int.Bits.{bit_and, bit_or}
use Rattle.laws.specs.Fold.{pick}
use Rattle.laws.specs.Table.{tabulate}
use Rattle.model.specs.Costs.{open_at}
use Rattle.model.specs.Moves.{apart}
use Rattle.model.specs.Windows.{bits}

-- ---- a word has five rows of eleven bits: ten cells and a bit that stays 0
-- the bit of cell i in word i / 50
abbrev pub spot : ℕ → ℕ
spot i = i % 50 / 10 * 11 + i % 10

-- n rows in a word
unfoldable pub packed : (ℕ → ℕ) → ℕ → ℕ
packed row zero = 0
packed row (suc n) = bit_or (packed row n) (row n * 2 ^ (n * 11))

-- the open cells of row y, bit x for column x
unfoldable pub open_row : List ℕ → ℕ → ℕ
open_row costs y = bits (λ x. open_at costs (y * 10 + x)) 10

-- the open cells of half h
unfoldable pub open_word : List ℕ → ℕ → ℕ
open_word costs h = packed (λ y. open_row costs (h * 5 + y)) 5

unfoldable pub open_words : List ℕ → List ℕ
open_words costs = tabulate (open_word costs) 2 0

-- ---- a level has two words
-- half h of level 0
unfoldable pub first_word : ℕ → ℕ → ℕ
first_word from h = pick (eqb h (from / 50)) (2 ^ spot from) 0

unfoldable pub first_level : ℕ → List ℕ
first_level from = tabulate (first_word from) 2 0

-- the cells of a half and those beside them, with those beside the other half
unfoldable pub around : ℕ → ℕ → ℕ
around word across = bit_or (bit_or (bit_or (bit_or (bit_or word (word * 2 % 2 ^ 64)) (word / 2)) (word * 2 ^ 11 % 2 ^ 64)) (word / 2 ^ 11)) across

-- a half of the next level: the open cells of these
unfoldable pub grown_word : ℕ → ℕ → ℕ → ℕ
grown_word cells word across = bit_and (around word across) cells

-- the level after a level
unfoldable pub grown : List ℕ → List ℕ → List ℕ
grown words level =
    let upper = get_or level 0 0 in
    let lower = get_or level 1 0 in
    grown_word (get_or words 0 0) upper (lower * 2 ^ 44 % 2 ^ 64) ∷ grown_word (get_or words 1 0) lower (upper / 2 ^ 44) ∷ []

-- half h of level d
abbrev pub word_at : List (List ℕ) → ℕ → ℕ → ℕ
word_at levels d h = get_or (get_or levels d []) h 0

-- ---- the moves that levels tell
-- the bit of cell i in level d
abbrev pub cell_bit : List (List ℕ) → ℕ → ℕ → ℕ
cell_bit levels d i = word_at levels d (i / 50) / 2 ^ spot i % 2

-- how many of the first n levels lack cell i
unfoldable pub missing : List (List ℕ) → ℕ → ℕ → ℕ
missing levels zero i = 0
missing levels (suc d) i = missing levels d i + (1 - cell_bit levels d i)

unfoldable pub moves_by : List (List ℕ) → ℕ → ℕ → ℕ
moves_by levels n i = pick (ltb (missing levels n i) n) (missing levels n i) apart

-- the moves to each cell, by n levels
unfoldable pub moves_in : List (List ℕ) → ℕ → List ℕ
moves_in levels n = tabulate (moves_by levels n) 100 0

-- a count of moves, and none where it is `apart`
abbrev pub moves_or_none : ℕ → Option ℕ
moves_or_none n = if ltb n apart then Some n else None
