-- 02, request 2: floors that are written as files, and outputs of every length, as one table. Each entry is proved by computation.
use Rattle.std.specs.Prelude.{ℕ, ◌≡◌, refl, Ok, Err, List, [], ◌∷◌, replicate, set}
use Rattle.model.specs.Numbers.{refusal, number_of, value_of}
use Rattle.model.specs.Store.{size_of, file_in}
use Rattle.model.specs.Calls.{build_into, check_number, change_into, read_into, write_answer, write_into}
use Rattle.model.specs.Computing.{computing}
use Rattle.audit.specs.Starred.{hall, floor, store}

-- ---- stores
-- cell 5 blocked in a hall of one sector, and all cells of cost 1
abbrev pub blocked_5 : List ℕ
blocked_5 = store (hall 1 1 1) (5 ∷ [])

abbrev plain : List ℕ
plain = store (hall 1 1 1) []

-- cells 7, 5 and 3 with three costs, put in this order
abbrev three_costs : List ℕ
three_costs = build_into (hall 1 1 1) (set (set (set (floor (hall 1 1 1) []) 7 2) 5 255) 3 0) (replicate (size_of (hall 1 1 1)) 9)

-- cells 7 and 263 blocked, which differ in the high byte alone
abbrev high_byte : List ℕ
high_byte = store (hall 3 1 1) (7 ∷ 263 ∷ [])

-- scaling closes 8, 9 and 100 between 19 and 102: they cost 1 all the same
abbrev closed : List ℕ
closed = store (hall 2 1 2) (19 ∷ 102 ∷ [])

-- a store that no build gives: the scaled cost of cell 5 is that of an open cell, and that of cell 6 blocked
abbrev pub lent : List ℕ
lent = set (set blocked_5 109 1) 110 255

-- ---- the table
pub record WriteCases : Type 0 where
  -- "ascending floor numbers, no entry with cost 1, no other bytes"
  pub one_cell : file_in blocked_5 ≡ 1 ∷ 1 ∷ 1 ∷ 1 ∷ 0 ∷ 5 ∷ 0 ∷ 255 ∷ []
  pub no_cell : file_in plain ≡ 1 ∷ 1 ∷ 1 ∷ 0 ∷ 0 ∷ []
  pub in_order : file_in three_costs ≡ 1 ∷ 1 ∷ 1 ∷ 3 ∷ 0 ∷ 3 ∷ 0 ∷ 5 ∷ 0 ∷ 7 ∷ 0 ∷ 0 ∷ 255 ∷ 2 ∷ []
  pub low_byte_first : file_in high_byte ≡ 3 ∷ 1 ∷ 1 ∷ 2 ∷ 0 ∷ 7 ∷ 0 ∷ 7 ∷ 1 ∷ 255 ∷ 255 ∷ []
  -- "from the store's sizes, scale and base costs"
  pub base_alone : file_in closed ≡ 2 ∷ 1 ∷ 2 ∷ 2 ∷ 0 ∷ 19 ∷ 0 ∷ 102 ∷ 0 ∷ 255 ∷ 255 ∷ []
  pub lent_passes : check_number lent ≡ 0
  pub lent_same : file_in lent ≡ file_in blocked_5
  -- "A floor changed during the season"
  pub changed : file_in (change_into (change_into blocked_5 5 1) 99 40) ≡ 1 ∷ 1 ∷ 1 ∷ 1 ∷ 0 ∷ 99 ∷ 0 ∷ 40 ∷ []
  -- "Only the file's own bytes of the lent output are touched, and the file's length is given"
  pub given : write_answer blocked_5 8 ≡ Ok 8
  pub behind : write_into blocked_5 (replicate 10 9) ≡ 1 ∷ 1 ∷ 1 ∷ 1 ∷ 0 ∷ 5 ∷ 0 ∷ 255 ∷ 9 ∷ 9 ∷ []
  -- "29 when the output is shorter than the file, after the store check"; a refusal's length is 0
  pub short : write_answer blocked_5 7 ≡ Err (refusal 29)
  pub no_length : value_of 0 (write_answer blocked_5 7) ≡ 0
  pub kept : write_into blocked_5 (replicate 7 9) ≡ replicate 7 9
  pub store_first : number_of (write_answer (set blocked_5 3 1) 7) ≡ 19
  -- "Reading the written file gives these back"
  pub back : read_into (file_in three_costs) (replicate 100 9) ≡ set (set (set (replicate 100 1) 7 2) 5 255) 3 0

pub write_cases : WriteCases
unfolding computing
write_cases = record {
  one_cell = refl;
  no_cell = refl;
  in_order = refl;
  low_byte_first = refl;
  base_alone = refl;
  lent_passes = refl;
  lent_same = refl;
  changed = refl;
  given = refl;
  behind = refl;
  short = refl;
  no_length = refl;
  kept = refl;
  store_first = refl;
  back = refl;
}
