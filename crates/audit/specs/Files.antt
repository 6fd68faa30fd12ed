-- 02, request 1: files in which a floor number stands twice, alone and beside other refusals, and files in which none does, as one table. Each entry is proved by computation.
use Rattle.std.specs.Prelude.{ℕ, ◌≡◌, refl, List, [], ◌∷◌, ◌++◌, replicate, set}
use Rattle.model.specs.Calls.{read_number, read_into}
use Rattle.model.specs.Hallroute.{text, hallroute}
use Rattle.model.specs.Computing.{computing}
use Rattle.audit.specs.Starred.{pair}

-- ---- files of one sector
-- cell 7 twice, with one cost and with two
abbrev twice : List ℕ
twice = 1 ∷ 1 ∷ 1 ∷ 2 ∷ 0 ∷ 7 ∷ 0 ∷ 7 ∷ 0 ∷ 5 ∷ 5 ∷ []

abbrev merged : List ℕ
merged = 1 ∷ 1 ∷ 1 ∷ 2 ∷ 0 ∷ 7 ∷ 0 ∷ 7 ∷ 0 ∷ 5 ∷ 255 ∷ []

-- cell 7 first and last, with 8 between
abbrev first_and_last : List ℕ
first_and_last = 1 ∷ 1 ∷ 1 ∷ 3 ∷ 0 ∷ 7 ∷ 0 ∷ 8 ∷ 0 ∷ 7 ∷ 0 ∷ 5 ∷ 5 ∷ 5 ∷ []

-- cell 0 twice, then 100, which the floor does not have
abbrev twice_and_beyond : List ℕ
twice_and_beyond = 1 ∷ 1 ∷ 1 ∷ 3 ∷ 0 ∷ 0 ∷ 0 ∷ 0 ∷ 0 ∷ 100 ∷ 0 ∷ 1 ∷ 1 ∷ 1 ∷ []

-- cells 7 and 263 differ in the high byte alone: in a hall of three sectors they are two cells
abbrev high_byte : List ℕ
high_byte = 3 ∷ 1 ∷ 1 ∷ 2 ∷ 0 ∷ 7 ∷ 0 ∷ 7 ∷ 1 ∷ 5 ∷ 5 ∷ []

-- ---- the table
pub record FileCases : Type 0 where
  -- "28 when a floor number stands twice in the file"
  pub same_cost : read_number twice 100 ≡ 28
  pub two_costs : read_number merged 100 ≡ 28
  pub not_neighbours : read_number first_and_last 100 ≡ 28
  pub two_cells : read_number high_byte 300 ≡ 0
  -- "after 15 and before 16", and after 13 and 14
  pub after_15 : read_number twice_and_beyond 100 ≡ 15
  pub before_16 : read_number twice 99 ≡ 28
  pub after_14 : read_number (twice ++ (0 ∷ [])) 100 ≡ 14
  pub after_13 : read_number (1 ∷ 1 ∷ 1 ∷ 17 ∷ 39 ∷ 7 ∷ 0 ∷ 7 ∷ 0 ∷ []) 100 ≡ 13
  -- "They would sooner see the file come back"
  pub list_kept : read_into merged (replicate 100 9) ≡ replicate 100 9
  pub printed : hallroute (merged ++ pair 0 1) ≡ text "hall refused 28\n"
  -- an accepted file: cells 7 and 5 have their costs, and every other cell costs 1
  pub filled : read_into (1 ∷ 1 ∷ 1 ∷ 2 ∷ 0 ∷ 7 ∷ 0 ∷ 5 ∷ 0 ∷ 255 ∷ 2 ∷ []) (replicate 100 9) ≡ set (set (replicate 100 1) 5 2) 7 255

pub file_cases : FileCases
unfolding computing
file_cases = record {
  same_cost = refl;
  two_costs = refl;
  not_neighbours = refl;
  two_cells = refl;
  after_15 = refl;
  before_16 = refl;
  after_14 = refl;
  after_13 = refl;
  list_kept = refl;
  printed = refl;
  filled = refl;
}
