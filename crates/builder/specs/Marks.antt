-- Marks by their numbers.
use Rattle.std.specs.Prelude.{ℕ, ◌/◌, ◌%◌, ◌≤◌, List, get_or}
use Rattle.model.specs.declared.Measures.{Measures}
use Rattle.model.specs.Cells.{side_at}
use Rattle.model.specs.Windows.{mark_of}
use Rattle.model.specs.Store.{mark_in}

-- what mark k becomes, whatever stood there: that of a store, and what the costs give
abbrev pub kept : Measures → List ℕ → ℕ → ℕ → ℕ
kept m st k old = mark_in m st k

abbrev pub fresh : Measures → List ℕ → ℕ → ℕ → ℕ
fresh m costs k old = mark_of m costs (k / 4) (side_at (k % 4))

-- marks of ten bits
pub record Small (marks : List ℕ) : Type 0 where
  pub small : (k : ℕ) → get_or marks k 0 ≤ 1023
