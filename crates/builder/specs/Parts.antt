-- What build and change ask once they are not refused, and what a change answers and leaves then.
use Rattle.std.specs.Prelude.{ℕ, ◌≤◌, ◌<◌, ◌≡◌, List, length}
use Rattle.laws.specs.Ladder.{refuse}
use Rattle.model.specs.declared.Measures.{Measures}
use Rattle.model.specs.Sectors.{cells, sector_of}
use Rattle.model.specs.Accepted.{Accepted}
use Rattle.model.specs.Store.{measures_at, size_of, decode, written}
use Rattle.model.specs.Change.{changed, exceeds}
use Rattle.model.specs.Calls.{if_accepted}
use Rattle.model.specs.Checked.{Checked}
use Rattle.walks.specs.Costs.{Costs}

-- what is built
pub record Buildable (m : Measures) (base st : List ℕ) : Type 0 where
  pub costs : Costs m base
  pub room : size_of m ≤ length st

-- what is changed: a store that passed the check, by the measures m that it holds, at a cell of its floor
pub record Changeable (m : Measures) (st : List ℕ) (n : ℕ) : Type 0 where
  pub stored : Checked st
  pub read : m ≡ measures_at st
  pub measures : Accepted m
  pub room : size_of m ≤ length st
  pub on : n < cells m

-- what is left to refuse then, and what is left in the store
unfoldable pub altered_number : List ℕ → ℕ → ℕ → ℕ
altered_number st n cost = refuse (exceeds (changed (decode st) n cost) (sector_of n)) 22 0

unfoldable pub altered_into : List ℕ → ℕ → ℕ → List ℕ
altered_into st n cost = if_accepted (altered_number st n cost) (written (changed (decode st) n cost) st) st
