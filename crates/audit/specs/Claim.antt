-- DEMAND 3, the auditor's third sentence, of the answer to the last route call: its premises, and what it claims.
use Rattle.std.specs.Prelude.{ℕ, ◌+◌, ◌*◌, ◌≤◌, ◌≡◌, ◌≢◌, ◌↔◌, false, List, length}
use Rattle.laws.specs.Floor.{BorderMove}
use Rattle.model.specs.declared.Measures.{Measures}
use Rattle.model.specs.Moves.{joined}
use Rattle.model.specs.Account.{Call, Account, opening, account_after, account_costs, Walk}
use Rattle.model.specs.Calls.{build_number, Routed, a_route}
use Rattle.audit.specs.Reached.{ChangesOnlyAtScale1}

-- what is asked of the last call, a route call with room for so many steps
pub record LastCall (a : Account) (source goal room : ℕ) : Type 0 where
  -- "source and goal differ and are not joined inside one sector;"
  pub differ : source ≢ goal
  pub apart : joined (account_costs a) source goal ≡ false
  -- "the last call has room for at least 1,001 steps."
  pub roomy : 1001 ≤ room

-- what the answer r to it says of the walks of an account, each with its moves over a border
pub record Claim (a : Account) (source goal : ℕ) (r : Routed) : Type 0 where
  -- "A route is given exactly when a walk exists;"
  pub exactly_when : ((steps leg run : ℕ) × (r ≡ a_route steps leg run)) ↔ ((n : ℕ) × (over : List BorderMove) × Walk a source goal n over)
  -- "leg plus run is then the move count of some walk;"
  pub some_walk : (steps leg run : ℕ) → r ≡ a_route steps leg run → (over : List BorderMove) × Walk a source goal (leg + run) over
  -- "and run is at most n + 10 × k - 5 for every walk of n moves that crosses k sector borders.": k is the number of its moves over a border
  pub at_most : (steps leg run : ℕ) → r ≡ a_route steps leg run → (n : ℕ) (over : List BorderMove) → Walk a source goal n over → run + 5 ≤ n + 10 * length over

-- DEMAND 3 of the answer r to the last route call, after build by m and base in the store lent, and the calls of the list
pub record Demand3 (m : Measures) (base lent : List ℕ) (list : List Call) (source goal room : ℕ) (r : Routed) : Type 0 where
  pub promised :
      -- "Take any hall that build accepts, any list of change and route calls made in turn on its store, refused ones included, nobody else writing it,
      -- and then one route call for any source and goal."
      build_number m base lent ≡ 0
      -- "Premises: the list has an accepted change only at scale 1;"
      → ChangesOnlyAtScale1 m base lent list
      → LastCall (account_after (opening m base) list) source goal room
      → Claim (account_after (opening m base) list) source goal r
