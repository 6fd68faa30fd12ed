-- `open_at` as it is read: inside the list by the cost that stands there, past it never.
use Rattle.std.specs.Prelude.{ℕ, ◌≤◌, ◌<◌, ◌≡◌, false, not, List, eqb, length, get_or}
use Rattle.std.proofs.Common.{sym, ap}
use Rattle.std.proofs.Math.ListN.{get_or-eq_default}
use Rattle.laws.specs.Table.{get_or_default}
use Rattle.model.specs.Costs.{open_at}

pub open_here : (costs : List ℕ) (n : ℕ) → n < length costs → not (eqb (get_or costs n 0) 255) ≡ open_at costs n
unfolding open_at
open_here costs n h = ap (λ c. not (eqb c 255)) (get_or_default costs n 0 255 h)

pub open_off : (costs : List ℕ) (n : ℕ) → length costs ≤ n → false ≡ open_at costs n
unfolding open_at
open_off costs n h = ap (λ c. not (eqb c 255)) (sym (get_or-eq_default costs 255 h))
