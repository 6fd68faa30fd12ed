-- What scaling asks: accepted measures, and a cost for each cell.
use Rattle.std.specs.Prelude.{ℕ, ◌≡◌, List, length}
use Rattle.std.proofs.Common.{◌∙◌}
use Rattle.model.specs.declared.Measures.{Measures}
use Rattle.model.specs.Sectors.{cells}
use Rattle.model.specs.Accepted.{Accepted}

pub record Costs (m : Measures) (xs : List ℕ) : Type 0 where
  pub measures : Accepted m
  pub long : length xs ≡ cells m

-- another list of the same length
pub costs_again : {m : Measures} {xs ys : List ℕ} → Costs m xs → length ys ≡ length xs → Costs m ys
costs_again c e = record { measures = c.measures; long = e ∙ c.long }
