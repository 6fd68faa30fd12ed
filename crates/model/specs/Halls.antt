-- A hall: what a store holds, taken apart.
use Rattle.std.specs.Prelude.{ℕ, ◌+◌, ◌*◌, List, get_or}
use Rattle.model.specs.declared.Measures.{Measures}
use Rattle.model.specs.declared.Side.{Side}
use Rattle.model.specs.Cells.{side_number}

-- measures, base costs, scaled costs by floor number, and side marks by sector number and side; in a lent store the marks need not fit the costs
pub record Hall : Type 0 where
  pub measures : Measures
  pub base : List ℕ
  pub scaled : List ℕ
  pub marks : List ℕ

abbrev pub mark_at : Hall → ℕ → Side → ℕ
mark_at h s side = get_or h.marks (s * 4 + side_number side) 0
