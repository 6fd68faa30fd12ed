-- Scaling keeps the length of the list.
use Rattle.std.specs.Prelude.{ℕ, ◌≡◌, List, length}
use Rattle.std.proofs.Common.{◌∙◌, length-set}
use Rattle.model.specs.declared.Measures.{Measures}
use Rattle.model.specs.Scaling.{walk, scale_floor}
use Rattle.model.specs.ScaleKeeps.{walk_keeps, floor_keeps}

module _ (n : ℕ) (m : Measures) where
  abbrev Long : List ℕ → Type 0
  Long xs = length xs ≡ n

  length_walk : (s i k : ℕ) (xs : List ℕ) → Long xs → Long (walk m s i k xs)
  length_walk = walk_keeps Long (λ j ys h. length-set ys j 255 ∙ h) m

  pub length_floor : (base : List ℕ) → Long base → Long (scale_floor m base)
  length_floor = floor_keeps Long m length_walk
