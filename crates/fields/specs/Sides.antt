-- The sides by number: entry k of their table is side k, a side's cast is its number, and a search of the table is one by number.
use Rattle.std.specs.Prelude.{ℕ, zero, suc, ◌<◌, ◌≡◌, refl, Bool, true, false, ◌||◌, ltb, get_or}
use Rattle.std.specs.List.{list_any}
use denote.Enum.Declared.{tag_of}
use Rattle.std.proofs.Common.{◌∙◌, arith}
use Rattle.laws.specs.Fold.{pick}
use Rattle.laws.specs.Search.{first, any}
use Rattle.model.specs.declared.Side.{Side}
use Rattle.model.specs.declared.Side.TheVariants.{North, East, South, West}
use Rattle.model.specs.contracts.Side.{the_type}
use Rattle.model.specs.Cells.{side_number, side_at}
use Rattle.fields.specs.declared.sides.TheConstants.{SIDES}

pub sides_at : (k : ℕ) (z : Side) → k < 4 → get_or SIDES k z ≡ side_at k
sides_at zero z l = refl
sides_at (suc zero) z l = refl
sides_at (suc (suc zero)) z l = refl
sides_at (suc (suc (suc zero))) z l = refl
sides_at (suc (suc (suc (suc k)))) z l = absurd (omega arith)

-- a side as a number in code
pub cast_is : (side : Side) → tag_of the_type side ≡ side_number side
cast_is North = refl
cast_is East = refl
cast_is South = refl
cast_is West = refl

-- what `any` over the sides answers
pub any_side : (p : Side → Bool) {r : Bool} → r ≡ list_any p SIDES → r ≡ any (λ k. p (side_at k)) 4
unfolding any first
any_side p e = e ∙ go (p North) (p East) (p South) (p West)
  where
    go : (a b c d : Bool) → a || (b || (c || (d || false))) ≡ ltb (pick a 0 (suc (pick b 0 (suc (pick c 0 (suc (pick d 0 (suc 0)))))))) 4
    go true b c d = refl
    go false true c d = refl
    go false false true d = refl
    go false false false true = refl
    go false false false false = refl
