-- How large the numbers of cells, sectors and directions get. A direction is a parameter throughout.
use Rattle.std.specs.Prelude.{ℕ, ◌*◌, ◌≤◌, ◌<◌}
use Rattle.std.proofs.Common.{mul-le-mul, mul-le-mul_left, arith}
use Rattle.model.specs.declared.CompassDir.{CompassDir}
use Rattle.model.specs.declared.CompassDir.TheVariants.{North, East, South, West, NorthEast, SouthEast, SouthWest, NorthWest}
use Rattle.model.specs.Directions.{eastward, southward, stepped, landing}

-- a product of two bytes
pub bytes_product : {a b : ℕ} → a < 256 → b < 256 → a * b ≤ 65025
bytes_product {a} {b} p q =
    let a' : a ≤ 255 = omega arith in
    let b' : b ≤ 255 = omega arith in
    omega (arith, mul-le-mul a' b')

-- what a step does to column and to row
pub steps_small : (d : CompassDir) → (eastward d ≤ 2) × (southward d ≤ 2)
steps_small North = omega arith
steps_small East = omega arith
steps_small South = omega arith
steps_small West = omega arith
steps_small NorthEast = omega arith
steps_small SouthEast = omega arith
steps_small SouthWest = omega arith
steps_small NorthWest = omega arith

-- at most nine steps, of at most one place each, end less than twenty places on
pub stepped_small : (c e n : ℕ) → c ≤ 9 → e ≤ 2 → n ≤ 9 → stepped c e n < 30
stepped_small c e n h p q = omega (arith, mul-le-mul_left n p)

pub landing_index : (i : ℕ) (d : CompassDir) (n : ℕ) → i < 100 → n ≤ 9 → (landing i d n).index < 100
unfolding landing
landing_index i d n on few = omega arith
