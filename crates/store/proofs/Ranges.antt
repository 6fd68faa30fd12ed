-- Facts for the tests of measures: what `contains` answers of a range and a number.
use Rattle.std.proofs.Common.{◌≡◌, refl, ℕ, Bool, true, false, not, ◌&&◌, ◌||◌, cond, ltb, eqb, is_le, Less, Equal, Greater, arith}
use Rattle.std.proofs.lemmas.Bool.Decides.{nat_tests}
use Rattle.model.specs.Accepted.{outside}

-- the order of two numbers, asked whether it is at most
le_is : (a b : ℕ) → is_le (cond (ltb a b) Less (cond (eqb a b) Equal Greater)) ≡ not (ltb b a)
le_is a b = grind (arith, nat_tests)

neither_is : (x y : Bool) → not (not x && not y) ≡ x || y
neither_is true y = refl
neither_is false true = refl
neither_is false false = refl

pub outside_is : (low high n : ℕ) → not (is_le (cond (ltb low n) Less (cond (eqb low n) Equal Greater)) && is_le (cond (ltb n high) Less (cond (eqb n high) Equal Greater))) ≡ outside low high n
outside_is low high n = rw (le_is low n, le_is n high) (neither_is (ltb n low) (ltb high n))
