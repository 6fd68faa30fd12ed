-- `mark_of` holds the places from i on, which are 10 - i bits.
use Rattle.std.specs.Prelude.{ℕ, Bool, true, false, suc, ◌≡◌, refl, ◌-◌, ◌^◌, ◌≤◌}
use Rattle.std.specs.Int.{from_bool}
use Rattle.std.proofs.Common.{arith, ap}
use Rattle.laws.specs.Fold.{bit}
use Rattle.fields.specs.Bits.{marked_none, marked_turn, marked_end}
use Rattle.fields.proofs.bits.mark_of.Goals as goal

-- a place's bit as a number
one_bit : (o : Bool) → (from_bool o ≤ 1) × (from_bool o ≡ bit o)
unfolding bit
one_bit true = (omega arith, refl)
one_bit false = (omega arith, refl)

pub loop-i-init : goal.loop-i-init
loop-i-init g c = (omega arith, omega arith, λ test same. marked_none test)

pub loop-i-preserved : goal.loop-i-preserved
loop-i-preserved g c =
    let i : ℕ = c.loop-i.i in
    let place = one_bit c.is_open.result in
    let one_more : 10 - (i - 1) ≡ suc (10 - i) = omega (arith, c.loop-i.invariant.0, c.loop-i-test.true) in
    let wider : 2 ^ (10 - (i - 1)) ≡ 2 ^ suc (10 - i) = ap (λ (n : ℕ). 2 ^ n) one_more in (
      omega (arith, c.loop-i.invariant.0),
      omega (arith, c.loop-i.invariant.1, c.from.ensures, place.0, wider),
      λ test same. marked_turn (c.loop-i.invariant.2 test same) c.loop-i-test.true (same _ _ (omega (arith, c.loop-i.invariant.0, c.loop-i-test.true)) c.is_open.ensures) (omega (arith, c.from.ensures, place.1)),
    )

pub returns : goal.returns
returns g c test same = marked_end (c.loop-i.invariant.2 test same) (omega (arith, c.loop-i-test.false))
