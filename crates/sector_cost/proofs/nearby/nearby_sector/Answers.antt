-- `nearby_sector` answers the sector at a place, by the same two cases as `nearby`.
use Prim.Native.Nat.{suc, ◌-◌}
use native.Mathlib.Omega.{arith}
use mathlib.Core.Path.{◌≡◌, sym, ap}
use Rattle.std.specs.Bool.{then_some}
use Rattle.model.specs.Change.{nearby, is_there}
use Rattle.sector_cost.proofs.nearby.nearby_sector.Goals as goal

pub returns-then-k-eq0 : goal.returns-then-k-eq0
unfolding nearby is_there
returns-then-k-eq0 c = rw c.if-k-eq0.true

pub returns : goal.returns
unfolding nearby is_there
returns c =
    let a = c.args in
    let e : a.k ≡ suc (a.k - 1) = omega arith in
    rw (c.towards.ensures, c.shift_of.ensures.0, c.shift_of.ensures.1, c.compass.ensures) (sym (ap (λ k. then_some (is_there a.m a.t k) (nearby a.m a.t k)) e))
