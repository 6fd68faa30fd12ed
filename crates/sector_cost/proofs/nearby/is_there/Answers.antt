-- `is_there` answers whether there is a sector at a place, by the same two cases as `nearby`.
use Prim.Native.Nat.{suc, ◌-◌}
use native.Mathlib.Omega.{arith}
use mathlib.Core.Path.{◌≡◌, sym, ap}
use Rattle.model.specs.Change.{is_there}
use Rattle.sector_cost.proofs.nearby.is_there.Goals as goal

pub returns-then-k-eq0 : goal.returns-then-k-eq0
unfolding is_there
returns-then-k-eq0 c = rw c.if-k-eq0.true

pub returns : goal.returns
unfolding is_there
returns c =
    let a = c.args in
    let e : a.k ≡ suc (a.k - 1) = omega arith in
    rw (c.on_floor.ensures, c.shift_of.ensures.0, c.shift_of.ensures.1, c.compass.ensures) (sym (ap (is_there a.m a.t) e))
