-- `nearby` answers the number at a place: place 0 is the sector itself, and place k, from 1 on, lies in direction k - 1.
use Prim.Native.Nat.{suc, ◌-◌}
use native.Mathlib.Omega.{arith}
use mathlib.Core.Path.{◌≡◌, sym, ap}
use Rattle.model.specs.Change.{nearby}
use Rattle.sector_cost.proofs.nearby.nearby.Goals as goal

pub returns-then-k-eq0 : goal.returns-then-k-eq0
unfolding nearby
returns-then-k-eq0 c = rw c.if-k-eq0.true

pub returns : goal.returns
unfolding nearby
returns c =
    let a = c.args in
    let e : a.k ≡ suc (a.k - 1) = omega arith in
    rw (c.shifted.ensures, c.shift_of.ensures.0, c.shift_of.ensures.1, c.compass.ensures) (sym (ap (nearby a.m a.t) e))
