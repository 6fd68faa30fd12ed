-- `scale_in_directions` makes the eight walks one after the other, in 01's order.
use mathlib.Core.Path.{refl}
use Rattle.laws.specs.Fold.{run_none}
use Rattle.model.specs.Scaling.{walk}
use Rattle.walks.specs.Walks.{walked}
use Rattle.walks.proofs.walk.scale_in_directions.Goals as goal

pub returns : goal.returns
returns c =
    let a = c.args in
    let s = a.from.sector in
    let i = a.from.index in
    let xs = a.scaled.now in
    let r1 = walked a.m s i 0 xs refl c.scale_in_compass_direction.ensures.list (run_none (walk a.m s i) xs) in
    let r2 = walked a.m s i 1 xs refl c.scale_in_compass_direction-2.ensures.list r1 in
    let r3 = walked a.m s i 2 xs refl c.scale_in_compass_direction-3.ensures.list r2 in
    let r4 = walked a.m s i 3 xs refl c.scale_in_compass_direction-4.ensures.list r3 in
    let r5 = walked a.m s i 4 xs refl c.scale_in_compass_direction-5.ensures.list r4 in
    let r6 = walked a.m s i 5 xs refl c.scale_in_compass_direction-6.ensures.list r5 in
    let r7 = walked a.m s i 6 xs refl c.scale_in_compass_direction-7.ensures.list r6 in
    let r8 = walked a.m s i 7 xs refl c.scale_in_compass_direction-8.ensures.list r7 in
    record { list = r8; shown = c.scale_in_compass_direction-8.ensures.shown }
