-- `flat_route` lends the part of the flat list that is room enough, and the route call on it answers as for the records.
use native.Mathlib.Omega.{arith}
use mathlib.Core.Path.{refl}
use Prim.Native.Nat.{◌*◌}
use lib.ListN.{length-take}
use Rattle.records.specs.Routing.{flatly}
use Rattle.records.proofs.flat_route.Goals as goal

pub returns : goal.returns
returns c =
    let both = flatly c.args.st.now c.args.source c.args.goal _ _ c.min-bytes.ensures
    (omega (arith, length-take (6 * c.min-bytes.result) c.args.flat.now, c.min-bytes.ensures, c.told-flat)) c.route.ensures.answer
    c.route.ensures.steps refl in
    record { answer = both.0; steps = both.1 }
