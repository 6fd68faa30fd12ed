-- `base` cuts the base costs out.
use native.Mathlib.Omega.{arith}
use lib.ListN.{length-take, length-drop}
use Prim.Native.Nat.{◌+◌}
use Rattle.store.specs.Layout.{part_is}
use Rattle.store.proofs.layout.Store.base.Goals as goal

pub returns : goal.returns
returns c =
    (part_is 4 _ _ {b = 4} {e = 4 + c.cells-end.result} (omega arith) (omega arith), simp (length-take, length-drop) (omega arith))
