-- `moves_at` answers by how many levels lack the cell, which are those that do not have it.
use Prim.Native.Nat.{◌-◌}
use native.Mathlib.Omega.{arith}
use mathlib.Core.Path.{◌≡◌, ◌∙◌}
use Rattle.moves.specs.Levels.{missing}
use Rattle.moves.proofs.Levels.{told_at}
use Rattle.moves.proofs.spread.Spread.moves_at.Goals as goal

pub returns : goal.returns
returns c =
    let lack : c.self.inside.count - c.having.result ≡ missing c.self.inside.levels c.self.inside.count c.args.i = omega (arith, c.having.ensures) in
    rw (← c.self.view_is) (c.then_some.ensures ∙ rw lack (told_at _ _ _ c.requires c.self.invariant))
