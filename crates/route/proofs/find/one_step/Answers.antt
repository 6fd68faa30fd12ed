-- `one_step` answers with the last step alone.
use native.Mathlib.Omega.{arith}
use mathlib.Core.Path.{refl}
use Rattle.model.specs.Steps.{flat_steps}
use Rattle.route.specs.Finding.{no_room, written_steps}
use Rattle.route.proofs.find.one_step.Goals as goal

pub returns-then-list-lt1 : goal.returns-then-list-lt1
returns-then-list-lt1 c =
    let both = no_room _ _ c.args.moves _ refl c.if-list-lt1.true in
    record { answer = rw c.from.ensures both.0; steps = both.1 }

pub returns : goal.returns
unfolding flat_steps
returns c =
    let both = written_steps _ _ c.args.moves _ refl (omega (arith, c.if-list-lt1.false)) c.write_last.ensures in
    record { answer = rw c.from.ensures both.0; steps = both.1 }
