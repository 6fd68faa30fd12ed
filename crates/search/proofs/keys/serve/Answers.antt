-- `serve` gives one number its turn, if it waits.
use native.Mathlib.Omega.{arith}
use native.Mathlib.Nat.{lt_of_le_of_lt}
use Rattle.laws.specs.Waiting.{work_served}
use Rattle.laws.specs.Extending.{turn_begins}
use Rattle.laws.specs.Turns.{turned_less}
use Rattle.search.specs.Turns.{arcs_of}
use Rattle.search.proofs.keys.serve.Goals as goal

pub returns-clause-kept : goal.returns-clause-kept
returns-clause-kept c =
    λ g o r ext s top w.
    c.take_turn.ensures.served.done g o r ext s top
    (turn_begins ext c.args.edges.sound o r (omega arith) (arcs_of c.args.edges.measures c.args.edges.weights.now c.args.u) c.args.keys.now c.args.wait.now c.requires.room w)

pub returns-clause-turn : goal.returns-clause-turn
returns-clause-turn c =
    turned_less (lt_of_le_of_lt c.take_turn.ensures.served.light (work_served c.args.keys.now c.args.wait.now c.args.u (omega arith) c.if-not-wait-u.false))
