-- `take_turn` takes all arcs of a number, or the one to the facing portal where no other offers anything.
use Rattle.search.specs.Turns.{served_own}
use Rattle.search.proofs.keys.take_turn.Goals as goal

pub returns-clause-served : goal.returns-clause-served
returns-clause-served c =
    let took = c.offer.ensures.taken in
    rw (took.0, took.1) (served_own c.args.keys.now c.args.wait.now c.args.u c.requires.0 c.requires.1 (c.offers_inside.ensures c.if-offers_inside.false))
