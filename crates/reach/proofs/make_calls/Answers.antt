-- `make_calls` makes the calls of its list in turn: those that are left lead to where all lead from the start.
use Rattle.std.proofs.Common.{add-one, ap}
use Rattle.std.proofs.Math.ListN.{drop_of_length-le}
use Rattle.std.proofs.Math.Seq.{drop-cons}
use Rattle.reach.specs.Reach.{calls_in}
use Rattle.reach.proofs.Calling.{leads_turn, leads_store, leads_steps}
use Rattle.reach.proofs.make_calls.Goals as goal

pub loop-call-preserved : goal.loop-call-preserved
loop-call-preserved c =
    let next = drop-cons _ c.loop-call.call-index _ c.loop-call-test.true in
    rw (add-one c.loop-call.call-index) (leads_turn c.loop-call.invariant _ (ap (calls_in _) next) c.make_call.ensures.store c.make_call.ensures.steps c.make_call.auto.steps)

pub returns : goal.returns
returns c =
    let none = ap (calls_in _) (drop_of_length-le _ c.loop-call-test.false) in
    record { store = leads_store c.loop-call.invariant none; steps = leads_steps c.loop-call.invariant none }
