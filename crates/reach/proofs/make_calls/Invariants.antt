-- `make_calls` makes the calls of its list in turn: those that are left lead to where all lead from the start.
use Rattle.std.specs.Prelude.{◌/◌, length, drop}
use Rattle.reach.specs.Reach.{calls_in}
use Rattle.reach.proofs.Calling.{Leads}
use Rattle.reach.proofs.make_calls.Given as goal

abbrev pub invariant-loop-call : goal.invariant-loop-call
invariant-loop-call l =
    let room = length l.initial.steps / 6 in
    Leads (calls_in room l.calls) (calls_in room (drop l.call-index l.calls)) l.initial.st l.initial.steps l.st l.steps
