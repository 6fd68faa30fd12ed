-- `make_call` leaves store and step list as its call does.
use Rattle.model.specs.Calls.{store_after_call}
use Rattle.reach.specs.Reach.{call_of, steps_after_call}
use borrow.Author.Rules.{rules}
use Rattle.reach.proofs.make_call.Goals as goal

pub returns-in-Change : goal.returns-in-Change
unfolding store_after_call steps_after_call call_of
returns-in-Change c = search rules

pub returns-in-Route : goal.returns-in-Route
unfolding store_after_call steps_after_call call_of
returns-in-Route c = search rules
