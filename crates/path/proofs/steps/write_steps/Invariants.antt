-- `write_steps` writes the steps of a path: after i turns the list begins with the steps at the first i even positions.
use Rattle.store.specs.Stored.{stored}
use Rattle.path.specs.Stepping.{Stepped}
use Rattle.path.proofs.steps.write_steps.Given as goal

abbrev pub invariant-loop-i : goal.invariant-loop-i
invariant-loop-i l = Stepped (stored l.hall) l.nodes l.count l.i l.initial.list l.list
