-- `make_numbers` makes the calls of its list in turn: those that are left lead to where all lead from the start.
use Rattle.std.proofs.Common.{◌∙◌}
use Rattle.reach.proofs.Calling.{made_turn, made_store, made_steps}
use borrow.Author.Rules.{rules}
use Rattle.reach.proofs.numbers.make_numbers.Goals as goal

pub loop-numbers-preserved : goal.loop-numbers-preserved
loop-numbers-preserved c =
    let before = c.loop-numbers.invariant in
    let steps = c.in-Some.ensures.steps in (
      search rules,
      tt,
      steps.0 ∙ before.2,
      made_turn before.3 _ steps.1.0 (steps.1.1 ∙ before.2) c.from-call.ensures c.make_call.ensures.store c.make_call.ensures.steps c.make_call.auto.steps,
    )

pub returns : goal.returns
returns c =
    let before = c.loop-numbers.invariant in
    let few = rw before.2 at c.in-None.ensures.steps.1.0 in
    record { store = made_store before.3 few; steps = made_steps before.3 few }
