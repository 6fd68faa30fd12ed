-- `reach_numbers` is refused as build is, leaves what build and the calls do, and the hall that it leaves is reached.
use Rattle.std.proofs.Common.{◌∙◌}
use Rattle.model.specs.Numbers.{number_on}
use Rattle.reach.specs.Reach.{into_reaches}
use Rattle.reach.proofs.Calling.{refused_store, refused_steps, reached_store, reached_steps}
use Rattle.reach.proofs.numbers.reach_numbers.Goals as goal

pub returns-in_err-build : goal.returns-in_err-build
returns-in_err-build c =
    let store = refused_store _ _ _ _ c.args.steps.now _ c.in_err-build.ensures.answer c.build.ensures.store in
    record { answer = number_on _ _ c.from_residual.ensures.1 ∙ c.in_err-build.ensures.answer; store = store; steps = refused_steps _ _ _ _ _ _ c.in_err-build.ensures.answer; reached = into_reaches _ _ _ _ store }

pub returns : goal.returns
returns c =
    let store = reached_store _ _ _ _ c.args.steps.now c.in_ok-build.ensures.answer c.build.ensures.store c.make_numbers.ensures.store in
    record { answer = c.in_ok-build.ensures.answer; store = store; steps = reached_steps _ _ _ _ _ c.in_ok-build.ensures.answer c.build.ensures.store c.make_numbers.ensures.steps; reached = into_reaches _ _ _ _ store }
