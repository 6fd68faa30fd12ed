-- `route` answers and lists as a route does: each return goes by what the tests before it found.
use Rattle.std.proofs.Common.{◌∙◌}
use Rattle.model.specs.declared.Refusal.TheVariants.{Source, Goal, StepRoom}
use Rattle.model.specs.Answers.{routed_as, refused_as, refused_on}
use Rattle.hall_route.proofs.RouteAnswers.{route_kept, refused_store, refused_23, refused_24, refused_25, routed_all}
use borrow.Author.Rules.{rules}
use Rattle.hall_route.proofs.route.Goals as goal

pub returns-in_err-hall : goal.returns-in_err-hall
returns-in_err-hall c =
    let e = refused_store _ _ _ _ _ c.in_err-hall.ensures.number in
    record { answer = routed_as (refused_on _ _ c.from_residual.ensures.1 e); steps = route_kept _ _ _ _ _ e }

pub returns-then-size-source : goal.returns-then-size-source
returns-then-size-source c =
    rw (← c.in_ok-hall.ensures.opened)
    (let e = refused_23 _ _ _ c.args.list.now c.in_ok-hall.hall.opened c.cells-size.ensures c.if-size-source.true in
    record { answer = routed_as (refused_as e); steps = route_kept _ _ _ _ Source e })

pub returns-then-size-goal : goal.returns-then-size-goal
returns-then-size-goal c =
    rw (← c.in_ok-hall.ensures.opened)
    (let e = refused_24 _ _ _ c.args.list.now c.in_ok-hall.hall.opened c.cells-size.ensures c.if-size-source.false c.if-size-goal.true in
    record { answer = routed_as (refused_as e); steps = route_kept _ _ _ _ Goal e })

pub returns-then-list-steps_of : goal.returns-then-list-steps_of
returns-then-list-steps_of c =
    rw (← c.in_ok-hall.ensures.opened)
    (let both = refused_25 _ _ _ c.args.list.now c.in_ok-hall.hall.opened c.cells-size.ensures c.if-size-source.false c.if-size-goal.false c.find_path-found.ensures.answer
    c.find_path-found.ensures.steps c.steps_of.ensures (search rules) c.if-list-steps_of.true in
    record { answer = routed_as (refused_as both.0); steps = both.1 ∙ route_kept _ _ _ _ StepRoom both.0 })

pub returns : goal.returns
returns c =
    rw (← c.in_ok-hall.ensures.opened)
    (let both = routed_all _ _ _ c.args.list.now c.in_ok-hall.hall.opened c.cells-size.ensures c.if-size-source.false c.if-size-goal.false c.find_path-found.ensures.answer
    c.find_path-found.ensures.steps c.steps_of.ensures (search rules) c.if-list-steps_of.false in
    record { answer = both.0; steps = both.1 })
