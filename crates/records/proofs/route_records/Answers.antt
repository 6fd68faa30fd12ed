-- `route_records` takes the route call's answer for as many records, and writes the steps that it left in the flat list.
use mathlib.Core.Path.{sym, ap, ◌∙◌}
use Prim.Native.Nat.{ℕ}
use mathlib.Core.List.{List, ◌++◌}
use lib.ListN.{drop}
use Rattle.model.specs.declared.RouteStep.{RouteStep}
use Rattle.model.specs.FlatSteps.{steps_in}
use Rattle.model.specs.Answers.{routed_as, refused_on}
use Rattle.records.specs.Filling.{filled_none}
use Rattle.records.specs.Routing.{recorded}
use Rattle.records.proofs.route_records.Goals as goal

pub returns-in_err-found : goal.returns-in_err-found
returns-in_err-found c =
    let list : List RouteStep = c.args.list.now in
    let refused = c.in_err-found.ensures in
    record {
      answer = routed_as (refused_on _ _ c.from_residual.ensures.1 refused.answer.number_is);
      steps = sym (filled_none c.flat_route.new.flat list) ∙ recorded c.args.st.now c.args.source c.args.goal list refused.answer refused.steps;
    }

pub returns : goal.returns
returns c =
    let list : List RouteStep = c.args.list.now in
    let flat : List ℕ = c.flat_route.new.flat in
    let found = c.in_ok-found.ensures in
    record {
      answer = found.answer;
      steps = c.write_records.ensures ∙ ap (λ (k : ℕ). steps_in k flat ++ drop k list) c.steps_of.ensures ∙ recorded c.args.st.now c.args.source c.args.goal list found.answer found.steps;
    }
