-- `route_after_numbers` is `reach_numbers` and then `route_reached`; the promises of both together are demand 3.
use Rattle.journey.proofs.Asking.{refused_answer, refused_last, refused_keeps, asked_answer, asked_steps, asked_keeps}
use Rattle.model.specs.Answers.{route_case}
use borrow.Author.Rules.{rules}
use Rattle.journey.proofs.numbers.route_after_numbers.Goals as goal

pub returns-in_err-reach_numbers : goal.returns-in_err-reach_numbers
returns-in_err-reach_numbers c =
    let is = c.in_err-reach_numbers.ensures.answer in
    let steps = c.args.steps.now in
    record {
      answer = refused_answer _ _ _ _ _ _ steps _ is _ c.from_residual.ensures.1;
      store = search rules;
      steps = refused_last _ _ _ _ _ _ _ _ is c.reach_numbers.ensures.steps;
      demand3 = refused_keeps _ _ _ _ _ _ steps _ is _;
    }

pub returns : goal.returns
returns c =
    let is = c.in_ok-reach_numbers.ensures.answer in
    record {
      answer = asked_answer _ _ _ _ _ _ c.args.steps.now is c.reach_numbers.ensures.store c.reach_numbers.new.steps (search (rules, route_case)) (search rules);
      store = search rules;
      steps = asked_steps _ _ _ _ _ _ _ is c.reach_numbers.ensures.store c.reach_numbers.ensures.steps (search rules);
      demand3 = asked_keeps _ c.reach_numbers.new.steps c.reach_numbers.ensures.reached (search rules) (search rules);
    }
