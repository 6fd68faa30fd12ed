-- `push_pair`: the route call's answer fits the line, and is read off the list that it left.
use Rattle.std.proofs.Common.{◌≡◌, arith, ◌∙◌, ap, length}
use Rattle.arrayvec.specs.ArrayString.{array_string_len}
use Rattle.cards.specs.Pair.{few_steps, line_of_pair}
use Rattle.hallroute.proofs.lines.push_pair.Goals as goal

pub push_line-requires : goal.push_line-requires
push_line-requires c =
    let few = few_steps _ _ _ c.args.steps.now c.route-answer.ensures.answer c.told-steps in
    let empty : array_string_len c.args.line.now ≡ 0 = ap length c.requires in
    (omega (arith, few, empty), omega (arith, few, c.told-steps))

pub returns : goal.returns
returns c = c.push_line.ensures ∙ rw c.requires (line_of_pair _ _ _ c.args.steps.now c.route-answer.ensures.answer c.told-steps c.route-answer.ensures.steps)
