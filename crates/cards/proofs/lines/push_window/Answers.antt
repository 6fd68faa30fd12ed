-- `push_window` puts a step's window behind the text.
use Rattle.std.proofs.Common.{arith, ◌∙◌}
use Rattle.fields.specs.Sides.{sides_at}
use Rattle.cards.proofs.Texts.{letter_at, no_window, with_window}
use Rattle.cards.proofs.lines.push_window.Goals as goal

pub returns-in_default-clause-written : goal.returns-in_default-clause-written
returns-in_default-clause-written g c = no_window _ c.args.s.now (omega (arith, c.in_default.ensures.lookup.3)) c.push_str.ensures.bytes

pub returns-clause-written : goal.returns-clause-written
returns-clause-written g c =
    let side = c.in-Some.ensures.lookup in
    let letter = c.side_letter.ensures.0 ∙ letter_at c.from.ensures side.3.0 (side.1 ∙ sides_at c.from.result _ side.3.0) in
    with_window _ c.args.s.now (omega (arith, side.3.0)) (omega arith) (omega arith) letter c.push_str-2.ensures.bytes c.push_number.ensures.written c.push_str-3.ensures.bytes c.push_number-2.ensures.written
