-- `push_step` puts a step behind the text.
use Rattle.std.proofs.Common.{arith}
use Rattle.cards.proofs.Texts.{step_written}
use Rattle.cards.proofs.lines.push_step.Goals as goal

pub returns-clause-written : goal.returns-clause-written
returns-clause-written g c =
    step_written _ c.args.s.now (omega arith) (omega arith) (omega arith) c.push_str.ensures.bytes c.push_number.ensures.written c.push_str-2.ensures.bytes c.push_number-2.ensures.written
    c.push_str-3.ensures.bytes c.push_number-3.ensures.written c.push_window.ensures.written
