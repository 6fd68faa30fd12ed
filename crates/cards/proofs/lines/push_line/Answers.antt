-- `push_line` puts the line of a pair behind the text.
use Rattle.std.proofs.Common.{arith}
use Rattle.cards.proofs.Texts.{line_written}
use Rattle.cards.proofs.lines.push_line.Goals as goal

pub returns : goal.returns
returns g c = line_written _ c.args.source c.args.goal c.args.answer _ (omega arith) (omega arith) c.push_number.ensures.written c.push_str.ensures.bytes c.push_number-2.ensures.written c.push_answer.ensures.written c.push_str-2.ensures.bytes
