-- `push_refused` puts the line of a refused hall file behind the text.
use Rattle.std.proofs.Common.{arith}
use Rattle.hallroute.proofs.Printing.{refused_text}
use Rattle.hallroute.proofs.lines.push_refused.Goals as goal

pub returns : goal.returns
returns g c = refused_text _ c.args.refusal c.number.ensures (omega arith) c.push_str.ensures.bytes c.push_number.ensures.written c.push_str-2.ensures.bytes
