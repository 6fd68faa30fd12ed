-- `push_answer` puts behind the text what a route call answered.
use Rattle.std.proofs.Common.{arith}
use Rattle.cards.proofs.Texts.{route_answer, none_answer, refused_answer}
use Rattle.cards.proofs.lines.push_answer.Goals as goal

pub returns-in-Ok-Some-clause-written : goal.returns-in-Ok-Some-clause-written
returns-in-Ok-Some-clause-written g c = route_answer _ _ c.in-Ok-Some.route c.in-Ok-Some.is (rw c.in-Ok-Some.is at c.in-Ok-Some.field-0-is) c.push_route.ensures.written

pub returns-in-Ok-None-clause-written : goal.returns-in-Ok-None-clause-written
returns-in-Ok-None-clause-written g c = none_answer _ _ c.in-Ok-None.is (rw c.in-Ok-None.is at c.in-Ok-None.field-0-is) c.push_str.ensures.bytes

pub returns-in-Err-clause-written : goal.returns-in-Err-clause-written
returns-in-Err-clause-written g c = refused_answer _ _ c.in-Err.refusal c.in-Err.is c.number.ensures (omega arith) c.push_str-in-Err.ensures.bytes c.push_number.ensures.written
