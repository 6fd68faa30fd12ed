-- `push_route` puts a route's numbers and its steps behind the text.
use Rattle.std.proofs.Common.{arith}
use Rattle.cards.proofs.Texts.{route_written}
use Rattle.cards.proofs.lines.push_route.Goals as goal

pub returns-clause-written : goal.returns-clause-written
returns-clause-written g c =
    route_written _ c.args.route.now _ (omega arith) (omega arith) (omega arith) c.push_str.ensures.bytes c.push_number.ensures.written c.push_str-2.ensures.bytes c.push_number-2.ensures.written
    c.push_str-3.ensures.bytes c.push_number-3.ensures.written c.push_steps.ensures.written
