-- `change_hall` refuses before it writes.
use Rattle.builder.proofs.Altering.{small_changed, altered_22, altered_0, altered_kept, altered_written}
use borrow.Author.Rules.{rules}
use Rattle.builder.proofs.change.change_hall.Goals as goal

pub any_exceeds-requires : goal.any_exceeds-requires
any_exceeds-requires c = (search rules, search (rules, small_changed), search rules)

pub returns-then-any_exceeds : goal.returns-then-any_exceeds
returns-then-any_exceeds c = (search (rules, altered_22), search (rules, altered_kept))

pub returns : goal.returns
returns c = (search (rules, altered_0), search (rules, altered_written))
