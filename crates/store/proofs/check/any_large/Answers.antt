-- `any_large` answers whether a mark is above 1,023: no mark passed is.
use Rattle.laws.specs.Search.{seeking}
use borrow.Author.Rules.{rules}
use Rattle.store.proofs.check.any_large.Goals as goal

pub returns-then-is_above : goal.returns-then-is_above
returns-then-is_above c = rw (← c.sectors-k-end.ensures) (search (rules, seeking))

pub returns : goal.returns
returns c = rw (← c.sectors-k-end.ensures) (search (rules, seeking))
