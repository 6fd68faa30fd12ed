-- `base_size` gives a list by which the file has the number that it has by its own cells.
use Rattle.hallroute.proofs.Reading.{base_head, base_large}
use borrow.Author.Rules.{rules}
use Rattle.hallroute.proofs.opening.base_size.Goals as goal

pub returns-then-file-lt5 : goal.returns-then-file-lt5
returns-then-file-lt5 c = search (rules, base_head)

pub returns-then-size-gt10000 : goal.returns-then-size-gt10000
returns-then-size-gt10000 c = search (rules, base_large)
