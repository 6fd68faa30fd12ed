-- `named_count` counts the cells that have an entry: those passed are counted.
use lib.ListN.{length}
use Rattle.laws.specs.Search.{Counted}
use Rattle.model.specs.Store.{is_named}
use Rattle.file.proofs.made.named_count.Given as goal

abbrev pub invariant-loop-cost : goal.invariant-loop-cost
invariant-loop-cost l = Counted (is_named l.base) (length l.base) l.cost-index l.count
