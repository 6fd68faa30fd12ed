-- `any_large` answers whether a mark is above 1,023: no mark passed is.
use Rattle.std.proofs.Common.{◌*◌}
use Rattle.laws.specs.Search.{Clear}
use Rattle.model.specs.Sectors.{sectors}
use Rattle.store.specs.Ends.{is_above}
use Rattle.store.specs.Stored.{held}
use Rattle.store.proofs.check.any_large.Given as goal

abbrev pub invariant-loop-k : goal.invariant-loop-k
invariant-loop-k l = Clear (is_above (held l.store).marks 1023) (sectors l.store.measures * 4) l.k
