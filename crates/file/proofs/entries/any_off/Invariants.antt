-- `any_off` answers refusal 15: no entry passed was too large.
use Rattle.laws.specs.Search.{Clear}
use Rattle.model.specs.Store.{entry_count}
use Rattle.model.specs.Calls.{entry_off}
use Rattle.file.proofs.entries.any_off.Given as goal

abbrev pub invariant-loop-k : goal.invariant-loop-k
invariant-loop-k l = Clear (entry_off l.file) (entry_count l.file) l.k
