-- `fill_from` puts the entries of a file into a list of ones: those passed are in.
use Rattle.laws.specs.Fold.{Ran}
use Rattle.model.specs.Store.{entry_count}
use Rattle.file.specs.Entries.{put_entry}
use Rattle.file.proofs.entries.fill_from.Given as goal

abbrev pub invariant-loop-k : goal.invariant-loop-k
invariant-loop-k l = Ran (put_entry l.file) (entry_count l.file) l.k l.initial.base l.base
