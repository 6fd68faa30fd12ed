-- `take_marks` takes the marks of a store over, one after the other.
use lib.ListN.{length}
use Rattle.laws.specs.Fold.{Ran}
use Rattle.laws.specs.Each.{each}
use Rattle.builder.specs.Marks.{kept}
use Rattle.builder.proofs.marks.take_marks.Given as goal

abbrev pub invariant-loop-k : goal.invariant-loop-k
invariant-loop-k l = Ran (each (kept l.store.measures l.store.bytes.now)) (length l.initial.marks) l.k l.initial.marks l.marks
