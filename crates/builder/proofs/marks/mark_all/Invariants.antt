-- `mark_all` marks the sides one after the other.
use lib.ListN.{length}
use Rattle.laws.specs.Fold.{Ran}
use Rattle.laws.specs.Each.{each}
use Rattle.builder.specs.Marks.{fresh}
use Rattle.builder.proofs.marks.mark_all.Given as goal

abbrev pub invariant-loop-k : goal.invariant-loop-k
invariant-loop-k l = Ran (each (fresh l.m l.costs)) (length l.initial.marks) l.k l.initial.marks l.marks
