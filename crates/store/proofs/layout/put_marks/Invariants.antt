-- `put_marks` writes the bytes of marks: those of the marks passed stand in front.
use Rattle.store.proofs.Laying.{MarksPut}
use Rattle.store.proofs.layout.put_marks.Given as goal

abbrev pub invariant-loop-k : goal.invariant-loop-k
invariant-loop-k l = MarksPut l.marks l.k l.initial.bytes l.bytes
