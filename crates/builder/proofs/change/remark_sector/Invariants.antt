-- `remark_sector` marks the sides of a sector one after the other.
use Rattle.laws.specs.Fold.{Ran}
use Rattle.builder.specs.Around.{side_fresh}
use Rattle.builder.proofs.change.remark_sector.Given as goal

abbrev pub invariant-loop-i : goal.invariant-loop-i
invariant-loop-i l = Ran (side_fresh l.m l.costs l.s) 4 l.i l.initial.marks l.marks
