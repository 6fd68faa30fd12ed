-- `print_pairs`: what is printed, and the lines of what is left, are the lines of all pairs.
use Rattle.std.proofs.Common.{◌≡◌, ◌++◌, List, ℕ}
use Rattle.std.specs.Io.KnownBytes.{Appends}
use Rattle.std.specs.Slice.Iter.{chunks_rest, chunks_size}
use Rattle.model.specs.Hallroute.{pair_lines}
use Rattle.hallroute.proofs.print_pairs.Given as goal

abbrev pub invariant-loop-pair : goal.invariant-loop-pair
invariant-loop-pair g l =
    (goal.iterator-loop-pair g).can_next l.pair-iterator
    × (goal.iterator-loop-pair g).is_finite l.pair-iterator
    × (chunks_size l.pair-iterator ≡ 4)
    × (done : List ℕ) × Appends (g.W.Write.contents l.initial.out) (g.W.Write.contents l.out) done × (pair_lines l.fn.st l.fn.pairs ≡ done ++ pair_lines l.fn.st (chunks_rest l.pair-iterator))
