-- `make_numbers` makes the calls of its list in turn: those that are left lead to where all lead from the start.
use Rattle.std.proofs.Common.{◌≡◌}
use Rattle.std.specs.Slice.Iter.{chunks_exact_rest, chunks_exact_size}
use Rattle.reach.proofs.Calling.{Made}
use Rattle.reach.proofs.numbers.make_numbers.Given as goal

abbrev pub invariant-loop-numbers : goal.invariant-loop-numbers
invariant-loop-numbers l =
    goal.iterator-loop-numbers.can_next l.numbers-iterator
    × goal.iterator-loop-numbers.is_finite l.numbers-iterator
    × (chunks_exact_size l.numbers-iterator ≡ 3)
    × Made l.fn.calls (chunks_exact_rest l.numbers-iterator) l.initial.st l.initial.steps l.st l.steps
