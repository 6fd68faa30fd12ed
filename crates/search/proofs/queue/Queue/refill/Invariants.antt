-- `refill` puts the numbers that wait in the queue. The loop's invariant: those before u that wait are in it.
use mathlib.Core.Path.{◌≡◌}
use lib.ListN.{length}
use Rattle.laws.specs.Turns.{Lined}
use Rattle.search.proofs.queue.Queue.refill.Given as goal

abbrev pub invariant-loop-u : goal.invariant-loop-u
invariant-loop-u l = Lined l.u l.wait l.self.numbers l.self.end × (l.self.head ≡ 0) × (length l.self.numbers ≡ 4096)
