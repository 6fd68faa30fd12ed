-- `drain` serves the numbers of the queue. The loop's invariant: all is as it was, or the work has fallen; the first number does wait.
use mathlib.Core.Path.{◌≡◌}
use mathlib.Core.Logic.{◌⊎◌}
use Prim.Native.Nat.{◌-◌, ◌<◌}
use Rattle.laws.specs.Waiting.{work}
use Rattle.laws.specs.Extending.{Keeps}
use Rattle.graph.specs.Edges.{graph_of}
use Rattle.search.proofs.keys.drain.Given as goal

abbrev pub invariant-loop-u : goal.invariant-loop-u
invariant-loop-u l = Keeps (graph_of l.edges) l.initial.keys l.initial.wait l.keys l.wait
    × (((l.queue ≡ l.initial.queue) × (l.keys ≡ l.initial.keys) × (l.wait ≡ l.initial.wait)) ⊎ (work l.keys l.wait < work l.initial.keys l.initial.wait))

abbrev pub decreases-loop-u : goal.decreases-loop-u
decreases-loop-u l = 4096 - l.queue.head
