-- `settle` ends where the queue of those that wait is empty. The loop's invariant: what waited is kept.
use Rattle.laws.specs.Waiting.{work}
use Rattle.laws.specs.Extending.{Keeps}
use Rattle.graph.specs.Edges.{graph_of}
use Rattle.search.proofs.keys.settle.Given as goal

abbrev pub invariant-loop-queue : goal.invariant-loop-queue
invariant-loop-queue l = Keeps (graph_of l.edges) l.initial.keys l.initial.wait l.keys l.wait

abbrev pub decreases-loop-queue : goal.decreases-loop-queue
decreases-loop-queue l = work l.keys l.wait
