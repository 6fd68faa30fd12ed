-- `take_arcs` takes the arcs of one number. The loop's invariant: those before a are taken, and the work has not risen.
use mathlib.Core.Path.{◌≡◌}
use Prim.Native.Nat.{◌*◌, ◌≤◌}
use Rattle.laws.specs.Waiting.{work}
use Rattle.laws.specs.Extending.{Serves}
use Rattle.model.specs.Portals.{sector_portals}
use Rattle.graph.specs.Edges.{graph_of}
use Rattle.search.proofs.keys.take_arcs.Given as goal

abbrev pub invariant-loop-a : goal.invariant-loop-a
invariant-loop-a l = (l.queue.head ≡ l.initial.queue.head)
    × Serves (graph_of l.edges) l.u (l.u * sector_portals) l.initial.keys l.initial.wait l.a l.keys l.wait
    × (work l.keys l.wait ≤ work l.initial.keys l.initial.wait)
