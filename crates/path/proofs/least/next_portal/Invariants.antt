-- `next_portal` goes over a portal's arcs. The loop's invariant: the best of the arcs before a.
use mathlib.Core.Path.{◌≡◌}
use Rattle.std.specs.Option.{unwrap_or}
use Rattle.laws.specs.FirstPath.{next}
use Rattle.model.specs.LeastPath.{node_rank}
use Rattle.store.specs.Stored.{stored}
use Rattle.model.specs.Portals.{portal_count}
use Rattle.graph.specs.Edges.{graph_of}
use Rattle.path.specs.Following.{Best}
use Rattle.path.proofs.least.next_portal.Given as goal

abbrev pub invariant-loop-a : goal.invariant-loop-a
invariant-loop-a l = (unwrap_or l.best (portal_count l.edges.measures) ≡ next (graph_of l.edges) (node_rank (stored l.hall)) l.keys l.u l.a) × Best l.hall l.best
