-- `fill_places` takes the edge at each place of one portal.
use lib.ListN.{get_or}
use Rattle.model.specs.Portals.{portal_place}
use Rattle.graph.specs.EdgeTable.{Row}
use Rattle.graph.specs.Weights.{edge_by}
use Rattle.graph.proofs.edges.fill_places.Given as goal

abbrev pub invariant-loop-c : goal.invariant-loop-c
invariant-loop-c l = Row (λ k. edge_by l.spread (get_or l.mids k 0) l.outer (portal_place l.p) k) l.p l.c l.initial.table l.table
