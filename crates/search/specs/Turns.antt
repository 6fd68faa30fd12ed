-- The turn of a portal whose edges within its sector offer nothing: the arc to the facing portal is all of it.
use Rattle.std.specs.Prelude.{ℕ, ◌+◌, ◌*◌, ◌≤◌, ◌<◌, ◌≡◌, ◌≢◌, Bool, List, length, get_or}
use Rattle.std.proofs.Common.{arith, ap, ◌∙◌}
use Rattle.laws.specs.Relaxing.{relaxed}
use Rattle.laws.specs.Waiting.{awaited}
use Rattle.laws.specs.Extending.{ArcsOf}
use Rattle.laws.specs.Turns.{Served, served_alone}
use Rattle.model.specs.declared.Measures.{Measures}
use Rattle.model.specs.Portals.{sector_portals, portal_count, portal_sector, portal_place, place_portal, arc_tail, arc_place, arc_at, head_of}
use Rattle.model.specs.PortalEdges.{head_other}
use Rattle.graph.specs.EdgeTable.{bare, table_graph}
use Rattle.graph.specs.Edges.{graph_of}
use Rattle.graph.specs.declared.table.Edges.{Edges}
use Rattle.search.specs.Searching.{Searched, searchable_of}

-- the arcs of number u in the table
pub arcs_of : (m : Measures) (table : List ℕ) (u : ℕ) → ArcsOf (table_graph m table) u (u * sector_portals) (u * sector_portals + sector_portals)
arcs_of m table u e l p q = (omega arith, omega arith)

-- none of the first n places of u within its sector offers less than the portal there has
abbrev pub Offerless : List ℕ → List ℕ → ℕ → ℕ → Type 0
Offerless table keys u n = (c : ℕ) → c < n → 0 < get_or table (arc_at u c) 0 → get_or keys (place_portal (portal_sector u) c) 0 ≤ get_or keys u 0 + get_or table (arc_at u c) 0

-- the arc to the facing portal
abbrev pub own_arc : ℕ → ℕ
own_arc u = arc_at u (portal_place u)

module _ {edges : Edges} (d : List ℕ) (p : List Bool) (u : ℕ) (given : Searched edges (length d) (length p)) (l : u < portal_count edges.measures) (none : Offerless edges.weights.now d u sector_portals) where
  -- another arc of u offers nothing
  other : (e : ℕ) → 0 < get_or edges.weights.now e 0 → arc_tail e ≡ u → e ≢ own_arc u → get_or d ((graph_of edges).head e) 0 ≤ get_or d u 0 + get_or edges.weights.now e 0
  other e q t n =
      let c : ℕ = arc_place e in
      let is : e ≡ arc_at u c = omega arith in
      let same : place_portal (portal_sector (arc_tail e)) c ≡ place_portal (portal_sector u) c = omega (arith, ap portal_sector t) in
      let to : head_of (bare edges.measures) (arc_tail e) c ≡ place_portal (portal_sector u) c = head_other (bare edges.measures) (arc_tail e) c (λ z. n (omega (arith, is, z, ap portal_place t))) ∙ same in
      omega (
        arith,
        none c (omega arith) (omega (arith, ap (λ (x : ℕ). get_or edges.weights.now x 0) is)),
        ap (λ (x : ℕ). get_or edges.weights.now x 0) is,
        ap (λ (x : ℕ). get_or d x 0) to,
      )

  pub served_own : Served (graph_of edges) u (u * sector_portals) d p (relaxed (graph_of edges) d (own_arc u)) (awaited (graph_of edges) d p (own_arc u))
  served_own = served_alone d p (searchable_of given) l (arcs_of edges.measures edges.weights.now u) (omega arith) (omega arith) (λ e _ q t n. other e q t n)
