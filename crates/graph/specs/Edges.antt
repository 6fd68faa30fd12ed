-- The graph that a table of edges stands for, and what the filled table of a store that passes the check is to a search.
use Rattle.std.specs.Prelude.{ℕ, ◌≤◌, ◌<◌, ◌≡◌, List, length, get_or}
use Rattle.std.proofs.Common.{arith, sym, ap, subst, ◌∙◌}
use Rattle.laws.specs.Graph.{Graph, Sound, BothWays}
use Rattle.model.specs.declared.Measures.{Measures}
use Rattle.model.specs.Portals.{arc_count, key, portal_graph}
use Rattle.model.specs.PortalEdges.{weight_low}
use Rattle.model.specs.Store.{decode}
use Rattle.store.specs.Passed.{Passed}
use Rattle.graph.specs.EdgeTable.{edge_table, table_graph, length_table, table_graph_lem, table_sound, table_both_ways}
use Rattle.graph.specs.Reading.{measures_are, fits_of}
use Rattle.graph.specs.declared.table.Edges.{Edges}

abbrev pub graph_of : Edges → Graph
graph_of e = table_graph e.measures e.weights.now

module _ {m : Measures} {st table : List ℕ} (passed : Passed m st) (filled : table ≡ edge_table (decode st)) where
  -- the table stands for the portal graph
  pub filled_graph : table_graph m table ≡ portal_graph (decode st)
  filled_graph = ap (λ (n : Measures). table_graph n table) (sym (measures_are passed)) ∙ ap (table_graph (decode st).measures) filled ∙ table_graph_lem (decode st)

  pub filled_long : length table ≡ arc_count m
  filled_long = ap length filled ∙ length_table (decode st) ∙ ap (λ (n : Measures). arc_count n) (measures_are passed)

  same : table_graph (decode st).measures (edge_table (decode st)) ≡ table_graph m table
  same = ap (λ (n : Measures). table_graph n (edge_table (decode st))) (measures_are passed) ∙ ap (table_graph m) (sym filled)

  pub filled_sound : Sound (table_graph m table)
  filled_sound = subst (λ (g : Graph). Sound g) same (table_sound (fits_of passed))

  pub filled_both_ways : BothWays (table_graph m table)
  filled_both_ways = subst (λ (g : Graph). BothWays g) same (table_both_ways (fits_of passed))

  pub filled_light : (e : ℕ) → e < arc_count m → get_or table e 0 ≤ 1048576
  filled_light e l = omega (arith, low e l)
    where
      low : (e : ℕ) → e < arc_count m → get_or table e 0 ≤ key 254
      low = subst (λ (g : Graph). (e : ℕ) → e < g.arcs → g.weight e ≤ key 254) (sym filled_graph) (weight_low (decode st) (fits_of passed))
