-- What a search over a table of weights is given, and one arc of it as code takes it.
use Rattle.std.specs.Prelude.{ℕ, ◌+◌, ◌≤◌, ◌<◌, ◌≡◌, refl, Bool, true, List, set}
use Rattle.std.proofs.Common.{arith, ◌∙◌}
use Rattle.std.proofs.Math.Path.{ap}
use Rattle.std.proofs.Math.ListN.{get_or}
use Rattle.laws.specs.Relaxing.{relaxed}
use Rattle.laws.specs.Offers.{offered, not_offered}
use Rattle.laws.specs.Waiting.{awaited}
use Rattle.laws.specs.Turns.{Searchable}
use Rattle.model.specs.declared.Measures.{Measures}
use Rattle.model.specs.Portals.{portal_count, arc_tail, arc_place, head_of}
use Rattle.graph.specs.EdgeTable.{bare, table_graph}
use Rattle.graph.specs.Edges.{graph_of}
use Rattle.graph.specs.declared.table.Edges.{Edges}

-- a list of keys of the length that a table of edges asks for, and room for those that wait
pub record Searched (edges : Edges) (keys wait : ℕ) : Type 0 where
  pub numbers : keys ≡ portal_count edges.measures
  pub room : portal_count edges.measures ≤ wait

-- the table's graph can be searched with them: its arcs join numbers of the hall and weigh no more than 256 moves
pub searchable_of : {edges : Edges} {keys wait : ℕ} → Searched edges keys wait → Searchable (graph_of edges) 1048576 keys wait
searchable_of {edges} s = record { numbers = s.numbers; room = s.room; sound = edges.sound; light = edges.light }

-- arc a from u to v with weight w
module _ (m : Measures) (table d : List ℕ) (p : List Bool) (a u : ℕ) (from : u ≡ arc_tail a) where
  pub skips : get_or table a 0 ≡ 0 → (d ≡ relaxed (table_graph m table) d a) × (p ≡ awaited (table_graph m table) d p a)
  unfolding awaited
  skips z = let x = not_offered (table_graph m table) d a (λ l. absurd (omega arith)) in rw (x.0, x.1) (refl, refl)

  module _ (v : ℕ) (to : v ≡ head_of (bare m) u (arc_place a)) where
    head_is : v ≡ head_of (bare m) (arc_tail a) (arc_place a)
    head_is = to ∙ ap (λ (x : ℕ). head_of (bare m) x (arc_place a)) from

    pub declines : get_or d v 0 ≤ get_or d u 0 + get_or table a 0 → (d ≡ relaxed (table_graph m table) d a) × (p ≡ awaited (table_graph m table) d p a)
    unfolding awaited
    declines l =
        let x = not_offered (table_graph m table) d a (λ _. omega (arith, ap (λ (y : ℕ). get_or d y 0) head_is, ap (λ (y : ℕ). get_or d y 0) from)) in
        rw (x.0, x.1) (refl, refl)

    pub accepts : 0 < get_or table a 0 → get_or d u 0 + get_or table a 0 < get_or d v 0
        → (set d v (get_or d u 0 + get_or table a 0) ≡ relaxed (table_graph m table) d a) × (set p v true ≡ awaited (table_graph m table) d p a)
    unfolding awaited
    accepts pos l =
        let x = offered (table_graph m table) d a pos (omega (arith, ap (λ (y : ℕ). get_or d y 0) head_is, ap (λ (y : ℕ). get_or d y 0) from)) in
        rw (x.0, x.1, ← head_is, ← from) (refl, refl)
