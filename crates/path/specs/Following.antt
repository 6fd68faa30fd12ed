-- What the walk along a least path is given, and where its arcs lead.
use Rattle.std.specs.Prelude.{ℕ, ◌+◌, ◌-◌, ◌*◌, ◌≤◌, ◌<◌, ◌≡◌, refl, Bool, true, false, Option, None, Some, IsSome, IfSome, MatchOption, List, [], ◌∷◌, ◌++◌, ltb, get_or, set, take, replicate}
use Rattle.std.specs.Bool.{then_some}
use Rattle.std.specs.Option.{unwrap_or}
use native.Mathlib.Omega.{arith}
use Rattle.std.proofs.Math.Path.{sym, subst}
use Rattle.std.proofs.Common.{add-one, ap, ◌∙◌, eq-eqb, ne_eqb, length-append, take_at}
use Rattle.std.proofs.lemmas.List.{length-replicate}
use Rattle.std.proofs.Math.Seq.{take-suc-set}
use Rattle.std.proofs.lemmas.Bool.{false≢true}
use Rattle.std.proofs.Math.ListN.{length, drop}
use Rattle.laws.specs.Graph.{Graph, Settled, turned}
use Rattle.laws.specs.FirstPath.{Tight, better, closer, next, path}
use Rattle.laws.specs.Keys.{few_edges}
use Rattle.laws.specs.Tracing.{next_skip, next_take, next_same, Tracing, tracing_none, tracing_node, tracing_room, tracing_over, tracing_more}
use Rattle.model.specs.declared.Measures.{Measures}
use Rattle.model.specs.declared.Side.{Side}
use Rattle.model.specs.Cells.{side_number}
use Rattle.model.specs.Halls.{Hall}
use Rattle.model.specs.Windows.{border_cell, first_place, last_place}
use Rattle.model.specs.Sectors.{sector_cells}
use Rattle.model.specs.Portals.{sector_portals, portal_count, arc_count, portal_sector, portal_side, portal_window, arc_tail, arc_place, portal_mark, is_portal, head_of, portal_graph}
use Rattle.model.specs.LeastPath.{cell_rank, node_rank, unlinked, keys_to, least_path}
use Rattle.model.specs.PortalEdges.{head_portal, portal_node, portal_sound}
use Rattle.model.specs.LeastPathFirst.{portal_keyed, keys_settled}
use Rattle.store.specs.declared.opened.Opened.{Opened}
use Rattle.store.specs.Stored.{stored}
use Rattle.graph.specs.EdgeTable.{bare, edge_table, table_graph}
use Rattle.graph.specs.Reading.{fits_of}
use Rattle.graph.specs.Edges.{graph_of, filled_graph}
use Rattle.graph.specs.declared.table.Edges.{Edges}

-- the edges of an opened store, and room for a key to each number
pub record Linked (hall : Opened) (edges : Edges) (keys : ℕ) : Type 0 where
  pub measured : edges.measures ≡ hall.store.measures
  pub filled : edges.weights.now ≡ edge_table (stored hall)
  pub numbers : keys ≡ portal_count edges.measures

module _ {hall : Opened} {edges : Edges} {keys : ℕ} (k : Linked hall edges keys) where
  -- the edges are those of the portal graph
  pub graph_is : graph_of edges ≡ portal_graph (stored hall)
  graph_is = filled_graph (rw (sym k.measured) at hall.opened) k.filled

  -- whose numbers are below the count
  pub portal_inside : (v : ℕ) → is_portal (stored hall) v ≡ true → v < portal_count edges.measures
  portal_inside v e = omega (arith, portal_node (stored hall) (fits_of hall.opened) v e, ap (λ (g : Graph). g.nodes) graph_is)

  -- its arcs lead to portals
  leads : (a : ℕ) → a < arc_count edges.measures → 0 < get_or edges.weights.now a 0 → is_portal (stored hall) (head_of (bare edges.measures) (arc_tail a) (arc_place a)) ≡ true
  leads = subst (λ (g : Graph). (a : ℕ) → a < g.arcs → 0 < g.weight a → is_portal (stored hall) (g.head a) ≡ true) (sym graph_is) (head_portal (stored hall) (fits_of hall.opened))

  pub leads_to : (u a v : ℕ) → u ≡ arc_tail a → v ≡ head_of (bare edges.measures) u (arc_place a) → a < arc_count edges.measures → 0 < get_or edges.weights.now a 0 → is_portal (stored hall) v ≡ true
  leads_to u a v e f l p = ap (is_portal (stored hall)) (f ∙ ap (λ (x : ℕ). head_of (bare edges.measures) x (arc_place a)) e) ∙ leads a l p

-- ---- the order of portals
-- a portal, or none yet
abbrev pub Best : Opened → Option ℕ → Type 0
Best hall best = IfSome best (λ v. is_portal (stored hall) v ≡ true)

-- a rank from its parts
pub rank_is : (h : Hall) (p : ℕ) {side : Side} {s a b k : ℕ} → side ≡ portal_side p → s ≡ portal_sector p → a ≡ cell_rank (border_cell side (first_place (portal_mark h p) (portal_window p)))
    → b ≡ cell_rank (border_cell side (last_place (portal_mark h p) (portal_window p)))
    → k ≡ side_number side → ((s * sector_cells + a) * sector_cells + b) * 4 + k ≡ node_rank h p
unfolding node_rank
rank_is h p e s f g k = rw (k, s, f, g, e)

module _ (g : Graph) (rank : ℕ → ℕ) (a : ℕ) where
  pub better_none : true ≡ better g rank a g.nodes
  unfolding better
  better_none = rw (eq-eqb g.nodes g.nodes refl)

  pub better_some : (best : ℕ) → (best ≡ g.nodes → ⊥) → {x y : ℕ} → x ≡ rank a → y ≡ rank best → ltb x y ≡ better g rank a best
  unfolding better
  better_some best n e f = rw (ne_eqb best g.nodes n, e, f)

-- ---- one arc
-- arc a from u to v
module _ (m : Measures) (table keys : List ℕ) (u a : ℕ) (from : u ≡ arc_tail a) (v : ℕ) (to : v ≡ head_of (bare m) u (arc_place a)) where
  head_is : v ≡ head_of (bare m) (arc_tail a) (arc_place a)
  head_is = to ∙ ap (λ (x : ℕ). head_of (bare m) x (arc_place a)) from

  -- a least path goes along it where the keys tell so
  pub tight_where : (b : Bool) → 0 < get_or table a 0 → (b ≡ true → get_or keys u 0 ≡ get_or keys v 0 + get_or table a 0)
      → (b ≡ false → get_or keys u 0 ≡ get_or keys v 0 + get_or table a 0 → ⊥)
      → MatchOption (then_some b v) (Tight (table_graph m table) keys u a → ⊥) (λ x. (x ≡ (table_graph m table).head a) × Tight (table_graph m table) keys u a)
  tight_where true pos exact other = (head_is, record { leaves = sym from; real = pos; exact = exact refl ∙ ap (λ (x : ℕ). get_or keys x 0 + get_or table a 0) head_is })
  tight_where false pos exact other = λ t. other refl (t.exact ∙ sym (ap (λ (x : ℕ). get_or keys x 0 + get_or table a 0) head_is))

  module _ (rank : ℕ → ℕ) (best : ℕ) where
    pub not_better : {b : Bool} → b ≡ better (table_graph m table) rank v best → b ≡ false → best ≡ closer (table_graph m table) rank keys u a best
    not_better e f = next_skip (table_graph m table) rank keys u a best (λ p q r. false≢true (sym f ∙ e ∙ ap (λ (x : ℕ). better (table_graph m table) rank x best) head_is ∙ r))

    pub goes_there : {b : Bool} → 0 < get_or table a 0 → get_or keys u 0 ≡ get_or keys v 0 + get_or table a 0 → b ≡ better (table_graph m table) rank v best → b ≡ true
        → v ≡ closer (table_graph m table) rank keys u a best
    goes_there p q e f =
        head_is
        ∙ next_take (table_graph m table) rank keys u a best (sym from) p (q ∙ ap (λ (x : ℕ). get_or keys x 0 + get_or table a 0) head_is)
        (sym (ap (λ (x : ℕ). better (table_graph m table) rank x best) head_is) ∙ sym e ∙ f)

-- ---- all arcs of u
module _ (m : Measures) (table : List ℕ) (rank : ℕ → ℕ) (keys : List ℕ) (u : ℕ) where
  pub next_begins : portal_count m ≡ next (table_graph m table) rank keys u (u * sector_portals)
  unfolding next
  next_begins = let q : 0 + u * sector_portals ≡ u * sector_portals = omega arith in sym (rw q at (next_same (table_graph m table) rank keys u 0 (u * sector_portals) (λ e a b t. omega arith)))

  pub next_ends : (a : ℕ) → u * sector_portals + sector_portals ≡ a → a ≤ arc_count m → next (table_graph m table) rank keys u a ≡ next (table_graph m table) rank keys u (arc_count m)
  next_ends a e l =
      let q : a + (arc_count m - a) ≡ arc_count m = omega arith in
      sym (rw q at (next_same (table_graph m table) rank keys u a (arc_count m - a) (λ f x y t. omega arith)))

-- ---- along the path
-- i portals of the path from p are written, and u is the next
pub record Walked (edges : Edges) (hall : Opened) (keys : List ℕ) (p : ℕ) (old new : List ℕ) (u i : ℕ) : Type 0 where
  pub goal : ℕ
  pub inside : goal < portal_count edges.measures
  pub start : get_or keys goal 0 ≡ 0
  pub few : length (path (graph_of edges) (node_rank (stored hall)) keys (get_or keys p 0) p) ≤ portal_count edges.measures
  pub tracing : Tracing (graph_of edges) (node_rank (stored hall)) goal p keys old new u i

module _ {hall : Opened} {keys : List ℕ} {edges : Edges} (k : Linked hall edges (length keys)) where
  walk_begins : (p : ℕ) (old : List ℕ) → p < portal_count edges.measures → get_or keys p 0 < unlinked → portal_count edges.measures ≤ length old → (e : ℕ) → e < portal_count edges.measures → keys ≡ keys_to (portal_graph (stored hall)) e
      → Walked edges hall keys p old old p 0
  walk_begins p old l below room e le is =
      let h = stored hall in
      let all : (portal_graph h).nodes ≡ portal_count edges.measures = sym (ap (λ (g : Graph). g.nodes) (graph_is k)) in
      let fits = fits_of hall.opened in
      let ok : Settled (turned (portal_graph h)) e unlinked keys = rw is (keys_settled h fits e (omega arith)) in
      let counted = few_edges (portal_keyed h fits) ok (node_rank h) p (omega arith) below in
      let low : length (path (portal_graph h) (node_rank h) keys (get_or keys p 0) p) ≤ portal_count edges.measures = omega (arith, counted.0, counted.1) in
      record {
        goal = e;
        inside = le;
        start = ok.rough.start;
        few = subst (λ (g : Graph). length (path g (node_rank h) keys (get_or keys p 0) p) ≤ portal_count edges.measures) (sym (graph_is k)) low;
        tracing = subst (λ (g : Graph). Tracing g (node_rank h) e p keys old old p 0) (sym (graph_is k)) (tracing_none ok (portal_sound h fits) (omega arith) below (omega arith));
      }

  module _ {p : ℕ} {old new : List ℕ} {u i : ℕ} (w : Walked edges hall keys p old new u i) where
    walk_at : u < portal_count edges.measures
    walk_at = tracing_node w.tracing edges.sound w.inside

    walk_room : (i < length new) × (i < portal_count edges.measures)
    walk_room = ((tracing_room w.tracing).0, omega (arith, (tracing_room w.tracing).1, w.few))

    walk_on : {v : ℕ} → (get_or keys u 0 ≡ 0 → ⊥) → v ≡ next (graph_of edges) (node_rank (stored hall)) keys u (arc_count edges.measures) → Walked edges hall keys p old (set new i u) v (i + 1)
    walk_on n e = rw e (record { goal = w.goal; inside = w.inside; start = w.start; few = w.few; tracing = tracing_more w.tracing w.start n })

    -- a portal follows on one that is not at the goal
    walk_some : (get_or keys u 0 ≡ 0 → ⊥) → (r : Option ℕ) → unwrap_or r (portal_count edges.measures) ≡ next (graph_of edges) (node_rank (stored hall)) keys u (arc_count edges.measures) → IsSome r
    walk_some n None e = let on = tracing_node (tracing_more w.tracing w.start n) edges.sound w.inside in absurd (omega (arith, e, on))
    walk_some n (Some v) e = refl

    walk_ends : get_or keys u 0 ≡ 0
        → (i + 1 ≡ length (least_path (stored hall) (portal_graph (stored hall)) keys p)) × (set new i u ≡ least_path (stored hall) (portal_graph (stored hall)) keys p ++ drop (i + 1) old)
    unfolding least_path
    walk_ends z =
        let x = tracing_over w.tracing z in
        subst (λ (g : Graph). (i + 1 ≡ length (path g (node_rank (stored hall)) keys (get_or keys p 0) p)) × (set new i u ≡ path g (node_rank (stored hall)) keys (get_or keys p 0) p ++ drop (i + 1) old))
        (graph_is k) (x.1, x.0)

-- the same in a list that grows: what a walk writes into a lent list, as far as it is written
pub record Growing (edges : Edges) (hall : Opened) (keys : List ℕ) (p : ℕ) (nodes : List ℕ) (u : ℕ) : Type 0 where
  pub lent : List ℕ
  pub walked : Walked edges hall keys p (replicate (portal_count edges.measures) 0) lent u (length nodes)
  pub is : take (length nodes) lent ≡ nodes

module _ {hall : Opened} {keys : List ℕ} {edges : Edges} (k : Linked hall edges (length keys)) where
  pub path_begins : (p : ℕ) → p < portal_count edges.measures → get_or keys p 0 < unlinked → (e : ℕ) → e < portal_count edges.measures → keys ≡ keys_to (portal_graph (stored hall)) e
      → Growing edges hall keys p [] p
  path_begins p below linked e le is =
      let zeros : List ℕ = replicate (portal_count edges.measures) 0 in
      let long : length zeros ≡ portal_count edges.measures = length-replicate (portal_count edges.measures) 0 in
      record { lent = zeros; walked = walk_begins k p zeros below linked (omega arith) e le is; is = refl }

  module _ {p : ℕ} {nodes : List ℕ} {u : ℕ} (w : Growing edges hall keys p nodes u) where
    pub path_at : u < portal_count edges.measures
    path_at = walk_at k w.walked

    pub path_room : length nodes < portal_count edges.measures
    path_room = (walk_room k w.walked).1

    longer : length (nodes ++ u ∷ []) ≡ length nodes + 1
    longer = length-append nodes (u ∷ [])

    written : take (length nodes + 1) (set w.lent (length nodes) u) ≡ nodes ++ u ∷ []
    written = rw (add-one (length nodes)) (take-suc-set w.lent (length nodes) u (walk_room k w.walked).0 ∙ ap (λ (x : List ℕ). x ++ u ∷ []) w.is)

    pub path_on : {v : ℕ} → (get_or keys u 0 ≡ 0 → ⊥) → v ≡ next (graph_of edges) (node_rank (stored hall)) keys u (arc_count edges.measures) → Growing edges hall keys p (nodes ++ u ∷ []) v
    path_on n e = record { lent = set w.lent (length nodes) u; walked = rw longer (walk_on k w.walked n e); is = rw longer written }

    pub path_some : (get_or keys u 0 ≡ 0 → ⊥) → (r : Option ℕ) → unwrap_or r (portal_count edges.measures) ≡ next (graph_of edges) (node_rank (stored hall)) keys u (arc_count edges.measures) → IsSome r
    path_some = walk_some k w.walked

    pub path_ends : get_or keys u 0 ≡ 0 → nodes ++ u ∷ [] ≡ least_path (stored hall) (portal_graph (stored hall)) keys p
    path_ends z =
        let both = walk_ends k w.walked z in
        let all : List ℕ = least_path (stored hall) (portal_graph (stored hall)) keys p in
        let zeros : List ℕ = replicate (portal_count edges.measures) 0 in
        sym written ∙ ap (λ (x : List ℕ). take (length nodes + 1) x) both.1 ∙ take_at all (drop (length nodes + 1) zeros) (length nodes + 1) (sym both.0)
