-- `least_path` is least among all portal paths: by cost, then by edges, then by the first difference in `PortalNode` order; and there is none exactly where its key says so.
use Rattle.std.specs.Prelude.{ℕ, ◌%◌, ◌<◌, List, get_or}
use Rattle.std.proofs.Common.{arith}
use Rattle.laws.specs.Graph.{Settled, turned}
use Rattle.laws.specs.LeastCosts.{least_costs_settled}
use Rattle.laws.specs.Keys.{Keyed, Journey, Before, least_journey, journey_reached}
use Rattle.model.specs.Halls.{Hall}
use Rattle.model.specs.Portals.{key_step, key, portal_graph}
use Rattle.model.specs.PortalCrossings.{Fits}
use Rattle.model.specs.PortalEdges.{EdgeOf, arc_edge, weight_low, portal_sound}
use Rattle.model.specs.PortalOrder.{rank_tells}
use Rattle.model.specs.LeastPath.{node_rank, unlinked, keys_to, cost_of_key, least_path}

-- what an edge costs: its key without the 1
abbrev pub edge_cost : Hall → ℕ → ℕ
edge_cost h e = cost_of_key ((portal_graph h).weight e)

module _ (h : Hall) (fits : Fits h) where
  pub portal_keyed : Keyed (portal_graph h) (edge_cost h) unlinked
  portal_keyed = record {
    sound = portal_sound h fits;
    few = unfold portal_graph in omega (arith, fits.small);
    keyed = λ e l r. let x : EdgeOf h e = arc_edge h fits e l r in omega (arith, x.weighs);
    most = key 254;
    weighs = weight_low h fits;
    room = unfold portal_graph in omega (arith, fits.small);
  }

  -- THE LEAST PATH. `e` is the end portal, `p` the start
  module _ (e : ℕ) (end : e < (portal_graph h).nodes) where
    pub keys_settled : Settled (turned (portal_graph h)) e unlinked (keys_to (portal_graph h) e)
    unfolding keys_to
    keys_settled = least_costs_settled (record { tail_in = (portal_sound h fits).head_in; head_in = (portal_sound h fits).tail_in }) end (omega arith)

    -- a path is there exactly where the key is below `unlinked`
    pub linked : {p a n : ℕ} {nodes : List ℕ} → Journey (portal_graph h) (edge_cost h) e p nodes a n → get_or (keys_to (portal_graph h) e) p 0 < unlinked
    linked j = journey_reached portal_keyed keys_settled j

    -- and then `least_path` is a path, of the cost and the edges that the key says, and comes before every other
    pub least_path_lem : (p : ℕ) → p < (portal_graph h).nodes → get_or (keys_to (portal_graph h) e) p 0 < unlinked
        → let keys = keys_to (portal_graph h) e in
        Journey (portal_graph h) (edge_cost h) e p (least_path h (portal_graph h) keys p) (cost_of_key (get_or keys p 0)) (get_or keys p 0 % key_step)
        × ((q : List ℕ) (b n : ℕ) → Journey (portal_graph h) (edge_cost h) e p q b n
        → Before (node_rank h) (least_path h (portal_graph h) keys p) q (cost_of_key (get_or keys p 0)) b (get_or keys p 0 % key_step) n)
    unfolding least_path
    least_path_lem p l b = least_journey portal_keyed keys_settled (node_rank h) p l b (rank_tells h fits)
