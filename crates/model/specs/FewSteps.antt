-- A route has at most 1,001 steps: a least path passes each of at most 2,000 portals once.
use Rattle.std.specs.Prelude.{ℕ, ◌+◌, ◌/◌, ◌≤◌, ◌<◌, ◌≡◌, Bool, List, [], ◌∷◌, get_or}
use native.Mathlib.Omega.{arith}
use Rattle.std.proofs.Math.Path.{refl}
use Rattle.std.proofs.Math.Bool.{true, false}
use Rattle.std.proofs.Math.Option.{Option, none, some}
use Rattle.std.proofs.Math.ListN.{length}
use Rattle.laws.specs.Fold.{pick}
use Rattle.laws.specs.Keys.{few_edges}
use Rattle.laws.specs.Members.{In}
use Rattle.laws.specs.Winner.{winner_in}
use Rattle.model.specs.Moves.{joined}
use Rattle.model.specs.Halls.{Hall}
use Rattle.model.specs.Portals.{portal_graph}
use Rattle.model.specs.PortalCrossings.{Fits}
use Rattle.model.specs.PortalEdges.{portal_node}
use Rattle.model.specs.LeastPath.{node_rank, unlinked, keys_to, least_path}
use Rattle.model.specs.LeastPathFirst.{portal_keyed, keys_settled}
use Rattle.model.specs.Route.{Pair, end_of, run_of, route_pairs, chosen_pair, steps_of, through_pair, through_portals, one_step, route_of}
use Rattle.model.specs.RoutePairs.{pair_is}
use Rattle.model.specs.Calls.{step_list}

-- the steps of a path: those at its even positions before the last, and the last
pub length_steps : (h : Hall) (goal : ℕ) (path : List ℕ) → 1 ≤ length path → length (steps_of h goal true path) ≡ length path / 2 + 1
unfolding steps_of
length_steps h goal [] l = absurd (omega arith)
length_steps h goal (p ∷ []) l = refl
length_steps h goal (p ∷ q ∷ []) l = refl
length_steps h goal (p ∷ q ∷ r ∷ rest) l = omega (arith, length_steps h goal (r ∷ rest) (omega arith))

module _ (h : Hall) (fits : Fits h) (source goal : ℕ) where
  path_few : (p e : ℕ) → p < (portal_graph h).nodes → e < (portal_graph h).nodes → get_or (keys_to (portal_graph h) e) p 0 < unlinked
      → length (steps_of h goal true (least_path h (portal_graph h) (keys_to (portal_graph h) e) p)) ≤ 1001
  unfolding least_path portal_graph
  path_few p e l m low =
      let few = few_edges (portal_keyed h fits) (keys_settled h fits e m) (node_rank h) p l low in
      omega (arith, few.0, few.1, fits.small, length_steps h goal (least_path h (portal_graph h) (keys_to (portal_graph h) e) p) (omega (arith, few.1)))

  pair_few : {z : Pair} → In z (route_pairs h (portal_graph h) source goal) → length (steps_of h goal true (least_path h (portal_graph h) z.end.keys z.start)) ≤ 1001
  unfolding end_of
  pair_few i =
      let x = pair_is h (portal_graph h) source goal i in
      rw x.3 (path_few x.0 x.1 (portal_node h fits x.0 x.2.start_is) (portal_node h fits x.1 x.2.end_is) x.2.linked)

  through_few : (b : Option Pair) → chosen_pair h (portal_graph h) source goal ≡ b → length (step_list (through_pair h (portal_graph h) source goal b)) ≤ 1001
  unfolding chosen_pair through_pair step_list
  through_few none q = omega arith
  through_few (some z) q = pair_few (winner_in run_of q)

  pub few_steps : length (step_list (route_of h source goal)) ≤ 1001
  unfolding route_of one_step through_portals step_list
  few_steps = go (joined h.scaled source goal)
    where
      go : (t : Bool) → length (step_list (pick t (one_step h source goal) (through_portals h (portal_graph h) source goal))) ≤ 1001
      go true = omega arith
      go false = through_few (chosen_pair h (portal_graph h) source goal) refl
