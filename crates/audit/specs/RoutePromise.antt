-- The route of a fresh hall keeps the promise of the detour: given exactly when a walk exists, a walk itself, and within the bound. And its steps fit into 1,001.
use Rattle.std.specs.Prelude.{ℕ, ◌+◌, ◌≤◌, ◌<◌, ◌≡◌, Bool, false, ◌&&◌, List, [], ◌∷◌, length, get_or}
use Rattle.std.proofs.Common.{arith, ◌∙◌, true≢false}
use Rattle.std.proofs.Math.Path.{refl, sym, ap, ap₂}
use Rattle.std.proofs.Math.Bool.{true}
use Rattle.std.proofs.Math.Option.{Option, some}
use Rattle.std.proofs.Math.Dec.{ltb}
use borrow.Author.Tests.{ltb-true, lt-ltb}
use Rattle.laws.specs.Search.{both}
use Rattle.laws.specs.Graph.{Graph}
use Rattle.laws.specs.Keys.{Journey, arrived, onward, Before, cheaper, shorter, earlier}
use Rattle.laws.specs.Members.{In}
use Rattle.laws.specs.Winner.{winner}
use Rattle.laws.specs.Floor.{Inside}
use Rattle.laws.specs.Detour.{Path, at, along, Lengths, Pair, leg_of, run_by, Chosen, Promise, promise, Winning, chosen}
use Rattle.model.specs.declared.RouteStep.{RouteStep}
use Rattle.model.specs.Moves.{moves_to, joined}
use Rattle.model.specs.Halls.{Hall}
use Rattle.model.specs.Portals.{is_portal, mid_cell, portal_graph}
use Rattle.model.specs.LeastPath.{unlinked, keys_to, cost_of_key, least_path}
use Rattle.model.specs.PortalEdges.{arc_edge, edge_arc, edge_to, portal_node}
use Rattle.model.specs.LeastPathFirst.{edge_cost, linked, least_path_lem}
use Rattle.model.specs.Route.{end_of, run_of, route_pairs, chosen_pair, steps_of, route, none, through_pair, through_portals, route_of}
use Rattle.model.specs.Route as choice
use Rattle.model.specs.RoutePairs.{Candidate, pair_of, pair_is, is_pair}
use Rattle.model.specs.Calls.{step_list}
use Rattle.model.specs.FewSteps.{few_steps}
use Rattle.audit.specs.Crossings.{floor_of}
use Rattle.audit.specs.SectorMoves.{fewest, inside_joined}
use Rattle.audit.specs.FreshMarks.{Fresh, fits}
use Rattle.audit.specs.Gates.{portals}

-- ---- what a route call finds, taken apart
pub same_found : {s t : List RouteStep} {a b c d : ℕ} → route s a b ≡ route t c d → (s ≡ t) × (a ≡ c) × (b ≡ d)
same_found e = (cc, cc, cc)

pub none_found : {s : List RouteStep} {a b : ℕ} → none ≡ route s a b → ⊥
none_found e = let z : ◌≡◌ {A = ℕ} 0 1 = cc in omega arith

module _ (h : Hall) (fresh : Fresh h) where
  abbrev g : Graph
  g = portal_graph h

  -- ---- paths of the detour are journeys of the graph
  path_journey : {p e c : ℕ} → Path (portals h fresh) p e c → (nodes : List ℕ) × (n : ℕ) × Journey g (edge_cost h) e p nodes c n
  path_journey (at {p}) = (p ∷ [], 0, arrived)
  path_journey {e = e} (along {p} {q} {r} {w} {c} a b) =
      let x = edge_arc h (fits h fresh) a in
      let j = path_journey b in
      let rest : Journey g (edge_cost h) e (g.head x.arc) j.0 c j.1 = rw x.head_is j.2 in
      let sum : w + c ≡ c + edge_cost h x.arc = omega (arith, x.weighs) in
      (p ∷ j.0, j.1 + 1, onward x.arc x.below (omega (arith, x.weighs)) x.tail_is rest sum refl)

  journey_path : {e p c n : ℕ} {nodes : List ℕ} → Journey g (edge_cost h) e p nodes c n → Path (portals h fresh) p e c
  journey_path arrived = at
  journey_path {e} (onward {u} {a} {b} k l r t j x y) =
      let edge = arc_edge h (fits h fresh) k l r in
      let sum : b ≡ edge.cost + a = omega (arith, edge.weighs) in
      rw sum (along (rw t at edge.is) (journey_path j))

  node : (p : ℕ) → is_portal h p ≡ true → p < g.nodes
  node = portal_node h (fits h fresh)

  -- a path from a portal ends at one
  path_ends : {p e c : ℕ} → Path (portals h fresh) p e c → is_portal h p ≡ true → is_portal h e ≡ true
  path_ends at a = a
  path_ends (along {p} {q} k b) a = path_ends b (edge_to k)

  -- ---- the least cost of a path, by its key
  linked_by : ℕ → ℕ → Bool
  linked_by p e = is_portal h p && (is_portal h e && ltb (get_or (keys_to g e) p 0) unlinked)

  cost_by : ℕ → ℕ → ℕ
  cost_by p e = cost_of_key (get_or (keys_to g e) p 0)

  record Linked (p e : ℕ) : Type 0 where
    start : is_portal h p ≡ true
    end : is_portal h e ≡ true
    key : get_or (keys_to g e) p 0 < unlinked

  linked_is : (p e : ℕ) → linked_by p e ≡ true → Linked p e
  unfolding linked_by
  linked_is p e t =
      let a = both (is_portal h p) (is_portal h e && ltb (get_or (keys_to g e) p 0) unlinked) t in
      let b = both (is_portal h e) (ltb (get_or (keys_to g e) p 0) unlinked) a.1 in
      record { start = a.0; end = b.0; key = ltb-true (get_or (keys_to g e) p 0) unlinked b.1 }

  is_linked : (p e : ℕ) → Linked p e → linked_by p e ≡ true
  unfolding linked_by
  is_linked p e l = rw (l.start, l.end, lt-ltb (get_or (keys_to g e) p 0) unlinked l.key)

  before_cost : {rank : ℕ → ℕ} {p q : List ℕ} {a b m n : ℕ} → Before rank p q a b m n → a ≤ b
  before_cost (cheaper l) = omega arith
  before_cost (shorter e l) = omega arith
  before_cost (earlier e f x) = omega arith

  -- a path between portals: they are linked, at no more
  path_linked : {p e c : ℕ} → is_portal h p ≡ true → Path (portals h fresh) p e c → Linked p e × (cost_by p e ≤ c)
  unfolding cost_by
  path_linked {p} {e} {c} a b =
      let end = path_ends b a in
      let j = path_journey b in
      let low = linked h (fits h fresh) e (node e end) j.2 in
      let least = least_path_lem h (fits h fresh) e (node e end) p (node p a) low in
      (record { start = a; end = end; key = low }, before_cost (least.1 j.0 c j.1 j.2))

  pub lengths : Lengths (portals h fresh)
  unfolding cost_by
  lengths = record {
    joined = joined h.scaled;
    moves = moves_to h.scaled;
    linked = linked_by;
    cost = cost_by;
    moves_least = fewest h.measures h.scaled;
    cost_least = record {
      attained = λ p e t. let l = linked_is p e t in journey_path (least_path_lem h (fits h fresh) e (node e l.end) p (node p l.start) l.key).0;
      found = λ p e c a b. is_linked p e (path_linked a b).0;
      lowest = λ p e c a b. (path_linked a b).1;
    };
  }

  -- ---- the candidates of a route
  end_portal : choice.Pair → ℕ
  end_portal z = z.end.portal

  leg_by : ℕ → choice.Pair → ℕ
  leg_by source z = moves_to h.scaled source (mid_cell h z.start)

  abbrev candidates : ℕ → ℕ → List choice.Pair
  candidates source goal = route_pairs h g source goal

  -- ---- 01's choice
  module _ (source goal : ℕ) where
    abbrev Made : choice.Pair → Type 0
    Made z =
        Pair (portals h fresh) lengths source goal z.start (end_portal z)
        × (leg_by source z ≡ leg_of (portals h fresh) lengths source z.start)
        × (run_of z ≡ run_by (portals h fresh) lengths goal z.start (end_portal z))

    candidate_is : (z : choice.Pair) → In z (candidates source goal) → Made z
    unfolding end_portal leg_by run_of end_of lengths cost_by
    candidate_is z i =
        let x = pair_is h g source goal i in
        let c = x.2 in
        rw x.3 (
          record {
            start_is = c.start_is;
            end_is = c.end_is;
            start_joined = c.start_joined;
            end_joined = c.end_joined;
            pair_linked = is_linked x.0 x.1 (record { start = c.start_is; end = c.end_is; key = c.linked });
          },
          refl,
          refl,
        )

    candidate_has : (p e : ℕ) → Pair (portals h fresh) lengths source goal p e → (z : choice.Pair) × In z (candidates source goal) × (run_of z ≤ run_by (portals h fresh) lengths goal p e)
    unfolding run_of end_of lengths cost_by
    candidate_has p e w =
        let c : Candidate h g source goal p e =
        record { start_is = w.start_is; start_joined = w.start_joined; end_is = w.end_is; end_joined = w.end_joined; linked = (linked_is p e w.pair_linked).key } in
        (pair_of h g source goal p e, is_pair h g source goal (fits h fresh) c, omega arith)

    chosen_route : Chosen (portals h fresh) lengths source goal (Winning (leg_by source) run_of (candidates source goal))
    chosen_route = chosen (portals h fresh) lengths source goal (λ z. z.start) end_portal (leg_by source) run_of (candidates source goal) candidate_is candidate_has

    -- the route call finds a route of this leg and run
    abbrev pub Gives : ℕ → ℕ → Type 0
    Gives leg run = (steps : List RouteStep) × (route_of h source goal ≡ route steps leg run)

    -- where source and goal are not joined it gives what the winner has
    module _ (apart : joined h.scaled source goal ≡ false) where
      by_pairs : route_of h source goal ≡ through_pair h g source goal (winner run_of Option.none (candidates source goal))
      unfolding route_of through_portals chosen_pair
      by_pairs = rw apart

      from_winner : (b : Option choice.Pair) → winner run_of Option.none (candidates source goal) ≡ b → (steps : List RouteStep) (leg run : ℕ) → through_pair h g source goal b ≡ route steps leg run
          → Winning (leg_by source) run_of (candidates source goal) leg run
      unfolding through_pair leg_by
      from_winner Option.none q steps leg run e = absurd (none_found e)
      from_winner (some z) q steps leg run e = let x = same_found e in record { one = z; wins = q; leg_is = sym x.1; run_is = sym x.2 }

      to_winner : (leg run : ℕ) → Winning (leg_by source) run_of (candidates source goal) leg run → Gives leg run
      unfolding through_pair leg_by
      to_winner leg run w =
          let path = least_path h g w.one.end.keys w.one.start in
          (steps_of h goal true path, by_pairs ∙ ap (through_pair h g source goal) w.wins ∙ ap₂ (λ (a b : ℕ). route (steps_of h goal true path) a b) (sym w.leg_is) (sym w.run_is))

      given_chosen : Chosen (portals h fresh) lengths source goal Gives
      given_chosen = record {
        some = λ p e w. let c = chosen_route.some p e w in (c.0, c.1, to_winner c.0 c.1 c.2);
        is = λ leg run a. chosen_route.is leg run (from_winner (winner run_of Option.none (candidates source goal)) refl a.0 leg run (sym by_pairs ∙ a.1));
      }

      -- THE ROUTE KEEPS THE PROMISE, with D = 5
      pub route_promise : Promise (floor_of h.measures h.scaled) 5 source goal Gives
      route_promise = promise (portals h fresh) lengths not_inside given_chosen
        where
          not_inside : (n : ℕ) → ¬ Inside (floor_of h.measures h.scaled) source goal n
          not_inside n i = true≢false (sym (inside_joined h.measures h.scaled i).0 ∙ apart)

    -- and its steps fit into 1,001
    pub route_room : (steps : List RouteStep) (leg run : ℕ) → route_of h source goal ≡ route steps leg run → length steps ≤ 1001
    unfolding step_list
    route_room steps leg run e = rw e at (few_steps h (fits h fresh) source goal)
