-- What a route found becomes in the call's answer and in the lent list, and the cases in which code finds it.
use Rattle.std.specs.Prelude.{if◌then◌else◌, Option, Some, None, ℕ, ◌+◌, ◌*◌, ◌/◌, ◌%◌, ◌≤◌, ◌<◌, ◌≡◌, List, [], ◌∷◌, ◌++◌, get_or, take, drop}
use Rattle.std.proofs.Common.{arith, sym, ◌∙◌, length-append, length-drop, take_at, lt-ltb, le-ltb}
use Rattle.std.proofs.Math.Path.{refl, ap}
use Rattle.std.proofs.Math.Bool.{true, false}
use Rattle.std.proofs.Math.Option.{Option as MathOption}
use Rattle.std.proofs.Math.Dec.{ltb}
use Rattle.std.proofs.Math.ListN.{length}
use Rattle.laws.specs.Fold.{pick}
use Rattle.laws.specs.Options.{some_if, none_if}
use Rattle.model.specs.declared.Measures.{Measures}
use Rattle.model.specs.declared.RouteStep.{RouteStep}
use Rattle.model.specs.declared.Route.{Route}
use Rattle.model.specs.Sectors.{sectors, sector_at, sector_of, place_of}
use Rattle.model.specs.Steps.{last_step, flat_steps}
use Rattle.model.specs.Moves.{moves_to, joined}
use Rattle.model.specs.Halls.{Hall}
use Rattle.model.specs.Portals.{sector_portals, portal_count, place_portal, key_step, is_portal, portal_graph}
use Rattle.model.specs.LeastPath.{unlinked, keys_to, cost_of_key, least_path}
use Rattle.model.specs.PortalCrossings.{Fits}
use Rattle.model.specs.Route.{Found, none, route, end_of, run_of, steps_of, chosen_pair, through_pair, through_portals, one_step, route_of}
use Rattle.model.specs.Calls.{step_list, outcome}
use Rattle.graph.specs.Near.{leg_moves, last_moves_lem, near_portal}
use Rattle.choice.specs.Choosing.{Chosen, leg_at, last_at}
use Rattle.path.specs.PortalPaths.{PortalPath, least_portal_path}
use Rattle.model.specs.FewSteps.{length_steps}
use Rattle.path.specs.Stepping.{length_flat}

-- the steps of what was found in the list, where that has room for all of them
unfoldable pub found_into : Found → List ℕ → List ℕ
found_into found list =
    let bytes = flat_steps (step_list found) in
    pick (ltb (length list / 6) (length (step_list found))) list (bytes ++ drop (length bytes) list)

abbrev pub a_found : ℕ → ℕ → ℕ → Option Route
a_found steps leg run = Some (record { steps = steps; leg = leg; run = run })

-- the route of one step
abbrev pub last_route : Measures → ℕ → ℕ → Found
last_route m goal moves = route (last_step (sector_at m (sector_of goal)) (place_of goal) ∷ []) 0 moves

-- ---- a route, with and without room
module _ (steps : List RouteStep) (leg run : ℕ) (list : List ℕ) where
  pub no_room : {n : ℕ} → length steps ≡ n → length list / 6 < n → (a_found n leg run ≡ outcome (route steps leg run)) × (list ≡ found_into (route steps leg run) list)
  unfolding outcome found_into step_list
  no_room e l = let t : ltb (length list / 6) (length steps) ≡ true = rw e (lt-ltb (length list / 6) _ l) in rw (t, e) (refl, refl)

  pub written_steps : {n : ℕ} {new : List ℕ} → length steps ≡ n → n ≤ length list / 6 → new ≡ flat_steps steps ++ drop (6 * n) list
      → (a_found n leg run ≡ outcome (route steps leg run)) × (new ≡ found_into (route steps leg run) list)
  unfolding outcome found_into step_list
  written_steps {n} {new} e l came =
      let t : ltb (length list / 6) (length steps) ≡ false = rw e (le-ltb (length list / 6) n l) in
      let bytes : length (flat_steps steps) ≡ 6 * n = length_flat steps ∙ ap (λ (k : ℕ). 6 * k) e in
      rw (t, bytes, e) (refl, came)

-- ---- none
none_is : (list : List ℕ) {found : Found} → found ≡ none → (None ≡ outcome found) × (list ≡ found_into found list)
unfolding outcome found_into step_list flat_steps
none_is list e = rw (e, le-ltb (length list / 6) 0 (omega arith)) (refl, refl)

pub none_found : (h : Hall) (source goal : ℕ) (list : List ℕ) → chosen_pair h (portal_graph h) source goal ≡ MathOption.none
    → (None ≡ outcome (through_portals h (portal_graph h) source goal)) × (list ≡ found_into (through_portals h (portal_graph h) source goal) list)
unfolding through_portals through_pair
none_found h source goal list e = none_is list (ap (through_pair h (portal_graph h) source goal) e)

-- ---- a pair
module _ (h : Hall) where
  -- a start portal and the number of an end that a path joins
  pub record Paired (p e : ℕ) : Type 0 where
    pub start : is_portal h p ≡ true
    pub end : e < portal_count h.measures
    pub linked : get_or (keys_to (portal_graph h) e) p 0 < unlinked

  -- the route over it
  abbrev pub pair_path : ℕ → ℕ → List ℕ
  pair_path p e = least_path h (portal_graph h) (keys_to (portal_graph h) e) p

  abbrev pub pair_route : ℕ → ℕ → ℕ → ℕ → ℕ → Found
  pair_route goal p e leg last = route (steps_of h goal true (pair_path p e)) leg (cost_of_key (get_or (keys_to (portal_graph h) e) p 0) + last)

  module _ (fits : Fits h) (source goal : ℕ) {j : ℕ} (c : Chosen h source goal j) where
    pub pair_found : {leg last : ℕ} → Some leg ≡ leg_at h source goal j → Some last ≡ last_at h source goal j
        → through_portals h (portal_graph h) source goal ≡ pair_route goal (place_portal (sector_of source) (j / sector_portals)) (place_portal (sector_of goal) (j % sector_portals)) leg last
    unfolding through_portals through_pair end_of run_of
    pair_found e f = rw (c.wins, leg_moves h fits source (j / sector_portals) (omega (arith, c.low)) e, last_moves_lem h fits goal (j % sector_portals) (omega arith) f)

    pub pair_paired : sector_of goal < sectors h.measures → Paired (place_portal (sector_of source) (j / sector_portals)) (place_portal (sector_of goal) (j % sector_portals))
    pair_paired l = record { start = near_portal h fits source (j / sector_portals) (omega (arith, c.low)) c.joined_by.near_start; end = omega arith; linked = c.joined_by.linked }

  -- the portals that were written down
  module _ (fits : Fits h) {p e n : ℕ} (z : Paired p e) (keys nodes old : List ℕ) (is : keys ≡ keys_to (portal_graph h) e)
      (many : n ≡ length (least_path h (portal_graph h) keys p)) (wrote : nodes ≡ least_path h (portal_graph h) keys p ++ drop n old) where
    taken : take n nodes ≡ pair_path p e
    taken = rw wrote (take_at (least_path h (portal_graph h) keys p) (drop n old) n (sym many)) ∙ ap (λ (k : List ℕ). least_path h (portal_graph h) k p) is

    taken_long : length (pair_path p e) ≡ n
    taken_long = sym (many ∙ ap (λ (k : List ℕ). length (least_path h (portal_graph h) k p)) is)

    pub taken_few : length nodes ≡ length old → n ≤ length nodes
    taken_few same = omega (arith, ap length wrote, length-append (least_path h (portal_graph h) keys p) (drop n old), length-drop n old)

    pub taken_path : PortalPath h (take n nodes)
    taken_path = rw taken (least_portal_path h fits e (unfold portal_graph in z.end) refl p z.start z.linked)

    taken_steps : (goal : ℕ) → length (steps_of h goal true (pair_path p e)) ≡ n / 2 + 1
    taken_steps goal = length_steps h goal (pair_path p e) (rw taken at taken_path.some) ∙ ap (λ (k : ℕ). k / 2 + 1) taken_long

    -- the answer and the list, with and without room
    module _ (goal leg last : ℕ) (list : List ℕ) {steps : ℕ} (count : steps ≡ n / 2 + 1) where
      pub pair_no_room : length list / 6 < steps
          → (a_found steps leg (get_or keys p 0 / key_step + last) ≡ outcome (pair_route goal p e leg last)) × (list ≡ found_into (pair_route goal p e leg last) list)
      pair_no_room l =
          let r = no_room (steps_of h goal true (pair_path p e)) leg (cost_of_key (get_or (keys_to (portal_graph h) e) p 0) + last) list (taken_steps goal ∙ sym count) l in
          (rw is r.0, r.1)

      pub pair_written : {new : List ℕ} → steps ≤ length list / 6 → new ≡ flat_steps (steps_of h goal true (take n nodes)) ++ drop (6 * (n / 2 + 1)) list
          → (a_found steps leg (get_or keys p 0 / key_step + last) ≡ outcome (pair_route goal p e leg last)) × (new ≡ found_into (pair_route goal p e leg last) list)
      pair_written l came =
          let r = written_steps (steps_of h goal true (pair_path p e)) leg (cost_of_key (get_or (keys_to (portal_graph h) e) p 0) + last) list (taken_steps goal ∙ sym count) l (came ∙ rw (taken, ← count)) in
          (rw is r.0, r.1)

-- ---- the one-sector case
module _ (h : Hall) (source goal : ℕ) where
  pub apart_found : None ≡ (if joined h.scaled source goal then Some (moves_to h.scaled source goal) else None) → through_portals h (portal_graph h) source goal ≡ route_of h source goal
  unfolding route_of
  apart_found e = rw (none_if (joined h.scaled source goal) (moves_to h.scaled source goal) e) refl

  pub joined_found : {moves : ℕ} → Some moves ≡ (if joined h.scaled source goal then Some (moves_to h.scaled source goal) else None) → last_route h.measures goal moves ≡ route_of h source goal
  unfolding route_of one_step
  joined_found e = let some = some_if (joined h.scaled source goal) (moves_to h.scaled source goal) e in rw (some.0, some.1) refl
