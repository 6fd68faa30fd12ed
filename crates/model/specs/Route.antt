-- 01, "A route".
use Rattle.std.specs.Prelude.{ℕ, ◌+◌, ◌*◌, Bool, true, false, ◌&&◌, List, [], ◌∷◌, map, ltb, get_or}
use Rattle.std.proofs.Math.Option.{Option, some}
use Rattle.laws.specs.Fold.{pick}
use Rattle.laws.specs.Search.{passing}
use Rattle.laws.specs.Graph.{Graph}
use Rattle.laws.specs.Members.{pairs}
use Rattle.laws.specs.Winner.{winner}
use Rattle.model.specs.declared.RouteStep.{RouteStep}
use Rattle.model.specs.Sectors.{sector_of, place_of, sector_at}
use Rattle.model.specs.Steps.{window_step, last_step}
use Rattle.model.specs.Moves.{moves_to, joined}
use Rattle.model.specs.Halls.{Hall}
use Rattle.model.specs.Portals.{sector_portals, portal_sector, is_portal, window_of, midpoint, mid_cell, portal_graph}
use Rattle.model.specs.LeastPath.{unlinked, keys_to, cost_of_key, least_path}

-- "start portals are those joined to the source, end portals those joined to the goal, listed N, E, S, W"
unfoldable pub starts : Hall → ℕ → List ℕ
starts h source = passing (λ p. is_portal h p && joined h.scaled source (mid_cell h p)) sector_portals (sector_of source * sector_portals)

unfoldable pub ends : Hall → ℕ → List ℕ
ends h goal = passing (λ p. is_portal h p && joined h.scaled (mid_cell h p) goal) sector_portals (sector_of goal * sector_portals)

-- an end portal, with the keys of the least paths to it from each portal, and "moves from the end midpoint to the goal"
pub record End : Type 0 where
  pub portal : ℕ
  pub keys : List ℕ
  pub last_moves : ℕ

unfoldable pub end_of : Hall → Graph → ℕ → ℕ → End
end_of h g goal e = record { portal = e; keys = keys_to g e; last_moves = moves_to h.scaled (mid_cell h e) goal }

-- a pair of a start and an end that some portal path joins
pub record Pair : Type 0 where
  pub start : ℕ
  pub end : End

unfoldable pub linked_pair : ℕ → End → List Pair
linked_pair p e = pick (ltb (get_or e.keys p 0) unlinked) (record { start = p; end = e } ∷ []) []

-- "Run = portal path cost + moves from the end midpoint to the goal"
unfoldable pub run_of : Pair → ℕ
run_of z = cost_of_key (get_or z.end.keys z.start 0) + z.end.last_moves

-- "Pairs go start by start", and for each start end by end
unfoldable pub route_pairs : Hall → Graph → ℕ → ℕ → List Pair
route_pairs h g source goal = pairs linked_pair (starts h source) (map (end_of h g goal) (ends h goal))

-- "a later pair wins only if its run is less"
unfoldable pub chosen_pair : Hall → Graph → ℕ → ℕ → Option Pair
chosen_pair h g source goal = winner run_of Option.none (route_pairs h g source goal)

-- the step at a portal: its midpoint and its window
unfoldable pub step_at : Hall → ℕ → RouteStep
step_at h p = window_step (sector_at h.measures (portal_sector p)) (midpoint h p) (window_of h p)

-- "Of the path, steps are position 0, each even position, and the last, which has the goal and no window": `even` says whether the path's head stands at an even position
unfoldable pub steps_of : Hall → ℕ → Bool → List ℕ → List RouteStep
steps_of h goal even [] = []
steps_of h goal even (p ∷ []) = last_step (sector_at h.measures (portal_sector p)) (place_of goal) ∷ []
steps_of h goal true (p ∷ q ∷ rest) = step_at h p ∷ steps_of h goal false (q ∷ rest)
steps_of h goal false (p ∷ q ∷ rest) = steps_of h goal true (q ∷ rest)

-- what a route call finds: a route's steps, leg and run, or none
pub data Found : Type 0 where
  route : (steps : List RouteStep) (leg run : ℕ) → Found
  none : Found

-- "Leg = moves from source to the start midpoint, not counted in the choice"; "No pair: none"
unfoldable pub through_pair : Hall → Graph → ℕ → ℕ → Option Pair → Found
through_pair h g source goal Option.none = none
through_pair h g source goal (some z) =
    route (steps_of h goal true (least_path h g z.end.keys z.start)) (moves_to h.scaled source (mid_cell h z.start)) (run_of z)

unfoldable pub through_portals : Hall → Graph → ℕ → ℕ → Found
through_portals h g source goal = through_pair h g source goal (chosen_pair h g source goal)

-- "if the goal is joined to the source in its sector, one step, leg 0, run the fewest moves"
unfoldable pub one_step : Hall → ℕ → ℕ → Found
one_step h source goal = route (last_step (sector_at h.measures (sector_of goal)) (place_of goal) ∷ []) 0 (moves_to h.scaled source goal)

unfoldable pub route_of : Hall → ℕ → ℕ → Found
route_of h source goal = pick (joined h.scaled source goal) (one_step h source goal) (through_portals h (portal_graph h) source goal)
