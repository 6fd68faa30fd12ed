-- DEMAND 3 over the definitions of 01: the answer to a route call on a reached hall keeps the claim.
use Rattle.std.specs.Prelude.{ℕ, zero, suc, ◌+◌, ◌<◌, ◌≡◌, ◌↔◌, false, List, length}
use Rattle.std.proofs.Common.{arith, sym, ap, ◌∙◌}
use borrow.Author.Tests.{le-ltb, lt-leb}
use Rattle.laws.specs.Ladder.{refuse}
use Rattle.laws.specs.Floor.{BorderMove, Walk, walk_starts, walk_ends}
use Rattle.laws.specs.Detour.{Promise}
use Rattle.model.specs.declared.Measures.{Measures}
use Rattle.model.specs.declared.RouteStep.{RouteStep}
use Rattle.model.specs.Numbers as answer
use Rattle.model.specs.Sectors.{cells}
use Rattle.model.specs.Moves.{joined}
use Rattle.model.specs.Halls.{Hall}
use Rattle.model.specs.Route.{Found, none, route, route_of}
use Rattle.model.specs.Account.{Call, Account, account_costs, AnyBorder}
use Rattle.model.specs.Account as account
use Rattle.model.specs.Calls.{or_else, built, build_into, step_list, found_number, route_number, a_route, outcome, routed, routed_leg, routed_run, route_answer, store_after}
use Rattle.audit.specs.Crossings.{floor_of, open_on}
use Rattle.audit.specs.FreshMarks.{Fresh}
use Rattle.audit.specs.RoutePromise.{Gives, route_promise, route_room}
use Rattle.audit.specs.Reached.{Reached, reached, reached_hall, reached_passes, reached_fresh}
use Rattle.audit.specs.Walks.{walk_is}
use Rattle.audit.specs.Claim.{LastCall, Claim, Demand3}

-- an answer that is a route comes of a route found
routed_is : (number : ℕ) (found : Found) (steps leg run : ℕ) → routed number found ≡ a_route steps leg run → (list : List RouteStep) × (found ≡ route list leg run)
unfolding answer.answered outcome
routed_is zero (route list a b) steps leg run e = (list, rw (ap routed_leg e, ap routed_run e))
routed_is zero none steps leg run e = absurd (let z : ◌≡◌ {A = ℕ} 0 1 = cc in omega arith)
routed_is (suc n) found steps leg run e = absurd (let z : ◌≡◌ {A = ℕ} 0 1 = cc in omega arith)

module _ {a : Account} {lent st : List ℕ} (r : Reached a lent st) {source goal room : ℕ} (asked : LastCall a source goal room) where
  abbrev hall : Hall
  hall = built a.measures a.base

  is_fresh : Fresh hall
  is_fresh = reached_fresh r

  apart_there : joined hall.scaled source goal ≡ false
  unfolding built account_costs
  apart_there = asked.apart

  kept : Promise (floor_of a.measures (account_costs a)) 5 source goal (Gives hall is_fresh source goal)
  unfolding built account_costs
  kept = route_promise hall is_fresh source goal apart_there

  -- the answer goes by the hall
  answer_is : route_answer st source goal room ≡ routed (found_number hall source goal room (route_of hall source goal)) (route_of hall source goal)
  unfolding route_answer route_number or_else
  answer_is = rw (reached_passes r, reached_hall r)

  given : (steps leg run : ℕ) → route_answer st source goal room ≡ a_route steps leg run → Gives hall is_fresh source goal leg run
  given steps leg run e = routed_is (found_number hall source goal room (route_of hall source goal)) (route_of hall source goal) steps leg run (sym answer_is ∙ e)

  -- a cost for each cell, so that an open cell is on the floor
  cell_costs : length (account_costs a) ≡ cells a.measures
  unfolding built account_costs
  cell_costs = is_fresh.sized

  on_floor_lem : (x : ℕ) → (floor_of a.measures (account_costs a)).Open x → x < cells a.measures
  on_floor_lem x o = omega (arith, open_on (account_costs a) x o, cell_costs)

  -- a route found is answered
  answered : (leg run : ℕ) → Gives hall is_fresh source goal leg run → (steps leg run : ℕ) × (route_answer st source goal room ≡ a_route steps leg run)
  unfolding found_number refuse step_list answer.answered outcome built
  answered leg run g =
      let w = kept.exactly_when.0 (leg, run, g) in
      let from = on_floor_lem source (walk_starts w.1.1) in
      let to = on_floor_lem goal (walk_ends w.1.1) in
      let few = route_room hall is_fresh source goal g.0 leg run g.1 in
      let enough = le-ltb room (length g.0) (omega (arith, asked.roomy)) in
      (length g.0, leg, run, answer_is ∙ rw (g.1, lt-leb (cells a.measures) source from, lt-leb (cells a.measures) goal to, enough))

  same_walks : (n : ℕ) (over : List BorderMove) → Walk (floor_of a.measures (account_costs a)) source goal n over ↔ account.Walk a source goal n over
  same_walks n over = walk_is AnyBorder a cell_costs source goal n over

  -- THE CLAIM HOLDS ON A REACHED HALL
  pub route_claims : Claim a source goal (route_answer st source goal room)
  route_claims = record {
    exactly_when = (
      λ g. let w = kept.exactly_when.0 (g.1, g.2, given g.0 g.1 g.2 g.3) in (w.0, w.1.0, (same_walks w.0 w.1.0).0 w.1.1),
      λ w. let g = kept.exactly_when.1 (w.0, (w.1, (same_walks w.0 w.1).1 w.2)) in answered g.0 g.1 g.2,
    );
    some_walk = λ steps leg run e. let w = kept.is_a_walk leg run (given steps leg run e) in (w.0, (same_walks (leg + run) w.0).0 w.1);
    at_most = λ steps leg run e n over w. kept.at_most leg run (given steps leg run e) n over ((same_walks n over).1 w);
  }

-- THE THEOREM
pub demand_3 : (m : Measures) (base lent : List ℕ) (list : List Call) (source goal room : ℕ)
    → Demand3 m base lent list source goal room (route_answer (store_after (build_into m base lent) list) source goal room)
demand_3 m base lent list source goal room = record { promised = λ accepted only asked. route_claims (reached m base lent accepted list only) asked }
