-- `through_portals` chooses a pair and takes the route over it.
use native.Mathlib.Omega.{arith}
use Prim.Native.Nat.{ℕ, ◌+◌, ◌*◌, ◌/◌, ◌%◌, ◌≤◌, ◌<◌}
use mathlib.Core.Path.{◌≡◌, sym, ap, ◌∙◌, refl}
use mathlib.Core.List.{List}
use lib.ListN.{length, get_or, take}
use Rattle.std.specs.Prelude.{replicate}
use Rattle.std.proofs.lemmas.List.{take-replicate, length-replicate}
use Rattle.std.specs.Prelude.{Option, Some, None}
use Rattle.laws.specs.FirstLeast.{Foremost}
use Rattle.model.specs.declared.Measures.{Measures}
use Rattle.model.specs.Sectors.{sectors, sector_of}
use Rattle.model.specs.Portals.{sector_portals, hall_portals, place_portal, portal_count, portal_graph}
use Rattle.model.specs.LeastPath.{unlinked}
use Rattle.model.specs.Calls.{outcome}
use Rattle.model.specs.Route.{Found, through_portals}
use Rattle.store.specs.declared.opened.Opened.{Opened}
use Rattle.store.specs.Stored.{stored}
use Rattle.graph.specs.Reading.{accepted_of, fits_of, measures_are}
use Rattle.graph.specs.Edges.{graph_of}
use Rattle.graph.specs.declared.table.Edges.{Edges}
use Rattle.graph.specs.Near.{portal_moves}
use Rattle.choice.specs.Choosing.{sector_pairs, pair_run, run_at, Chosen, chosen_none, chosen_some}
use Rattle.choice.specs.declared.places.Pair.{Pair}
use Rattle.path.specs.Following.{Linked, graph_is}
use Rattle.route.specs.Finding.{Paired, found_into, pair_found, pair_paired, pair_route, none_found}
use Rattle.route.proofs.find.through_portals.Goals as goal
use Rattle.route.proofs.find.through_portals.Goals.{After-of_store-edges}

-- ---- what the choice by the table and the near portals as they were read is in the hall
module _ {hall : Opened} {edges : Edges} {keys : ℕ} (k : Linked hall edges keys) (source goal : ℕ) {legs lasts : List (Option ℕ)}
    (legs_are : legs ≡ portal_moves (stored hall) source) (lasts_are : lasts ≡ portal_moves (stored hall) goal) where
  abbrev First : ℕ → Type 0
  First = Foremost (pair_run (graph_of edges) legs lasts (sector_of source * sector_portals) (sector_of goal * sector_portals)) unlinked sector_pairs

  foremost : {r : ℕ} → First r → Foremost (run_at (stored hall) source goal) unlinked sector_pairs r
  foremost f = rw (graph_is k, legs_are, lasts_are) at f

  module _ (pair : Pair) (f : First (pair.start * sector_portals + pair.end)) (leg : get_or legs pair.start None ≡ Some pair.leg) (last : get_or lasts pair.end None ≡ Some pair.last) where
    abbrev number : ℕ
    number = pair.start * sector_portals + pair.end

    start_is : number / sector_portals ≡ pair.start
    start_is = omega (arith, pair.end_low)

    end_is : number % sector_portals ≡ pair.end
    end_is = omega (arith, pair.end_low)

    chosen : Chosen (stored hall) source goal number
    chosen = chosen_some (stored hall) source goal (fits_of hall.opened) (foremost f) (omega (arith, pair.start_low, pair.end_low))

    -- the route over it, with leg and last moves as they were read
    found_is : through_portals (stored hall) (portal_graph (stored hall)) source goal
        ≡ pair_route (stored hall) goal (place_portal (sector_of source) pair.start) (place_portal (sector_of goal) pair.end) pair.leg pair.last
    found_is = rw (start_is, end_is) at (pair_found (stored hall) (fits_of hall.opened) source goal chosen {leg = pair.leg} {last = pair.last} (rw (start_is, ← legs_are) (sym leg)) (rw (end_is, ← lasts_are) (sym last)))

    paired : sector_of goal < sectors hall.store.measures → Paired (stored hall) (place_portal (sector_of source) pair.start) (place_portal (sector_of goal) pair.end)
    paired l = rw (start_is, end_is) at (pair_paired (stored hall) (fits_of hall.opened) source goal chosen (rw (measures_are hall.opened) l))

module _ (c : After-of_store-edges) where
  counted : portal_count c.of_store-edges.result.measures ≡ portal_count c.args.hall.now.store.measures
  counted = ap (λ (m : Measures). portal_count m) c.of_store-edges.ensures.measures

  -- the numbers' part of the keys
  abbrev own : List ℕ
  own = take (c.sectors-2.result * sector_portals) (replicate hall_portals 0)

  own_long : length own ≡ portal_count c.of_store-edges.result.measures
  own_long =
      let few : c.sectors-2.result * sector_portals ≤ hall_portals = omega (arith, c.sectors-2.ensures, (accepted_of c.args.hall.now.opened).few_sectors) in
      ap length (take-replicate {X = ℕ} (c.sectors-2.result * sector_portals) hall_portals 0 few) ∙ length-replicate {A = ℕ} (c.sectors-2.result * sector_portals) 0 ∙ omega (arith, c.sectors-2.ensures, counted)

  linked : {keys : ℕ} → keys ≡ length own → Linked c.args.hall.now c.of_store-edges.result keys
  linked same = record {
    measured = c.of_store-edges.ensures.measures;
    filled = c.of_store-edges.ensures.weights;
    numbers = same ∙ own_long;
  }

pub choose_pair-requires : goal.choose_pair-requires
choose_pair-requires c =
    let same = counted (goal.at.choose_pair-requires c).After-of_store-edges in
    record { lists = own_long (goal.at.choose_pair-requires c).After-of_store-edges; inside = (omega (arith, same, c.requires.0), omega (arith, same, c.requires.1)); both_ways = c.of_store-edges.ensures.both_ways }

pub returns-in_err-pair : goal.returns-in_err-pair
returns-in_err-pair c =
    let link = linked (goal.at.returns-in_err-pair c).After-of_store-edges refl in
    let none = foremost link c.args.source c.args.goal c.portal_moves-legs.ensures c.portal_moves-lasts.ensures c.in_err-pair.ensures.pair in
    let both = none_found _ _ _ _ (chosen_none (stored c.args.hall.now) c.args.source c.args.goal (fits_of c.args.hall.now.opened) none (omega arith)) in
    rw c.from_residual.ensures (record { answer = both.0; steps = both.1 })

pub through_pair-requires : goal.through_pair-requires
through_pair-requires c =
    let link = linked (goal.at.through_pair-requires c).After-of_store-edges c.choose_pair.auto.keys in
    record {
      linked = (link, paired link c.args.source c.args.goal c.portal_moves-legs.ensures c.portal_moves-lasts.ensures c.in_ok-pair.pair c.in_ok-pair.ensures.pair c.in_ok-pair.ensures.moves.0 c.in_ok-pair.ensures.moves.1 (omega (arith, c.requires.1)));
      both_ways = c.of_store-edges.ensures.both_ways;
    }

pub returns : goal.returns
returns c =
    let call = c.through_pair in
    let link = linked (goal.at.returns c).After-of_store-edges refl in
    let f = found_is link c.args.source c.args.goal c.portal_moves-legs.ensures c.portal_moves-lasts.ensures c.in_ok-pair.pair c.in_ok-pair.ensures.pair c.in_ok-pair.ensures.moves.0 c.in_ok-pair.ensures.moves.1 in
    record { answer = call.ensures.answer ∙ ap outcome (sym f); steps = call.ensures.steps ∙ ap (λ (x : Found). found_into x c.args.list.now) (sym f) }
