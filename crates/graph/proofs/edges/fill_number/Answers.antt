-- `fill_number` fills the places of one number, by whether it is a portal's.
use native.Mathlib.Omega.{arith}
use mathlib.Core.Path.{◌≡◌, ap, ◌∙◌}
use Prim.Native.Nat.{ℕ, ◌+◌, ◌*◌, ◌≤◌, ◌<◌}
use lib.ListN.{length}
use Rattle.model.specs.Sectors.{sectors, floor_number}
use Rattle.model.specs.Halls.{Hall}
use Rattle.model.specs.Portals.{sector_portals, hall_portals, sector_arcs}
use Rattle.store.specs.Stored.{stored}
use Rattle.graph.specs.Reading.{accepted_of, fits_of, measures_are}
use Rattle.graph.specs.Weights.{own_none, own_some, moves_own, weight_none, weight_by}
use Rattle.graph.proofs.edges.fill_number.Goals as goal
use Rattle.graph.proofs.edges.fill_number.Goals.{Start}

abbrev H : Start → Hall
H c = stored c.args.hall.now

are : (c : Start) → sectors (H c).measures ≡ sectors c.args.hall.now.store.measures
are c = ap sectors (measures_are c.args.hall.now.opened)

-- the places stand in the table, and in the graph
few : (c : Start) → c.args.p < hall_portals
few c = omega (arith, (accepted_of c.args.hall.now.opened).few_sectors, c.requires.places.0)

room : (c : Start) → c.args.p * sector_portals + sector_portals ≤ length c.args.table.now
room c = omega (arith, c.requires.places.2.long, are c, c.requires.places.0)

inside : (c : Start) (k : ℕ) → k < sector_portals → c.args.p * sector_portals + k < sectors (H c).measures * sector_arcs
inside c k l = omega (arith, are c, c.requires.places.0)

pub clear_places-requires : goal.clear_places-requires
clear_places-requires c =
    let start = (goal.at.clear_places-requires c).Start in
    (few start, room start)

pub returns-then-mid-ge-NO_CROSSING : goal.returns-then-mid-ge-NO_CROSSING
returns-then-mid-ge-NO_CROSSING c =
    let start = (goal.at.returns-then-mid-ge-NO_CROSSING c).Start in
    c.clear_places.ensures.grown _ _ c.requires.places.2
    (λ k l. weight_none (H start) c.args.p k l (inside start k l) (own_none (H start) c.args.p c.requires.places.1 (fits_of c.args.hall.now.opened) c.if-mid-ge-NO_CROSSING.true))

pub fill_places-requires : goal.fill_places-requires
fill_places-requires c =
    let start = (goal.at.fill_places-requires c).Start in
    (few start, room start)

pub returns : goal.returns
returns c =
    let start = (goal.at.returns c).Start in
    let found = c.from in
    let p = c.args.p in
    let own = own_some (H start) p c.requires.places.1 c.if-mid-ge-NO_CROSSING.false in
    let moves =
    moves_own (H start) p found.result (ap (λ (s : ℕ). floor_number s found.result) c.portal_sector.ensures) (found.ensures ∙ own.1)
    (omega (arith, found.ensures, c.if-mid-ge-NO_CROSSING.false)) c.moves_from.ensures in
    c.fill_places.ensures.grown _ _ c.requires.places.2
    (λ k l. weight_by (H start) p k l (inside start k l) (fits_of c.args.hall.now.opened) own.0 moves c.requires.places.1 c.outer_edge.ensures)
