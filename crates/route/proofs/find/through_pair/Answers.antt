-- `through_pair` searches to the end portal, follows the least path and writes its steps.
use native.Mathlib.Omega.{arith}
use Prim.Native.Nat.{ℕ, ◌/◌, ◌+◌, ◌<◌}
use mathlib.Core.Path.{◌≡◌, sym, ap, ◌∙◌}
use mathlib.Core.List.{List, [], ◌++◌, append-nil}
use lib.ListN.{length, drop}
use lib.Seq.{take-length, drop-nil}
use Rattle.laws.specs.Graph.{Graph}
use Rattle.model.specs.Sectors.{sector_of}
use Rattle.model.specs.Portals.{place_portal, portal_count, portal_graph}
use Rattle.model.specs.LeastPath.{keys_to, least_path}
use Rattle.model.specs.PortalCrossings.{Fits}
use Rattle.store.specs.Stored.{stored}
use Rattle.graph.specs.Reading.{fits_of, measures_are}
use Rattle.path.specs.Following.{Linked, graph_is, portal_inside}
use Rattle.route.specs.Finding.{taken_path, pair_no_room, pair_written}
use Rattle.route.proofs.find.through_pair.Goals as goal
use Rattle.route.proofs.find.through_pair.Goals.{After-keys_to, After-least_path-nodes, Start}

-- the pair's portals
abbrev start : Start → ℕ
start s = place_portal (sector_of s.args.source) s.args.pair.start

abbrev end : Start → ℕ
end s = place_portal (sector_of s.args.goal) s.args.pair.end

start_low : (s : Start) → start s < portal_count s.args.edges.measures
start_low s = portal_inside s.requires.linked.0 (start s) s.requires.linked.1.start

end_low : (s : Start) → end s < portal_count s.args.edges.measures
end_low s = omega (arith, s.requires.linked.1.end, ap portal_count (s.requires.linked.0.measured ∙ sym (measures_are s.args.hall.now.opened)))

fits : (s : Start) → Fits (stored s.args.hall.now)
fits s = fits_of s.args.hall.now.opened

-- the keys are those to the end portal
keys_are : (c : After-keys_to) → c.keys_to.new.keys ≡ keys_to (portal_graph (stored c.args.hall.now)) (place_portal (sector_of c.args.goal) c.args.pair.end)
keys_are c = c.keys_to.ensures ∙ ap (λ (g : Graph). keys_to g (place_portal (sector_of c.args.goal) c.args.pair.end)) (graph_is c.requires.linked.0)

linked : (c : After-keys_to) → Linked c.args.hall.now c.args.edges (length c.keys_to.new.keys)
linked c = record { measured = c.requires.linked.0.measured; filled = c.requires.linked.0.filled; numbers = c.keys_to.auto.keys ∙ c.requires.linked.0.numbers }

-- the portals are those of the least path
module _ (l : After-least_path-nodes) where
  abbrev nodes : List ℕ
  nodes = l.least_path-nodes.result.items

  abbrev path : List ℕ
  path = least_path (stored l.args.hall.now) (portal_graph (stored l.args.hall.now)) l.keys_to.new.keys (place_portal (sector_of l.args.source) l.args.pair.start)

  many : length nodes ≡ length path
  many = ap (λ (x : List ℕ). length x) l.least_path-nodes.ensures

  wrote : nodes ≡ path ++ drop (length nodes) []
  wrote = l.least_path-nodes.ensures ∙ sym (simp (drop-nil, append-nil))

pub keys_to-requires : goal.keys_to-requires
keys_to-requires c = record { lists = (c.requires.linked.0.numbers, end_low (goal.at.keys_to-requires c).Start); both_ways = c.requires.both_ways }

pub least_path-nodes-requires : goal.least_path-nodes-requires
least_path-nodes-requires c =
    let at_start = (goal.at.least_path-nodes-requires c).Start in
    let after_keys_to = (goal.at.least_path-nodes-requires c).After-keys_to in
    record { linked = (linked after_keys_to, start_low at_start, rw (keys_are after_keys_to) c.requires.linked.1.linked); by_index = (end at_start, end_low at_start, keys_are after_keys_to) }

pub offset_bounds-keys-p : goal.offset_bounds-keys-p
offset_bounds-keys-p c = omega (arith, start_low (goal.at.offset_bounds-keys-p c).Start, c.args.edges.few)

pub bounds-keys-p : goal.bounds-keys-p
bounds-keys-p c = omega (arith, start_low (goal.at.bounds-keys-p c).Start, (linked (goal.at.bounds-keys-p c).After-keys_to).numbers)

pub returns-then-list-steps : goal.returns-then-list-steps
returns-then-list-steps c =
    let l = (goal.at.returns-then-list-steps c).After-least_path-nodes in
    let both = pair_no_room _ (fits (goal.at.returns-then-list-steps c).Start) c.requires.linked.1 _ _ _ (keys_are (goal.at.returns-then-list-steps c).After-keys_to) (many l) (wrote l) _ c.args.pair.leg c.args.pair.last _
    (c.step_count-steps.ensures ∙ ap (λ (n : ℕ). n / 2 + 1) c.len.ensures.value) c.if-list-steps.true in
    record { answer = rw (c.from.ensures, c.from-2.ensures) both.0; steps = both.1 }

pub write_steps-requires : goal.write_steps-requires
write_steps-requires c =
    let l = (goal.at.write_steps-requires c).After-least_path-nodes in
    let linked = taken_path _ (fits (goal.at.write_steps-requires c).Start) c.requires.linked.1 _ _ _ (keys_are (goal.at.write_steps-requires c).After-keys_to) (many l) (wrote l) in
    rw c.as_slice.ensures.value (rw (take-length (nodes l)) at linked, omega (arith, c.step_count-steps.ensures, c.len.ensures.value, c.if-list-steps.false))

pub returns : goal.returns
returns c =
    let l = (goal.at.returns c).After-least_path-nodes in
    let both = pair_written _ (fits (goal.at.returns c).Start) c.requires.linked.1 _ _ _ (keys_are (goal.at.returns c).After-keys_to) (many l) (wrote l) _ c.args.pair.leg c.args.pair.last _
    (c.step_count-steps.ensures ∙ ap (λ (n : ℕ). n / 2 + 1) c.len.ensures.value) c.if-list-steps.false (rw (take-length (nodes l)) (rw c.as_slice.ensures.value at c.write_steps.ensures)) in
    record { answer = rw (c.from.ensures, c.from-2.ensures) both.0; steps = both.1 }
