-- `keys_to_goal` has the goal's turn, then those of all that wait: the list is then certified for the graph with the goal.
use native.Mathlib.Omega.{arith}
use mathlib.Core.Path.{◌≡◌, ap, ◌∙◌}
use Rattle.std.proofs.lemmas.List.{take-replicate, length-replicate}
use mathlib.Core.Bool.{Bool, false}
use mathlib.Core.List.{[], ◌∷◌}
use lib.ListN.{length}
use Rattle.model.specs.LeastPath.{unlinked}
use Rattle.laws.specs.Starts.{starts_extends, starts_none, starts_all, starts_over}
use Rattle.model.specs.Portals.{sector_portals, hall_portals, portal_count}
use Rattle.graph.specs.Edges.{graph_of}
use Rattle.choice.specs.Ends.{end_at, end_cost, ends_graph, ends_nearest}
use Rattle.choice.proofs.ends.keys_to_goal.Goals as goal

pub returns : goal.returns
returns c =
    let edges = c.args.edges in
    let sound = edges.sound in
    let g = graph_of edges in
    let to = end_at c.args.q in
    let cost = end_cost c.args.lasts.now in
    let numbers : length c.offer_ends.new.keys ≡ portal_count edges.measures = c.offer_ends.auto.keys ∙ c.fill.ensures.len ∙ c.requires.lists.0 in
    let zeros = take-replicate {X = Bool} (length c.args.keys.now) hall_portals false (omega (arith, edges.few)) in
    let waits : length c.offer_ends.new.wait ≡ portal_count edges.measures = c.offer_ends.auto.wait ∙ ap length zeros ∙ length-replicate {A = Bool} (length c.args.keys.now) false ∙ c.requires.lists.0 in
    let begun = starts_none g sector_portals to cost sound (λ j l. omega arith) unlinked (omega arith) c.requires.lists.0 c.requires.lists.0 (c.fill.ensures.after (λ y e. e)) zeros in
    let waiting = starts_all g sector_portals to cost sound (λ j l. omega arith) c.offer_ends.new.keys c.offer_ends.new.wait (c.offer_ends.ensures.begun g sound (c.fill.ensures.len ∙ c.requires.lists.0) begun) in
    let kept = c.settle.ensures.kept (ends_graph g c.args.q c.args.lasts.now) (0 ∷ []) (false ∷ []) (starts_extends g sector_portals to cost sound (λ j l. omega arith)) g.nodes unlinked waiting in
    let settled =
    starts_over g sector_portals to cost sound (λ j l. omega arith) c.settle.new.keys c.settle.new.wait (c.settle.auto.wait ∙ waits) kept (λ v l. c.settle.ensures.over v (omega (arith, numbers))) in
    ends_nearest c.args.q c.args.lasts.now c.settle.new.keys c.offer_ends.ensures.light sound c.requires.both_ways (omega (arith, edges.few)) edges.light c.requires.lists.1 (c.settle.auto.keys ∙ numbers) settled
