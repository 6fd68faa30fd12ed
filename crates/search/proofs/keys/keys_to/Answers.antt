-- `keys_to` ends in the least keys: at the outset the end portal waits, and where nobody does the list is certified.
use native.Mathlib.Omega.{arith}
use mathlib.Core.Path.{ap, refl}
use mathlib.Core.List.{List}
use Prim.Native.Nat.{ℕ, ◌≤◌}
use lib.ListN.{set, length-set}
use Rattle.laws.specs.Waiting.{waiting_over}
use Rattle.laws.specs.Extending.{keeps_itself}
use Rattle.laws.specs.Turns.{begins}
use Rattle.model.specs.Portals.{hall_portals, portal_count}
use Rattle.search.specs.Searching.{searchable_of}
use Rattle.search.specs.Keys.{keys_found}
use Rattle.search.proofs.keys.keys_to.Goals as goal
use Rattle.search.proofs.keys.keys_to.Goals.{Start}

room : (c : Start) → portal_count c.args.edges.measures ≤ hall_portals
room c = omega (arith, c.args.edges.few)

pub settle-requires : goal.settle-requires
settle-requires c = rw (length-set, length-set, c.fill.ensures.len) (record { numbers = c.requires.lists.0; room = room (goal.at.settle-requires c).Start })

pub returns : goal.returns
returns c =
    let sound = c.args.edges.sound in
    let costs = ap (λ (k : List ℕ). set k c.args.e 0) (c.fill.ensures.after (λ y e. e)) in
    let began = begins (searchable_of {edges = c.args.edges} (record { numbers = c.requires.lists.0; room = room (goal.at.returns c).Start })) c.requires.lists.1 (omega arith) costs refl in
    let kept = keeps_itself _ _ c.settle.new.keys c.settle.new.wait sound c.settle.ensures.kept _ _ began in
    keys_found sound c.requires.both_ways c.requires.lists.1 (waiting_over sound kept (λ v l. c.settle.ensures.over v (rw (length-set, c.fill.ensures.len) (omega arith))))
