-- `least_path` follows the least path. The loop's invariant is `Growing`.
use native.Mathlib.Omega.{arith}
use mathlib.Core.Path.{◌∙◌}
use Prim.Native.Nat.{◌<◌}
use lib.ListN.{length}
use Rattle.model.specs.Portals.{portal_count}
use Rattle.path.specs.Following.{path_begins, path_at, path_room, path_on, path_some, path_ends}
use Rattle.path.proofs.least.least_path.Goals as goal
use Rattle.path.proofs.least.least_path.Goals.{At-loop-u}

at : (c : At-loop-u) → c.loop-u.u < portal_count c.args.edges.measures
at c = path_at c.requires.linked.0 c.loop-u.invariant

room : (c : At-loop-u) → length c.loop-u.nodes.items < portal_count c.args.edges.measures
room c = path_room c.requires.linked.0 c.loop-u.invariant

pub loop-u-init : goal.loop-u-init
loop-u-init c = let k = c.requires in rw c.new-nodes.ensures (path_begins k.linked.0 c.args.p k.linked.1 k.linked.2 k.by_index.0 k.by_index.1 k.by_index.2)

pub offset_bounds-keys-u : goal.offset_bounds-keys-u
offset_bounds-keys-u c = omega (arith, at c, c.args.edges.few)

pub bounds-keys-u : goal.bounds-keys-u
bounds-keys-u c = omega (arith, at (goal.at.bounds-keys-u c).At-loop-u, c.requires.linked.0.numbers)

pub unwrap-u-requires : goal.unwrap-u-requires
unwrap-u-requires c = path_some c.requires.linked.0 c.loop-u.invariant c.loop-u-test.true _ c.next_portal.ensures

pub push-requires : goal.push-requires
push-requires c = let few : length c.loop-u.nodes.items < 2000 = omega (arith, room (goal.at.push-requires c).At-loop-u, c.args.edges.few) in (omega arith, few)

pub loop-u-smaller : goal.loop-u-smaller
loop-u-smaller c = omega (arith, room (goal.at.loop-u-smaller c).At-loop-u, c.push.ensures.len)

pub loop-u-preserved : goal.loop-u-preserved
loop-u-preserved c = rw c.push.ensures.items (path_on c.requires.linked.0 c.loop-u.invariant c.loop-u-test.true (rw c.unwrap-u.ensures at c.next_portal.ensures))

pub overflow_cast-u-2 : goal.overflow_cast-u-2
overflow_cast-u-2 c = omega (arith, at (goal.at.overflow_cast-u-2 c).At-loop-u, c.args.edges.few)

pub push-requires-2 : goal.push-requires-2
push-requires-2 c = let few : length c.loop-u.nodes.items < 2000 = omega (arith, room (goal.at.push-requires-2 c).At-loop-u, c.args.edges.few) in (omega arith, few)

pub returns : goal.returns
returns c = c.push-2.ensures.items ∙ path_ends c.requires.linked.0 c.loop-u.invariant c.loop-u-test.false
