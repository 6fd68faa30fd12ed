-- `take_arcs` takes the arcs of one number. The loop's invariant: those before a are taken, and the work has not risen.
use native.Mathlib.Omega.{arith}
use mathlib.Core.Path.{◌≡◌, ◌∙◌}
use native.Mathlib.Nat.{le_trans}
use Prim.Native.Nat.{◌≤◌, ◌<◌}
use lib.ListN.{length}
use Rattle.laws.specs.Waiting.{work_arc}
use Rattle.laws.specs.Extending.{turn_arc, turn_ends}
use Rattle.model.specs.Portals.{portal_count, arc_count}
use Rattle.search.specs.Turns.{arcs_of}
use Rattle.search.proofs.keys.take_arcs.Goals as goal

pub loop-a-preserved : goal.loop-a-preserved
loop-a-preserved c =
    let took = c.offer.ensures.taken in
    let in_arcs : c.loop-a.a < arc_count c.args.edges.measures = omega arith in
    let numbers : length c.loop-a.keys ≡ portal_count c.args.edges.measures = c.loop-a.auto.keys ∙ c.requires.0.numbers in
    let room : portal_count c.args.edges.measures ≤ length c.loop-a.wait = omega arith in (
      c.offer.ensures.head ∙ c.loop-a.invariant.0,
      λ g o r ext s top w.
          rw (took.0, took.1) (turn_arc ext c.args.edges.sound o r c.loop-a.keys c.loop-a.wait numbers room in_arcs (omega arith) (c.loop-a.invariant.1 g o r ext s top w)),
      rw (took.0, took.1) (le_trans (work_arc c.args.edges.sound c.loop-a.keys c.loop-a.wait c.loop-a.a numbers room in_arcs) c.loop-a.invariant.2),
    )

pub returns-clause-served : goal.returns-clause-served
returns-clause-served c = record {
  done = λ g o r ext s top w.
      turn_ends ext c.args.edges.sound o r c.requires.1 (arcs_of c.args.edges.measures c.args.edges.weights.now c.args.u) c.loop-a.keys c.loop-a.wait c.loop-a-test.false (c.loop-a.invariant.1 g o r ext s top w);
  light = c.loop-a.invariant.2;
}
