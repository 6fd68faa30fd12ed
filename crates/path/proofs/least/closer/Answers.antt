-- `closer` takes the head of an arc that a least path goes along, where it is better.
use native.Mathlib.Omega.{arith}
use mathlib.Core.Path.{◌≡◌, sym, ap}
use mathlib.Core.Bool.{true}
use Prim.Native.Nat.{ℕ}
use lib.ListN.{get_or}
use Rattle.laws.specs.Tracing.{next_skip}
use Rattle.model.specs.Portals.{is_portal, arc_place, head_of}
use Rattle.store.specs.Stored.{stored}
use Rattle.graph.specs.EdgeTable.{bare}
use Rattle.graph.specs.Edges.{graph_of}
use Rattle.path.specs.Following.{portal_inside, leads_to, not_better, goes_there}
use Rattle.path.proofs.least.closer.Goals as goal
use Rattle.path.proofs.least.closer.Goals.{In-Some}

head_is : (n : In-Some) → n.in-Some.v ≡ head_of (bare n.args.edges.measures) n.args.u (arc_place n.args.a)
head_is n = rw n.requires.2 n.in-Some.ensures.0

there : (n : In-Some) → is_portal (stored n.args.hall.now) n.in-Some.v ≡ true
there n = leads_to n.requires.0 n.args.u n.args.a n.in-Some.v n.requires.2 (head_is n) n.requires.1 n.in-Some.ensures.1.real

pub better-requires : goal.better-requires
better-requires c = (there (goal.at.better-requires c).In-Some, c.requires.3)

pub returns-in-Some-clause-is : goal.returns-in-Some-clause-is
returns-in-Some-clause-is c =
    let t = c.in-Some.ensures.1 in
    goes_there c.args.edges.measures c.args.edges.weights.now _ _ _ c.requires.2 _ (head_is (goal.at.returns-in-Some-clause-is c).In-Some) _ _ t.real
    (omega (arith, t.exact, ap (λ (x : ℕ). get_or c.args.keys.now x 0) c.in-Some.ensures.0)) (c.better.ensures (graph_of c.args.edges) (portal_inside c.requires.0)) c.if-better.true

pub returns-in-Some-clause-some : goal.returns-in-Some-clause-some
returns-in-Some-clause-some c = there (goal.at.returns-in-Some-clause-some c).In-Some

pub returns-in_default-clause-is : goal.returns-in_default-clause-is
returns-in_default-clause-is c =
    not_better c.args.edges.measures c.args.edges.weights.now _ _ _ c.requires.2 _ (head_is (goal.at.returns-in_default-clause-is c).In-Some) _ _ (c.better.ensures (graph_of c.args.edges) (portal_inside c.requires.0)) c.if-better.false

pub returns-in_default-2-clause-is : goal.returns-in_default-2-clause-is
returns-in_default-2-clause-is c = next_skip _ _ _ _ _ _ (λ p q r. c.in_default.ensures (record { leaves = sym c.requires.2; real = p; exact = q }))
