-- `next_portal` goes over a portal's arcs. The loop's invariant: the best of the arcs before a.
use native.Mathlib.Omega.{arith}
use mathlib.Core.Path.{◌∙◌}
use Rattle.laws.specs.Tracing.{next_suc}
use Rattle.path.specs.Following.{next_begins, next_ends}
use Rattle.path.proofs.least.next_portal.Goals as goal

pub loop-a-init : goal.loop-a-init
loop-a-init c = (next_begins c.args.edges.measures c.args.edges.weights.now _ _ _, tt)

pub loop-a-preserved : goal.loop-a-preserved
loop-a-preserved c = (next_suc _ _ _ _ _ _ _ c.loop-a.invariant.0 c.closer-best.ensures.is, c.closer-best.ensures.some)

pub returns : goal.returns
returns c = c.loop-a.invariant.0 ∙ next_ends c.args.edges.measures c.args.edges.weights.now _ _ _ _ (omega arith) (omega (arith, c.requires.1))
