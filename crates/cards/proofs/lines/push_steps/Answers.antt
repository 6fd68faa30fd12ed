-- `push_steps` puts one step after the other behind the text.
use Rattle.std.proofs.Common.{arith}
use Rattle.cards.proofs.Texts.{steps_none, steps_more}
use Rattle.cards.proofs.lines.push_steps.Goals as goal

pub loop-k-init : goal.loop-k-init
loop-k-init g c = (steps_none _ _, omega arith)

pub loop-k-preserved : goal.loop-k-preserved
loop-k-preserved g c = (steps_more _ _ c.loop-k.k c.loop-k.invariant.0 c.step_in.ensures c.push_step.ensures.written, omega (arith, c.loop-k.invariant.1, c.push_step.ensures.short))
