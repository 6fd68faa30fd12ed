-- `mark_all` marks the sides one after the other.
use mathlib.Core.Path.{refl}
use Rattle.laws.specs.Fold.{ran_turn, counting}
use Rattle.laws.specs.Each.{each_end}
use Rattle.model.specs.Windows.{marks_of}
use borrow.Author.Rules.{rules}
use Rattle.builder.proofs.Marking.{fresh_set}
use Rattle.builder.proofs.marks.mark_all.Goals as goal

pub loop-k-init : goal.loop-k-init
loop-k-init c = search (rules, counting)

pub loop-k-preserved : goal.loop-k-preserved
loop-k-preserved c = ran_turn c.loop-k.invariant (search rules) (fresh_set _ _ _ _ _ _ _ refl refl c.side_mark.ensures) (search rules)

pub returns : goal.returns
unfolding marks_of
returns c = each_end _ c.loop-k.invariant (search rules) refl (search rules)
