-- `take_marks` takes the marks of a store over, one after the other.
use mathlib.Core.Path.{refl}
use Rattle.laws.specs.Fold.{ran_turn, counting}
use Rattle.laws.specs.Each.{each_end}
use Rattle.model.specs.Store.{marks_in}
use borrow.Author.Rules.{rules}
use Rattle.builder.proofs.Marking.{kept_set}
use Rattle.builder.proofs.marks.take_marks.Goals as goal

pub loop-k-init : goal.loop-k-init
loop-k-init c = search (rules, counting)

pub loop-k-preserved : goal.loop-k-preserved
loop-k-preserved c = ran_turn c.loop-k.invariant (search rules) (kept_set _ _ _ _ (search rules) c.mark.ensures) (search rules)

pub returns : goal.returns
unfolding marks_in
returns c = each_end _ c.loop-k.invariant (search rules) refl (search rules)
