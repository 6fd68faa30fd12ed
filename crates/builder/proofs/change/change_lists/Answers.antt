-- `change_lists` takes the lists of a store over, sets the cost, rescales and marks afresh.
use mathlib.Core.Path.{◌∙◌}
use Rattle.builder.proofs.Altering.{changed_by}
use Rattle.builder.proofs.change.change_lists.Goals as goal

pub returns : goal.returns
returns c =
    changed_by _ c.args.hall.now.opened.read _ _
    (c.copy_from_slice.ensures.after ∙ c.base.ensures.0)
    (c.copy_from_slice-2.ensures.after ∙ c.scaled.ensures.0)
    c.rescale.ensures c.take_marks.ensures c.remark.ensures
