-- `cells_mark` is the mark of its ten places.
use Rattle.std.proofs.Common.{rules}
use Rattle.portal.specs.Marks.{open_between}
use Rattle.portal.proofs.marks.cells_mark.Goals as goal

pub returns : goal.returns
returns c = c.mark_of.ensures (open_between c.args.costs.now c.args.s c.args.cells.own c.args.t c.args.cells.facing) (λ i o l e. search rules)
