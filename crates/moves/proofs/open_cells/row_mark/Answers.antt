-- `row_mark` is the mark of its ten cells.
use Rattle.std.specs.Prelude.{◌+◌, ◌*◌}
use Rattle.std.proofs.Common.{rules}
use Rattle.model.specs.Costs.{open_at}
use Rattle.moves.specs.Levels.{open_row}
use Rattle.moves.proofs.open_cells.row_mark.Goals as goal

pub returns : goal.returns
unfolding open_row
returns c = c.mark_of.ensures (λ x. open_at c.args.costs.now (c.args.y * 10 + x)) (λ x o l e. search rules)
