-- `show_row` shows a row ten cells at a time; past its last sector there are walls.
use native.Mathlib.Omega.{arith}
use Rattle.walks.specs.Showing.{showing_at, row_end}
use borrow.Author.Rules.{rules}
use Rattle.walks.proofs.board.show_row.Goals as goal

pub returns : goal.returns
returns c =
    row_end c.requires.0 c.args.y (search rules) (showing_at c.loop-c.invariant.1 (omega arith))
