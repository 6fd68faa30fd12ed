-- `show_ten` copies ten cells of a row to their places; the list has them, so that no sum on the way wraps.
use Rattle.walks.specs.Showing.{row_more}
use Rattle.walks.proofs.board.show_ten.Goals as goal

pub returns : goal.returns
returns c =
    let a = c.args in
    row_more c.requires.0 a.y a.c c.requires.1 c.requires.2 c.requires.3 (rw c.from.ensures at c.copy_part.ensures)
