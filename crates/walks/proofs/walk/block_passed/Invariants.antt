-- `block_passed` is the run of its steps, in the list and on the board.
use Rattle.laws.specs.Fold.{Ran}
use Rattle.model.specs.Scaling.{block_step}
use Rattle.walks.specs.Walks.{Turned, block_spot}
use Rattle.walks.proofs.walk.block_passed.Given as goal

abbrev pub invariant-loop-k : goal.invariant-loop-k
invariant-loop-k l =
    Ran (block_step l.from.sector l.from.index l.fn.d) l.n l.k l.initial.scaled l.scaled
    × Ran (block_spot l.from.corner l.from.index l.fn.d) l.n l.k l.initial.board l.board
    × Turned l.from.index l.fn.d l.k l.x l.y
