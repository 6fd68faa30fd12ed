-- `block_passed` is the run of its steps, in the list and on the board.
use Prim.Native.Nat.{◌+◌}
use mathlib.Core.Path.{◌∙◌}
use Rattle.laws.specs.Fold.{ran_turn, counting}
use Rattle.walks.specs.Walks.{Turned, turned_none, turned_more, step_is, spot_is}
use borrow.Author.Rules.{rules}
use Rattle.walks.proofs.walk.block_passed.Goals as goal
use Rattle.walks.proofs.walk.block_passed.Goals.{After-turned-y}

-- the step that a turn makes
turn : (c : After-turned-y) → Turned c.args.from.index c.args.d (c.loop-k.k + 1) c.turned-x.result c.turned-y.result
turn c =
    let c = c in
    let by = c.shift_of-by.ensures in
    turned_more (search rules) (search rules) c.loop-k.invariant.2 (rw by.0 at c.turned-x.ensures.0) (rw by.1 at c.turned-y.ensures.0)

pub loop-k-init : goal.loop-k-init
loop-k-init c = (search (rules, counting), search (rules, counting), turned_none _ _ (search rules))

pub loop-k-preserved : goal.loop-k-preserved
loop-k-preserved c =
    let h = turn (goal.at.loop-k-preserved c).After-turned-y in
    (ran_turn c.loop-k.invariant.0 (search rules) (c.block_cell.ensures.list ∙ step_is c.loop-k.k h _ _) (search rules), ran_turn c.loop-k.invariant.1 (search rules) (c.block_cell.ensures.place ∙ spot_is c.loop-k.k h _ _) (search rules), h)
