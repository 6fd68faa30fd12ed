-- `walk_line` stops at the first step that meets a wall: the place that it keeps is that of the step made last.
use Prim.Native.Nat.{◌+◌, ◌-◌}
use mathlib.Core.Path.{◌≡◌, refl, sym, ◌∙◌, ap}
use mathlib.Core.Bool.{not}
use Rattle.laws.specs.Search.{sought_yes}
use Rattle.walks.specs.Lines.{Reached, reached_next, blocked_on, blocked_is}
use borrow.Author.Rules.{rules}
use Rattle.walks.proofs.walk.walk_line.Goals as goal
use Rattle.walks.proofs.walk.walk_line.Goals.{After-is_open}

-- after a step, at is its place
stepped : (c : After-is_open) → let a = c.args in Reached a.a a.step a.n (c.walk.passed + 1) (c.walk.at + a.step - 121)
stepped c = reached_next c.requires.0 c.walk.invariant.1 (search rules) refl

-- and what is read there is whether it meets a wall
blocked : (c : After-is_open) → let a = c.args in not c.is_open.result ≡ blocked_on a.board.now a.a a.step c.walk.passed
blocked c = blocked_is _ _ (stepped c) c.is_open.ensures

pub returns-then-not-is_open : goal.returns-then-not-is_open
returns-then-not-is_open c = let i = c.walk.invariant.0 in sought_yes _ _ _ refl (search rules) i.clear (sym (blocked (goal.at.returns-then-not-is_open c).After-is_open) ∙ ap not c.if-not-is_open.true)
