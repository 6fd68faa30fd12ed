-- `fill` makes the levels one by one.
use borrow.Author.Rules.{rules}
use Rattle.moves.proofs.Levels.{first_made, next_made}
use Rattle.moves.proofs.spread.Spread.fill.Goals as goal

pub loop-d-init : goal.loop-d-init
loop-d-init c = first_made _ c.requires.2 _ c.self.told c.first_level.ensures

pub loop-d-preserved : goal.loop-d-preserved
loop-d-preserved c = next_made c.requires.2 c.loop-d.invariant (search rules) c.requires.1 c.loop-d-test.true c.grown-level.ensures
