-- `fill` makes the levels one by one: before turn d those up to level d.
use Rattle.moves.proofs.Levels.{Made}
use Rattle.moves.proofs.spread.Spread.fill.Given as goal

abbrev pub invariant-loop-d : goal.invariant-loop-d
invariant-loop-d l = Made l.costs l.from l.d l.self-inside.levels l.self-inside.count
