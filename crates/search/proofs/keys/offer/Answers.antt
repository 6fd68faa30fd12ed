-- `offer` takes one arc: at each early return it offers nothing, and at the end its offer is taken.
use Rattle.std.proofs.Common.{rules, tests}
use Rattle.search.specs.Searching.{skips, declines, accepts}
use Rattle.search.proofs.keys.offer.Goals as goal

pub returns-then-w-eq0-clause-taken : goal.returns-then-w-eq0-clause-taken
returns-then-w-eq0-clause-taken c = skips _ _ _ _ _ _ c.requires.2 c.if-w-eq0.true

pub returns-then-not-gains-clause-taken : goal.returns-then-not-gains-clause-taken
returns-then-not-gains-clause-taken c = declines _ _ _ _ _ _ c.requires.2 _ c.head_of-v.ensures (search (rules, tests))

pub returns-then-not-waited-clause-taken : goal.returns-then-not-waited-clause-taken
returns-then-not-waited-clause-taken c = accepts _ _ _ _ _ _ c.requires.2 _ c.head_of-v.ensures (search (rules, tests)) (search (rules, tests))

pub returns-else-not-waited-clause-taken : goal.returns-else-not-waited-clause-taken
returns-else-not-waited-clause-taken c = accepts _ _ _ _ _ _ c.requires.2 _ c.head_of-v.ensures (search (rules, tests)) (search (rules, tests))
