-- `better` answers by the two ranks, where there is a best yet.
use native.Mathlib.Omega.{arith}
use Rattle.path.specs.Following.{better_none, better_some}
use Rattle.path.proofs.least.better.Goals as goal

pub returns-in-None : goal.returns-in-None
returns-in-None c = λ g inside. rw c.in-None.is (better_none g _ _)

pub returns-in-Some : goal.returns-in-Some
returns-in-Some c = λ g inside. rw c.in-Some.is (better_some g _ _ c.in-Some.best (λ z. omega (arith, z, inside _ (rw c.in-Some.is at c.requires.1))) c.node_rank.ensures c.node_rank-in-Some.ensures)
