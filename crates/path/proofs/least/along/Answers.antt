-- `along` looks at one arc: at each early return no least path goes along it.
use native.Mathlib.Omega.{arith}
use lib.ListN.{get_or}
use borrow.Author.Tests.{eqb-true, eqb-false}
use Rattle.path.specs.Following.{tight_where}
use Rattle.path.proofs.least.along.Goals as goal

pub returns-then-w-eq0 : goal.returns-then-w-eq0
returns-then-w-eq0 c = λ t. omega (arith, t.real, c.if-w-eq0.true)

pub returns-in_err-rest : goal.returns-in_err-rest
returns-in_err-rest c = rw c.from_residual.ensures (λ t. omega (arith, t.exact, c.in_err-rest.ensures))

pub returns : goal.returns
returns c =
    let rest = c.in_ok-rest.rest in
    let key = get_or c.args.keys.now c.head_of-v.result 0 in
    rw c.then_some.ensures (tight_where c.args.edges.measures c.args.edges.weights.now _ _ _ c.requires.2 _ c.head_of-v.ensures _ (omega arith)
    (λ e. omega (arith, eqb-true rest key e, c.in_ok-rest.ensures)) (λ e z. omega (arith, z, eqb-false rest key e, c.in_ok-rest.ensures)))
