-- `make_file` makes the file of a floor: the entries of the cells passed are in.
use native.Mathlib.Omega.{arith}
use Rattle.file.specs.Making.{made_small, made_all, making}
use borrow.Author.Rules.{rules}
use Rattle.file.proofs.made.make_file.Goals as goal
use Rattle.file.proofs.made.make_file.Goals.{then-cost-ne1, else-cost-ne1}

pub loop-n-init : goal.loop-n-init
loop-n-init c = (search (rules, making), search rules, search rules)

pub push-requires : goal.push-requires
push-requires c = (search rules, search (rules, making), search rules)

pub loop-n-preserved : goal.loop-n-preserved
loop-n-preserved c =
    elim c.if-cost-ne1.branch [
      | then-cost-ne1 w ↦ rw w.made-is (search (rules, making), search rules, search rules)
      | else-cost-ne1 w ↦ rw w.made-is (search (rules, making), search rules, search rules)
    ]

pub put_opening-requires : goal.put_opening-requires
put_opening-requires c =
    let s = c.loop-n.invariant.0 in
    (omega (arith, made_small s, c.requires.0), omega (arith, s.fits))

pub returns : goal.returns
returns c = made_all _ c.loop-n.invariant.0 (search rules) (grind arith) (grind arith)
