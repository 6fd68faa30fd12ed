-- `copy_part` puts the region of one list in place of that of the other.
use Rattle.fields.specs.Copies.{part_came}
use borrow.Author.Rules.{rules}
use Rattle.fields.proofs.copies.copy_part.Goals as goal

pub returns : goal.returns
returns c =
    let a = c.args in
    part_came a.from.now a.a a.n a.b a.to.now (search rules) c.put_part.ensures
