-- `file_size` is the size of the file: all of a short input, and else what its count says.
use mathlib.Core.Path.{◌∙◌}
use Rattle.hallroute.proofs.Reading.{size_head, size_counted}
use borrow.Author.Rules.{rules}
use Rattle.hallroute.proofs.opening.file_size.Goals as goal

pub returns-then-input-lt5 : goal.returns-then-input-lt5
returns-then-input-lt5 c = search (rules, size_head)

pub returns : goal.returns
returns c = size_counted _ (c.from.ensures ∙ c.u16_at.ensures) c.if-input-lt5.false c.min.ensures
