-- `push_bytes`: fewer than four bytes are cut, and four are a pair.
use Rattle.std.proofs.Common.{◌∙◌}
use borrow.Author.Rules.{rules}
use Rattle.hallroute.proofs.Printing.{cut_line, whole_line}
use Rattle.hallroute.proofs.lines.push_bytes.Goals as goal

pub returns-then-pair-lt4 : goal.returns-then-pair-lt4
returns-then-pair-lt4 c = c.push_str.ensures.bytes ∙ rw c.clear.ensures (cut_line _ c.args.pair.now c.requires.0 c.if-pair-lt4.true)

pub returns : goal.returns
returns c = c.push_pair.ensures ∙ whole_line _ c.args.pair.now c.requires.1 c.if-pair-lt4.false (search rules) (search rules)
