-- `any_off` answers refusal 15: no entry passed was too large.
use Rattle.std.proofs.Common.{◌∙◌, ap, arith, rules}
use borrow.Author.Tests.{le-leb, lt-leb}
use Rattle.laws.specs.Search.{any_found, clear_turn, seeking}
use Rattle.model.specs.Sectors.{cells}
use Rattle.file.specs.Entries.{off_is}
use Rattle.file.proofs.entries.any_off.Goals as goal

pub returns-then-size-number : goal.returns-then-size-number
returns-then-size-number c =
    any_found c.loop-k.invariant (omega arith) (off_is _ _ (c.cells-size.ensures ∙ ap cells c.measures_at.ensures) (rw (← c.of-entries.ensures.0) c.number.ensures)) (le-leb _ _ c.if-size-number.true)

pub loop-k-preserved : goal.loop-k-preserved
loop-k-preserved c =
    clear_turn c.loop-k.invariant (omega arith) (off_is _ _ (c.cells-size.ensures ∙ ap cells c.measures_at.ensures) (rw (← c.of-entries.ensures.0) c.number.ensures)) (lt-leb _ _ c.if-size-number.false)

pub returns : goal.returns
returns c = search (rules, seeking)
