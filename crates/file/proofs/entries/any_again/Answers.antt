-- `any_again` answers refusal 28: no entry passed was met before, and the floor numbers of those passed are marked.
use Rattle.std.proofs.Common.{arith}
use Rattle.file.specs.Entries.{entry_marked, unrepeated_none, repeated, unrepeated_turn}
use Rattle.file.proofs.entries.any_again.Goals as goal

pub loop-k-init : goal.loop-k-init
loop-k-init c = unrepeated_none c.args.file.now

pub returns-then-met-number : goal.returns-then-met-number
returns-then-met-number c =
    let r = c.requires in
    repeated c.loop-k.invariant (omega arith) (entry_marked c.args.file.now c.loop-k.k r.1 r.2 (omega arith)) (rw (← c.of-entries.ensures.0) c.number-number.ensures) c.if-met-number.true

pub loop-k-preserved : goal.loop-k-preserved
loop-k-preserved c =
    let r = c.requires in
    unrepeated_turn c.loop-k.invariant (omega arith) (entry_marked c.args.file.now c.loop-k.k r.1 r.2 (omega arith)) (rw (← c.of-entries.ensures.0) c.number-number.ensures) c.if-met-number.false
