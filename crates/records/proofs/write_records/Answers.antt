-- `write_records`: in a turn the next record becomes the next step.
use Rattle.std.proofs.Common.{arith, sym}
use Rattle.records.specs.Filling.{filled_none, filled_next}
use Rattle.records.proofs.write_records.Goals as goal

pub loop-i-init : goal.loop-i-init
loop-i-init c = sym (filled_none c.args.flat.now c.args.list.now)

pub loop-i-preserved : goal.loop-i-preserved
loop-i-preserved c = rw (c.step_in.ensures, c.loop-i.invariant) (filled_next c.args.flat.now c.args.list.now c.loop-i.i (omega (arith, c.loop-i-test.true)))
