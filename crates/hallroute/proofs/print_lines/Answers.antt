-- `print_lines` prints what the definition gives for the input.
use Rattle.laws.specs.Table.{tabulate}
use Rattle.hallroute.specs.Printed.{too_long, short}
use Rattle.hallroute.proofs.print_lines.Goals as goal

pub returns-then-input-gt65536 : goal.returns-then-input-gt65536
unfolding tabulate
returns-then-input-gt65536 g c = rw (too_long c.args.input.now c.if-input-gt65536.true) c.write_all.ensures.bytes

pub returns : goal.returns
returns g c = rw (short c.args.input.now c.if-input-gt65536.false, ← c.file_size.ensures.0, ← c.split_at.ensures.front, ← c.split_at.ensures.back) c.print_hall.ensures
