-- `print_hall` prints the lines of the pairs where the hall opened, and else the line of its refusal.
use Rattle.hallroute.specs.Printed.{file_refused, file_opened}
use Rattle.hallroute.proofs.print_hall.Goals as goal

pub returns-in-Ok : goal.returns-in-Ok
returns-in-Ok g c = rw (file_opened c.args.file.now c.args.pairs.now _ c.in-Ok.ensures.number c.open_hall.ensures.store) c.print_pairs.ensures

pub returns-in-Err : goal.returns-in-Err
returns-in-Err g c = rw (file_refused c.args.file.now c.args.pairs.now c.in-Err.refusal c.in-Err.ensures.number) c.print_refused.ensures
