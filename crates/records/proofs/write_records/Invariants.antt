-- `write_records`: in a turn the first i records are the steps of the flat list.
use Rattle.std.proofs.Common.{◌≡◌}
use Rattle.records.specs.Filling.{filled}
use Rattle.records.proofs.write_records.Given as goal

abbrev pub invariant-loop-i : goal.invariant-loop-i
invariant-loop-i l = l.list ≡ filled l.flat l.initial.list l.i
