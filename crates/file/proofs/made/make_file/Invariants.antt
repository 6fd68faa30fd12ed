-- `make_file` makes the file of a floor: the entries of the cells passed are in.
use mathlib.Core.Path.{◌≡◌}
use Rattle.file.specs.Making.{Made}
use Rattle.file.proofs.made.make_file.Given as goal

abbrev pub invariant-loop-n : goal.invariant-loop-n
invariant-loop-n l =
    Made l.base l.initial.made.file.now l.initial.made.count l.n l.made.put l.made.file.now × (l.made.count ≡ l.initial.made.count) × (l.made.file.ghost_name ≡ l.initial.made.file.ghost_name)
