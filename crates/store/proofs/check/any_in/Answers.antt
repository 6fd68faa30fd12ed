-- `any_in` searches a line of sectors.
use Rattle.std.proofs.Common.{rules, tests, refl}
use Rattle.laws.specs.Ranges.{any_range}
use Rattle.model.specs.Cells.{side_number}
use Rattle.store.specs.Stored.{held}
use Rattle.store.specs.Ends.{line_mark}
use Rattle.store.proofs.check.any_in.Goals as goal

pub returns : goal.returns
returns c =
    any_range (line_mark (held c.args.store.now).marks c.args.line (side_number c.args.side)) _ _ _ _ _ c.any.ensures.ran refl (λ x b q k. search (rules, tests))
