-- `windows_on` counts the windows of a mark, or of none.
use Rattle.std.proofs.Common.{rules, tests}
use Rattle.builder.proofs.Altering.{windows_some, windows_none}
use Rattle.builder.proofs.change.windows_on.Goals as goal

pub returns : goal.returns
returns c = search (rules, tests, windows_some, windows_none)
