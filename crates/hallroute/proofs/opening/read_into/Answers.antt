-- `read_into` reads the file and builds its hall: a refusal of either is the file's.
use Rattle.std.proofs.Common.{◌∙◌}
use Rattle.model.specs.Numbers.{number_on}
use Rattle.hallroute.proofs.Reading.{file_refused, file_built}
use borrow.Author.Rules.{rules}
use Rattle.hallroute.proofs.opening.read_into.Goals as goal

pub returns-in_err-m : goal.returns-in_err-m
returns-in_err-m c =
    let both = file_refused _ _ _ c.requires.0 _ c.in_err-m.ensures.answer.number_is in
    record { number = number_on _ _ c.from_residual.ensures.1 ∙ both.0; store = both.1 }

pub returns : goal.returns
returns c =
    let both = file_built _ _ _ c.requires.0 c.requires.1 c.in_ok-m.ensures.answer (search rules) c.read_file.ensures.filled c.build.ensures.answer c.build.ensures.store in
    record { number = both.0; store = both.1 }
