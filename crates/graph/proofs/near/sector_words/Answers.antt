-- `sector_words` takes the words of the sector's costs.
use mathlib.Core.Path.{ap, ◌∙◌}
use Rattle.moves.specs.Levels.{open_words}
use Rattle.graph.specs.Reading.{sector_read}
use Rattle.graph.proofs.near.sector_words.Goals as goal

pub returns : goal.returns
returns c =
    c.open_words.ensures ∙ ap open_words (sector_read c.args.hall.now.opened _ c.sector.ensures.0)
