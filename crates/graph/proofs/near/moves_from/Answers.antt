-- `moves_from` spreads over the sector's costs.
use mathlib.Core.Path.{sym, ap, ◌∙◌}
use mathlib.Core.List.{List}
use Prim.Native.Nat.{ℕ}
use native.Mathlib.Omega.{arith}
use Rattle.model.specs.Moves.{moves}
use Rattle.model.specs.Sectors.{place_of}
use Rattle.moves.specs.Levels.{open_words}
use Rattle.graph.specs.Reading.{sector_read}
use Rattle.graph.proofs.near.moves_from.Goals as goal

pub fill-requires : goal.fill-requires
fill-requires c =
    (c.sector.ensures.1, c.requires.1 ∙ ap open_words (sym (sector_read c.args.hall.now.opened _ c.sector.ensures.0)), omega arith)

pub returns : goal.returns
returns c =
    c.fill.ensures ∙ ap (λ (k : List ℕ). moves k (place_of c.args.x)) (sector_read c.args.hall.now.opened _ c.sector.ensures.0)
