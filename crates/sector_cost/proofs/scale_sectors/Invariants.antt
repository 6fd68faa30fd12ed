-- `scale_sectors` is the run over its sectors.
use mathlib.Core.Path.{◌≡◌}
use Rattle.laws.specs.Fold.{Ran}
use Rattle.model.specs.Sectors.{sectors}
use Rattle.model.specs.Scaling.{scale_sector}
use Rattle.walks.specs.Board.{board_of}
use Rattle.sector_cost.proofs.scale_sectors.Given as goal

abbrev pub invariant-loop-s : goal.invariant-loop-s
invariant-loop-s l = Ran (scale_sector l.m l.base) (sectors l.m) l.s l.initial.scaled l.scaled × (l.board ≡ board_of l.m l.scaled)
