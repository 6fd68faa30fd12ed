-- `portal_moves` reads the moves at the midpoint of each place.
use native.Mathlib.Omega.{arith}
use Rattle.store.specs.Stored.{stored}
use Rattle.graph.specs.Near.{near_list}
use Rattle.graph.proofs.near.portal_moves.Goals as goal

pub returns : goal.returns
returns c = near_list (stored c.args.hall.now) c.args.x c.moves_from.ensures c.sector_mids.ensures c.loop-c.invariant.0 (λ k l. c.loop-c.invariant.1 k (omega arith))
