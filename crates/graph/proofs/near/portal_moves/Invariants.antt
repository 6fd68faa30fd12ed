-- `portal_moves` reads the moves at the midpoint of each place.
use Prim.Native.Nat.{ℕ, ◌<◌}
use mathlib.Core.Path.{◌≡◌}
use lib.ListN.{length, get_or}
use Rattle.std.specs.Prelude.{None}
use Rattle.model.specs.Portals.{sector_portals}
use Rattle.moves.specs.Levels.{moves_or_none}
use Rattle.graph.specs.Near.{near_by}
use Rattle.graph.proofs.near.portal_moves.Given as goal

abbrev pub invariant-loop-c : goal.invariant-loop-c
invariant-loop-c l = (length l.near ≡ sector_portals) × ((k : ℕ) → k < l.c → get_or l.near k None ≡ moves_or_none (near_by l.spread (get_or l.mid-items k 0)))
