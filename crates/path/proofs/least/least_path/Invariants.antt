-- `least_path` follows the least path. The loop's invariant is `Growing`.
use Prim.Native.Nat.{◌-◌}
use lib.ListN.{length}
use Rattle.model.specs.Portals.{portal_count}
use Rattle.path.specs.Following.{Growing}
use Rattle.path.proofs.least.least_path.Given as goal

abbrev pub invariant-loop-u : goal.invariant-loop-u
invariant-loop-u l = Growing l.edges l.hall l.keys l.p l.nodes.items l.u

abbrev pub decreases-loop-u : goal.decreases-loop-u
decreases-loop-u l = portal_count l.edges.measures - length l.nodes.items
