-- `sector_mids` takes the midpoint of each place.
use Prim.Native.Nat.{◌+◌, ◌*◌}
use Rattle.laws.specs.Table.{Tabled}
use Rattle.store.specs.Stored.{stored}
use Rattle.model.specs.Portals.{sector_portals}
use Rattle.graph.specs.Near.{mid_of}
use Rattle.graph.proofs.near.sector_mids.Given as goal

abbrev pub invariant-loop-c : goal.invariant-loop-c
invariant-loop-c l = Tabled (λ k. mid_of (stored l.hall) (l.s * sector_portals + k)) sector_portals l.c l.mid-items
