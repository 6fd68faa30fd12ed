-- `fill_edges` fills the table sector by sector. The loop's invariant: the weights of the sectors before s stand in it.
use native.Mathlib.Omega.{arith}
use mathlib.Core.Path.{◌≡◌, sym, ap, ◌∙◌}
use Prim.Native.Nat.{ℕ, ◌*◌}
use Rattle.laws.specs.Table.{tabled_none}
use Rattle.model.specs.Sectors.{sectors}
use Rattle.store.specs.Stored.{stored}
use Rattle.model.specs.Portals.{sector_arcs}
use Rattle.graph.specs.EdgeTable.{filled_all}
use Rattle.graph.specs.Reading.{measures_are}
use Rattle.graph.proofs.edges.fill_edges.Goals as goal
use Rattle.graph.proofs.edges.fill_edges.Goals.{Start}

are : (c : Start) → sectors (stored c.args.hall.now).measures ≡ sectors c.args.hall.now.store.measures
are c = ap sectors (measures_are c.args.hall.now.opened)

pub loop-s-init : goal.loop-s-init
loop-s-init c = tabled_none _ _ _ (c.requires ∙ ap (λ (k : ℕ). k * sector_arcs) (sym (are (goal.at.loop-s-init c).Start)))

pub returns : goal.returns
returns c = filled_all (stored c.args.hall.now) c.loop-s.invariant (omega (arith, c.loop-s-test.false, are (goal.at.returns c).Start, c.sectors-s-end.ensures))
