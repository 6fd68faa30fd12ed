-- `fill_places` takes the edge at each place of one portal.
use Rattle.graph.specs.EdgeTable.{row_more, row_all}
use Rattle.graph.proofs.edges.fill_places.Goals as goal

pub loop-c-preserved : goal.loop-c-preserved
loop-c-preserved c = row_more c.loop-c.invariant c.loop-c-test.true c.requires.1 c.edge_at.ensures

pub returns : goal.returns
returns c = row_all c.loop-c.invariant c.loop-c-test.false
