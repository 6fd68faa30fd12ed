-- `of_store` gives the filled list: its arcs are those of the portal graph.
use Rattle.graph.specs.Reading.{accepted_of}
use Rattle.graph.specs.Edges.{filled_long, filled_sound, filled_light, filled_both_ways}
use Rattle.graph.proofs.table.Edges.of_store.Goals as goal

pub invariant_of-result : goal.invariant_of-result
invariant_of-result c =
    let passed = c.args.hall.now.opened in
    let filled = c.fill_edges.ensures in
    let fits = accepted_of passed in
    record {
      few = fits.few_sectors;
      few_rows = fits.few_rows;
      long = filled_long passed filled;
      sound = filled_sound passed filled;
      light = filled_light passed filled;
    }

pub returns-clause-both_ways : goal.returns-clause-both_ways
returns-clause-both_ways c = ∣ filled_both_ways c.args.hall.now.opened c.fill_edges.ensures ∣₁
