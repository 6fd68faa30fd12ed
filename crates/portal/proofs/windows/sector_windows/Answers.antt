-- `windows::sector_windows` meets its contract: after k turns the list begins with the windows of the first k sides.
use Rattle.std.proofs.Common.{◌∙◌, length-append}
use Rattle.std.proofs.lemmas.Slice.Zip.{zip_turn}
use Rattle.model.specs.declared.Side.TheVariants.{North}
use Rattle.fields.specs.declared.sides.TheConstants.{SIDES}
use Rattle.fields.specs.Sides.{sides_at}
use borrow.Author.Rules.{rules}
use Rattle.portal.proofs.Entries.{sector_start, sector_turn, triple_fits}
use Rattle.portal.proofs.windows.sector_windows.Goals as goal

pub overflow_mul-count : goal.overflow_mul-count
overflow_mul-count c = triple_fits c.loop-side.invariant (search rules)

pub slice_bounds-side_windows-count : goal.slice_bounds-side_windows-count
slice_bounds-side_windows-count c = sector_start c.loop-side.invariant (search rules)

pub slice_bounds-side_windows-start : goal.slice_bounds-side_windows-start
slice_bounds-side_windows-start c = sector_start c.loop-side.invariant (search rules)

pub loop-side-preserved : goal.loop-side-preserved
loop-side-preserved c =
    let t = zip_turn SIDES c.args.marks _ _ _ c.next.new.self _ (search rules) (search rules) c.loop-side.yielded_by _ c.in-Some.is c.next.ensures.steps in
    let wrote = rw (t.3 0) at c.side_windows-count.ensures in
    rw length-append (sector_turn c.loop-side.invariant t.0 (search rules) (t.2 North ∙ sides_at _ North t.0) wrote.0 wrote.1)
