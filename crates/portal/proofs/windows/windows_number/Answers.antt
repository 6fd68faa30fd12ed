-- `windows::windows_number` meets its contract: it sums the ones that begin a window, which are few.
use Rattle.std.proofs.Common.{rules, tests, arith, ◌∙◌}
use Rattle.std.proofs.lemmas.Iterator.{YieldsList-from_slice, YieldsList-from_map}
use Rattle.std.proofs.lemmas.Iterator.Consumers.{sum_by_from_yields_List, fits_by_from_yields_list}
use Rattle.portal.specs.Runs.{starts}
use Rattle.portal.proofs.Entries.{sum_few, sum_is}
use Rattle.portal.proofs.windows.windows_number.Goals as goal

pub sum-requires-clause-fits : goal.sum-requires-clause-fits
sum-requires-clause-fits c = fits_by_from_yields_list starts c.args.marks _ _ (YieldsList-from_map _ starts (YieldsList-from_slice c.args.marks cc) c.map.ensures.closure (λ x r q k. search (rules, tests))) (let few = sum_few c.args.marks (search rules) (search rules) in omega arith)

pub returns : goal.returns
returns c = λ f. sum_by_from_yields_List starts c.args.marks _ _ c.sum.ensures.ran (YieldsList-from_map _ starts (YieldsList-from_slice c.args.marks cc) c.map.ensures.closure (λ x r q k. search (rules, tests))) ∙ sum_is _ (search rules) f
