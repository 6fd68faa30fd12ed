-- `read_file` answers and fills as a read does: refused, the list is as it was.
use native.Mathlib.Omega.{arith}
use Rattle.model.specs.Answers.{refused_on}
use Rattle.hall_file.proofs.Reading.{refused_list, read_on, read_given, read_list}
use borrow.Author.Rules.{rules}
use Rattle.hall_file.proofs.read.read_file.Goals as goal

pub returns-in_err-check_file : goal.returns-in_err-check_file
returns-in_err-check_file c = record { answer = refused_on _ _ c.from_residual.ensures.1 c.in_err-check_file.ensures; filled = refused_list _ _ _ c.in_err-check_file.ensures }

pub fill_from-requires : goal.fill_from-requires
fill_from-requires c = read_on _ _ c.in_ok-check_file.ensures

pub measures_at-requires : goal.measures_at-requires
measures_at-requires c =
    let args = c.args in
    omega (arith, (read_on args.file.now args.base.now c.in_ok-check_file.ensures).form.head)

pub returns : goal.returns
returns c = record { answer = read_given _ _ c.in_ok-check_file.ensures (search rules); filled = read_list _ _ c.in_ok-check_file.ensures (search rules) }
