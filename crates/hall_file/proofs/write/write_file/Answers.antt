-- `write_file` answers and writes as a write does: refused, the output is as it was.
use Rattle.std.proofs.Common.{◌≡◌, length}
use Rattle.model.specs.Calls.{write_number}
use Rattle.model.specs.declared.Refusal.TheVariants.{FileRoom}
use Rattle.model.specs.Answers.{refused_as, refused_on}
use Rattle.hall_file.proofs.Writing.{write_kept, refused_store, refused_29, written_answer, written_output}
use borrow.Author.Rules.{rules}
use Rattle.hall_file.proofs.write.write_file.Goals as goal

pub returns-in_err-hall : goal.returns-in_err-hall
returns-in_err-hall c =
    let e = refused_store _ _ _ c.in_err-hall.ensures.number in
    record { answer = refused_on _ _ c.from_residual.ensures.1 e; written = write_kept _ _ _ e }

pub returns-then-output-size : goal.returns-then-output-size
returns-then-output-size c =
    rw (← c.in_ok-hall.ensures.opened)
    (let e : 29 ≡ write_number c.in_ok-hall.hall.store.bytes.now (length c.args.output.now) = search (rules, refused_29) in
    record { answer = refused_as e; written = write_kept _ _ FileRoom e })

pub returns : goal.returns
returns c = rw (← c.in_ok-hall.ensures.opened) (search (rules, written_answer, written_output))
