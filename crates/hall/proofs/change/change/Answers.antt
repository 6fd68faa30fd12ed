-- `change` answers as a change does: each return goes by what the tests before it found.
use Rattle.std.proofs.Common.{◌∙◌}
use Rattle.model.specs.declared.Refusal.TheVariants.{FloorNumber}
use Rattle.model.specs.Numbers.{number_on}
use Rattle.store.specs.Passed.{Passed}
use Rattle.hall.proofs.Changing.{change_first, change_kept, change_21, changeable, change_last, change_left}
use Rattle.hall.proofs.change.change.Goals as goal

pub returns-in_err-hall : goal.returns-in_err-hall
returns-in_err-hall c =
    let e = change_first _ c.args.n c.args.cost _ c.in_err-hall.ensures.number in
    record { answer = number_on _ _ c.from_residual.ensures.1 ∙ e; store = change_kept _ _ _ _ e }

pub returns-then-cells-n : goal.returns-then-cells-n
returns-then-cells-n c =
    let p : Passed c.in_ok-hall.hall.store.measures c.args.st.now = rw (← c.in_ok-hall.ensures.opened) c.in_ok-hall.hall.opened in
    let e = change_21 _ c.args.n c.args.cost p c.cells.ensures c.if-cells-n.true in
    record { answer = e; store = change_kept _ _ _ FloorNumber e }

pub change_hall-requires : goal.change_hall-requires
change_hall-requires c =
    let p : Passed c.in_ok-hall.hall.store.measures c.args.st.now = rw (← c.in_ok-hall.ensures.opened) c.in_ok-hall.hall.opened in
    changeable _ _ c.args.cost p c.cells.ensures c.if-cells-n.false

pub returns : goal.returns
returns c =
    let p : Passed c.in_ok-hall.hall.store.measures c.args.st.now = rw (← c.in_ok-hall.ensures.opened) c.in_ok-hall.hall.opened in
    record {
      answer = change_last _ _ _ p c.cells.ensures c.if-cells-n.false c.change_hall.ensures.0;
      store = change_left _ _ _ p c.cells.ensures c.if-cells-n.false c.change_hall.ensures.1;
    }
