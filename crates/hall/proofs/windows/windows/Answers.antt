-- `windows` answers and lists as windows do: each return goes by what the tests before it found.
use Rattle.std.proofs.Common.{◌<◌, rules}
use Rattle.model.specs.declared.Refusal.TheVariants.{Sector, WindowRoom}
use Rattle.model.specs.Answers.{refused_as, refused_on}
use Rattle.hall.proofs.Listed.{four_marks, windows_kept, refused_store, refused_26, refused_27, room_listed, few_listed, listed_all}
use Rattle.hall.proofs.windows.windows.Goals as goal

pub returns-in_err-hall : goal.returns-in_err-hall
returns-in_err-hall c =
    let e = refused_store _ _ _ _ c.in_err-hall.ensures.number in
    record { answer = refused_on _ _ c.from_residual.ensures.1 e; listed = windows_kept _ _ _ _ e }

pub returns-then-sectors-sector : goal.returns-then-sectors-sector
returns-then-sectors-sector c =
    rw (← c.in_ok-hall.ensures.opened)
    (let e = refused_26 _ _ c.args.list.now c.in_ok-hall.hall.opened c.sectors.ensures c.if-sectors-sector.true in
    record { answer = refused_as e; listed = windows_kept _ _ _ Sector e })

pub returns-then-list-windows_number : goal.returns-then-list-windows_number
returns-then-list-windows_number c =
    rw (← c.in_ok-hall.ensures.opened)
    (let e = refused_27 _ _ c.args.list.now c.in_ok-hall.hall.opened c.sectors.ensures c.if-sectors-sector.false c.sector_marks-marks.ensures c.windows_number.ensures c.if-list-windows_number.true in
    record { answer = refused_as e; listed = windows_kept _ _ _ WindowRoom e })

pub sector_windows-requires : goal.sector_windows-requires
sector_windows-requires c =
    let h = c.in_ok-hall.hall.opened in (
      four_marks _ h (rw (← c.sectors.ensures) c.if-sectors-sector.false) c.sector_marks-marks.ensures,
      room_listed _ _ c.args.list.now h c.sectors.ensures c.if-sectors-sector.false c.sector_marks-marks.ensures c.windows_number.ensures c.if-list-windows_number.false,
    )

pub overflow_cast-result : goal.overflow_cast-result
overflow_cast-result c =
    let few : c.sector_windows.result < 256 =
    few_listed _ _ c.args.list.now c.in_ok-hall.hall.opened c.sectors.ensures c.if-sectors-sector.false c.sector_marks-marks.ensures c.windows_number.ensures c.if-list-windows_number.false
    c.sector_windows.ensures.0 in
    search rules

pub returns : goal.returns
returns c =
    rw (← c.in_ok-hall.ensures.opened)
    (let both = listed_all _ _ _ c.in_ok-hall.hall.opened c.sectors.ensures c.if-sectors-sector.false c.sector_marks-marks.ensures c.windows_number.ensures c.if-list-windows_number.false
    c.sector_windows.ensures.0 c.sector_windows.ensures.1 in
    record { answer = both.0; listed = both.1 })
