-- `scale_in_compass_direction` is the walk: what it passed is blocked where it met a wall, and nothing where it met none.
use Prim.Native.Nat.{ℕ, ◌+◌, ◌*◌, ◌≤◌}
use mathlib.Core.Bool.{true}
use mathlib.Core.Path.{◌≡◌, refl, sym, ap, ◌∙◌}
use native.Mathlib.Omega.{arith}
use Rattle.laws.specs.Search.{Sought, first_le}
use Rattle.model.specs.declared.CompassDir.{CompassDir}
use Rattle.model.specs.Directions.{eastward, southward}
use Rattle.model.specs.Scaling.{passes}
use Rattle.walks.specs.Lines.{blocked_on}
use Rattle.walks.specs.Board.{board_of, spot, stride}
use Rattle.walks.specs.Walks.{shows_long, shows_room, shows_again, on_board, walk_passes, run_shown, walk_met, walk_clear}
use borrow.Author.Rules.{rules}
use Rattle.walks.proofs.walk.scale_in_compass_direction.Goals as goal
use Rattle.walks.proofs.walk.scale_in_compass_direction.Goals.{In-Some}

-- what a step adds
step : (d : CompassDir) {east south : ℕ} → (east ≡ eastward d) × (south ≡ southward d) → east + 120 * south ≡ stride d
step d e = rw (e.0, e.1)

-- how far a walk goes that meets a wall
sought : (c : In-Some) → let by = c.shift_of-by.result in Sought (blocked_on c.args.board.now (spot c.args.from.corner c.args.from.index) (by.east + 120 * by.south)) c.args.m.scale c.in-Some.passed true
sought c = rw c.from.ensures at c.in-Some.ensures

passed : (c : In-Some) → let a = c.args in c.in-Some.passed ≡ passes a.m a.scaled.now a.from.sector a.from.index a.d
passed c = walk_passes c.requires c.args.d c.args.from.in_sector (step _ c.shift_of-by.ensures) (sought c)

few : (c : In-Some) → c.in-Some.passed ≤ 9
few c = omega (arith, (sought c).at, first_le, c.requires.costs.measures.few_scale)

pub overflow_add-a : goal.overflow_add-a
overflow_add-a c = omega (arith, shows_room c.requires)

pub overflow_add-a-2 : goal.overflow_add-a-2
overflow_add-a-2 c = omega (arith, shows_room c.requires)

pub walk_line-requires : goal.walk_line-requires
walk_line-requires c =
    let p = c.requires in
    (on_board p c.args.d c.args.from.in_sector (step _ c.shift_of-by.ensures) _ (omega (arith, c.from.ensures, p.costs.measures.few_scale)), omega (arith, shows_long p), search rules)

pub block_passed-requires : goal.block_passed-requires
block_passed-requires c =
    let p = c.requires in
    (omega (arith, p.costs.long, p.on), shows_room p, few (goal.at.block_passed-requires c).In-Some)

pub returns-in-Some : goal.returns-in-Some
returns-in-Some c =
    let in_some = (goal.at.returns-in-Some c).In-Some in
    let a = c.args in
    let p = c.requires in
    let same = run_shown {i = a.from.index} a.d p a.from.in_sector c.in-Some.passed (few in_some) in
    let blocked = c.block_passed.ensures in
    record { list = blocked.list ∙ walk_met a.m _ a.from.sector a.from.index a.d (passed in_some) (sought in_some).test refl; shown = shows_again p (search rules) (blocked.places ∙ same ∙ ap (board_of a.m) (sym blocked.list)) }

pub returns-in_default : goal.returns-in_default
returns-in_default c =
    let a = c.args in
    let w = rw c.from.ensures at c.in_default.ensures in
    record { list = walk_clear a.m _ a.from.sector a.from.index a.d (walk_passes c.requires a.d a.from.in_sector (step _ c.shift_of-by.ensures) w) w.test refl; shown = c.requires }
