-- 01, "Calls and their numbers, in order", and 02's calls after them: each call's refusals, its answer, and what it leaves in the memory that it is lent.
use Rattle.std.specs.Prelude.{ℕ, zero, suc, ◌+◌, ◌*◌, ◌/◌, ◌%◌, Bool, not, ◌&&◌, ◌||◌, Option, Some, None, Result, Ok, Err, List, [], ◌∷◌, ◌++◌, leb, ltb, eqb, length, get_or, drop}
use Rattle.std.specs.Float.Ieee.{lt, le}
use Rattle.std.specs.Float.Ieee.Scale.{finite}
use Rattle.laws.specs.Fold.{pick}
use Rattle.laws.specs.Search.{any}
use Rattle.laws.specs.Ladder.{refuse}
use Rattle.model.specs.declared.Measures.{Measures}
use Rattle.model.specs.declared.Dimensions.{Dimensions}
use Rattle.model.specs.declared.PortalWindow.{PortalWindow}
use Rattle.model.specs.declared.RouteStep.{RouteStep}
use Rattle.model.specs.declared.Refusal.{Refusal}
use Rattle.model.specs.declared.Route.{Route}
use Rattle.model.specs.Numbers.{answered}
use Rattle.model.specs.Cells.{side_at}
use Rattle.model.specs.Sectors.{sectors, cells, sector_of, has_beyond}
use Rattle.model.specs.Accepted.{bad_sectors, bad_scale}
use Rattle.model.specs.Steps.{flat_steps}
use Rattle.model.specs.Measuring.{fzero, fone, cut_down, sector_length, across_quotient, down_quotient, scale_of}
use Rattle.model.specs.Scaling.{scale_floor}
use Rattle.model.specs.Windows.{marks_of, side_windows}
use Rattle.model.specs.Halls.{Hall, mark_at}
use Rattle.model.specs.Change.{changed, exceeds}
use Rattle.model.specs.Route.{Found, none, route_of}
use Rattle.model.specs.Route as found_as
use Rattle.model.specs.Store.{measures_at, fourth_at, size_of, marks_in, decode, written, entry_count, entry_number, entry_names, base_in, file_in}
use Rattle.model.specs.Account.{Call, change}
use Rattle.model.specs.Account as call_as

-- ---- what all calls share
-- the number of an earlier check, and the rest where it is 0
unfoldable pub or_else : ℕ → ℕ → ℕ
or_else zero rest = rest
or_else (suc n) rest = suc n

-- "a refusal alters no lent byte or record" (demand 1): what is lent is new where the number is 0, and else as it was
unfoldable pub if_accepted : {A : Type 0} → ℕ → A → A → A
if_accepted zero new old = new
if_accepted (suc n) new old = old

-- ---- plan
-- 1 "a value not finite", 2 "a size ≤ 0", 3 "radius ≤ 0", 4 "unit ≤ 0"
unfoldable pub value_number : Dimensions → ℕ
value_number d =
    refuse (not (finite d.size_x && finite d.size_y && finite d.unit && finite d.radius)) 1
    (refuse (le d.size_x fzero || le d.size_y fzero) 2
    (refuse (le d.radius fzero) 3
    (refuse (le d.unit fzero) 4 0)))

-- 5 "columns or rows below 1 before the cut", 6 "radius ≥ sector length", 7 "scale ≥ 10", 8 "scale 0", 9 "columns or rows above 10"
unfoldable pub measure_number : Dimensions → ℕ
measure_number d =
    refuse (lt (across_quotient d) fone || lt (down_quotient d) fone) 5
    (refuse (le (sector_length d) d.radius) 6
    (refuse (leb 10 (scale_of d)) 7
    (refuse (eqb (scale_of d) 0) 8
    (refuse (ltb 10 (cut_down (across_quotient d)) || ltb 10 (cut_down (down_quotient d))) 9 0))))

unfoldable pub plan_number : Dimensions → ℕ
plan_number d = or_else (value_number d) (measure_number d)

abbrev pub plan_measures : Dimensions → Measures
plan_measures d = record { columns = cut_down (across_quotient d); rows = cut_down (down_quotient d); scale = scale_of d }

unfoldable pub plan_answer : Dimensions → Result Measures Refusal
plan_answer d = answered (plan_number d) (plan_measures d)

-- ---- read file
-- 10 "under 5 bytes", 11, 12, 13 "count above 10,000", 14 "length not 5 + 3 × count"
unfoldable pub form_number : List ℕ → ℕ
form_number file =
    refuse (ltb (length file) 5) 10
    (refuse (bad_sectors (measures_at file)) 11
    (refuse (bad_scale (measures_at file)) 12
    (refuse (ltb 10000 (entry_count file)) 13
    (refuse (not (eqb (length file) (5 + 3 * entry_count file))) 14 0))))

-- 15 "a floor number too large"
unfoldable pub entry_off : List ℕ → ℕ → Bool
entry_off file k = leb (cells (measures_at file)) (entry_number file k)

-- 02, request 1: 28 "when a floor number stands twice in the file", here at place k and at one before it
unfoldable pub entry_again : List ℕ → ℕ → Bool
entry_again file k = any (entry_names file (entry_number file k)) k

-- 15; by 02, request 1, 28 "after 15 and before 16"; 16 "list length not 100 × sectors"
unfoldable pub entries_number : List ℕ → ℕ → ℕ
entries_number file size =
    refuse (any (entry_off file) (entry_count file)) 15
    (refuse (any (entry_again file) (entry_count file)) 28
    (refuse (not (eqb size (cells (measures_at file)))) 16 0))

unfoldable pub read_number : List ℕ → ℕ → ℕ
read_number file size = or_else (form_number file) (entries_number file size)

unfoldable pub read_answer : List ℕ → ℕ → Result Measures Refusal
read_answer file size = answered (read_number file size) (measures_at file)

-- "An accepted file gives its columns, rows and scale and fills the list"
unfoldable pub read_into : List ℕ → List ℕ → List ℕ
read_into file list = if_accepted (read_number file (length list)) (base_in file (length list)) list

-- ---- build
-- "what build was given: columns, rows, scale", as one record
abbrev pub measures_of : ℕ → ℕ → ℕ → Measures
measures_of columns rows scale = record { columns = columns; rows = rows; scale = scale }

-- 11, 12, 17 "base list length not 100 × sectors", 18 "store too short"
unfoldable pub build_number : Measures → List ℕ → List ℕ → ℕ
build_number m base st =
    refuse (bad_sectors m) 11
    (refuse (bad_scale m) 12
    (refuse (not (eqb (length base) (cells m))) 17
    (refuse (ltb (length st) (size_of m)) 18 0)))

abbrev pub hall_over : Measures → List ℕ → List ℕ → Hall
hall_over m base costs = record { measures = m; base = base; scaled = costs; marks = marks_of m costs }

unfoldable pub built : Measures → List ℕ → Hall
built m base = hall_over m base (scale_floor m base)

unfoldable pub build_into : Measures → List ℕ → List ℕ → List ℕ
build_into m base st = if_accepted (build_number m base st) (written (built m base) st) st

-- ---- store check
-- 20 "a mark above 1,023, or not 0 on a side without neighbour"
unfoldable pub bad_mark : Measures → List ℕ → ℕ → Bool
bad_mark m marks k = pick (has_beyond m (k / 4) (side_at (k % 4))) (ltb 1023 (get_or marks k 0)) (ltb 0 (get_or marks k 0))

-- 18 "under 4 bytes", 11, 12, 19 "fourth byte not 0", 18 "below its size", 20
unfoldable pub check_number : List ℕ → ℕ
check_number st =
    refuse (ltb (length st) 4) 18
    (refuse (bad_sectors (measures_at st)) 11
    (refuse (bad_scale (measures_at st)) 12
    (refuse (ltb 0 (fourth_at st)) 19
    (refuse (ltb (length st) (size_of (measures_at st))) 18
    (refuse (any (bad_mark (measures_at st) (marks_in (measures_at st) st)) (sectors (measures_at st) * 4)) 20 0)))))

-- ---- change
-- 21 "floor number too large", 22; `new` is the hall after the change
unfoldable pub alter_number : Hall → ℕ → Hall → ℕ
alter_number h n new = refuse (leb (cells h.measures) n) 21 (refuse (exceeds new (sector_of n)) 22 0)

unfoldable pub change_number : List ℕ → ℕ → ℕ → ℕ
change_number st n cost = or_else (check_number st) (alter_number (decode st) n (changed (decode st) n cost))

unfoldable pub change_into : List ℕ → ℕ → ℕ → List ℕ
change_into st n cost = if_accepted (change_number st n cost) (written (changed (decode st) n cost) st) st

-- ---- route
unfoldable pub step_list : Found → List RouteStep
step_list (found_as.route steps leg run) = steps
step_list none = []

-- 23 "source", 24 "goal too large", 25 "more steps than the lent list holds"
unfoldable pub found_number : Hall → ℕ → ℕ → ℕ → Found → ℕ
found_number h source goal room found =
    refuse (leb (cells h.measures) source) 23
    (refuse (leb (cells h.measures) goal) 24
    (refuse (ltb room (length (step_list found))) 25 0))

unfoldable pub route_number : List ℕ → ℕ → ℕ → ℕ → ℕ
route_number st source goal room = or_else (check_number st) (found_number (decode st) source goal room (route_of (decode st) source goal))

-- what is answered, and a route as an answer
abbrev pub Routed : Type 0
Routed = Result (Option Route) Refusal

abbrev pub a_route : ℕ → ℕ → ℕ → Routed
a_route steps leg run = Ok (Some (record { steps = steps; leg = leg; run = run }))

unfoldable pub outcome : Found → Option Route
outcome (found_as.route steps leg run) = Some (record { steps = length steps; leg = leg; run = run })
outcome none = None

abbrev pub routed : ℕ → Found → Routed
routed number found = answered number (outcome found)

unfoldable pub route_answer : List ℕ → ℕ → ℕ → ℕ → Routed
route_answer st source goal room = routed (route_number st source goal room) (route_of (decode st) source goal)

-- `"None" leaves the list alone; a route writes only its steps`: the list of step records, and the flat list of six bytes a step
unfoldable pub route_steps : List ℕ → ℕ → ℕ → List RouteStep → List RouteStep
route_steps st source goal list =
    let steps = step_list (route_of (decode st) source goal) in
    if_accepted (route_number st source goal (length list)) (steps ++ drop (length steps) list) list

unfoldable pub route_flat : List ℕ → ℕ → ℕ → List ℕ → List ℕ
route_flat st source goal list =
    let bytes = flat_steps (step_list (route_of (decode st) source goal)) in
    if_accepted (route_number st source goal (length list / 6)) (bytes ++ drop (length bytes) list) list

-- 01's values for each case of the answer; its number is `number_of`
abbrev pub routed_steps : Routed → ℕ
routed_steps (Ok (Some r)) = r.steps
routed_steps (Ok None) = 0
routed_steps (Err e) = 0

abbrev pub routed_leg : Routed → ℕ
routed_leg (Ok (Some r)) = r.leg
routed_leg (Ok None) = 0
routed_leg (Err e) = 0

abbrev pub routed_run : Routed → ℕ
routed_run (Ok (Some r)) = r.run
routed_run (Ok None) = 0
routed_run (Err e) = 0

-- ---- windows
-- "Windows of a sector, N, E, S, W", "each first cell, last cell and side"
unfoldable pub windows_from : Hall → ℕ → ℕ → List PortalWindow
windows_from h s zero = []
windows_from h s (suc k) = windows_from h s k ++ side_windows (side_at k) (mark_at h s (side_at k))

abbrev pub windows_of : Hall → ℕ → List PortalWindow
windows_of h s = windows_from h s 4

unfoldable pub flat_windows : List PortalWindow → List ℕ
flat_windows [] = []
flat_windows (w ∷ ws) = w.«first» ∷ w.last ∷ w.side ∷ flat_windows ws

-- 26 "sector number too large", 27 "list too short"
unfoldable pub windows_number : List ℕ → ℕ → ℕ → ℕ
windows_number st s room =
    or_else (check_number st)
    (refuse (leb (sectors (measures_at st)) s) 26
    (refuse (ltb room (length (windows_of (decode st) s))) 27 0))

unfoldable pub windows_answer : List ℕ → ℕ → ℕ → Result ℕ Refusal
windows_answer st s room = answered (windows_number st s room) (length (windows_of (decode st) s))

-- "Accepted, it gives their count and writes only that many entries": a flat list of three bytes an entry
unfoldable pub windows_flat : List ℕ → ℕ → List ℕ → List ℕ
windows_flat st s list =
    let bytes = flat_windows (windows_of (decode st) s) in
    if_accepted (windows_number st s (length list / 3)) (bytes ++ drop (length bytes) list) list

-- ---- write file
-- 02, request 2: 29 "when the output is shorter than the file, after the store check"
unfoldable pub write_number : List ℕ → ℕ → ℕ
write_number st room = or_else (check_number st) (refuse (ltb room (length (file_in st))) 29 0)

-- "the file's length is given"
unfoldable pub write_answer : List ℕ → ℕ → Result ℕ Refusal
write_answer st room = answered (write_number st room) (length (file_in st))

-- "Only the file's own bytes of the lent output are touched"
unfoldable pub write_into : List ℕ → List ℕ → List ℕ
write_into st out = if_accepted (write_number st (length out)) (file_in st ++ drop (length (file_in st)) out) out

-- ---- a list of calls
-- the store after a call, and after calls made in turn, nobody else writing it
unfoldable pub store_after_call : List ℕ → Call → List ℕ
store_after_call st (change n cost) = change_into st n cost
store_after_call st (call_as.route source goal room) = st

unfoldable pub store_after : List ℕ → List Call → List ℕ
store_after st [] = st
store_after st (c ∷ calls) = store_after (store_after_call st c) calls
