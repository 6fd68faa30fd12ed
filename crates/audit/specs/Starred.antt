-- 01, "Floors to try": every starred floor, in 01's order, as one table over the definitions. Each entry is proved by computation.
use Rattle.std.specs.Prelude.{ℕ, Result, Ok, Err, ◌/◌, ◌%◌, ◌≡◌, refl, false, List, [], ◌∷◌, ◌++◌, pos, negsuc, Float, length, replicate, set}
use Rattle.std.specs.Float.{fin, binary32}
use Rattle.std.specs.Float.Ieee.{of_bits}
use Rattle.model.specs.declared.Measures.{Measures}
use Rattle.model.specs.declared.Refusal.{Refusal}
use Rattle.model.specs.Numbers.{refusal}
use Rattle.model.specs.Sectors.{cells}
use Rattle.model.specs.Scaling.{scale_floor}
use Rattle.model.specs.Windows.{marks_of, crossing}
use Rattle.model.specs.Store.{size_of, u16_bytes}
use Rattle.model.specs.Calls.{plan_answer, build_number, build_into, check_number, change_number, a_route, route_answer, windows_flat}
use Rattle.model.specs.Hallroute.{text, hallroute}
use Rattle.model.specs.Computing.{computing}

-- ---- how the floors are written down
abbrev pub hall : ℕ → ℕ → ℕ → Measures
hall columns rows scale = record { columns = columns; rows = rows; scale = scale }

-- base costs of 1, with 255 at some floor numbers
abbrev pub block : List ℕ → List ℕ → List ℕ
block [] costs = costs
block (n ∷ ns) costs = block ns (set costs n 255)

abbrev pub floor : Measures → List ℕ → List ℕ
floor m blocked = block blocked (replicate (cells m) 1)

-- what scaling gives, and what build leaves in a store of zeros
abbrev pub scaled : Measures → List ℕ → List ℕ
scaled m blocked = scale_floor m (floor m blocked)

abbrev pub store : Measures → List ℕ → List ℕ
store m blocked = build_into m (floor m blocked) (replicate (size_of m) 0)

-- the hall file of such a floor, and the two bytes of a number
abbrev pub file : Measures → List ℕ → List ℕ
file m blocked = m.columns ∷ m.rows ∷ m.scale ∷ (length blocked % 256) ∷ (length blocked / 256) ∷ (u16_bytes blocked ++ replicate (length blocked) 255)

abbrev pub pair : ℕ → ℕ → List ℕ
pair source goal = u16_bytes (source ∷ goal ∷ [])

-- sizes, unit and radius
abbrev plan : Float → Float → Float → Float → Result Measures Refusal
plan x y unit radius = plan_answer (record { size_x = x; size_y = y; unit = unit; radius = radius })

-- the f32 values 1, 2, 9, 9.5, 10 and 20, and those nearest to 0.1 and 0.3
abbrev f1 : Float
f1 = fin false 1 (pos 0)

abbrev f2 : Float
f2 = fin false 1 (pos 1)

abbrev f9 : Float
f9 = fin false 9 (pos 0)

abbrev f9½ : Float
f9½ = fin false 19 (negsuc 0)

abbrev f10 : Float
f10 = fin false 5 (pos 1)

abbrev f20 : Float
f20 = fin false 5 (pos 2)

abbrev f⅒ : Float
f⅒ = of_bits binary32 0x3dcc_cccd

abbrev f³⁄₁₀ : Float
f³⁄₁₀ = of_bits binary32 0x3e99_999a

-- places 0, 1 and 3 of side E of sector 0 are open, and no others
abbrev three_open : List ℕ
three_open = 29 ∷ 49 ∷ 59 ∷ 69 ∷ 79 ∷ 89 ∷ 99 ∷ []

-- "301 to 309 and 310, 320 to 390 by tens"
abbrev corner : List ℕ
corner = 301 ∷ 302 ∷ 303 ∷ 304 ∷ 305 ∷ 306 ∷ 307 ∷ 308 ∷ 309 ∷ 310 ∷ 320 ∷ 330 ∷ 340 ∷ 350 ∷ 360 ∷ 370 ∷ 380 ∷ 390 ∷ []

-- ---- the table
pub record StarredFloors : Type 0 where
  -- "Sizes 20, 10, unit 1: radius 1 gives 2, 1, scale 1; 9 gives scale 9; 9.5 is 7; 10 is 6."
  pub radius_1 : plan f20 f10 f1 f1 ≡ Ok (hall 2 1 1)
  pub radius_9 : plan f20 f10 f1 f9 ≡ Ok (hall 2 1 9)
  pub radius_9½ : plan f20 f10 f1 f9½ ≡ Err (refusal 7)
  pub radius_10 : plan f20 f10 f1 f10 ≡ Err (refusal 6)
  -- "Sizes 2, 2, unit 0.1, radius 0.3: scale 3."
  pub tenths : plan f2 f2 f⅒ f³⁄₁₀ ≡ Ok (hall 2 2 3)
  -- "1 by 1, scale 2, (1,5) blocked: indices 40, 50, 60 become 255. (2,5) blocked: none."
  pub beside_the_end : scaled (hall 1 1 2) (51 ∷ []) ≡ floor (hall 1 1 2) (40 ∷ 50 ∷ 51 ∷ 60 ∷ [])
  pub two_from_the_end : scaled (hall 1 1 2) (52 ∷ []) ≡ floor (hall 1 1 2) (52 ∷ [])
  -- "2 by 1, scale 2, floor numbers 59 and 151 blocked: 50 and 150 become 255."
  pub over_a_border : scaled (hall 2 1 2) (59 ∷ 151 ∷ []) ≡ floor (hall 2 1 2) (59 ∷ 151 ∷ 50 ∷ 150 ∷ [])
  -- "3 by 1, scale 2, 48 and 150 blocked; changing 68 to 255 is 22. Building it so succeeds."
  pub stale_border : change_number (store (hall 3 1 2) (48 ∷ 150 ∷ [])) 68 255 ≡ 22
  pub built_so : build_number (hall 3 1 2) (floor (hall 3 1 2) (48 ∷ 68 ∷ 150 ∷ [])) (replicate (size_of (hall 3 1 2)) 0) ≡ 0
  pub checked_so : check_number (store (hall 3 1 2) (48 ∷ 68 ∷ 150 ∷ [])) ≡ 0
  -- "Places 0, 1, 3 open: windows 0-1 and 3-3, midpoints 0 and 3. All open: midpoint 4."
  pub three_places : marks_of (hall 2 1 1) (floor (hall 2 1 1) three_open) ≡ 0 ∷ 11 ∷ 0 ∷ 0 ∷ 0 ∷ 0 ∷ 0 ∷ 11 ∷ []
  pub two_windows : windows_flat (store (hall 2 1 1) three_open) 0 (replicate 8 7) ≡ 9 ∷ 19 ∷ 1 ∷ 39 ∷ 39 ∷ 1 ∷ 7 ∷ 7 ∷ []
  pub two_midpoints : (crossing 11 0 ∷ crossing 11 1 ∷ []) ≡ 0 ∷ 3 ∷ []
  pub all_places : marks_of (hall 2 1 1) (floor (hall 2 1 1) []) ≡ 0 ∷ 1023 ∷ 0 ∷ 0 ∷ 0 ∷ 0 ∷ 0 ∷ 1023 ∷ []
  pub all_midpoint : crossing 1023 0 ≡ 4
  -- "2 by 1, all cost 1, scale 1, 0 to 100: listing below. 0 to 0, cell blocked: one step, run 0."
  pub two_sectors : hallroute (2 ∷ 1 ∷ 1 ∷ 0 ∷ 0 ∷ 0 ∷ 0 ∷ 100 ∷ 0 ∷ []) ≡ text "0 100 2 13 5 0,0:49E9-99 1,0:0-\n"
  pub blocked_source : route_answer (store (hall 2 1 1) (0 ∷ [])) 0 0 1 ≡ a_route 1 0 0
  -- "2 by 2, scale 1, 301 to 309 and 310, 320 to 390 by tens blocked: 300 to 109 prints `300 109 2 0 1 1,1:0N0-0 0,1:9-`."
  pub corner_gate : hallroute (file (hall 2 2 1) corner ++ pair 300 109) ≡ text "300 109 2 0 1 1,1:0N0-0 0,1:9-\n"
  -- what a text's bytes are
  pub ascii : text "0 N\n" ≡ 48 ∷ 32 ∷ 78 ∷ 10 ∷ []

pub starred : StarredFloors
unfolding computing
starred = record {
  radius_1 = refl;
  radius_9 = refl;
  radius_9½ = refl;
  radius_10 = refl;
  tenths = refl;
  beside_the_end = refl;
  two_from_the_end = refl;
  over_a_border = refl;
  stale_border = refl;
  built_so = refl;
  checked_so = refl;
  three_places = refl;
  two_windows = refl;
  two_midpoints = refl;
  all_places = refl;
  all_midpoint = refl;
  two_sectors = refl;
  blocked_source = refl;
  corner_gate = refl;
  ascii = refl;
}
