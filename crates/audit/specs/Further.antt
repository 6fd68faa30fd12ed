-- Further floors beside those of 01, each of which tells a definition from a wrong one that all starred floors would let pass. Each entry is proved by computation.
use Rattle.std.specs.Prelude.{◌≡◌, refl, [], ◌∷◌, ◌++◌, get_or, set}
use Rattle.model.specs.Calls.{change_number, change_into, a_route, route_answer}
use Rattle.model.specs.Hallroute.{text, hallroute}
use Rattle.model.specs.Computing.{computing}
use Rattle.audit.specs.Starred.{hall, floor, scaled, store, file, pair}

-- ---- scaling and changes
pub record ScalingFloors : Type 0 where
  -- the order of directions, on the rows and on the columns: N before S, and E before W
  pub directions_on_rows : scaled (hall 1 2 6) (60 ∷ 110 ∷ []) ≡ floor (hall 1 2 6) (0 ∷ 60 ∷ 70 ∷ 80 ∷ 90 ∷ 100 ∷ 110 ∷ [])
  pub directions_on_columns : scaled (hall 2 1 6) (16 ∷ 102 ∷ []) ≡ floor (hall 2 1 6) (5 ∷ 6 ∷ 7 ∷ 16 ∷ 100 ∷ 101 ∷ 102 ∷ 108 ∷ 109 ∷ [])
  -- the order of cells, and walks that read current scaled costs from base-blocked cells
  pub cells_by_index : scaled (hall 1 1 2) (8 ∷ 37 ∷ []) ≡ floor (hall 1 1 2) (8 ∷ 9 ∷ 19 ∷ 28 ∷ 37 ∷ [])
  -- the order of sectors
  pub sectors_by_number : scaled (hall 2 1 2) (88 ∷ 167 ∷ 170 ∷ []) ≡ floor (hall 2 1 2) (88 ∷ 97 ∷ 98 ∷ 99 ∷ 167 ∷ 170 ∷ 189 ∷ [])
  -- a change to the same cost rescales in the order of a change: scaled cost 109 becomes 255
  pub same_cost : change_into (store (hall 2 1 2) (8 ∷ 100 ∷ [])) 100 255 ≡ set (store (hall 2 1 2) (8 ∷ 100 ∷ [])) 313 255
  -- a sector that is not surrounding keeps its mark, stale or not, and a mark that only differs is no 22
  pub accepted_stale : change_number (store (hall 3 1 2) (100 ∷ [])) 17 255 ≡ 0
  pub stale_mark : get_or (change_into (store (hall 3 1 2) (100 ∷ [])) 17 255) 626 0 ≡ 255

pub scaling : ScalingFloors
unfolding computing
scaling = record {
  directions_on_rows = refl;
  directions_on_columns = refl;
  cells_by_index = refl;
  sectors_by_number = refl;
  same_cost = refl;
  accepted_stale = refl;
  stale_mark = refl;
}

-- ---- the choice of a pair, and what is listed of its path
pub record RouteFloors : Type 0 where
  -- "other costs weigh nothing": a cell of cost 2 is one move
  pub costs_weigh_nothing : hallroute (1 ∷ 1 ∷ 1 ∷ 1 ∷ 0 ∷ 1 ∷ 0 ∷ 2 ∷ pair 0 1) ≡ text "0 1 1 0 1 0,0:1-\n"
  -- the leg is "not counted in the choice"
  pub leg_not_counted : hallroute (file (hall 2 1 1) (19 ∷ []) ++ pair 70 121) ≡ text "70 121 2 16 4 0,0:9E9-9 1,0:21-\n"
  -- "a later pair wins only if its run is less"
  pub earlier_of_equals : hallroute (file (hall 2 1 1) (29 ∷ []) ++ pair 40 137) ≡ text "40 137 2 13 11 0,0:9E9-19 1,0:37-\n"
  -- "position 0, each even position, and the last"
  pub even_positions : hallroute (file (hall 2 1 1) (8 ∷ 19 ∷ []) ++ pair 51 100) ≡ text "51 100 2 8 6 0,0:59E29-99 1,0:0-\n"
  -- in a lent store facing windows pair by number, not by place
  pub paired_by_number : route_answer (set (store (hall 2 1 1) []) 418 254) 0 100 1001 ≡ a_route 2 13 6

pub routes : RouteFloors
unfolding computing
routes = record {
  costs_weigh_nothing = refl;
  leg_not_counted = refl;
  earlier_of_equals = refl;
  even_positions = refl;
  paired_by_number = refl;
}
