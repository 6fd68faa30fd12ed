-- 01, item 5: directions, and `step_cell_in_direction`. Every fact about a direction has it as a parameter.
use Rattle.std.specs.Prelude.{ℕ, zero, suc, ◌+◌, ◌-◌, ◌*◌, ◌/◌, ◌%◌, Bool, ◌&&◌, leb}
use Rattle.model.specs.declared.Measures.{Measures}
use Rattle.model.specs.declared.Landing.{Landing}
use Rattle.model.specs.declared.CompassDir.{CompassDir}
use Rattle.model.specs.declared.CompassDir.TheVariants.{North, East, South, West, NorthEast, SouthEast, SouthWest, NorthWest}
use Rattle.model.specs.Sectors.{column_of, row_of, sector_number}

-- the order of the directions: N, E, S, W, NE, SE, SW, NW
abbrev pub compass : ℕ → CompassDir
compass zero = North
compass (suc zero) = East
compass (suc (suc zero)) = South
compass (suc (suc (suc zero))) = West
compass (suc (suc (suc (suc zero)))) = NorthEast
compass (suc (suc (suc (suc (suc zero))))) = SouthEast
compass (suc (suc (suc (suc (suc (suc zero)))))) = SouthWest
compass (suc (suc (suc (suc (suc (suc (suc k))))))) = NorthWest

-- what one step does to column and to row, plus one: 0 back, 1 nothing, 2 on
abbrev pub eastward : CompassDir → ℕ
eastward North = 1
eastward East = 2
eastward South = 1
eastward West = 0
eastward NorthEast = 2
eastward SouthEast = 2
eastward SouthWest = 0
eastward NorthWest = 0

abbrev pub southward : CompassDir → ℕ
southward North = 0
southward East = 1
southward South = 2
southward West = 1
southward NorthEast = 0
southward SouthEast = 2
southward SouthWest = 2
southward NorthWest = 0

-- ten more than the place on an axis that n steps from place c lead to: at most nine steps, so never below 0
abbrev pub stepped : ℕ → ℕ → ℕ → ℕ
stepped c e n = c + 10 + n * e - n

-- "For 1 to 9 steps both axes move separately over the plain floor": the landing index, and the sector's shift on each axis
unfoldable pub landing : ℕ → CompassDir → ℕ → Landing
landing i d n =
    let x = stepped (i % 10) (eastward d) n in
    let y = stepped (i / 10) (southward d) n in
    record { index = y % 10 * 10 + x % 10; east = x / 10; south = y / 10 }

-- whether place n - 1 lies on an axis so many places wide
abbrev pub on_axis : ℕ → ℕ → Bool
on_axis n wide = leb 1 n && leb n wide

-- the sector that a shift leads to from sector s, and whether it is on the floor; a shift is 0, 1 or 2
abbrev pub shifted : Measures → ℕ → ℕ → ℕ → ℕ
shifted m s east south = sector_number m (column_of m s + east - 1) (row_of m s + south - 1)

unfoldable pub on_floor : Measures → ℕ → ℕ → ℕ → Bool
on_floor m s east south = on_axis (column_of m s + east) m.columns && on_axis (row_of m s + south) m.rows
