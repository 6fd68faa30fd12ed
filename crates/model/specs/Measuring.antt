-- 01, item 6: a hall's columns, rows and scale from four f32 values, in IEEE 754 arithmetic.
use Rattle.std.specs.Prelude.{ℕ, ◌+◌, ◌-◌, ◌*◌, ◌/◌, ◌^◌, false, cond, pos, Float}
use Rattle.std.specs.Float.{nan, inf, fin, binary32}
use Rattle.std.specs.Float.Ieee.{up, down, mul, div}
use Rattle.model.specs.declared.Dimensions.{Dimensions}

-- 0, 1 and 10 as f32 values
abbrev pub fzero : Float
fzero = fin false 0 (pos 0)

abbrev pub fone : Float
fone = fin false 1 (pos 0)

abbrev pub ften : Float
ften = fin false 5 (pos 1)

-- "cut down" to a whole number; 0 for a NaN and below 0, and at infinity a number above every limit that is asked
unfoldable pub cut_down : Float → ℕ
cut_down nan = 0
cut_down (inf s) = cond s 0 (2 ^ 32 - 1)
cut_down (fin s m e) = cond s 0 (m * up e / down e)

-- "rounded up" to a whole number; a NaN, what is below 0 and infinity likewise
unfoldable pub round_up : Float → ℕ
round_up nan = 0
round_up (inf s) = cond s 0 (2 ^ 32 - 1)
round_up (fin s m e) = cond s 0 ((m * up e + (down e - 1)) / down e)

-- "Sector length = unit × 10", one rounded product
abbrev pub sector_length : Dimensions → Float
sector_length d = mul binary32 d.unit ften

-- "Columns and rows are each size over sector length, cut down": the rounded quotients before the cut
abbrev pub across_quotient : Dimensions → Float
across_quotient d = div binary32 d.size_x (sector_length d)

abbrev pub down_quotient : Dimensions → Float
down_quotient d = div binary32 d.size_y (sector_length d)

-- "Scale is the radius over the unit, divided once in f32, then rounded up"
abbrev pub scale_of : Dimensions → ℕ
scale_of d = round_up (div binary32 d.radius d.unit)
