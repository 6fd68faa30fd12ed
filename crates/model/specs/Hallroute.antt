-- 01, "Program `hallroute`": what it prints for what it reads, as bytes.
use Rattle.std.specs.Prelude.{ℕ, zero, suc, ◌+◌, ◌*◌, ◌/◌, ◌%◌, min, true, false, List, [], ◌∷◌, ◌++◌, ltb, length, take, drop}
use Prim.Native.Char.{code}
use Prim.Native.String.{String, len, char_at}
use Rattle.laws.specs.Fold.{pick}
use Rattle.laws.specs.Table.{tabulate}
use Rattle.model.specs.declared.RouteStep.{RouteStep}
use Rattle.model.specs.Sectors.{cells}
use Rattle.model.specs.Route.{Found, none, route, route_of}
use Rattle.model.specs.Store.{measures_at, entry_count, base_in, decode, encode}
use Rattle.model.specs.Calls.{read_number, built, check_number, found_number, or_else}

-- the bytes of a text of ASCII
abbrev pub text : String → List ℕ
text s = tabulate (λ i. code (char_at s i)) (len s) 0

-- a number in decimal; `most` bounds its digits
unfoldable pub digits : ℕ → ℕ → List ℕ
digits zero n = []
digits (suc most) n = elim (ltb n 10) [ true ↦ (48 + n) ∷ [] | false ↦ digits most (n / 10) ++ ((48 + n % 10) ∷ []) ]

abbrev pub decimal : ℕ → List ℕ
decimal n = digits (suc n) n

-- "side letter and first-last index, or `-`"
abbrev pub side_letter : ℕ → List ℕ
side_letter zero = text "N"
side_letter (suc zero) = text "E"
side_letter (suc (suc zero)) = text "S"
side_letter (suc (suc (suc k))) = text "W"

unfoldable pub window_text : RouteStep → List ℕ
window_text s = pick (ltb s.side 4) (side_letter s.side ++ (decimal s.«first» ++ (text "-" ++ decimal s.last))) (text "-")

-- "per step column,row:goal index", then the window
unfoldable pub step_text : RouteStep → List ℕ
step_text s = text " " ++ (decimal s.column ++ (text "," ++ (decimal s.row ++ (text ":" ++ (decimal s.goal ++ window_text s)))))

unfoldable pub steps_text : List RouteStep → List ℕ
steps_text [] = []
steps_text (s ∷ steps) = step_text s ++ steps_text steps

-- "source, goal, steps, leg, run, then" the steps; "Else `S G none`, `S G no N`"
unfoldable pub answer_text : ℕ → Found → List ℕ
answer_text zero (route steps leg run) = text " " ++ (decimal (length steps) ++ (text " " ++ (decimal leg ++ (text " " ++ (decimal run ++ steps_text steps)))))
answer_text zero none = text " none"
answer_text (suc n) found = text " no " ++ decimal (suc n)

-- "Its step list holds 1,001"
unfoldable pub pair_text : List ℕ → ℕ → ℕ → Found → List ℕ
pair_text st source goal found =
    decimal source ++ (text " " ++ (decimal goal ++ (answer_text (or_else (check_number st) (found_number (decode st) source goal 1001 found)) found ++ text "\n")))

-- the lines for "pairs of u16 source, goal, low byte first", and "a last line `cut` for 1 to 3 spare bytes"
unfoldable pub pair_lines : List ℕ → List ℕ → List ℕ
pair_lines st [] = []
pair_lines st (a ∷ []) = text "cut\n"
pair_lines st (a ∷ b ∷ []) = text "cut\n"
pair_lines st (a ∷ b ∷ c ∷ []) = text "cut\n"
pair_lines st (a ∷ b ∷ c ∷ d ∷ rest) = pair_text st (a + 256 * b) (c + 256 * d) (route_of (decode st) (a + 256 * b) (c + 256 * d)) ++ pair_lines st rest

-- "a hall file (the first 5 + 3 × count bytes, or all if fewer)"
unfoldable pub file_size : List ℕ → ℕ
file_size input = pick (ltb (length input) 5) (length input) (min (length input) (5 + 3 * entry_count input))

-- "`hall refused N` and no further line"
unfoldable pub hall_lines : List ℕ → List ℕ → ℕ → List ℕ
hall_lines file rest zero = pair_lines (encode (built (measures_at file) (base_in file (cells (measures_at file))))) rest
hall_lines file rest (suc n) = text "hall refused " ++ (decimal (suc n) ++ text "\n")

unfoldable pub file_lines : List ℕ → List ℕ → List ℕ
file_lines file rest = hall_lines file rest (read_number file (cells (measures_at file)))

-- "reads at most 65,536 bytes", "or only `too long`"
unfoldable pub hallroute : List ℕ → List ℕ
hallroute input = pick (ltb 65536 (length input)) (text "too long\n") (file_lines (take (file_size input) input) (drop (file_size input) input))
