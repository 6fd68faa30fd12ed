-- 01, "Hall store and hall file": the bytes.
use Rattle.std.specs.Prelude.{ℕ, ◌+◌, ◌*◌, ◌/◌, ◌%◌, Bool, not, List, [], ◌∷◌, ◌++◌, map, ltb, eqb, length, get_or, drop}
use Rattle.laws.specs.Fold.{pick}
use Rattle.laws.specs.Search.{first, passing}
use Rattle.laws.specs.Region.{region}
use Rattle.laws.specs.Table.{tabulate}
use Rattle.model.specs.declared.Measures.{Measures}
use Rattle.model.specs.Sectors.{sectors, cells}
use Rattle.model.specs.Halls.{Hall}

-- a u16, "low byte first", where it is read, and the bytes of several
unfoldable pub u16_at : List ℕ → ℕ → ℕ
u16_at bytes i = get_or bytes i 0 + 256 * get_or bytes (i + 1) 0

unfoldable pub u16_bytes : List ℕ → List ℕ
u16_bytes [] = []
u16_bytes (n ∷ ns) = n % 256 ∷ n / 256 ∷ u16_bytes ns

-- "bytes columns, rows, scale", which open both a store and a file
abbrev pub measures_at : List ℕ → Measures
measures_at bytes = record { columns = get_or bytes 0 0; rows = get_or bytes 1 0; scale = get_or bytes 2 0 }

-- the header of a store: the measures and a fourth byte
abbrev pub header : Measures → List ℕ
header m = m.columns ∷ m.rows ∷ m.scale ∷ 0 ∷ []

abbrev pub fourth_at : List ℕ → ℕ
fourth_at st = get_or st 3 0

-- where the base costs, the scaled costs and the marks begin
abbrev pub base_start : ℕ
base_start = 4

abbrev pub scaled_start : Measures → ℕ
scaled_start m = 4 + cells m

abbrev pub marks_start : Measures → ℕ
marks_start m = 4 + 2 * cells m

-- "Size 4 + 208 × sectors"
abbrev pub size_of : Measures → ℕ
size_of m = 4 + 208 * sectors m

-- the hall in a store: "base costs and scaled costs, two parallel arrays by floor number; then per sector four u16 side marks N, E, S, W"
abbrev pub mark_in : Measures → List ℕ → ℕ → ℕ
mark_in m st k = u16_at st (marks_start m + 2 * k)

unfoldable pub marks_in : Measures → List ℕ → List ℕ
marks_in m st = tabulate (mark_in m st) (sectors m * 4) 0

abbrev pub hall_in : Measures → List ℕ → Hall
hall_in m st = record { measures = m; base = region base_start (cells m) st; scaled = region (scaled_start m) (cells m) st; marks = marks_in m st }

unfoldable pub decode : List ℕ → Hall
decode st = hall_in (measures_at st) st

-- and the store of a hall
unfoldable pub encode : Hall → List ℕ
encode h = header h.measures ++ (h.base ++ (h.scaled ++ u16_bytes h.marks))

-- a hall written into a store: "Bytes past the size stay"
unfoldable pub written : Hall → List ℕ → List ℕ
written h st = encode h ++ drop (size_of h.measures) st

-- the file: "bytes columns, rows, scale; u16 count, low byte first; then two parallel arrays, u16 floor numbers and byte costs"
abbrev pub entry_count : List ℕ → ℕ
entry_count file = u16_at file 3

abbrev pub entry_number : List ℕ → ℕ → ℕ
entry_number file k = u16_at file (5 + 2 * k)

abbrev pub entry_cost : List ℕ → ℕ → ℕ
entry_cost file k = get_or file (5 + 2 * entry_count file + k) 0

-- whether entry k names cell n
unfoldable pub entry_names : List ℕ → ℕ → ℕ → Bool
entry_names file n k = eqb (entry_number file k) n

-- 01, "Unnamed cells cost 1"; 02, request 1, "01's rule about the later entry ends". A cell has the cost of the first entry that names it; an accepted file has no second one, so that the order of the entries has no part in it (FileCosts).
unfoldable pub cost_in : List ℕ → ℕ → ℕ
cost_in file n =
    let k = first (entry_names file n) (entry_count file) in
    pick (ltb k (entry_count file)) (entry_cost file k) 1

unfoldable pub base_in : List ℕ → ℕ → List ℕ
base_in file size = tabulate (cost_in file) size 0

-- 02, request 2, "Floors written back": the file "from the store's sizes, scale and base costs"; "no entry with cost 1": whether a cell has an entry
unfoldable pub is_named : List ℕ → ℕ → Bool
is_named base n = not (eqb (get_or base n 0) 1)

-- the cells that have one, by "ascending floor numbers"
unfoldable pub named_cells : List ℕ → List ℕ
named_cells base = passing (is_named base) (length base) 0

-- sizes and scale, the count and the floor numbers, then their costs; "no other bytes"
unfoldable pub file_of : Measures → List ℕ → List ℕ
file_of m base =
    let numbers = named_cells base in
    (m.columns ∷ m.rows ∷ m.scale ∷ []) ++ (u16_bytes (length numbers ∷ numbers) ++ map (λ n. get_or base n 0) numbers)

-- the file of the floor in a store
abbrev pub file_in : List ℕ → List ℕ
file_in st = file_of (measures_at st) (decode st).base
