-- The hall file at the front of the input, and the store in which the program builds its hall.
use Rattle.std.specs.Prelude.{ℕ, List}
use Rattle.model.specs.Sectors.{cells}
use Rattle.model.specs.Halls.{Hall}
use Rattle.model.specs.Store.{measures_at, base_in, written}
use Rattle.model.specs.Calls.{if_accepted, read_number, built}

-- the first refusal that applies to a file, or 0
abbrev pub file_number : List ℕ → ℕ
file_number file = read_number file (cells (measures_at file))

abbrev pub file_hall : List ℕ → Hall
file_hall file = built (measures_at file) (base_in file (cells (measures_at file)))

unfoldable pub open_into : List ℕ → List ℕ → List ℕ
open_into file st = if_accepted (file_number file) (written (file_hall file) st) st
