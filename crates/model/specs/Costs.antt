-- 01, item 2: costs.
use Rattle.std.specs.Prelude.{ℕ, Bool, not, List, eqb, get_or}

-- "255 is blocked, 0 to 254 open"; a number past the list has no cell and counts as blocked
unfoldable pub open_at : List ℕ → ℕ → Bool
open_at costs n = not (eqb (get_or costs n 255) 255)
