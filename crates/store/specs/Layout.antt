-- The parts of a hall where a store has them: what is read at each place, and what is written there.
use Rattle.std.specs.Prelude.{◌≡◌, List, ℕ, ◌+◌, ◌-◌, ◌*◌, ◌/◌, ◌%◌, ◌≤◌, ◌<◌, length, take, drop, get_or, set}
use Rattle.std.proofs.Common.{sym, ap, ◌∙◌, arith}
use Rattle.std.proofs.Math.Nat.{add-sub_cancel_left}
use Rattle.laws.specs.Region.{region, region_region}
use Rattle.laws.specs.Table.{tabulate}
use Rattle.model.specs.declared.Measures.{Measures}
use Rattle.model.specs.Sectors.{sectors, cells, costs_of}
use Rattle.model.specs.Halls.{Hall}
use Rattle.model.specs.Store.{u16_at, measures_at, size_of, scaled_start, marks_in, hall_in, decode}
use Rattle.model.specs.StoreLayout.{mark_at_lem}

abbrev pub hall_of : Measures → List ℕ → List ℕ → List ℕ → Hall
hall_of m base costs marks = record { measures = m; base = base; scaled = costs; marks = marks }

-- the hall of a store, by the measures that were read from it
pub hall_read : {m : Measures} (st : List ℕ) → m ≡ measures_at st → hall_in m st ≡ decode st
unfolding decode
hall_read st read = ap (λ n. hall_in n st) read

-- ---- parts
-- what `[b..e]` cuts out
pub part_is : (a n : ℕ) (xs : List ℕ) {b e : ℕ} → b ≡ a → e ≡ a + n → take (e - b) (drop b xs) ≡ region a n xs
unfolding region
part_is a n xs p q = rw (p, q, add-sub_cancel_left a n)

pub sector_is : (m : Measures) (st : List ℕ) (s : ℕ) {b e : ℕ} → b ≡ scaled_start m + s * 100 → e ≡ scaled_start m + s * 100 + 100 → size_of m ≤ length st → s < sectors m
    → take (e - b) (drop b st) ≡ costs_of (hall_in m st).scaled s
sector_is m st s p q room l =
    part_is (scaled_start m + s * 100) 100 st p q ∙ sym (region_region (scaled_start m) (cells m) (s * 100) 100 st (omega arith) (omega arith))

-- ---- marks
-- the marks of sector s, by side: N, E, S, W
unfoldable pub sector_marks : List ℕ → ℕ → List ℕ
sector_marks marks s = tabulate (λ k. get_or marks (s * 4 + k) 0) 4 0

-- the bytes of mark k, low byte first
unfoldable pub set_mark : List ℕ → ℕ → List ℕ → List ℕ
set_mark marks k bytes = set (set bytes (2 * k) (get_or marks k 0 % 256)) (2 * k + 1) (get_or marks k 0 / 256)

pub mark_is : (m : Measures) (st : List ℕ) (k : ℕ) {n r : ℕ} → k < sectors m * 4 → n ≡ cells m → r ≡ u16_at st (4 + 2 * n + 2 * k) → r ≡ get_or (marks_in m st) k 0
mark_is m st k l e h = h ∙ ap (λ n. u16_at st (4 + 2 * n + 2 * k)) e ∙ sym (mark_at_lem m st k l)
