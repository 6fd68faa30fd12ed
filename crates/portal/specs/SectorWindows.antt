-- The windows of a sector, from the marks of its four sides, and a list that begins with their bytes.
use Rattle.std.specs.Prelude.{ℕ, zero, suc, ◌+◌, ◌*◌, ◌≤◌, ◌<◌, ◌≡◌, refl, List, [], ◌++◌, length, get_or, drop}
use Rattle.std.proofs.Common.{arith, ap, ◌∙◌, length-append}
use Rattle.laws.specs.Table.{length_tabulate}
use Rattle.model.specs.declared.PortalWindow.{PortalWindow}
use Rattle.model.specs.Cells.{side_at}
use Rattle.model.specs.Windows.{window_count, window_at, side_windows}
use Rattle.model.specs.WindowRuns.{few_windows}
use Rattle.model.specs.Halls.{Hall, mark_at}
use Rattle.model.specs.Calls.{windows_from, windows_of, flat_windows}

-- the windows of the first k sides
unfoldable pub windows_by : List ℕ → ℕ → List PortalWindow
windows_by marks zero = []
windows_by marks (suc k) = windows_by marks k ++ side_windows (side_at k) (get_or marks k 0)

-- the marks of four sides, as the store check leaves them
pub record FourMarks (marks : List ℕ) : Type 0 where
  pub small : (k : ℕ) → k < 4 → get_or marks k 0 ≤ 1023

-- a list whose first bytes are windows, three bytes each, and the others as they were
abbrev pub over : List PortalWindow → List ℕ → List ℕ
over ws xs = flat_windows ws ++ drop (length (flat_windows ws)) xs

-- how many there are
pub length_by : (marks : List ℕ) (k : ℕ) → length (windows_by marks (suc k)) ≡ length (windows_by marks k) + window_count (get_or marks k 0)
unfolding windows_by side_windows
length_by marks k =
    length-append (windows_by marks k) (side_windows (side_at k) (get_or marks k 0))
    ∙ ap (λ n. length (windows_by marks k) + n) (length_tabulate (window_at (side_at k) (get_or marks k 0)) (window_count (get_or marks k 0)) 0)

pub few_by : {marks : List ℕ} → FourMarks marks → (k : ℕ) → k ≤ 4 → length (windows_by marks k) ≤ 5 * k
unfolding windows_by
few_by f zero h = omega arith
few_by {marks} f (suc k) h =
    let m : get_or marks k 0 ≤ 1023 = f.small k h in
    omega (arith, length_by marks k, few_by f k (omega arith), few_windows (get_or marks k 0) (omega arith))

-- they are the windows of the sector whose marks these are
pub windows_by_lem : (h : Hall) (s : ℕ) (marks : List ℕ) → ((k : ℕ) → k < 4 → get_or marks k 0 ≡ mark_at h s (side_at k)) → windows_of h s ≡ windows_by marks 4
unfolding windows_from windows_by
windows_by_lem h s marks e = upto 4 (omega arith)
  where
    upto : (k : ℕ) → k ≤ 4 → windows_from h s k ≡ windows_by marks k
    upto zero l = refl
    upto (suc k) l = rw (e k l, upto k (omega arith))
