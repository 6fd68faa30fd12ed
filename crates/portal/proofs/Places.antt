-- A place between two cells, and the mark of a side.
use mathlib.Core.Path.{◌≡◌, ◌∙◌}
use mathlib.Core.Bool.{Bool, true, false}
use mathlib.Core.List.{List}
use Prim.Native.Nat.{ℕ, ◌≤◌, ◌<◌}
use native.Mathlib.Omega.{arith}
use Rattle.model.specs.declared.BorderCells.{BorderCells}
use Rattle.model.specs.declared.Measures.{Measures}
use Rattle.model.specs.declared.Side.{Side}
use Rattle.model.specs.Sectors.{beyond, has_beyond}
use Rattle.model.specs.SectorSides.{beyond_low}
use Rattle.model.specs.Windows.{border_cells, open_place, bits, mark_of}
use Rattle.model.specs.WindowRuns.{bits_same}
use Rattle.portal.specs.Marks.{open_between}
use Rattle.portal.proofs.Sides.{own_at, facing_at}

-- ---- a place
-- ---- the mark of a side
pub beyond_small : (m : Measures) (s : ℕ) (side : Side) {t : ℕ} → t ≡ beyond m s side → s ≤ 10000 → m.rows < 256 → t ≤ 20000
beyond_small m s side e a b = omega (arith, beyond_low m s side)

pub mark_beyond : (m : Measures) (costs : List ℕ) (s : ℕ) (side : Side) {b : Bool} {t r : ℕ} {cells : BorderCells} → b ≡ has_beyond m s side → b ≡ true → t ≡ beyond m s side → cells ≡ border_cells side
    → r ≡ bits (open_between costs s cells.own t cells.facing) 10 → r ≡ mark_of m costs s side
unfolding mark_of open_place
mark_beyond m costs s side {b} {t} {r} {cells} h y e f g =
    rw (← h, y) (g ∙ bits_same (open_between costs s cells.own t cells.facing) (open_place m costs s side) 10 (λ i k. rw (own_at side f i k, facing_at side f i k, e)))

pub mark_none : (m : Measures) (costs : List ℕ) (s : ℕ) (side : Side) {b : Bool} → b ≡ has_beyond m s side → b ≡ false → 0 ≡ mark_of m costs s side
unfolding mark_of
mark_none m costs s side h n = rw (← h, n)
