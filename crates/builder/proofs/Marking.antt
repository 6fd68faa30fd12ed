-- For the proofs of marking: a mark of a store, taken over into a list, and one that the costs give.
use mathlib.Core.Path.{◌≡◌, ap, ◌∙◌}
use mathlib.Core.List.{List}
use Prim.Native.Nat.{ℕ, ◌*◌, ◌/◌, ◌%◌, ◌<◌}
use native.Mathlib.Omega.{arith}
use lib.ListN.{get_or, set}
use Rattle.laws.specs.Each.{each}
use Rattle.model.specs.declared.Measures.{Measures}
use Rattle.model.specs.declared.Side.{Side}
use Rattle.model.specs.Sectors.{sectors}
use Rattle.model.specs.Windows.{mark_of}
use Rattle.model.specs.Store.{marks_in}
use Rattle.model.specs.StoreLayout.{mark_at_lem}
use Rattle.fields.specs.Sides.{sides_at}
use Rattle.fields.specs.declared.sides.TheConstants.{SIDES}
use Rattle.builder.specs.Marks.{kept, fresh}

pub kept_set : (m : Measures) (st : List ℕ) (k : ℕ) (marks : List ℕ) {r : ℕ} → k < sectors m * 4 → r ≡ get_or (marks_in m st) k 0 → set marks k r ≡ each (kept m st) k marks
unfolding each
kept_set m st k marks l e = ap (set marks k) (e ∙ mark_at_lem m st k l)

pub fresh_set : (m : Measures) (costs : List ℕ) (k : ℕ) (marks : List ℕ) (s j : ℕ) (z : Side) {r : ℕ} → s ≡ k / 4 → j ≡ k % 4 → r ≡ mark_of m costs s (get_or SIDES j z) → set marks k r ≡ each (fresh m costs) k marks
unfolding each
fresh_set m costs k marks s j z p q e =
    let low : j < 4 = omega arith in
    ap (set marks k) (e ∙ rw (sides_at j z low, p, q))
