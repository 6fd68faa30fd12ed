-- `mark_of` holds the places from i on, which are 10 - i bits.
use Rattle.std.specs.Prelude.{Bool, ℕ, ◌-◌, ◌^◌, ◌≡◌, ◌≤◌, ◌<◌}
use Rattle.fields.specs.Bits.{Marked}
use Rattle.fields.proofs.bits.mark_of.Given as goal

abbrev pub invariant-loop-i : goal.invariant-loop-i
invariant-loop-i g l =
    (l.i ≤ 10) × (l.mark < 2 ^ (10 - l.i)) × ((test : ℕ → Bool) → ((i : ℕ) (o : Bool) → i < 10 → goal.F-post g l.is_open i o → o ≡ test i) → Marked test l.i l.mark)
