-- What a part of one list leaves where it is put into another.
use Rattle.std.specs.Prelude.{ℕ, ◌+◌, ◌-◌, ◌≤◌, ◌≡◌, List, length, drop}
use Rattle.std.proofs.Math.Nat.{add-sub_cancel_left}
use Rattle.std.proofs.Math.Path.{ap}
use Rattle.std.proofs.Common.{◌∙◌}
use Rattle.std.proofs.Math.ListN.{take}
use Rattle.laws.specs.Region.{region, within, placed, length_region}

-- `[a..a + n]` cuts the part out
pub part_came : {ys : List ℕ} (from : List ℕ) (a n b : ℕ) (to : List ℕ) → a + n ≤ length from
    → ys ≡ placed b (take (a + n - a) (drop a from)) to → ys ≡ within b n (λ old. region a n from) to
unfolding region placed
part_came from a n b to fits h =
    let long : length (take n (drop a from)) ≡ n = unfold region in length_region a n from fits in
    h ∙ ap (λ k. placed b (take k (drop a from)) to) (add-sub_cancel_left a n) ∙ ap (λ k. within b k (λ old. take n (drop a from)) to) long
