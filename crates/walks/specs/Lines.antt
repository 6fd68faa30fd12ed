-- Steps along a line of places, each of which adds the same number.
use Rattle.std.specs.Prelude.{ℕ, ◌+◌, ◌-◌, ◌*◌, ◌≤◌, ◌<◌, ◌≡◌, Bool, not, List}
use Rattle.std.proofs.Common.{suc-mul, arith, ap, ◌∙◌}
use Rattle.model.specs.Costs.{open_at}

-- the place after k steps from place a
abbrev pub on_line : ℕ → ℕ → ℕ → ℕ
on_line a step k = a + k * step - 121 * k

-- n steps from place a that stay among the places below len
pub record Line (a step n len : ℕ) : Type 0 where
  pub low : (k : ℕ) → k ≤ n → 121 * k ≤ a + k * step
  pub high : (k : ℕ) → k ≤ n → on_line a step k < len

-- a loop over such steps, at place at after k of them
pub record Reached (a step n k at : ℕ) : Type 0 where
  pub within : k ≤ n
  pub is : at ≡ on_line a step k

pub reached_none : (a step n : ℕ) → Reached a step n 0 a
reached_none a step n = record { within = omega arith; is = omega arith }

pub reached_lt : {a step n k at len : ℕ} → Line a step n len → Reached a step n k at → at < len
reached_lt h r = rw r.is (h.high _ r.within)

module _ {a step n k at len : ℕ} (h : Line a step n len) (r : Reached a step n k at) (l : k < n) where
  pub reached_room : 121 ≤ at + step
  reached_room = omega (arith, r.is, h.low k r.within, h.low (k + 1) (omega arith), suc-mul k step)

  pub reached_next : {next : ℕ} → next ≡ at + step - 121 → Reached a step n (k + 1) next
  reached_next e = record { within = omega arith; is = omega (arith, r.is, h.low k r.within, suc-mul k step) }

-- whether step k + 1 on a line meets a blocked place
abbrev pub blocked_on : List ℕ → ℕ → ℕ → ℕ → Bool
blocked_on xs a step k = not (open_at xs (on_line a step (k + 1)))

-- what was read at the place of step k + 1
pub blocked_is : {a step n at : ℕ} (k : ℕ) (xs : List ℕ) {b : Bool} → Reached a step n (k + 1) at → b ≡ open_at xs at → not b ≡ blocked_on xs a step k
blocked_is k xs r e = ap not (e ∙ ap (open_at xs) r.is)
