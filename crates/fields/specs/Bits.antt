-- A mark, bit i for place i, made from its last place down.
use Rattle.std.specs.Prelude.{ℕ, suc, ◌+◌, ◌-◌, ◌*◌, ◌^◌, ◌≤◌, ◌<◌, ◌≡◌, refl, Bool, true, false}
use Rattle.std.proofs.Common.{arith, ap, ◌∙◌, pow_mono}
use Rattle.laws.specs.Fold.{bit}
use Rattle.model.specs.Windows.{bits}
use Rattle.model.specs.WindowRuns.{bits_small}

-- one place more, below the others
pub with_open : {b : Bool} (n : ℕ) → b ≡ true → 2 * n + 1 ≡ bit b + 2 * n
unfolding bit
with_open n e = rw e (omega arith)

pub with_shut : {b : Bool} (n : ℕ) → b ≡ false → 2 * n ≡ bit b + 2 * n
unfolding bit
with_shut n e = rw e (omega arith)

-- The invariant of the loop that goes down over the places: the mark holds those from i on.
pub record Marked (test : ℕ → Bool) (i mark : ℕ) : Type 0 where
  pub within : i ≤ 10
  pub is : mark ≡ bits (λ k. test (i + k)) (10 - i)

pub marked_none : (test : ℕ → Bool) → Marked test 10 0
unfolding bits
marked_none test = record { within = omega arith; is = refl }

pub marked_turn : {test : ℕ → Bool} {i mark r : ℕ} {o : Bool} → Marked test i mark → 0 < i → o ≡ test (i - 1) → r ≡ bit o + 2 * mark → Marked test (i - 1) r
unfolding bits
marked_turn {test} {i} {mark} {r} {o} m h e f =
    let front : o ≡ test (i - 1 + 0) = e ∙ ap test (omega arith) in
    let on : (k : ℕ) → i + k ≡ i - 1 + suc k = λ k. omega arith in
    let rest : mark ≡ bits (λ k. test (i - 1 + suc k)) (10 - i) = m.is ∙ (λ d. bits (λ k. test (on k d)) (10 - i)) in
    let longer : 10 - (i - 1) ≡ suc (10 - i) = omega (arith, m.within) in
    record { within = omega (arith, m.within); is = f ∙ rw (front, rest, longer) }

pub marked_small : {test : ℕ → Bool} {i mark : ℕ} → Marked test i mark → 0 < i → mark ≤ 511
marked_small {test} {i} {mark} m h =
    let low : 2 ^ (10 - i) ≤ 512 = pow_mono {i = 10 - i} {j = 9} (omega arith) in
    omega (arith, m.is, bits_small (λ k. test (i + k)) (10 - i))

pub marked_end : {test : ℕ → Bool} {i mark : ℕ} → Marked test i mark → i ≤ 0 → mark ≡ bits test 10
marked_end {test} {i} {mark} m h =
    let z : i ≡ 0 = omega arith in
    let on : (k : ℕ) → i + k ≡ k = λ k. omega arith in
    m.is ∙ (λ d. bits (λ k. test (on k d)) (10 - z d))
