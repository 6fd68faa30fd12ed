-- Bits of numbers: what and, or and a shift make of them.
use Prim.Native.Nat.{ℕ, ◌+◌, ◌-◌, ◌*◌, ◌/◌, ◌%◌, ◌^◌, ◌≤◌, ◌<◌, max}
use native.Mathlib.Nat.{min-le_left, min-le_right, le-max_left, le-max_right, max-add-min, max-le, add-zero}
use native.Mathlib.Omega.{arith}
use mathlib.Core.Path.{◌≡◌, sym, ap, ◌∙◌}
use Rattle.std.specs.Int.{bit_at}
use Rattle.std.proofs.lemmas.Nat.Bits.{bit_at_and, bit_at_or, bit_at-zero, bit_at_cat_low}
use lib.Bits.{bit_and, bit_or}
use lib.Pow.{shr-shr, shl-shr, field, mod-mod-pow}

-- ---- and, or
pub record AndBit (a b k : ℕ) : Type 0 where
  pub left : bit_at (bit_and a b) k ≤ bit_at a k
  pub right : bit_at (bit_and a b) k ≤ bit_at b k
  pub both : bit_at a k + bit_at b k ≤ bit_at (bit_and a b) k + 1

pub and_bit : (a b k : ℕ) → AndBit a b k
and_bit a b k = record { left = rw bit_at_and (min-le_left x y); right = rw bit_at_and (min-le_right x y); both = rw bit_at_and (omega (arith, max-add-min x y, small)) }
  where
    x : ℕ
    x = bit_at a k

    y : ℕ
    y = bit_at b k

    small : max x y ≤ 1
    small = max-le (omega arith) (omega arith)

pub record OrBit (a b k : ℕ) : Type 0 where
  pub left : bit_at a k ≤ bit_at (bit_or a b) k
  pub right : bit_at b k ≤ bit_at (bit_or a b) k
  pub either : bit_at (bit_or a b) k ≤ bit_at a k + bit_at b k

pub or_bit : (a b k : ℕ) → OrBit a b k
or_bit a b k = record { left = rw bit_at_or (le-max_left x y); right = rw bit_at_or (le-max_right x y); either = rw bit_at_or (omega (arith, max-add-min x y)) }
  where
    x : ℕ
    x = bit_at a k

    y : ℕ
    y = bit_at b k

-- ---- shifts
-- to the right
pub down_bit : (n s k : ℕ) → bit_at (n / 2 ^ s) k ≡ bit_at n (s + k)
down_bit n s k = ap (λ (m : ℕ). m % 2) (shr-shr n s k)

-- to the left
pub up_bit : (n s k : ℕ) → bit_at (n * 2 ^ s) (s + k) ≡ bit_at n k
up_bit n s k = sym (down_bit (n * 2 ^ s) s k) ∙ ap (λ (m : ℕ). bit_at m k) (shl-shr n s)

pub up_low : (n s k : ℕ) → k < s → bit_at (n * 2 ^ s) k ≡ 0
up_low n s k h = simp add-zero at (bit_at_cat_low n s 0 k h) ∙ bit_at-zero k

-- what is cut off above a bit does not change it
pub cut_bit : (n k : ℕ) → k < 64 → bit_at (n % 2 ^ 64) k ≡ bit_at n k
cut_bit n k h =
    let all : 64 ≡ 63 - k + 1 + k = omega arith in
    ap (λ (e : ℕ). bit_at (n % 2 ^ e) k) all ∙ ap (λ (m : ℕ). m % 2) (field n (63 - k + 1) k) ∙ mod-mod-pow (n / 2 ^ k) (63 - k) 1
