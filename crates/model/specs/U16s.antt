-- Numbers as two bytes each, low byte first: how many bytes they take, and what stands at each place.
use Rattle.std.specs.Prelude.{◌≡◌, length, get_or}
use Rattle.std.proofs.Math.Path.{refl}
use Rattle.std.proofs.Common.{ap, ◌∙◌, not-suc-le-zero, le_of_suc-le-suc, add_assoc, add-one, get_or-append-add}
use mathlib.Core.List.{List, [], ◌∷◌, ◌++◌}
use Prim.Native.Nat.{ℕ, zero, suc, ◌+◌, ◌*◌, ◌/◌, ◌%◌, ◌<◌}
use native.Mathlib.Omega.{arith}
use Rattle.model.specs.Store.{u16_at, u16_bytes}

pub length_u16s : (ns : List ℕ) → length (u16_bytes ns) ≡ 2 * length ns
unfolding u16_bytes
length_u16s [] = refl
length_u16s (n ∷ ns) = ap (λ (k : ℕ). suc (suc k)) (length_u16s ns) ∙ double (length ns)
  where
    double : (k : ℕ) → suc (suc (2 * k)) ≡ 2 * suc k
    double k = omega arith

-- the two bytes of number k
module _ (rest : List ℕ) where
  pub low_byte : (ns : List ℕ) (k : ℕ) → k < length ns → get_or (u16_bytes ns ++ rest) (2 * k) 0 ≡ get_or ns k 0 % 256
  unfolding u16_bytes
  low_byte [] k h = absurd (not-suc-le-zero h)
  low_byte (n ∷ ns) zero h = refl
  low_byte (n ∷ ns) (suc k) h = let e : 2 * suc k ≡ suc (suc (2 * k)) = omega arith in rw e (low_byte ns k (le_of_suc-le-suc h))

  pub high_byte : (ns : List ℕ) (k : ℕ) → k < length ns → get_or (u16_bytes ns ++ rest) (2 * k + 1) 0 ≡ get_or ns k 0 / 256
  unfolding u16_bytes
  high_byte [] k h = absurd (not-suc-le-zero h)
  high_byte (n ∷ ns) zero h = refl
  high_byte (n ∷ ns) (suc k) h = let e : 2 * suc k + 1 ≡ suc (suc (2 * k + 1)) = omega arith in rw e (high_byte ns k (le_of_suc-le-suc h))

  -- and number k read from them
  pub u16_of : (ns : List ℕ) (k : ℕ) → k < length ns → u16_at (u16_bytes ns ++ rest) (2 * k) ≡ get_or ns k 0
  unfolding u16_at
  u16_of ns k h = rw (low_byte ns k h, high_byte ns k h) (two (get_or ns k 0))
    where
      two : (n : ℕ) → n % 256 + 256 * (n / 256) ≡ n
      two n = omega arith

-- behind other bytes
u16_next : (a b i : ℕ) (xs : List ℕ) → u16_at (a ∷ b ∷ xs) (2 * suc i) ≡ u16_at xs (2 * i)
unfolding u16_at
u16_next a b i xs =
    let e : 2 * suc i ≡ suc (suc (2 * i)) = omega arith in
    rw (e, add-one, add-one)

pub u16_past : (p q : List ℕ) (a i : ℕ) → length p ≡ a → u16_at (p ++ q) (a + i) ≡ u16_at q i
unfolding u16_at
u16_past p q a i e = rw (← e, add_assoc (length p) i 1, get_or-append-add p q i 0, get_or-append-add p q (i + 1) 0)
