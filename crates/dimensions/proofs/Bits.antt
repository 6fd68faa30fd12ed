-- What an f32's bits say of its whole neighbours up to 16.
use mathlib.Core.Path.{◌≡◌, refl, sym, ap, ap₂, ◌∙◌, subst}
use mathlib.Core.Bool.{Bool, true, false, cond, true≢false, false≢true}
use Prim.Native.Nat.{ℕ, zero, suc, ◌+◌, ◌-◌, ◌*◌, ◌/◌, ◌%◌, ◌^◌, ◌≤◌, ◌<◌, min}
use native.Mathlib.Nat.{suc-mul, add-mul, mul_comm, mul_assoc, mul-pos, div-div-eq-div-mul, mul-add-div_right, div-eq_of_lt, add-zero, zero-mul, mod-eq_of_lt}
use native.Mathlib.Nat.{mul-le-mul, le-div_iff_mul-le, div-lt_iff_lt-mul, div-eq_of_lt-le, one-mul, mul-div_cancel, le-add_right, lt_of_le_of_lt, lt_of_lt_of_le, le_trans, not-suc-le-zero}
use native.Mathlib.Omega.{arith}
use lib.Dec.{T, leb, eqb, lit<, lit≤}
use lib.Pow.{pow-add, pow_pos, pow_mono}
use lib.Ieee.{Float, nan, inf, fin, binary32, up, down, lt, fits, odd, of_fields, of_bits, to_bits}
use lib.Ieee.Fits.{down_pos}
use lib.Ieee.Bits.{of_bits-to_bits}
use lib.Ieee.Exact.{HasValue, odd_sign}
use lib.Ieee.Nearest.{div_same}
use borrow.Author.Tests.{leb-false, ltb-false, ne_eqb}
use Rattle.std.specs.Int.{div_ceil}
use Rattle.std.proofs.lemmas.Grind.{div_ceil_times}
use Rattle.model.specs.Measuring.{fzero, cut_down, round_up}

-- ---- equal fractions round up alike
pred_mul : (b k : ℕ) → 0 < b → (b - 1) * k + k ≡ b * k
pred_mul zero k h = absurd (not-suc-le-zero h)
pred_mul (suc b) k h = ap (λ (x : ℕ). x * k + k) (omega arith) ∙ sym (suc-mul b k)

up_scale : (a b k : ℕ) → 0 < b → 0 < k → (a * k + (b * k - 1)) / (b * k) ≡ (a + (b - 1)) / b
up_scale a b k hb hk =
    let e : a * k + (b * k - 1) ≡ (a + (b - 1)) * k + (k - 1) = omega (arith, add-mul a (b - 1) k, pred_mul b k hb) in
    let d : ((a + (b - 1)) * k + (k - 1)) / k ≡ a + (b - 1) =
    mul-add-div_right hk (a + (b - 1)) (k - 1) ∙ ap (λ (x : ℕ). a + (b - 1) + x) (div-eq_of_lt (omega arith)) ∙ add-zero (a + (b - 1)) in
    ap₂ (λ (x y : ℕ). x / y) e (mul_comm b k) ∙ sym (div-div-eq-div-mul ((a + (b - 1)) * k + (k - 1)) k b) ∙ ap (λ (x : ℕ). x / b) d

up_same : (a b c d : ℕ) → 0 < b → 0 < d → a * d ≡ c * b → (a + (b - 1)) / b ≡ (c + (d - 1)) / d
up_same a b c d hb hd e =
    sym (up_scale a b d hb hd) ∙ ap₂ (λ (x y : ℕ). (x + (y - 1)) / y) e (mul_comm b d) ∙ up_scale c d b hd hb

-- std's division that rounds up
ceil_is : (a b : ℕ) → 0 < b → (a + (b - 1)) / b ≡ div_ceil a b
ceil_is a b h =
    let k = div_ceil a b in
    let t = div_ceil_times a b h in
    div-eq_of_lt-le {k = k} b (omega arith) (omega (arith, suc-mul k b))

-- ---- the whole neighbours of a value that is a / c
whole_of : (v : Float) (a c : ℕ) → 0 < c → HasValue v false a c → (cut_down v ≡ a / c) × (round_up v ≡ (a + (c - 1)) / c)
unfolding cut_down round_up
whole_of nan a c p h = absurd h
whole_of (inf s) a c p h = absurd h
whole_of (fin true m e) a c p h = absurd (true≢false h.0)
whole_of (fin false m e) a c p h = (div_same (m * up e) (down e) a c (down_pos e) p h.1, up_same (m * up e) (down e) a c (down_pos e) p h.1)

-- what `whole_near` ensures
abbrev pub Near : Float → ℕ → ℕ → Type 0
Near v d u = (d ≡ min (cut_down v) 16) × (u ≡ min (round_up v) 16)

-- between 0 and 1
between : (v : Float) (a c : ℕ) → 0 < a → a < c → HasValue v false a c → Near v 0 1
between v a c p l h =
    let w = whole_of v a c (omega arith) h in
    let d : a / c ≡ 0 = div-eq_of_lt l in
    let u : (a + (c - 1)) / c ≡ 1 = div-eq_of_lt-le c (omega (arith, one-mul c)) (omega (arith, suc-mul 1 c, one-mul c)) in
    (omega arith, omega arith)

-- below 16, and n / part too
over : (v : Float) (a c n part : ℕ) → 0 < c → 0 < part → a * part ≡ n * c → n < 16 * part → HasValue v false a c
    → Near v (n / part) ((n + (part - 1)) / part)
over v a c n part pc pp e l h =
    let w = whole_of v a c pc h in
    let d : a / c ≡ n / part = div_same a c n part pc pp e in
    let u : (a + (c - 1)) / c ≡ (n + (part - 1)) / part = up_same a c n part pc pp e in
    let ld : n / part < 16 = (div-lt_iff_lt-mul pp).1 l in
    let lu : (n + (part - 1)) / part < 17 = (div-lt_iff_lt-mul pp).1 (omega (arith, suc-mul 16 part)) in
    (omega arith, omega arith)

-- 16 or more
beyond : (v : Float) (a c : ℕ) → 0 < c → 16 * c ≤ a → HasValue v false a c → Near v 16 16
beyond v a c p l h =
    let w = whole_of v a c p h in
    let d : 16 ≤ a / c = (le-div_iff_mul-le p).1 l in
    let u : 16 ≤ (a + (c - 1)) / c = (le-div_iff_mul-le p).1 (le_trans l (le-add_right a (c - 1))) in
    (omega arith, omega arith)

-- ---- by the fields of a value above zero
odd_above : (d q k l : ℕ) → lt fzero (odd d true q k l) ≡ true → ⊥
unfolding odd lt
odd_above d zero k l t = false≢true t
odd_above d (suc q) k l t = false≢true t

sign : (s : Bool) (x t : ℕ) → lt fzero (of_fields binary32 s x t) ≡ true → s ≡ false
unfolding of_fields lt
sign false x t h = refl
sign true zero t h = absurd (odd_above 24 t 0 149 h)
sign true (suc x) t h = absurd (go (eqb (suc x) 255) (eqb t 0) h)
  where
    go : (b c : Bool) → lt fzero (cond b (cond c (inf true) nan) (odd 24 true (8388608 + t) x 149)) ≡ true → ⊥
    go true true h = false≢true h
    go true false h = false≢true h
    go false c h = odd_above 24 (8388608 + t) x 149 h

value : (x t : ℕ) → x < 254 → HasValue (of_fields binary32 false (suc x) t) false ((8388608 + t) * 2 ^ x) (2 ^ 149)
unfolding of_fields
value x t h =
    subst (λ (b : Bool). HasValue (cond b (cond (eqb t 0) (inf false) nan) (odd 24 false (8388608 + t) x 149)) false ((8388608 + t) * 2 ^ x) (2 ^ 149))
    (sym (ne_eqb (suc x) 255 (λ (e : suc x ≡ 255). omega arith))) (odd_sign 24 false (8388608 + t) x 149)

-- below 1
fields_small : (x t : ℕ) → x < 127 → t < 8388608 → (x * 8388608 + t ≡ 0 → ⊥) → Near (of_fields binary32 false x t) 0 1
unfolding of_fields
fields_small zero t l b n =
    between (odd 24 false t 0 149) (t * 1) (2 ^ 149) (omega arith) (lt_of_lt_of_le {m = 8388608} (omega arith) (lit≤ tt)) (odd_sign 24 false t 0 149)
fields_small (suc x) t l b n =
    between (of_fields binary32 false (suc x) t) ((8388608 + t) * 2 ^ x) (2 ^ 149) (mul-pos (omega arith) (pow_pos x))
    (lt_of_le_of_lt (mul-le-mul {n₁ = 8388608 + t} {m₁ = 2 ^ x} {n₂ = 16777215} {m₂ = 2 ^ 125} (omega arith) (pow_mono {i = x} {j = 125} (omega arith))) (lit< tt))
    (value x t (omega arith))

-- 16 or more, or infinite
fields_large : (x t : ℕ) → 130 < x → lt fzero (of_fields binary32 false x t) ≡ true → Near (of_fields binary32 false x t) 16 16
unfolding of_fields cut_down round_up lt
fields_large zero t l h = absurd (not-suc-le-zero l)
fields_large (suc x) t l h = go (eqb (suc x) 255) (eqb t 0) h
  where
    go : (b c : Bool) → lt fzero (cond b (cond c (inf false) nan) (odd 24 false (8388608 + t) x 149)) ≡ true
        → Near (cond b (cond c (inf false) nan) (odd 24 false (8388608 + t) x 149)) 16 16
    go true true h = (refl, refl)
    go true false h = absurd (false≢true h)
    go false c h =
        beyond (odd 24 false (8388608 + t) x 149) ((8388608 + t) * 2 ^ x) (2 ^ 149) (pow_pos 149)
        (mul-le-mul {n₁ = 8388608} {m₁ = 2 ^ 130} (omega arith) (pow_mono {i = 130} {j = x} (omega arith))) (odd_sign 24 false (8388608 + t) x 149)

-- What the digits are divided by where the exponent's field is 127 + k: the product with their weight is 1.
record Part (k part : ℕ) : Type 0 where
  low : 2 ^ 20 ≤ part
  high : part ≤ 2 ^ 23
  weight : 2 ^ (126 + k) * part ≡ 2 ^ 149

part_at : (k : ℕ) → k < 4 → Part k (8388608 / 2 ^ k)
part_at k h =
    let j : 23 ≡ 23 - k + k = omega arith in
    let w : 126 + k + (23 - k) ≡ 149 = omega arith in
    let s : 8388608 ≡ 2 ^ (23 - k) * 2 ^ k = ap (λ (n : ℕ). 2 ^ n) j ∙ pow-add 2 (23 - k) k in
    let e : 8388608 / 2 ^ k ≡ 2 ^ (23 - k) = ap (λ (n : ℕ). n / 2 ^ k) s ∙ mul-div_cancel (2 ^ (23 - k)) (pow_pos k) in
    rw e record {
      low = pow_mono {i = 20} {j = 23 - k} (omega arith);
      high = pow_mono {i = 23 - k} {j = 23} (omega arith);
      weight = sym (pow-add 2 (126 + k) (23 - k)) ∙ ap (λ (n : ℕ). 2 ^ n) w;
    }

-- ---- by the bits: the exponent's field, the digits after the first, all 24 digits, and what they are divided by
abbrev pub field : Float → ℕ
field v = to_bits binary32 v / 8388608

abbrev pub rest : Float → ℕ
rest v = to_bits binary32 v % 8388608

abbrev pub digits : Float → ℕ
digits v = 8388608 + rest v

abbrev pub part : Float → ℕ
part v = 8388608 / 2 ^ (field v - 127)

-- not above zero
pub near_none : (v : Float) → lt fzero v ≡ false → Near v 0 0
unfolding lt cut_down round_up
near_none nan h = (refl, refl)
near_none (inf true) h = (refl, refl)
near_none (inf false) h = absurd (true≢false h)
near_none (fin true m e) h = (refl, refl)
near_none (fin false m e) h =
    let z : m * up e ≡ 0 = omega (arith, ltb-false (0 * down e) (m * up e * 1) h, zero-mul (down e)) in
    let d : m * up e / down e ≡ 0 = div-eq_of_lt (omega (arith, down_pos e)) in
    let u : (m * up e + (down e - 1)) / down e ≡ 0 = div-eq_of_lt (omega (arith, down_pos e)) in
    (omega arith, omega arith)

module _ (v : Float) (f : fits binary32 v ≡ true) (p : lt fzero v ≡ true) where
  back : of_bits binary32 (to_bits binary32 v) ≡ v
  back = of_bits-to_bits binary32 v (subst T (sym f) tt)

  positive : leb 2147483648 (to_bits binary32 v) ≡ false
  unfolding of_bits
  positive =
      let b = to_bits binary32 v in
      sign (leb 2147483648 b) (b % 2147483648 / 8388608) (rest v) (ap (lt fzero) back ∙ p)

  by_fields : v ≡ of_fields binary32 false (field v) (rest v)
  unfolding of_bits
  by_fields =
      sym back ∙ ap₂ (λ (s : Bool) (b : ℕ). of_fields binary32 s (b / 8388608) (rest v)) positive (mod-eq_of_lt (leb-false 2147483648 (to_bits binary32 v) positive))

  not_zero : to_bits binary32 v ≡ 0 → ⊥
  unfolding of_fields odd lt
  not_zero e = false≢true (sym (ap (lt fzero) (by_fields ∙ ap (λ (b : ℕ). of_fields binary32 false (b / 8388608) (b % 8388608)) e)) ∙ p)

  pub near_small : field v < 127 → Near v 0 1
  near_small l = subst (λ (x : Float). Near x 0 1) (sym by_fields) (fields_small (field v) (rest v) l (omega arith) (λ e. not_zero (omega arith)))

  pub near_large : 130 < field v → Near v 16 16
  near_large l = subst (λ (x : Float). Near x 16 16) (sym by_fields) (fields_large (field v) (rest v) l (sym (ap (lt fzero) by_fields) ∙ p))

  pub near_digits : 127 ≤ field v → field v ≤ 130 → Near v (digits v / part v) (div_ceil (digits v) (part v))
  near_digits l h =
      let x = 126 + (field v - 127) in
      let e : field v ≡ suc x = omega arith in
      let k = part_at (field v - 127) (omega arith) in
      let w : v ≡ of_fields binary32 false (suc x) (rest v) = by_fields ∙ ap (λ (y : ℕ). of_fields binary32 false y (rest v)) e in
      let near = over v (digits v * 2 ^ x) (2 ^ 149) (digits v) (part v) (pow_pos 149) (omega (arith, k.low))
      (mul_assoc (digits v) (2 ^ x) (part v) ∙ ap (λ (y : ℕ). digits v * y) k.weight) (omega (arith, k.low))
      (subst (λ (y : Float). HasValue y false (digits v * 2 ^ x) (2 ^ 149)) (sym w) (value x (rest v) (omega arith))) in
      rw (ceil_is (digits v) (part v) (omega (arith, k.low))) at near
