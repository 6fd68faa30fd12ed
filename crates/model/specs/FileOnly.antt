-- 02, request 2: what 02 says of the file fixes every byte of it. A list of bytes with the properties of `FileFor` is the file that `file_of` gives.
use Prim.Native.Nat.{ℕ, zero, suc, ◌+◌, ◌-◌, ◌*◌, ◌/◌, ◌%◌, ◌≤◌, ◌<◌}
use Rattle.std.proofs.Math.Decide.{ℕ_discrete}
use native.Mathlib.Omega.{arith}
use Rattle.std.specs.Prelude.{◌≡◌, ◌≢◌, Bool, List, length, get_or}
use Rattle.std.proofs.Math.Path.{refl, sym, ap}
use Rattle.std.proofs.Common.{◌∙◌, ext_get_or, ltb-true, ltb-false}
use Rattle.std.proofs.Math.Bool.{true, false}
use Rattle.std.proofs.Math.Dec.{ltb}
use Rattle.laws.specs.Fold.{bit}
use Rattle.laws.specs.Search.{count, count_still}
use Rattle.model.specs.declared.Measures.{Measures}
use Rattle.model.specs.Store.{u16_at, u16_bytes, entry_count, entry_number, is_named, named_cells, file_of}
use Rattle.model.specs.FileWritten.{FileFor, cost_other, cost_one, named_count, named_at, length_file, file_low, file_high, file_cost}

module _ {m : Measures} {base f : List ℕ} (a : FileFor m base f) where
  -- a number of the file has an entry, and a cell that is no number of it has none
  number_named : (k : ℕ) → k < entry_count f → is_named base (entry_number f k) ≡ true
  number_named k l = go (is_named base (entry_number f k)) refl
    where
      go : (b : Bool) → is_named base (entry_number f k) ≡ b → is_named base (entry_number f k) ≡ true
      go true e = e
      go false e = absurd (a.not_one k l (a.cost k l ∙ cost_one base (entry_number f k) e))

  no_number : (v : ℕ) → v < length base → ((j : ℕ) → j < entry_count f → entry_number f j ≢ v) → is_named base v ≡ false
  no_number v l none = go (is_named base v) refl
    where
      go : (b : Bool) → is_named base v ≡ b → is_named base v ≡ false
      go true e = let k = a.every v l (cost_other base v e) in absurd (none k.0 k.1 k.2)
      go false e = e

  -- the numbers ascend
  no_less : (j k : ℕ) → j ≤ k → k < entry_count f → entry_number f j ≤ entry_number f k
  no_less j k h l = go (ℕ_discrete j k)
    where
      go : Dec (j ≡ k) → entry_number f j ≤ entry_number f k
      go (yes e) = rw e (omega arith)
      go (no e) = omega (arith, a.ascending j k (omega arith) l)

  -- so below the number at place k are k cells that have one
  place : (k : ℕ) → k < entry_count f → count (is_named base) (entry_number f k) ≡ k
  unfolding count bit
  place zero l =
      count_still (is_named base) 0 (entry_number f 0) (omega arith)
      (λ v h i. no_number v (omega (arith, a.on 0 l)) (λ j o e. omega (arith, no_less 0 j (omega arith) o)))
  place (suc k) l =
      let before : k < entry_count f = omega arith in
      let step = a.ascending k (suc k) (omega arith) l in
      count_still (is_named base) (suc (entry_number f k)) (entry_number f (suc k)) (omega arith)
      (λ v h i. no_number v (omega (arith, a.on (suc k) l)) (λ j o e. apart v h i j o e (ltb k j) refl))
      ∙ rw (number_named k before, place k before) (omega arith)
    where
      apart : (v : ℕ) → suc (entry_number f k) ≤ v → v < entry_number f (suc k) → (j : ℕ) → j < entry_count f → entry_number f j ≡ v → (b : Bool) → ltb k j ≡ b → ⊥
      apart v h i j o e true t = omega (arith, no_less (suc k) j (ltb-true k j t) o)
      apart v h i j o e false t = omega (arith, no_less j k (ltb-false k j t) (omega arith))

  -- and the file has as many entries as there are such cells
  all_counted : entry_count f ≡ length (named_cells base)
  unfolding count bit
  all_counted = go (entry_count f) refl ∙ sym (named_count base)
    where
      go : (n : ℕ) → entry_count f ≡ n → entry_count f ≡ count (is_named base) (length base)
      go zero e = e ∙ sym (count_still (is_named base) 0 (length base) (omega arith) (λ v h i. no_number v i (λ j o z. omega arith)))
      go (suc n) e =
          let low : n < entry_count f = omega arith in
          let up = count_still (is_named base) (suc (entry_number f n)) (length base) (omega (arith, a.on n low)) (λ v h i. no_number v i (λ j o z. omega (arith, no_less j n (omega arith) low))) in
          e ∙ sym (up ∙ rw (number_named n low, place n low) (omega arith))

  in_place : (k : ℕ) → k < length (named_cells base) → entry_number f k ≡ get_or (named_cells base) k 0
  in_place k l =
      let low : k < entry_count f = rw all_counted l in
      sym (named_at base (entry_number f k) k (a.on k low) (number_named k low) (sym (place k low)))

  -- ---- byte by byte
  module _ (bytes : (p : ℕ) → get_or f p 0 < 256) where
    -- the two bytes that a u16 is read from
    low_of : (p n : ℕ) → u16_at f p ≡ n → get_or f p 0 ≡ n % 256
    unfolding u16_at
    low_of p n e = omega (arith, bytes p)

    high_of : (p n : ℕ) → u16_at f p ≡ n → get_or f (p + 1) 0 ≡ n / 256
    unfolding u16_at
    high_of p n e = omega (arith, bytes p)

    abbrev file : List ℕ
    file = file_of m base

    head_same : (p : ℕ) → p < 5 → get_or f p 0 ≡ get_or file p 0
    unfolding file_of u16_bytes
    head_same zero l = ap (λ (x : Measures). x.columns) a.measures
    head_same (suc zero) l = ap (λ (x : Measures). x.rows) a.measures
    head_same (suc (suc zero)) l = ap (λ (x : Measures). x.scale) a.measures
    head_same (suc (suc (suc zero))) l = low_of 3 (length (named_cells base)) all_counted
    head_same (suc (suc (suc (suc zero)))) l = high_of 3 (length (named_cells base)) all_counted
    head_same (suc (suc (suc (suc (suc p))))) l = absurd (omega arith)

    entry_same : (k : ℕ) → k < length (named_cells base) → (get_or f (5 + 2 * k) 0 ≡ get_or file (5 + 2 * k) 0) × (get_or f (5 + 2 * k + 1) 0 ≡ get_or file (5 + 2 * k + 1) 0)
    entry_same k l =
        (low_of (5 + 2 * k) (get_or (named_cells base) k 0) (in_place k l) ∙ sym (file_low m base k l), high_of (5 + 2 * k) (get_or (named_cells base) k 0) (in_place k l) ∙ sym (file_high m base k l))

    cost_same : (k : ℕ) → k < length (named_cells base) → get_or f (5 + 2 * length (named_cells base) + k) 0 ≡ get_or file (5 + 2 * length (named_cells base) + k) 0
    cost_same k l = rw (← all_counted) (a.cost k (rw all_counted l)) ∙ ap (λ (v : ℕ). get_or base v 0) (in_place k l) ∙ sym (file_cost m base k l)

    byte_same : (p : ℕ) → p < 5 + 3 * length (named_cells base) → (b c d : Bool) → ltb p 5 ≡ b → ltb p (5 + 2 * length (named_cells base)) ≡ c → ltb ((p - 5) % 2) 1 ≡ d → get_or f p 0 ≡ get_or file p 0
    byte_same p l true c d eb ec ed = head_same p (ltb-true p 5 eb)
    byte_same p l false true true eb ec ed =
        let e : p ≡ 5 + 2 * ((p - 5) / 2) = omega (arith, ltb-false p 5 eb, ltb-true ((p - 5) % 2) 1 ed) in
        rw e (entry_same ((p - 5) / 2) (omega (arith, ltb-true p (5 + 2 * length (named_cells base)) ec))).0
    byte_same p l false true false eb ec ed =
        let e : p ≡ 5 + 2 * ((p - 5) / 2) + 1 = omega (arith, ltb-false p 5 eb, ltb-false ((p - 5) % 2) 1 ed) in
        rw e (entry_same ((p - 5) / 2) (omega (arith, ltb-true p (5 + 2 * length (named_cells base)) ec))).1
    byte_same p l false false d eb ec ed =
        let k : ℕ = p - (5 + 2 * length (named_cells base)) in
        let e : p ≡ 5 + 2 * length (named_cells base) + k = omega (arith, ltb-false p (5 + 2 * length (named_cells base)) ec) in
        rw e (cost_same k (omega (arith, ltb-false p (5 + 2 * length (named_cells base)) ec)))

    pub only_file : f ≡ file_of m base
    only_file =
        let long : length f ≡ 5 + 3 * length (named_cells base) = a.whole ∙ ap (λ (n : ℕ). 5 + 3 * n) all_counted in
        ext_get_or 0 f file (long ∙ sym (length_file m base)) (λ p l. byte_same p (omega arith) (ltb p 5) (ltb p (5 + 2 * length (named_cells base))) (ltb ((p - 5) % 2) 1) refl refl refl)
