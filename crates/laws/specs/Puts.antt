-- Values put into a list one after the other, each at a place of its own choice: what stands at a place afterwards.
use Rattle.std.specs.Prelude.{◌≡◌, ◌≢◌, length, get_or, set}
use Rattle.std.proofs.Math.Path.{refl}
use Rattle.std.proofs.Common.{sym, ◌∙◌, not-suc-le-zero, arith, get_or-set_same}
use mathlib.Core.List.{List}
use Prim.Native.Nat.{ℕ, zero, suc, ◌<◌}
use Rattle.std.proofs.Math.Decide.{ℕ_discrete}
use Rattle.std.proofs.Math.ListN.{length-set}
use Rattle.std.proofs.Math.Seq.{get_or-set_other}
use Rattle.laws.specs.Fold.{run, run_length}

-- turn k puts v k at place at k
unfoldable pub put : (ℕ → ℕ) → (ℕ → ℕ) → ℕ → List ℕ → List ℕ
put at v k xs = set xs (at k) (v k)

module _ (at v : ℕ → ℕ) (xs : List ℕ) where
  pub length_puts : (n : ℕ) → length (run (put at v) n xs) ≡ length xs
  unfolding put
  length_puts n = run_length (put at v) (λ k ys. length-set ys (at k) (v k)) n xs

  -- a place where none was put is as it was
  pub puts_none : (n i : ℕ) → ((k : ℕ) → k < n → at k ≢ i) → get_or (run (put at v) n xs) i 0 ≡ get_or xs i 0
  unfolding run put
  puts_none zero i other = refl
  puts_none (suc n) i other = get_or-set_other (run (put at v) n xs) (at n) i (v n) 0 (λ e. other n (omega arith) (sym e)) ∙ puts_none n i (λ k l. other k (omega arith))

  -- where one was put, and all that were put are c, there is c
  pub puts_one : (n i k c : ℕ) → i < length xs → k < n → at k ≡ i → ((j : ℕ) → j < n → at j ≡ i → v j ≡ c) → get_or (run (put at v) n xs) i 0 ≡ c
  unfolding run put
  puts_one zero i k c h l e same = absurd (not-suc-le-zero l)
  puts_one (suc n) i k c h l e same = go (ℕ_discrete (at n) i) (λ m. puts_one n i k c h m e (λ j o. same j (omega arith)))
    where
      ys : List ℕ
      ys = run (put at v) n xs

      go : Dec (at n ≡ i) → (k < n → get_or ys i 0 ≡ c) → get_or (set ys (at n) (v n)) i 0 ≡ c
      go (yes a) rest = rw a (get_or-set_same ys i (v n) 0 (rw (length_puts n) h) ∙ same n (omega arith) a)
      go (no a) rest = get_or-set_other ys (at n) i (v n) 0 (λ f. a (sym f)) ∙ rest (not_last (ℕ_discrete k n))
        where
          not_last : Dec (k ≡ n) → k < n
          not_last (yes f) = absurd (a (rw (← f) e))
          not_last (no f) = omega arith
