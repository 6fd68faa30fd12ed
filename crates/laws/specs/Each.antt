-- The entries of a list set one after the other, each to what a rule gives for it: all of them together are the rule's table.
use Rattle.std.specs.Prelude.{◌≡◌, length, get_or, set}
use Rattle.std.proofs.Math.Path.{refl}
use Rattle.std.proofs.Common.{sym, ap, ◌∙◌, not-suc-le-zero, arith, get_or-set_same, ext_get_or}
use mathlib.Core.List.{List}
use Prim.Native.Nat.{ℕ, zero, suc, ◌<◌, ◌≤◌}
use Rattle.std.proofs.Math.Decide.{ℕ_discrete}
use Rattle.std.proofs.Math.ListN.{length-set}
use Rattle.std.proofs.Math.Seq.{get_or-set_other}
use Rattle.laws.specs.Fold.{run, run_length, Ran, ran_end}
use Rattle.laws.specs.Table.{tabulate, length_tabulate, tabulate_at}

-- entry k becomes what the rule gives for its number and what stood there
unfoldable pub each : (ℕ → ℕ → ℕ) → ℕ → List ℕ → List ℕ
each g k xs = set xs k (g k (get_or xs k 0))

module _ (g : ℕ → ℕ → ℕ) (xs : List ℕ) where
  length_each : (n : ℕ) → length (run (each g) n xs) ≡ length xs
  unfolding each
  length_each n = run_length (each g) (λ k ys. length-set ys k (g k (get_or ys k 0))) n xs

  -- entries to come are as they were
  each_ahead : (n k : ℕ) → n ≤ k → get_or (run (each g) n xs) k 0 ≡ get_or xs k 0
  unfolding run each
  each_ahead zero k h = refl
  each_ahead (suc n) k h = get_or-set_other (run (each g) n xs) n k (g n (get_or (run (each g) n xs) n 0)) 0 (λ e. omega arith) ∙ each_ahead n k (omega arith)

  -- those passed are as the rule says
  each_passed : (n k : ℕ) → k < n → n ≤ length xs → get_or (run (each g) n xs) k 0 ≡ g k (get_or xs k 0)
  unfolding run each
  each_passed zero k l h = absurd (not-suc-le-zero l)
  each_passed (suc n) k l h = go (ℕ_discrete k n) (λ m. each_passed n k m (omega arith))
    where
      ys : List ℕ
      ys = run (each g) n xs

      go : Dec (k ≡ n) → (k < n → get_or ys k 0 ≡ g k (get_or xs k 0)) → get_or (set ys n (g n (get_or ys n 0))) k 0 ≡ g k (get_or xs k 0)
      go (yes e) rest = rw e (get_or-set_same ys n (g n (get_or ys n 0)) 0 (rw (length_each n) (omega arith)) ∙ ap (g n) (each_ahead n n (omega arith)))
      go (no e) rest = get_or-set_other ys n k (g n (get_or ys n 0)) 0 e ∙ rest (omega arith)

  run_each : (n : ℕ) → length xs ≡ n → run (each g) n xs ≡ tabulate (λ k. g k (get_or xs k 0)) n 0
  run_each n e =
      let f : ℕ → ℕ = λ k. g k (get_or xs k 0) in
      ext_get_or 0 (run (each g) n xs) (tabulate f n 0) (length_each n ∙ e ∙ sym (length_tabulate f n 0))
      (λ k l. let m : k < n = rw (← e, ← length_each n) l in each_passed n k m (omega arith) ∙ sym (tabulate_at f n k 0 m))

-- where the loop that sets them is left
pub each_end : (g : ℕ → ℕ → ℕ) {n k i : ℕ} {s t : List ℕ} → Ran (each g) k i s t → k ≤ i → k ≡ length s → length s ≡ n → t ≡ tabulate (λ j. g j (get_or s j 0)) n 0
each_end g {n} {s = s} r l all e = ran_end r l ∙ ap (λ m. run (each g) m s) (all ∙ e) ∙ run_each g s n e
