-- Searches over the numbers below a count, as the library's chains over a range give them.
use Rattle.std.specs.Prelude.{◌≡◌, ℕ, zero, suc, ◌+◌, ◌<◌, ◌||◌, ltb, Bool, true, false, Option, List}
use Rattle.std.specs.List.{list_any, range_with_len, FoldsTo}
use Rattle.std.specs.Fn.{Called}
use Rattle.std.specs.Iterator.{YieldsThen}
use Rattle.std.specs.Option.{MatchOption}
use Rattle.std.specs.declared.ops.Range.{Range}
use Rattle.std.proofs.Common.{sym, ap, ◌∙◌, add-zero, zero-add, lt-ltb, le-ltb, arith}
use Rattle.std.proofs.iter.Yields.{nat_range_steps}
use Rattle.std.proofs.lemmas.Iterator.{YieldsList-from_range}
use Rattle.std.proofs.lemmas.Iterator.Search.{any_from_yields_List}
use Rattle.std.proofs.lemmas.Bool.Decides.{nat_tests}
use denote.Param.Members.{Mut}
use Rattle.laws.specs.Fold.{pick}
use Rattle.laws.specs.Search.{first, any}

-- one of the first suc n numbers passes if 0 does, or one of those after it
any_next : (p : ℕ → Bool) (n : ℕ) → any p (suc n) ≡ p 0 || any (λ k. p (suc k)) n
unfolding any first
any_next p n = go (p 0)
  where
    rest : ℕ
    rest = first (λ k. p (suc k)) n

    go : (b : Bool) → ltb (pick b 0 (suc rest)) (suc n) ≡ b || ltb rest n
    go true = lt-ltb 0 (suc n) (omega arith)
    go false = grind (arith, nat_tests)

-- whether one of the n numbers from a on passes
any_listed : (p q : ℕ → Bool) (a n : ℕ) → ((k : ℕ) → k < n → p (a + k) ≡ q k) → list_any p (range_with_len a n) ≡ any q n
unfolding any
any_listed p q a zero h = sym (le-ltb (first q 0) 0 (omega arith))
any_listed p q a (suc n) h =
    let rest : list_any p (range_with_len (a + 1) n) ≡ any (λ k. q (suc k)) n = any_listed p (λ k. q (suc k)) (a + 1) n (λ k l. ap p (let e : a + 1 + k ≡ a + suc k = omega arith in e) ∙ h (suc k) (omega arith)) in
    let here : p a ≡ q 0 = ap p (sym (add-zero a)) ∙ h 0 (omega arith) in
    rw (here, rest) (sym (any_next q n))

-- what `(0..n).any(test)` answers
pub any_range : {F : Type 0} {g : Mut F (ℕ × Unit {0}) Bool} (p : ℕ → Bool) (n : ℕ) (s u : Range ℕ) (f : F) (r : Bool)
    → (xs : List ℕ) × (o : Option ℕ) × (j : F) × YieldsThen nat_range_steps s xs o u × FoldsTo (λ p x q. Called g p (x, tt) false q) f xs j × MatchOption o (r ≡ false) (λ x. (r ≡ true) × ((h : F) × Called g j (x, tt) true h))
    → s ≡ record { start = 0; end = n } → ((x : ℕ) (b : Bool) (q : F) → Called g f (x, tt) b q → (q ≡ f) × (b ≡ p x)) → r ≡ any p n
any_range p n s u f r ran e call = any_from_yields_List p u f r ran (YieldsList-from_range 0 n n e (omega arith)) call ∙ any_listed p p 0 n (λ k l. ap p (zero-add k))
