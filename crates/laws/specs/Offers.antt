-- What an arc's offer is and leaves, in the two cases that code meets: it is less than its head has, or it is not.
use Prim.Native.Nat.{ℕ, ◌+◌, ◌<◌}
use Rattle.std.specs.Prelude.{◌≡◌, Bool, true, false, ◌&&◌, get_or, ltb}
use Rattle.std.proofs.Math.Path.{refl}
use mathlib.Core.List.{List}
use Rattle.std.proofs.Math.ListN.{set}
use borrow.Author.Tests.{ltb-true, lt-ltb, le-ltb}
use Rattle.laws.specs.Fold.{pick}
use Rattle.laws.specs.Graph.{Graph, Low}
use Rattle.laws.specs.Relaxing.{offers, relaxed}

module _ (g : Graph) (d : List ℕ) (e : ℕ) where
  pub offered : 0 < g.weight e → get_or d (g.tail e) 0 + g.weight e < get_or d (g.head e) 0 → (offers g d e ≡ true) × (relaxed g d e ≡ set d (g.head e) (get_or d (g.tail e) 0 + g.weight e))
  unfolding relaxed offers
  offered p o = rw (lt-ltb 0 (g.weight e) p, lt-ltb (get_or d (g.tail e) 0 + g.weight e) (get_or d (g.head e) 0) o) (refl, refl)

  pub not_offered : Low g d e → (offers g d e ≡ false) × (relaxed g d e ≡ d)
  unfolding relaxed offers
  not_offered low = go (ltb 0 (g.weight e)) refl
    where
      new : List ℕ
      new = set d (g.head e) (get_or d (g.tail e) 0 + g.weight e)

      less : Bool
      less = ltb (get_or d (g.tail e) 0 + g.weight e) (get_or d (g.head e) 0)

      go : (b : Bool) → ltb 0 (g.weight e) ≡ b → (b && less ≡ false) × (pick (b && less) new d ≡ d)
      go true q = rw (le-ltb (get_or d (g.tail e) 0 + g.weight e) (get_or d (g.head e) 0) (low (ltb-true 0 (g.weight e) q))) (refl, refl)
      go false q = (refl, refl)
