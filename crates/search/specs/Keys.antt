-- The keys of a graph whose arcs lead both ways: a certified list holds them, and a path has the key of the path back.
use Rattle.std.specs.Prelude.{ℕ, ◌≤◌, ◌<◌, ◌≡◌, ◌⊎◌, get_or}
use Rattle.std.proofs.Common.{arith, subst, inl, inr}
use Rattle.std.proofs.Math.Logic.{∥∥₁_elim}
use Rattle.std.proofs.Math.Nat.{ℕ_set}
use Rattle.std.proofs.Math.Bridge.{le_prop}
use mathlib.Core.List.{List, is_set}
use Rattle.laws.specs.Graph.{Graph, Sound, Settled, BothWays, none_less, settled_least, turned_settled, settled_unique, least_back, below_or}
use Rattle.laws.specs.LeastCosts.{least_costs_settled}
use Rattle.model.specs.LeastPath.{unlinked, keys_to}

module _ {g : Graph} (sound : Sound g) (back : ∥ BothWays g ∥₁) where
  -- a certified list from e holds the keys to e, since every arc leads both ways
  pub keys_found : {d : List ℕ} {e : ℕ} → e < g.nodes → Settled g e unlinked d → d ≡ keys_to g e
  unfolding keys_to
  keys_found {d} {e} l ok =
      ∥∥₁_elim back (is_set ℕ_set d (keys_to g e)) (λ b.
      settled_unique (turned_settled b ok) (least_costs_settled (record { tail_in = sound.head_in; head_in = sound.tail_in }) l (omega arith)))

  -- so the keys to e are also the least costs from e
  pub keys_certified : {e : ℕ} → e < g.nodes → Settled g e unlinked (keys_to g e)
  keys_certified {e} l =
      let from = least_costs_settled {g = g} {top = unlinked} sound l (omega arith) in
      subst (λ (d : List ℕ). Settled g e unlinked d) (keys_found l from) from

  no_more_back : {e v : ℕ} → e < g.nodes → v < g.nodes → get_or (keys_to g v) e 0 ≤ get_or (keys_to g e) v 0
  no_more_back {e} {v} l k = go (below_or (get_or (keys_to g e) v 0) unlinked)
    where
      go : (get_or (keys_to g e) v 0 < unlinked) ⊎ (unlinked ≤ get_or (keys_to g e) v 0) → get_or (keys_to g v) e 0 ≤ get_or (keys_to g e) v 0
      go (inl t) = ∥∥₁_elim back le_prop (λ b. none_less (keys_certified k) (least_back b (settled_least (keys_certified l) v k t)).attained)
      go (inr t) = omega (arith, (keys_certified k).rough.capped e l)

  pub keys_back : {e v : ℕ} → e < g.nodes → v < g.nodes → get_or (keys_to g e) v 0 ≡ get_or (keys_to g v) e 0
  keys_back l k = omega (arith, no_more_back l k, no_more_back k l)
