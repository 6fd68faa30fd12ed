-- The pair that `chosen_pair` gives: it is among the pairs, every earlier one has a greater run, no later one a smaller; and there is none exactly where no pair is.
use Rattle.std.specs.Prelude.{ℕ, ◌<◌, ◌≡◌, refl, ◌↔◌, Bool, true, false, [], ◌∷◌, ltb, get_or}
use Rattle.std.proofs.Math.Option.{none, some}
use mathlib.Core.List.Memᴰ
use Rattle.std.proofs.Common.{ltb-true, lt-ltb}
use Rattle.laws.specs.Fold.{pick}
use Rattle.laws.specs.Graph.{Graph}
use Rattle.laws.specs.Members.{In}
use Rattle.laws.specs.Winner.{Leads, winner_leads, winner_none}
use Rattle.model.specs.Halls.{Hall}
use Rattle.model.specs.LeastPath.{unlinked}
use Rattle.model.specs.Route.{End, Pair, linked_pair, run_of, route_pairs, chosen_pair}

pub chosen_leads : (h : Hall) (g : Graph) (source goal : ℕ) {z : Pair} → chosen_pair h g source goal ≡ some z → Leads run_of z (route_pairs h g source goal)
unfolding chosen_pair
chosen_leads h g source goal e = winner_leads run_of e

pub chosen_none : (h : Hall) (g : Graph) (source goal : ℕ) → (chosen_pair h g source goal ≡ none) ↔ (route_pairs h g source goal ≡ [])
unfolding chosen_pair
chosen_none h g source goal = winner_none run_of {xs = route_pairs h g source goal}

-- a pair that a portal path joins, and back
pub link_is : (p : ℕ) (e : End) {z : Pair} → In z (linked_pair p e) → (z ≡ record { start = p; end = e }) × (get_or e.keys p 0 < unlinked)
unfolding linked_pair
link_is p e {z} = go (ltb (get_or e.keys p 0) unlinked) refl
  where
    go : (t : Bool) → ltb (get_or e.keys p 0) unlinked ≡ t → In z (pick t (record { start = p; end = e } ∷ []) []) → (z ≡ record { start = p; end = e }) × (get_or e.keys p 0 < unlinked)
    go true q i = (Memᴰ.eq_of_singleton i, ltb-true (get_or e.keys p 0) unlinked q)
    go false q i = absurd (Memᴰ.not-nil i)

pub link_has : (p : ℕ) (e : End) → get_or e.keys p 0 < unlinked → In (record { start = p; end = e }) (linked_pair p e)
unfolding linked_pair
link_has p e l = rw (lt-ltb (get_or e.keys p 0) unlinked l) (Memᴰ.head refl)
