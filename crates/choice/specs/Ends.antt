-- The search from all end portals at once: one node more, the goal, with an arc to each end portal that counts the moves between them.
use Rattle.std.specs.Prelude.{Option, Some, None, IsSome, unwrap_or, ℕ, ◌+◌, ◌*◌, ◌≤◌, ◌<◌, ◌≡◌, refl, Bool, true, List, [], ◌∷◌, ◌++◌, length, get_or, set}
use Rattle.std.proofs.Common.{arith}
use Rattle.laws.specs.Graph.{Graph, Sound, Settled, BothWays, none_less}
use Rattle.laws.specs.Starts.{starts_graph, Begun, Tried, passed, took, starts_over_one, starts_least}
use Rattle.model.specs.Portals.{sector_portals, hall_portals, key_step}
use Rattle.model.specs.LeastPath.{unlinked, keys_to}
use Rattle.search.specs.Keys.{keys_certified}

-- the weight of the arc from the goal to an end: 4,096 for each move and 4,096 more, so that it is above 0 even without moves; 0 where no moves lead from there to the goal
unfoldable pub end_weight : Option ℕ → ℕ
end_weight None = 0
end_weight (Some last) = key_step * (last + 1)

end_weight_lem : (last : Option ℕ) → IsSome last → end_weight last ≡ key_step * (unwrap_or last 0 + 1)
unfolding end_weight
end_weight_lem (Some n) e = refl
end_weight_lem None e = cc

-- an end is tried, in the three cases that code meets
module _ (v : ℕ) {last : Option ℕ} (d : List ℕ) (p : List Bool) where
  pub tried_none : last ≡ None → Tried v (end_weight last) d p d p
  unfolding end_weight
  tried_none e = rw e (passed (λ pos. absurd (omega arith)) refl refl)

  module _ {moves : ℕ} (is : last ≡ Some moves) where
    pub tried_kept : get_or d v 0 ≤ key_step * (moves + 1) → Tried v (end_weight last) d p d p
    unfolding end_weight
    tried_kept l = rw is (passed (λ pos. l) refl refl)

    pub tried_took : key_step * (moves + 1) < get_or d v 0 → Tried v (end_weight last) d p (set d v (key_step * (moves + 1))) (set p v true)
    unfolding end_weight
    tried_took l = rw is (took (omega arith) l refl refl)

-- the end at place k has number q + k
abbrev pub end_at : ℕ → ℕ → ℕ
end_at q k = q + k

abbrev pub end_cost : List (Option ℕ) → ℕ → ℕ
end_cost lasts k = end_weight (get_or lasts k None)

abbrev pub ends_graph : Graph → ℕ → List (Option ℕ) → Graph
ends_graph g q lasts = starts_graph g sector_portals (end_at q) (end_cost lasts)

-- within the goal's turn: its arcs before place k are taken
abbrev pub EndsBegun : Graph → ℕ → List (Option ℕ) → ℕ → List ℕ → List Bool → Type 0
EndsBegun g q lasts k d p = Begun g sector_portals (end_at q) (end_cost lasts) unlinked k d p

-- the keys d from the goal: none is above that of a path over one of the ends, and each is that of such a path
pub record Nearest (g : Graph) (q : ℕ) (lasts : List (Option ℕ)) (d : List ℕ) : Type 0 where
  pub found : (v k : ℕ) → v < g.nodes → k < sector_portals → IsSome (get_or lasts k None) → get_or (keys_to g (q + k)) v 0 < unlinked
      → (get_or d v 0 < unlinked) × (get_or d v 0 ≤ get_or (keys_to g (q + k)) v 0 + key_step * (unwrap_or (get_or lasts k None) 0 + 1))
  pub over : (v : ℕ) → v < g.nodes → get_or d v 0 < unlinked
      → (k : ℕ) × (k < sector_portals) × IsSome (get_or lasts k None) × (get_or (keys_to g (q + k)) v 0 + key_step * (unwrap_or (get_or lasts k None) 0 + 1) ≤ get_or d v 0)

-- THE KEYS FROM THE GOAL, where every arc leads both ways and the weights fit
module _ {g : Graph} (q : ℕ) (lasts : List (Option ℕ)) (d : List ℕ) (small : (k : ℕ) → k < sector_portals → end_cost lasts k ≤ 1048576) (sound : Sound g) (back : ∥ BothWays g ∥₁)
    (few : g.nodes ≤ hall_portals) (light : (e : ℕ) → e < g.arcs → g.weight e ≤ 1048576)
    (inside : q + sector_portals ≤ g.nodes) (numbers : length d ≡ g.nodes) (ok : Settled (ends_graph g q lasts) g.nodes unlinked (d ++ 0 ∷ [])) where
  certified : (k : ℕ) → k < sector_portals → Settled g (q + k) unlinked (keys_to g (q + k))
  certified k l = keys_certified sound back (omega arith)

  -- what is an end has moves to the goal
  near : (last : Option ℕ) → 0 < end_weight last → IsSome last
  unfolding end_weight
  near (Some n) pos = refl
  near None pos = absurd (omega arith)

  pub ends_nearest : Nearest g q lasts d
  ends_nearest = record {
    found = λ v k l i n t.
        let weight = end_weight_lem (get_or lasts k None) n in
        let walk = (certified k i).rough.made v l t in
        let h = starts_least g sector_portals (end_at q) (end_cost lasts) sound (λ j s. omega arith) d ok numbers 1048576 light small (omega arith) k i (omega (arith, weight)) l walk in
        (h.0, omega (arith, h.1, weight));
    over = λ v l t.
        let o = starts_over_one g sector_portals (end_at q) (end_cost lasts) sound (λ j s. omega arith) d ok numbers v l t in
        let n = near (get_or lasts o.at None) o.offer in
        (o.at, o.below, n, omega (arith, o.no_more, end_weight_lem (get_or lasts o.at None) n, none_less (certified o.at o.below) o.walk));
  }
