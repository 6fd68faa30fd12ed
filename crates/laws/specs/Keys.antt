-- Two aims in one weight: 4096 times the cost, and one for the arc. The least key then has the least cost and, among the ways of that cost, the fewest arcs, in a graph of fewer than 4095 nodes.
use Rattle.std.specs.Prelude.{ℕ, suc, ◌+◌, ◌*◌, ◌/◌, ◌%◌, ◌≤◌, ◌<◌, ◌≡◌, refl, ◌⊎◌, List, [], ◌∷◌, get_or, length}
use Rattle.std.proofs.Common.{arith, sym, ap, inl, inr, le-ltb}
use Rattle.laws.specs.Search.{count, count_room}
use Rattle.laws.specs.Graph.{Graph, Sound, Walk, stay, along, Settled, none_less, under, under_more, reached, turned, below_or}
use Rattle.laws.specs.FirstPath.{First, Trail, ends, goes, Tells, path, path_trail, path_first}

-- the weight of a cost in a key
abbrev pub key_step : ℕ
key_step = 4096

-- a way from s to a node, with its cost and the number of its arcs; arc e costs cost e, which may be 0
data Way (g : Graph) (cost : ℕ → ℕ) (s : ℕ) : ℕ → ℕ → ℕ → Type 0 where
  stays : Way g cost s s 0 0
  takes : {v a b m n : ℕ} (e : ℕ) → e < g.arcs → 0 < g.weight e → g.head e ≡ v → Way g cost s (g.tail e) a m → b ≡ a + cost e → n ≡ m + 1 → Way g cost s v b n

-- a path from u to t as its nodes, with its cost and the number of its edges; arc e costs cost e, which may be 0
pub data Journey (g : Graph) (cost : ℕ → ℕ) (t : ℕ) : ℕ → List ℕ → ℕ → ℕ → Type 0 where
  arrived : Journey g cost t t (t ∷ []) 0 0
  onward : {u a b m n : ℕ} {p : List ℕ} (e : ℕ) → e < g.arcs → 0 < g.weight e → g.tail e ≡ u → Journey g cost t (g.head e) p a m → b ≡ a + cost e → n ≡ m + 1 → Journey g cost t u (u ∷ p) b n

-- p with cost a and m edges comes before q with cost b and n edges, or is q: by cost, then edges, then the first difference in the order of nodes
pub data Before (rank : ℕ → ℕ) (p q : List ℕ) (a b m n : ℕ) : Type 0 where
  cheaper : a < b → Before rank p q a b m n
  shorter : a ≡ b → m < n → Before rank p q a b m n
  earlier : a ≡ b → m ≡ n → First rank p q → Before rank p q a b m n

-- a graph whose weights are keys, and a top that no key comes near
pub record Keyed (g : Graph) (cost : ℕ → ℕ) (top : ℕ) : Type 0 where
  pub sound : Sound g
  pub few : g.nodes + 1 < key_step
  pub keyed : (e : ℕ) → e < g.arcs → 0 < g.weight e → g.weight e ≡ key_step * cost e + 1
  pub most : ℕ
  pub weighs : (e : ℕ) → e < g.arcs → g.weight e ≤ most
  pub room : most * g.nodes < top

-- ---- ways
module _ {g : Graph} {cost : ℕ → ℕ} {top : ℕ} (k : Keyed g cost top) {s : ℕ} where
  way_walk : {v a n : ℕ} → Way g cost s v a n → (c : ℕ) → c ≡ key_step * a + n → Walk g s v c
  way_walk stays c q = let z : c ≡ 0 = omega arith in rw z stay
  way_walk (takes {a = a} {m = m} e l p h w x y) c q = let z : c ≡ key_step * a + m + g.weight e = omega (arith, k.keyed e l p) in along e l p h (way_walk w (key_step * a + m) refl) z

  walk_way : {v c : ℕ} → Walk g s v c → (a : ℕ) × (n : ℕ) × (c ≡ key_step * a + n) × Way g cost s v a n
  walk_way stay = (0, 0, omega arith, stays)
  walk_way (along e l p h w q) =
      let x = walk_way w in
      (x.0 + cost e, x.1 + 1, omega (arith, x.2, k.keyed e l p), takes e l p h x.3 refl refl)

  module _ {d : List ℕ} (ok : Settled g s top d) where
    way_reached : {v a n : ℕ} → Way g cost s v a n → get_or d v 0 < top
    way_reached {a = a} {n} w = reached ok k.sound k.weighs k.room (way_walk w (key_step * a + n) refl)

    -- a way that makes the least key passes a node of less key at each arc
    arcs_few : {v a n : ℕ} → Way g cost s v a n → key_step * a + n ≡ get_or d v 0 → n ≤ count (under d (get_or d v 0)) g.nodes
    arcs_few stays q = omega arith
    arcs_few {v} (takes {a = a} {m = m} e l p h w x y) q =
        let u : ℕ = g.tail e in
        let same : key_step * a + m ≡ get_or d u 0 = omega (arith, none_less ok (way_walk w (key_step * a + m) refl), ok.low e l p, k.keyed e l p, ap (λ (z : ℕ). get_or d z 0) h) in
        let more : count (under d (get_or d u 0)) g.nodes < count (under d (get_or d v 0)) g.nodes =
        under_more d (get_or d u 0) (get_or d v 0) g.nodes u (k.sound.tail_in e l p) (omega arith) (omega (arith, k.keyed e l p)) in
        omega (arith, arcs_few w same)

    -- such a way has fewer arcs than the graph has nodes, and the key is its cost and its arcs
    key_split : {v a n : ℕ} → v < g.nodes → Way g cost s v a n → key_step * a + n ≡ get_or d v 0 → (get_or d v 0 / key_step ≡ a) × (get_or d v 0 % key_step ≡ n) × (n < g.nodes)
    key_split {v} {a} {n} l w q =
        let low : n < g.nodes = omega (arith, arcs_few w q, count_room (under d (get_or d v 0)) g.nodes v l (le-ltb (get_or d v 0) (get_or d v 0) (omega arith))) in
        (omega (arith, k.few), omega (arith, k.few), low)

    -- the key, taken apart
    key_is : (v : ℕ) → v < g.nodes → get_or d v 0 < top → (get_or d v 0 % key_step < g.nodes) × Way g cost s v (get_or d v 0 / key_step) (get_or d v 0 % key_step)
    key_is v l t =
        let x = walk_way (ok.rough.made v l t) in
        let y = key_split l x.3 (sym x.2) in
        rw (y.0, y.1) (y.2, x.3)

    -- no way costs less
    key_cost : {v a n : ℕ} → Way g cost s v a n → get_or d v 0 / key_step ≤ a
    key_cost stays = omega (arith, ok.rough.start)
    key_cost (takes e l p h w x y) =
        let u : ℕ = g.tail e in
        let small : get_or d u 0 % key_step + 1 < key_step = omega (arith, (key_is u (k.sound.tail_in e l p) (way_reached w)).0, k.few) in
        omega (arith, key_cost w, ok.low e l p, k.keyed e l p, ap (λ (z : ℕ). get_or d z 0) h)

    -- and none of that cost has fewer arcs
    key_arcs : {v a n : ℕ} → Way g cost s v a n → a ≡ get_or d v 0 / key_step → get_or d v 0 % key_step ≤ n
    key_arcs {a = a} {n} w q = omega (arith, none_less ok (way_walk w (key_step * a + n) refl))

turned_keyed : {g : Graph} {cost : ℕ → ℕ} {top : ℕ} → Keyed g cost top → Keyed (turned g) cost top
turned_keyed k = record { sound = record { tail_in = k.sound.head_in; head_in = k.sound.tail_in }; few = k.few; keyed = k.keyed; most = k.most; weighs = k.weighs; room = k.room }

-- ---- journeys
journey_length : {g : Graph} {cost : ℕ → ℕ} {t u a n : ℕ} {p : List ℕ} → Journey g cost t u p a n → length p ≡ suc n
journey_length arrived = refl
journey_length (onward e l p h j x y) = omega (arith, journey_length j)

-- a journey is a way from its goal, against the arcs
journey_way : {g : Graph} {cost : ℕ → ℕ} {t u a n : ℕ} {p : List ℕ} → Journey g cost t u p a n → Way (turned g) cost t u a n
journey_way arrived = stays
journey_way (onward e l p h j x y) = takes e l p h (journey_way j) x y

module _ {g : Graph} {cost : ℕ → ℕ} {top : ℕ} (k : Keyed g cost top) {t : ℕ} where
  journey_trail : {u a n : ℕ} {p : List ℕ} → Journey g cost t u p a n → (c : ℕ) → c ≡ key_step * a + n → Trail g t u p c
  journey_trail arrived c q = let z : c ≡ 0 = omega arith in rw z ends
  journey_trail (onward {a = a} {m = m} e l p h j x y) c q = let z : c ≡ key_step * a + m + g.weight e = omega (arith, k.keyed e l p) in goes e l p h (journey_trail j (key_step * a + m) refl) z

  trail_journey : {u c : ℕ} {p : List ℕ} → Trail g t u p c → (a : ℕ) × (n : ℕ) × (c ≡ key_step * a + n) × Journey g cost t u p a n
  trail_journey ends = (0, 0, omega arith, arrived)
  trail_journey (goes e l p h w q) =
      let x = trail_journey w in
      (x.0 + cost e, x.1 + 1, omega (arith, x.2, k.keyed e l p), onward e l p h x.3 refl refl)

  -- d holds the least keys to t
  module _ {d : List ℕ} (ok : Settled (turned g) t top d) where
    -- a node from which there is a journey has an entry below top
    pub journey_reached : {u a n : ℕ} {p : List ℕ} → Journey g cost t u p a n → get_or d u 0 < top
    journey_reached j = way_reached (turned_keyed k) ok (journey_way j)

    module _ (rank : ℕ → ℕ) (u : ℕ) (inside : u < g.nodes) (below : get_or d u 0 < top) where
      -- the first path of least key, as a journey
      path_journey : Journey g cost t u (path g rank d (get_or d u 0) u) (get_or d u 0 / key_step) (get_or d u 0 % key_step) × (get_or d u 0 % key_step < g.nodes)
      path_journey =
          let x = trail_journey (path_trail rank ok k.sound (get_or d u 0) u inside below (omega arith)) in
          let y = key_split (turned_keyed k) ok inside (journey_way x.3) (sym x.2) in
          rw (y.0, y.1) (x.3, y.2)

      pub few_edges : (get_or d u 0 % key_step < g.nodes) × (length (path g rank d (get_or d u 0) u) ≡ suc (get_or d u 0 % key_step))
      few_edges = (path_journey.1, journey_length path_journey.0)

      -- it is least by cost, then edges, then first difference, among all journeys from u
      pub least_journey : Tells g rank
          → Journey g cost t u (path g rank d (get_or d u 0) u) (get_or d u 0 / key_step) (get_or d u 0 % key_step)
          × ((q : List ℕ) (b n : ℕ) → Journey g cost t u q b n → Before rank (path g rank d (get_or d u 0) u) q (get_or d u 0 / key_step) b (get_or d u 0 % key_step) n)
      least_journey tells = (path_journey.0, λ q b n j. by_cost q b n j (below_or (get_or d u 0 / key_step) b))
        where
          by_cost : (q : List ℕ) (b n : ℕ) → Journey g cost t u q b n → (get_or d u 0 / key_step < b) ⊎ (b ≤ get_or d u 0 / key_step)
              → Before rank (path g rank d (get_or d u 0) u) q (get_or d u 0 / key_step) b (get_or d u 0 % key_step) n
          by_cost q b n j (inl l) = cheaper l
          by_cost q b n j (inr l) = by_edges (below_or (get_or d u 0 % key_step) n)
            where
              level : get_or d u 0 / key_step ≡ b
              level = omega (arith, key_cost (turned_keyed k) ok (journey_way j))

              by_edges : (get_or d u 0 % key_step < n) ⊎ (n ≤ get_or d u 0 % key_step) → Before rank (path g rank d (get_or d u 0) u) q (get_or d u 0 / key_step) b (get_or d u 0 % key_step) n
              by_edges (inl m) = shorter level m
              by_edges (inr m) =
                  let equal : get_or d u 0 % key_step ≡ n = omega (arith, key_arcs (turned_keyed k) ok (journey_way j) (sym level)) in
                  let key : key_step * b + n ≡ get_or d u 0 = omega (arith, level) in
                  earlier level equal (path_first rank ok k.sound tells (get_or d u 0) u (journey_trail j (key_step * b + n) refl) key (omega arith))
