-- The search from several nodes at once: a graph and one node more, the source, with an arc to each of them.
use Prim.Native.Nat.{ℕ, ◌+◌, ◌-◌, ◌*◌, ◌≤◌, ◌<◌}
use native.Mathlib.Omega.{arith}
use Rattle.std.specs.Prelude.{◌≡◌, refl, ◌⊎◌, Bool, true, false, ltb}
use Rattle.std.proofs.Common.{sym, subst, ◌∙◌, inl, inr, below_more, lt-ltb, le-ltb}
use Rattle.std.proofs.Math.Path.{ap}
use mathlib.Core.List.{List, [], ◌∷◌, ◌++◌}
use Rattle.std.proofs.Math.ListN.{length, get_or, set, replicate, get_or-append}
use Rattle.std.proofs.lemmas.List.{length-replicate, replicate-append-replicate, get_or_at}
use Rattle.std.proofs.Math.Seq.{set-append_left, set_at}
use Rattle.laws.specs.Fold.{pick}
use Rattle.laws.specs.Graph.{Graph, Sound, Walk, stay, along, Settled, below_or, none_less, reached, walk_join}
use Rattle.laws.specs.Relaxing.{relaxed, outset}
use Rattle.laws.specs.Offers.{offered, not_offered}
use Rattle.laws.specs.Waiting.{Waiting, Serving, awaited, waiting_none, waiting_over, serving_none, serving_arc, serving_all}
use Rattle.laws.specs.Extending.{Extends, walk_extends}

-- the source is the number after the last, and its arcs follow those of the graph: the one at place k leads to node `to k` and weighs `cost k`, 0 where there is none
abbrev pub starts_graph : Graph → ℕ → (ℕ → ℕ) → (ℕ → ℕ) → Graph
starts_graph base count to cost = record {
  nodes = base.nodes + 1;
  arcs = base.arcs + count;
  tail = λ e. pick (ltb e base.arcs) (base.tail e) base.nodes;
  head = λ e. pick (ltb e base.arcs) (base.head e) (to (e - base.arcs));
  weight = λ e. pick (ltb e base.arcs) (base.weight e) (cost (e - base.arcs));
}

-- within the source's turn: its arcs before place k are taken
abbrev pub Begun : Graph → ℕ → (ℕ → ℕ) → (ℕ → ℕ) → ℕ → ℕ → List ℕ → List Bool → Type 0
Begun base count to cost top k d p = Serving (starts_graph base count to cost) base.nodes top (d ++ 0 ∷ []) (p ++ false ∷ []) base.nodes (base.arcs + k)

-- node v is offered c, which is no offer where it is 0: it takes less than it has, and then waits
pub data Tried (v c : ℕ) (d : List ℕ) (p : List Bool) (e : List ℕ) (f : List Bool) : Type 0 where
  passed : (0 < c → get_or d v 0 ≤ c) → e ≡ d → f ≡ p → Tried v c d p e f
  took : 0 < c → c < get_or d v 0 → e ≡ set d v c → f ≡ set p v true → Tried v c d p e f

module _ (base : Graph) (count : ℕ) (to cost : ℕ → ℕ) where
  abbrev g : Graph
  g = starts_graph base count to cost

  -- ---- its arcs
  module _ (e : ℕ) (l : e < base.arcs) where
    old_tail : g.tail e ≡ base.tail e
    old_tail = rw (lt-ltb e base.arcs l)

    old_head : g.head e ≡ base.head e
    old_head = rw (lt-ltb e base.arcs l)

    old_weight : g.weight e ≡ base.weight e
    old_weight = rw (lt-ltb e base.arcs l)

  module _ (k : ℕ) where
    place : base.arcs + k - base.arcs ≡ k
    place = omega arith

    new_tail : g.tail (base.arcs + k) ≡ base.nodes
    new_tail = rw (le-ltb (base.arcs + k) base.arcs (omega arith))

    new_head : g.head (base.arcs + k) ≡ to k
    new_head = rw (le-ltb (base.arcs + k) base.arcs (omega arith), place)

    new_weight : g.weight (base.arcs + k) ≡ cost k
    new_weight = rw (le-ltb (base.arcs + k) base.arcs (omega arith), place)

  -- an arc is one of the graph or one of the source
  which : (P : ℕ → Type 0) → ((e : ℕ) → e < base.arcs → P e) → ((k : ℕ) → k < count → P (base.arcs + k)) → (e : ℕ) → e < base.arcs + count → P e
  which P old new e l = go (below_or e base.arcs)
    where
      go : (e < base.arcs) ⊎ (base.arcs ≤ e) → P e
      go (inl k) = old e k
      go (inr k) = let sum : base.arcs + (e - base.arcs) ≡ e = omega arith in subst P sum (new (e - base.arcs) (omega arith))

  module _ (sound : Sound base) (inside : (k : ℕ) → k < count → to k < base.nodes) where
    starts_sound : Sound g
    starts_sound = record {
      tail_in = which (λ (e : ℕ). 0 < g.weight e → g.tail e < base.nodes + 1)
          (λ e l p. omega (arith, old_tail e l, sound.tail_in e l (omega (arith, old_weight e l))))
          (λ k l p. omega (arith, new_tail k));
      head_in = which (λ (e : ℕ). 0 < g.weight e → g.head e < base.nodes + 1)
          (λ e l p. omega (arith, old_head e l, sound.head_in e l (omega (arith, old_weight e l))))
          (λ k l p. omega (arith, new_head k, inside k l));
    }

    pub starts_extends : Extends g base
    starts_extends = record {
      sound = starts_sound;
      more = omega arith;
      tails = old_tail;
      heads = old_head;
      weights = old_weight;
      others = λ e l k. which (λ (e : ℕ). base.arcs ≤ e → base.nodes ≤ g.tail e) (λ e i j. absurd (omega arith)) (λ i j _. omega (arith, new_tail i)) e k l;
    }

    -- ---- the source's turn
    -- nothing is known yet but the source
    pub starts_none : (top : ℕ) → 0 < top → {d : List ℕ} {p : List Bool} {i j : ℕ} → i ≡ base.nodes → j ≡ base.nodes → d ≡ replicate i top → p ≡ replicate j false → Begun base count to cost top 0 d p
    unfolding outset
    starts_none top pos numbers waits f h =
        let n : ℕ = base.nodes in
        let first : base.arcs + 0 ≡ base.arcs = omega arith in
        let served : set (set (replicate (n + 1) false) n true) n false ≡ replicate n false ++ false ∷ []
        = ap (λ (p : List Bool). set p n false) (last_set false true) ∙ set_at (replicate n false) true [] false n (length-replicate n false) in
        rw (f, h, numbers, waits, first, ← last_set top 0, ← served)
        (serving_none starts_sound (waiting_none starts_sound (n + 1) (omega arith) (omega arith) pos) n base.arcs own)
      where
        last_set : {A : Type 0} (x y : A) → set (replicate (base.nodes + 1) x) base.nodes y ≡ replicate base.nodes x ++ y ∷ []
        last_set {A} x y =
            ap (λ (p : List A). set p base.nodes y) (sym (replicate-append-replicate base.nodes 1 x)) ∙ set_at (replicate base.nodes x) x [] y base.nodes (length-replicate base.nodes x)

        own : (e : ℕ) → e < base.arcs + count → 0 < g.weight e → g.tail e ≡ base.nodes → base.arcs ≤ e
        own =
            which (λ (e : ℕ). 0 < g.weight e → g.tail e ≡ base.nodes → base.arcs ≤ e)
            (λ e l p q. absurd (omega (arith, old_tail e l, sound.tail_in e l (omega (arith, old_weight e l)))))
            (λ k l p q. omega arith)

    -- its arc at place k
    module _ (d : List ℕ) (p : List Bool) (numbers : length d ≡ base.nodes) (waits : length p ≡ base.nodes) (k : ℕ) (low : k < count) where
      abbrev arc : ℕ
      arc = base.arcs + k

      -- after it
      abbrev After : ℕ → Type 0
      After top = Serving g base.nodes top (relaxed g (d ++ 0 ∷ []) arc) (awaited g (d ++ 0 ∷ []) (p ++ false ∷ []) arc) base.nodes (base.arcs + (k + 1))

      next : {top : ℕ} → Begun base count to cost top k d p → After top
      next w = let sum : base.arcs + (k + 1) ≡ base.arcs + k + 1 = omega arith in rw sum (serving_arc starts_sound w (omega arith) (new_tail k))

      -- what its ends have
      source_has : get_or (d ++ 0 ∷ []) (g.tail arc) 0 ≡ 0
      source_has = ap (λ (v : ℕ). get_or (d ++ 0 ∷ []) v 0) (new_tail k) ∙ get_or_at d 0 [] 0 base.nodes numbers

      start_has : get_or (d ++ 0 ∷ []) (g.head arc) 0 ≡ get_or d (to k) 0
      start_has = ap (λ (v : ℕ). get_or (d ++ 0 ∷ []) v 0) (new_head k) ∙ get_or-append d (0 ∷ []) 0 (to k) (omega (arith, inside k low))

      -- it offers nothing
      passes : {top : ℕ} → (0 < cost k → get_or d (to k) 0 ≤ cost k) → Begun base count to cost top k d p → Begun base count to cost top (k + 1) d p
      unfolding awaited
      passes {top} no_less w =
          let none = not_offered g (d ++ 0 ∷ []) arc (λ pos. omega (arith, start_has, source_has, new_weight k, no_less (omega (arith, new_weight k)))) in
          let then : After top = next w in
          rw (none.0, none.1) at then

      -- or the node takes its offer and waits
      takes : {top : ℕ} → 0 < cost k → cost k < get_or d (to k) 0 → Begun base count to cost top k d p → Begun base count to cost top (k + 1) (set d (to k) (cost k)) (set p (to k) true)
      unfolding awaited
      takes {top} pos less w =
          let some = offered g (d ++ 0 ∷ []) arc (omega (arith, new_weight k)) (omega (arith, new_weight k, source_has, start_has)) in
          let sum : get_or (d ++ 0 ∷ []) (g.tail arc) 0 + g.weight arc ≡ cost k = omega (arith, new_weight k, source_has) in
          let then : After top = next w in
          let in_d : to k < length d = omega (arith, inside k low) in
          let in_p : to k < length p = omega (arith, inside k low) in
          rw (← set-append_left d (0 ∷ []) (to k) (cost k) in_d, ← set-append_left p (false ∷ []) (to k) true in_p, ← sum, ← new_head k) (rw (some.0, some.1) at then)

      pub starts_more : {top : ℕ} {e : List ℕ} {f : List Bool} → Tried (to k) (cost k) d p e f → Begun base count to cost top k d p → Begun base count to cost top (k + 1) e f
      starts_more (passed no_less x y) w = rw (x, y) (passes no_less w)
      starts_more (took pos less x y) w = rw (x, y) (takes pos less w)

    module _ {top : ℕ} (d : List ℕ) (p : List Bool) where
      -- all its arcs are taken
      pub starts_all : Begun base count to cost top count d p → Waiting g base.nodes top (d ++ 0 ∷ []) (p ++ false ∷ [])
      starts_all w = serving_all starts_sound w (λ e l p f. l)

      -- nobody waits: the certificate
      pub starts_over : length p ≡ base.nodes → Waiting g base.nodes top (d ++ 0 ∷ []) (p ++ false ∷ []) → ((v : ℕ) → v < base.nodes → get_or p v false ≡ false) → Settled g base.nodes top (d ++ 0 ∷ [])
      starts_over waits w none =
          waiting_over starts_sound w
          (below_more (λ (v : ℕ). get_or (p ++ false ∷ []) v false ≡ false) base.nodes (λ v l. get_or-append p (false ∷ []) false v (omega arith) ∙ none v l) (get_or_at p false [] false base.nodes waits))

    -- ---- what the certificate says
    -- a walk from the source to node v leads over one of its arcs
    pub record Over (v c : ℕ) : Type 0 where
      pub at : ℕ
      pub below : at < count
      pub offer : 0 < cost at
      pub length_of : ℕ
      pub walk : Walk base (to at) v length_of
      pub no_more : length_of + cost at ≤ c

    leads_over : {v c : ℕ} → v < base.nodes → Walk g base.nodes v c → Over v c
    leads_over l stay = absurd (omega arith)
    leads_over {v} {c} l (along {b = b} e k p h w f) = go (λ i. leads_over i w) (below_or e base.arcs)
      where
        go : (g.tail e < base.nodes → Over (g.tail e) b) → (e < base.arcs) ⊎ (base.arcs ≤ e) → Over v c
        go before (inl i) =
            let pos : 0 < base.weight e = omega (arith, old_weight e i) in
            let o = before (omega (arith, old_tail e i, sound.tail_in e i pos)) in
            record {
              at = o.at;
              below = o.below;
              offer = o.offer;
              length_of = o.length_of + base.weight e;
              walk = along e i pos (sym (old_head e i) ∙ h) (subst (λ (u : ℕ). Walk base (to o.at) u o.length_of) (old_tail e i) o.walk) refl;
              no_more = omega (arith, o.no_more, old_weight e i);
            }
        go before (inr i) = first (e - base.arcs) (omega arith)
          where
            first : (j : ℕ) → e ≡ base.arcs + j → Over v c
            first j s =
                let weight : g.weight e ≡ cost j = ap (λ (a : ℕ). g.weight a) s ∙ new_weight j in
                let start : to j ≡ v = sym (new_head j) ∙ ap (λ (a : ℕ). g.head a) (sym s) ∙ h in
                record { at = j; below = omega arith; offer = omega arith; length_of = 0; walk = subst (λ (u : ℕ). Walk base (to j) u 0) start stay; no_more = omega arith }

    module _ {top : ℕ} (d : List ℕ) (ok : Settled g base.nodes top (d ++ 0 ∷ [])) (numbers : length d ≡ base.nodes) where
      entry : (v : ℕ) → v < base.nodes → get_or (d ++ 0 ∷ []) v 0 ≡ get_or d v 0
      entry v l = get_or-append d (0 ∷ []) 0 v (omega arith)

      -- each cost is that of a walk over one of the arcs
      pub starts_over_one : (v : ℕ) → v < base.nodes → get_or d v 0 < top → Over v (get_or d v 0)
      starts_over_one v l t = subst (Over v) (entry v l) (leads_over l (ok.rough.made v (omega arith) (omega (arith, entry v l))))

      -- and none is above that of a walk over one of them, if top is large enough
      pub starts_least : (most : ℕ) → ((e : ℕ) → e < base.arcs → base.weight e ≤ most) → ((k : ℕ) → k < count → cost k ≤ most) → most * (base.nodes + 1) < top
          → (k : ℕ) → k < count → 0 < cost k → {v c : ℕ} → v < base.nodes → Walk base (to k) v c → (get_or d v 0 < top) × (get_or d v 0 ≤ c + cost k)
      starts_least most light cheap room k l pos {v} i w =
          let sum : cost k ≡ 0 + g.weight (base.arcs + k) = omega (arith, new_weight k) in
          let at_source : Walk g base.nodes (g.tail (base.arcs + k)) 0 = rw (new_tail k) stay in
          let to_start : Walk g base.nodes (to k) (cost k) = along (base.arcs + k) (omega arith) (omega (arith, new_weight k)) (new_head k) at_source sum in
          let way = walk_join to_start (walk_extends starts_extends w) in
          (omega (arith, entry v i, reached ok starts_sound weighs room way), omega (arith, entry v i, none_less ok way))
        where
          weighs : (e : ℕ) → e < base.arcs + count → g.weight e ≤ most
          weighs = which (λ (e : ℕ). g.weight e ≤ most) (λ e l. omega (arith, old_weight e l, light e l)) (λ k l. omega (arith, new_weight k, cheap k l))
