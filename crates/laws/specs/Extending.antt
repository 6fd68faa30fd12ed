-- A graph that has the arcs of another and perhaps further ones, none of them from a node of that: a search that takes the smaller graph's arcs serves every such graph.
-- Its lists are those of the smaller graph with o and r behind, the entries of the further nodes.
use Prim.Native.Nat.{ℕ, ◌+◌, ◌≤◌, ◌<◌}
use Rattle.std.proofs.Common.{arith, sym, ap, subst, ◌∙◌, inl, inr, append-nil}
use Rattle.std.specs.Prelude.{◌≡◌, refl, ◌⊎◌, Bool, true, false, List, [], ◌++◌, length, set}
use Rattle.std.proofs.Math.ListN.{get_or, get_or-append}
use Rattle.std.proofs.lemmas.List.{set-append_left}
use Rattle.laws.specs.Graph.{Graph, Sound, Walk, stay, along, below_or}
use Rattle.laws.specs.Relaxing.{relaxed, Relaxed, taken, kept, relaxed_cases}
use Rattle.laws.specs.Offers.{offered, not_offered}
use Rattle.laws.specs.Waiting.{Waiting, Serving, awaited, serving_none, serving_arc, serving_all}

pub record Extends (g base : Graph) : Type 0 where
  pub sound : Sound g
  pub more : base.arcs ≤ g.arcs
  pub tails : (e : ℕ) → e < base.arcs → g.tail e ≡ base.tail e
  pub heads : (e : ℕ) → e < base.arcs → g.head e ≡ base.head e
  pub weights : (e : ℕ) → e < base.arcs → g.weight e ≡ base.weight e
  pub others : (e : ℕ) → base.arcs ≤ e → e < g.arcs → base.nodes ≤ g.tail e

extends_itself : {g : Graph} → Sound g → Extends g g
extends_itself sound = record { sound = sound; more = omega arith; tails = λ e l. refl; heads = λ e l. refl; weights = λ e l. refl; others = λ e l k. absurd (omega arith) }

-- a walk in the smaller graph is one in the larger
pub walk_extends : {g base : Graph} → Extends g base → {s v c : ℕ} → Walk base s v c → Walk g s v c
walk_extends ext stay = stay
walk_extends {g} {base} ext {s} {c = c} (along {b = b} e l p h w q) =
    let pos : 0 < g.weight e = omega (arith, ext.weights e l) in
    let from : Walk g s (g.tail e) b = rw (ext.tails e l) (walk_extends ext w) in
    let sum : c ≡ b + g.weight e = omega (arith, ext.weights e l) in
    along e (omega (arith, ext.more)) pos (ext.heads e l ∙ h) from sum

-- what waited is kept: from lists d and p to lists e and q, whatever the further nodes are
abbrev pub Keeps : Graph → List ℕ → List Bool → List ℕ → List Bool → Type 0
Keeps base d p e q = (g : Graph) (o : List ℕ) (r : List Bool) → Extends g base → (s top : ℕ) → Waiting g s top (d ++ o) (p ++ r) → Waiting g s top (e ++ o) (q ++ r)

-- so it is without further nodes
pub keeps_itself : {base : Graph} (d : List ℕ) (p : List Bool) (e : List ℕ) (q : List Bool) → Sound base → Keeps base d p e q → (s top : ℕ) → Waiting base s top d p → Waiting base s top e q
keeps_itself {base} d p e q sound k s top w =
    let kept = k base [] [] (extends_itself sound) s top (rw (append-nil d, append-nil p) w) in
    subst (λ (x : List ℕ). Waiting base s top x q) (append-nil e) (subst (λ (x : List Bool). Waiting base s top (e ++ []) x) (append-nil q) kept)

-- the same within the turn of node u, from its arc a to its arc b
abbrev pub Serves : Graph → ℕ → ℕ → List ℕ → List Bool → ℕ → List ℕ → List Bool → Type 0
Serves base u a d p b e q = (g : Graph) (o : List ℕ) (r : List Bool) → Extends g base → (s top : ℕ) → Serving g s top (d ++ o) (p ++ r) u a → Serving g s top (e ++ o) (q ++ r) u b

-- the arcs of node u are among those from a to b - 1
abbrev pub ArcsOf : Graph → ℕ → ℕ → ℕ → Type 0
ArcsOf g u a b = (e : ℕ) → e < g.arcs → 0 < g.weight e → g.tail e ≡ u → (a ≤ e) × (e < b)

module _ {g base : Graph} (ext : Extends g base) (sound : Sound base) (o : List ℕ) (r : List Bool) where
  -- arc a is the same arc in the larger graph
  module _ (d : List ℕ) (p : List Bool) (numbers : length d ≡ base.nodes) (room : base.nodes ≤ length p) (a : ℕ) (l : a < base.arcs) where
    pub entry : (v : ℕ) → v < base.nodes → get_or (d ++ o) v 0 ≡ get_or d v 0
    entry v k = get_or-append d o 0 v (omega arith)

    tail_has : 0 < base.weight a → get_or (d ++ o) (g.tail a) 0 ≡ get_or d (base.tail a) 0
    tail_has pos = ap (λ (v : ℕ). get_or (d ++ o) v 0) (ext.tails a l) ∙ entry (base.tail a) (sound.tail_in a l pos)

    pub head_has : 0 < base.weight a → get_or (d ++ o) (g.head a) 0 ≡ get_or d (base.head a) 0
    head_has pos = ap (λ (v : ℕ). get_or (d ++ o) v 0) (ext.heads a l) ∙ entry (base.head a) (sound.head_in a l pos)

    arc_extends : (relaxed g (d ++ o) a ≡ relaxed base d a ++ o) × (awaited g (d ++ o) (p ++ r) a ≡ awaited base d p a ++ r)
    unfolding awaited
    arc_extends = go (relaxed_cases base d a)
      where
        go : Relaxed base d a (relaxed base d a) → (relaxed g (d ++ o) a ≡ relaxed base d a ++ o) × (awaited g (d ++ o) (p ++ r) a ≡ awaited base d p a ++ r)
        go (taken pos less _) =
            let v : ℕ = base.head a in
            let x : ℕ = get_or d (base.tail a) 0 + base.weight a in
            let inside : v < base.nodes = sound.head_in a l pos in
            let small = offered base d a pos less in
            let large = offered g (d ++ o) a (omega (arith, ext.weights a l)) (omega (arith, ext.weights a l, tail_has pos, head_has pos)) in
            let sum : get_or (d ++ o) (g.tail a) 0 + g.weight a ≡ x = omega (arith, ext.weights a l, tail_has pos) in (
              large.1 ∙ rw (ext.heads a l, sum, small.1) (set-append_left d o v x (omega arith)),
              rw (large.0, small.0, ext.heads a l) (set-append_left p r v true (omega arith)),
            )
        go (kept low _) =
            let small = not_offered base d a low in
            let large = not_offered g (d ++ o) a (λ pos. still (omega (arith, ext.weights a l))) in
            (large.1 ∙ rw small.1, rw (large.0, small.0))
          where
            still : 0 < base.weight a → get_or (d ++ o) (g.head a) 0 ≤ get_or (d ++ o) (g.tail a) 0 + g.weight a
            still pos = omega (arith, low pos, ext.weights a l, tail_has pos, head_has pos)

  -- the turn of node u: its beginning, its end, one arc
  module _ {u a b : ℕ} (low : u < base.nodes) (arcs : ArcsOf base u a b) where
    both : ArcsOf g u a b
    both e l p q = go (below_or e base.arcs)
      where
        go : (e < base.arcs) ⊎ (base.arcs ≤ e) → (a ≤ e) × (e < b)
        go (inl k) = arcs e k (omega (arith, ext.weights e k)) (sym (ext.tails e k) ∙ q)
        go (inr k) = absurd (omega (arith, ext.others e k l))

    pub turn_begins : {s top : ℕ} (d : List ℕ) (p : List Bool) → base.nodes ≤ length p → Waiting g s top (d ++ o) (p ++ r) → Serving g s top (d ++ o) (set p u false ++ r) u a
    turn_begins d p room w = rw (← set-append_left p r u false (omega arith)) (serving_none ext.sound w u a (λ e l i q. (both e l i q).0))

    pub turn_ends : {s top : ℕ} (d : List ℕ) (p : List Bool) {c : ℕ} → b ≤ c → Serving g s top (d ++ o) (p ++ r) u c → Waiting g s top (d ++ o) (p ++ r)
    turn_ends d p past w = serving_all ext.sound w (λ e l i q. omega (arith, (both e l i q).1))

  pub turn_arc : {s top : ℕ} (d : List ℕ) (p : List Bool) {u a : ℕ} → length d ≡ base.nodes → base.nodes ≤ length p → a < base.arcs → base.tail a ≡ u
      → Serving g s top (d ++ o) (p ++ r) u a → Serving g s top (relaxed base d a ++ o) (awaited base d p a ++ r) u (a + 1)
  turn_arc d p {a = a} numbers room l from w =
      let same = arc_extends d p numbers room a l in
      rw (← same.0, ← same.1) (serving_arc ext.sound w (omega (arith, ext.more)) (ext.tails a l ∙ from))
