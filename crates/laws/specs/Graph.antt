-- Walks in a graph, what it costs to go along one, and the certificate that a list holds the least costs from one node.
-- A graph has nodes 0 to nodes - 1 and arcs 0 to arcs - 1. Arc e leads from tail e to head e and costs weight e; weight 0 says that there is no arc e.
use Rattle.std.specs.Prelude.{ℕ, suc, ◌+◌, ◌*◌, ◌≤◌, ◌<◌, ◌≡◌, refl, ◌⊎◌, List, Bool, true, false, get_or, length, ltb}
use Rattle.std.proofs.Common.{mul-le-mul_left, add-zero, arith, sym, ap, ◌∙◌, inl, inr, ext_get_or, ltb-true, ltb-false, lt-ltb, le-ltb}
use Rattle.laws.specs.Search.{count, count_le, count_more}

pub record Graph : Type 0 where
  pub nodes : ℕ
  pub arcs : ℕ
  pub tail : ℕ → ℕ
  pub head : ℕ → ℕ
  pub weight : ℕ → ℕ

-- each arc joins two nodes of the graph
pub record Sound (g : Graph) : Type 0 where
  pub tail_in : (e : ℕ) → e < g.arcs → 0 < g.weight e → g.tail e < g.nodes
  pub head_in : (e : ℕ) → e < g.arcs → 0 < g.weight e → g.head e < g.nodes

-- a walk from s to a node, with what it costs: no arc, or a walk and one arc more
pub data Walk (g : Graph) (s : ℕ) : ℕ → ℕ → Type 0 where
  stay : Walk g s s 0
  along : {v b c : ℕ} (e : ℕ) → e < g.arcs → 0 < g.weight e → g.head e ≡ v → Walk g s (g.tail e) b → c ≡ b + g.weight e → Walk g s v c

-- c is the least that a walk from s to v costs
pub record Least (g : Graph) (s v c : ℕ) : Type 0 where
  pub attained : Walk g s v c
  pub least : (b : ℕ) → Walk g s v b → c ≤ b

-- what is known of a list of costs while a search runs: s has 0, no entry is above top, and an entry below top is the cost of some walk
pub record Rough (g : Graph) (s top : ℕ) (d : List ℕ) : Type 0 where
  pub sized : length d ≡ g.nodes
  pub start : get_or d s 0 ≡ 0
  pub capped : (v : ℕ) → v < g.nodes → get_or d v 0 ≤ top
  pub made : (v : ℕ) → v < g.nodes → get_or d v 0 < top → Walk g s v (get_or d v 0)

-- arc e does not offer less than its head has
abbrev pub Low : Graph → List ℕ → ℕ → Type 0
Low g d e = 0 < g.weight e → get_or d (g.head e) 0 ≤ get_or d (g.tail e) 0 + g.weight e

-- the certificate: rough, and no arc offers less
pub record Settled (g : Graph) (s top : ℕ) (d : List ℕ) : Type 0 where
  pub rough : Rough g s top d
  pub low : (e : ℕ) → e < g.arcs → Low g d e

-- every arc turned round
abbrev pub turned : Graph → Graph
turned g = record { nodes = g.nodes; arcs = g.arcs; tail = g.head; head = g.tail; weight = g.weight }

-- every arc is there in both directions
abbrev pub BothWays : Graph → Type 0
BothWays g = (e : ℕ) → e < g.arcs → 0 < g.weight e → (f : ℕ) × (f < g.arcs) × (g.tail f ≡ g.head e) × (g.head f ≡ g.tail e) × (g.weight f ≡ g.weight e)

pub below_or : (a b : ℕ) → (a < b) ⊎ (b ≤ a)
below_or a b = go (ltb a b) refl
  where
    go : (t : Bool) → ltb a b ≡ t → (a < b) ⊎ (b ≤ a)
    go true e = inl (ltb-true a b e)
    go false e = inr (ltb-false a b e)

-- ---- the certificate says what is least
module _ {g : Graph} {s top : ℕ} {d : List ℕ} (ok : Settled g s top d) where
  -- no walk costs less than the list says
  pub none_less : {v c : ℕ} → Walk g s v c → get_or d v 0 ≤ c
  none_less stay = omega (arith, ok.rough.start)
  none_less (along e l p h w q) = omega (arith, none_less w, ok.low e l p, ap (λ (x : ℕ). get_or d x 0) h)

  -- an entry below top is the least
  pub settled_least : (v : ℕ) → v < g.nodes → get_or d v 0 < top → Least g s v (get_or d v 0)
  settled_least v l t = record { attained = ok.rough.made v l t; least = λ b w. none_less w }

-- two certified lists are one list
agree_le : {g : Graph} {s top : ℕ} {d f : List ℕ} → Settled g s top d → Settled g s top f → (v : ℕ) → v < g.nodes → get_or d v 0 ≤ get_or f v 0
agree_le {top = top} {d} {f} p q v l = go (below_or (get_or f v 0) top)
  where
    go : (get_or f v 0 < top) ⊎ (top ≤ get_or f v 0) → get_or d v 0 ≤ get_or f v 0
    go (inl t) = none_less p (q.rough.made v l t)
    go (inr t) = omega (arith, p.rough.capped v l)

pub settled_unique : {g : Graph} {s top : ℕ} {d f : List ℕ} → Settled g s top d → Settled g s top f → d ≡ f
settled_unique {d = d} {f} p q =
    ext_get_or 0 d f (p.rough.sized ∙ sym q.rough.sized)
    (λ v l. omega (arith, agree_le p q v (omega (arith, p.rough.sized)), agree_le q p v (omega (arith, p.rough.sized))))

-- ---- top stands for no walk at all, where it is large enough
-- entry v is below t
abbrev pub under : List ℕ → ℕ → ℕ → Bool
under d t v = ltb (get_or d v 0) t

-- one entry that is below u and not below t
pub under_more : (d : List ℕ) (t u n v : ℕ) → v < n → t ≤ get_or d v 0 → get_or d v 0 < u → count (under d t) n < count (under d u) n
under_more d t u n v l a b =
    count_more (under d t) (under d u) (λ x e. lt-ltb (get_or d x 0) u (omega (arith, ltb-true (get_or d x 0) t e))) n v l (le-ltb (get_or d v 0) t a) (lt-ltb (get_or d v 0) u b)

-- no entry below top is above the most that an arc costs times the number of entries that are less: the walk that makes it passes another of them at each arc.
-- So where top is above the most times the nodes, top stands for "no walk"
module _ {g : Graph} {s top most : ℕ} {d : List ℕ} (ok : Settled g s top d) (sound : Sound g) (weighs : (e : ℕ) → e < g.arcs → g.weight e ≤ most) (room : most * g.nodes < top) where
  bound : {v c : ℕ} → Walk g s v c → c ≡ get_or d v 0 → c ≤ most * count (under d c) g.nodes
  bound stay q = omega arith
  bound (along {v} {b} {c} e l p h w q) r =
      let same : b ≡ get_or d (g.tail e) 0 = omega (arith, none_less ok w, ok.low e l p, ap (λ (x : ℕ). get_or d x 0) h) in
      let more : count (under d b) g.nodes < count (under d c) g.nodes = under_more d b c g.nodes (g.tail e) (sound.tail_in e l p) (omega arith) (omega arith) in
      omega (arith, bound w same, weighs e l, mul-le-mul_left most more)

  -- a node that some walk reaches has an entry below top
  pub reached : {v c : ℕ} → Walk g s v c → get_or d v 0 < top
  reached stay = omega (arith, ok.rough.start)
  reached (along {v} {b} {c} e l p h w q) =
      let u : ℕ = g.tail e in
      let x : ℕ = get_or d u 0 in
      let inside : u < g.nodes = sound.tail_in e l p in
      let low : x ≤ most * count (under d x) g.nodes = bound (ok.rough.made u inside (reached w)) refl in
      let more : count (under d x) g.nodes < count (under d (suc x)) g.nodes = under_more d x (suc x) g.nodes u inside (omega arith) (omega arith) in
      let most' : most * suc (count (under d x) g.nodes) ≤ most * g.nodes = mul-le-mul_left most (omega (arith, count_le (under d (suc x)) g.nodes)) in
      omega (arith, ok.low e l p, weighs e l, ap (λ (y : ℕ). get_or d y 0) h)

-- ---- walks joined and turned
pub walk_join : {g : Graph} {s u v a b : ℕ} → Walk g s u a → Walk g u v b → Walk g s v (a + b)
walk_join {a = a} w stay = rw (add-zero a) w
walk_join {g} {a = a} w (along {b = b} {c} e l p h x q) = let sum : a + c ≡ a + b + g.weight e = omega arith in along e l p h (walk_join w x) sum

-- a walk against the arcs is a walk back
walk_turn : {g : Graph} {s v c : ℕ} → Walk (turned g) s v c → Walk g v s c
walk_turn stay = stay
walk_turn {g} {s} {v} {c} (along {b = b} e l p h w q) =
    let here : g.weight e ≡ 0 + g.weight e = omega arith in
    let one : Walk g v (g.head e) (g.weight e) = rw (← h) (along e l p refl stay here) in
    let sum : c ≡ g.weight e + b = omega arith in
    rw sum (walk_join one (walk_turn w))

module _ {g : Graph} (back : BothWays g) where
  turned_walk : {s v c : ℕ} → Walk g s v c → Walk (turned g) s v c
  turned_walk stay = stay
  turned_walk {s} {v} {c} (along {b = b} e l p h w q) =
      let x = back e l p in
      let from : Walk (turned g) s (g.head x.0) b = rw x.3 (turned_walk w) in
      let pos : 0 < g.weight x.0 = omega (arith, x.4) in
      let sum : c ≡ b + g.weight x.0 = omega (arith, x.4) in
      along x.0 x.1 pos (x.2 ∙ h) from sum

  -- the costs from a node are the costs to it
  pub turned_settled : {s top : ℕ} {d : List ℕ} → Settled g s top d → Settled (turned g) s top d
  turned_settled {d = d} ok = record {
    rough = record { sized = ok.rough.sized; start = ok.rough.start; capped = ok.rough.capped; made = λ v l t. turned_walk (ok.rough.made v l t) };
    low = λ e l p. let x = back e l p in omega (arith, ok.low x.0 x.1 (omega (arith, x.4)), x.4, ap (λ (y : ℕ). get_or d y 0) x.2, ap (λ (y : ℕ). get_or d y 0) x.3);
  }

  pub least_back : {s v c : ℕ} → Least g s v c → Least g v s c
  least_back p = record { attained = walk_turn (turned_walk p.attained); least = λ b w. p.least b (walk_turn (turned_walk w)) }
