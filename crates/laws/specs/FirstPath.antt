-- Among the least-cost paths from a node to the goal, the one that comes first: at the first difference its node has the lower rank.
-- d holds the least costs to the goal: it is certified for the graph with its arcs turned round, from the goal.
use Prim.Native.Nat.{ℕ, zero, suc, ◌+◌, ◌≤◌, ◌<◌}
use Rattle.std.proofs.Math.Decide.{ℕ_discrete}
use Rattle.std.proofs.Common.{arith, sym, ◌∙◌, inl, inr}
use Rattle.std.specs.Prelude.{◌≡◌, ◌⊎◌, Bool, ◌&&◌, ◌||◌, ltb}
use Rattle.std.proofs.Math.Path.{refl, ap}
use mathlib.Core.List.{List, [], ◌∷◌}
use Rattle.std.proofs.Math.Bool.{true, false}
use Rattle.std.proofs.lemmas.Bool.{false≢true}
use Rattle.std.proofs.Math.ListN.{get_or}
use Rattle.std.proofs.Math.Dec.{eqb}
use borrow.Author.Tests.{ltb-true, ltb-false, lt-ltb, eqb-true, eqb-false, eq-eqb, ne_eqb}
use Rattle.laws.specs.Fold.{pick}
use Rattle.laws.specs.Search.{both}
use Rattle.laws.specs.Graph.{Graph, Sound, Walk, stay, along, Settled, none_less, turned, below_or}

-- the nodes of a path from u to the goal t, with what it costs
pub data Trail (g : Graph) (t : ℕ) : ℕ → List ℕ → ℕ → Type 0 where
  ends : Trail g t t (t ∷ []) 0
  goes : {u b c : ℕ} {p : List ℕ} (e : ℕ) → e < g.arcs → 0 < g.weight e → g.tail e ≡ u → Trail g t (g.head e) p b → c ≡ b + g.weight e → Trail g t u (u ∷ p) c

-- p is q, or has the node of lower rank at the first difference
pub data First (rank : ℕ → ℕ) : List ℕ → List ℕ → Type 0 where
  same : {p : List ℕ} → First rank p p
  less : {a b : ℕ} {p q : List ℕ} → rank a < rank b → First rank (a ∷ p) (b ∷ q)
  then : {a : ℕ} {p q : List ℕ} → First rank p q → First rank (a ∷ p) (a ∷ q)

-- rank tells the nodes apart to which arcs lead
abbrev pub Tells : Graph → (ℕ → ℕ) → Type 0
Tells g rank = (e f : ℕ) → e < g.arcs → f < g.arcs → 0 < g.weight e → 0 < g.weight f → rank (g.head e) ≡ rank (g.head f) → g.head e ≡ g.head f

-- ---- the function
-- arc e leaves u, and a least-cost path goes along it
unfoldable pub tight : Graph → List ℕ → ℕ → ℕ → Bool
tight g d u e = eqb (g.tail e) u && (ltb 0 (g.weight e) && eqb (get_or d u 0) (get_or d (g.head e) 0 + g.weight e))

-- a comes before m, which is the best so far, and the number of nodes where there is none yet
unfoldable pub better : Graph → (ℕ → ℕ) → ℕ → ℕ → Bool
better g rank a m = eqb m g.nodes || ltb (rank a) (rank m)

-- the best after arc e
unfoldable pub closer : Graph → (ℕ → ℕ) → List ℕ → ℕ → ℕ → ℕ → ℕ
closer g rank d u e m = pick (tight g d u e && better g rank (g.head e) m) (g.head e) m

-- the best node to which such an arc leads, among the first n arcs
unfoldable pub next : Graph → (ℕ → ℕ) → List ℕ → ℕ → ℕ → ℕ
next g rank d u zero = g.nodes
next g rank d u (suc e) = closer g rank d u e (next g rank d u e)

-- the path from u; n bounds its length
unfoldable pub path : Graph → (ℕ → ℕ) → List ℕ → ℕ → ℕ → List ℕ
path g rank d zero u = u ∷ []
path g rank d (suc n) u = elim (eqb (get_or d u 0) 0) [ true ↦ u ∷ [] | false ↦ u ∷ path g rank d n (next g rank d u g.arcs) ]

-- ---- the laws
pub record Tight (g : Graph) (d : List ℕ) (u e : ℕ) : Type 0 where
  pub leaves : g.tail e ≡ u
  pub real : 0 < g.weight e
  pub exact : get_or d u 0 ≡ get_or d (g.head e) 0 + g.weight e

tight_is : (g : Graph) (d : List ℕ) (u e : ℕ) → tight g d u e ≡ true → Tight g d u e
unfolding tight
tight_is g d u e q =
    let w : ℕ = g.weight e in
    let y : ℕ = get_or d (g.head e) 0 + w in
    let a = both (eqb (g.tail e) u) (ltb 0 w && eqb (get_or d u 0) y) q in
    let b = both (ltb 0 w) (eqb (get_or d u 0) y) a.1 in
    record { leaves = eqb-true (g.tail e) u a.0; real = ltb-true 0 w b.0; exact = eqb-true (get_or d u 0) y b.1 }

is_tight : (g : Graph) (d : List ℕ) (u e : ℕ) → Tight g d u e → tight g d u e ≡ true
unfolding tight
is_tight g d u e h = rw (eq-eqb (g.tail e) u h.leaves, lt-ltb 0 (g.weight e) h.real, eq-eqb (get_or d u 0) (get_or d (g.head e) 0 + g.weight e) h.exact)

-- m is the best of the first n arcs
data Nearest (g : Graph) (rank : ℕ → ℕ) (d : List ℕ) (u n m : ℕ) : Type 0 where
  none : m ≡ g.nodes → ((f : ℕ) → f < n → Tight g d u f → ⊥) → Nearest g rank d u n m
  some : (e : ℕ) → e < g.arcs → Tight g d u e → g.head e ≡ m → ((f : ℕ) → f < n → Tight g d u f → rank m ≤ rank (g.head f)) → Nearest g rank d u n m

module _ {g : Graph} (rank : ℕ → ℕ) (sound : Sound g) (d : List ℕ) (u : ℕ) where
  -- what holds of the arcs below n and of arc n
  upto : (P : ℕ → Type 0) (n : ℕ) → ((f : ℕ) → f < n → Tight g d u f → P f) → (Tight g d u n → P n) → (f : ℕ) → f < suc n → Tight g d u f → P f
  upto P n below now f l t = go (ℕ_discrete f n)
    where
      go : Dec (f ≡ n) → P f
      go (yes e) = rw e (now (rw e at t))
      go (no e) = below f (omega arith) t

  closer_nearest : (n m : ℕ) → n < g.arcs → Nearest g rank d u n m → Nearest g rank d u (suc n) (closer g rank d u n m)
  unfolding closer better
  closer_nearest n m l now = go (tight g d u n) refl now
    where
      h : ℕ
      h = g.head n

      go : (b : Bool) → tight g d u n ≡ b → Nearest g rank d u n m → Nearest g rank d u (suc n) (pick (b && (eqb m g.nodes || ltb (rank h) (rank m))) h m)
      go false t (none z never) = none z (upto (λ _. ⊥) n never (λ x. false≢true (sym t ∙ is_tight g d u n x)))
      go false t (some e k x q low) = some e k x q (upto (λ f. rank m ≤ rank (g.head f)) n low (λ y. absurd (false≢true (sym t ∙ is_tight g d u n y))))
      go true t (none z never) = rw (eq-eqb m g.nodes z) (some n l (tight_is g d u n t) refl (upto (λ f. rank h ≤ rank (g.head f)) n (λ f k x. absurd (never f k x)) (λ _. omega arith)))
      go true t (some e k x q low) = rw (ne_eqb m g.nodes (λ z. omega (arith, sound.head_in e k x.real))) (lower (ltb (rank h) (rank m)) refl)
        where
          lower : (b : Bool) → ltb (rank h) (rank m) ≡ b → Nearest g rank d u (suc n) (pick b h m)
          lower true r = some n l (tight_is g d u n t) refl (upto (λ f. rank h ≤ rank (g.head f)) n (λ f j y. omega (arith, low f j y, ltb-true (rank h) (rank m) r)) (λ _. omega arith))
          lower false r = some e k x q (upto (λ f. rank m ≤ rank (g.head f)) n low (λ _. ltb-false (rank h) (rank m) r))

  next_nearest : (n : ℕ) → n ≤ g.arcs → Nearest g rank d u n (next g rank d u n)
  unfolding next
  next_nearest zero l = none refl (λ f k. absurd (omega arith))
  next_nearest (suc n) l = closer_nearest n (next g rank d u n) l (next_nearest n (omega arith))

-- every path begins at its node
pub trail_front : {g : Graph} {t u c : ℕ} {p : List ℕ} → Trail g t u p c → (r : List ℕ) × (p ≡ u ∷ r)
trail_front ends = ([], refl)
trail_front (goes {p = p} e l k h w q) = (p, refl)

pub path_front : (g : Graph) (rank : ℕ → ℕ) (d : List ℕ) (n u : ℕ) → (r : List ℕ) × (path g rank d n u ≡ u ∷ r)
unfolding path
path_front g rank d zero u = ([], refl)
path_front g rank d (suc n) u = go (eqb (get_or d u 0) 0) refl
  where
    go : (b : Bool) → eqb (get_or d u 0) 0 ≡ b → (r : List ℕ) × (elim (eqb (get_or d u 0) 0) [ true ↦ u ∷ [] | false ↦ u ∷ path g rank d n (next g rank d u g.arcs) ] ≡ u ∷ r)
    go true q = ([], rw q)
    go false q = (path g rank d n (next g rank d u g.arcs), rw q)

-- a walk of cost 0 stays
zero_walk : {g : Graph} {s v c : ℕ} → Walk g s v c → c ≡ 0 → v ≡ s
zero_walk stay q = refl
zero_walk (along e l p h w r) q = absurd (omega arith)

module _ {g : Graph} (rank : ℕ → ℕ) {t top : ℕ} {d : List ℕ} (ok : Settled (turned g) t top d) (sound : Sound g) where
  -- where a least-cost path leaves u, `next` is the head of such an arc, and no such head has a lower rank
  next_is : (u e : ℕ) → e < g.arcs → Tight g d u e
      → (f : ℕ) × (f < g.arcs) × Tight g d u f × (g.head f ≡ next g rank d u g.arcs) × (rank (next g rank d u g.arcs) ≤ rank (g.head e))
  next_is u e l x = go (next_nearest rank sound d u g.arcs (omega arith))
    where
      go : {m : ℕ} → Nearest g rank d u g.arcs m → (f : ℕ) × (f < g.arcs) × Tight g d u f × (g.head f ≡ m) × (rank m ≤ rank (g.head e))
      go (none z never) = absurd (never e l x)
      go (some f k y q low) = (f, k, y, q, low e l x)

  trail_walk : {u c : ℕ} {p : List ℕ} → Trail g t u p c → Walk (turned g) t u c
  trail_walk ends = stay
  trail_walk (goes e l p h w q) = along e l p h (trail_walk w) q

  -- a node from which the goal is reached, and which is not the goal, has such an arc
  some_tight : (u : ℕ) → 0 < get_or d u 0 → {c : ℕ} → Walk (turned g) t u c → c ≡ get_or d u 0 → (e : ℕ) × (e < g.arcs) × Tight g d u e
  some_tight u h stay q = absurd (omega arith)
  some_tight u h (along {b = b} e l p k w r) q =
      (e, l, record { leaves = k; real = p; exact = omega (arith, none_less ok w, ok.low e l p, ap (λ (x : ℕ). get_or d x 0) k) })

  at_goal : (u : ℕ) → u < g.nodes → get_or d u 0 < top → get_or d u 0 ≡ 0 → Trail g t u (u ∷ []) (get_or d u 0)
  at_goal u l k z = rw (z, zero_walk (ok.rough.made u l k) z) ends

  -- the path is a path, and costs the least
  pub path_trail : (n u : ℕ) → u < g.nodes → get_or d u 0 < top → get_or d u 0 ≤ n → Trail g t u (path g rank d n u) (get_or d u 0)
  unfolding path
  path_trail zero u l k h = at_goal u l k (omega arith)
  path_trail (suc n) u l k h = go (λ v a b c. path_trail n v a b c) (eqb (get_or d u 0) 0) refl
    where
      go : ((v : ℕ) → v < g.nodes → get_or d v 0 < top → get_or d v 0 ≤ n → Trail g t v (path g rank d n v) (get_or d v 0))
          → (b : Bool) → eqb (get_or d u 0) 0 ≡ b → Trail g t u (elim (eqb (get_or d u 0) 0) [ true ↦ u ∷ [] | false ↦ u ∷ path g rank d n (next g rank d u g.arcs) ]) (get_or d u 0)
      go rec true q = rw q (at_goal u l k (eqb-true (get_or d u 0) 0 q))
      go rec false q =
          let pos : 0 < get_or d u 0 = omega (arith, eqb-false (get_or d u 0) 0 q) in
          let y = some_tight u pos (ok.rough.made u l k) refl in
          let x = next_is u y.0 y.1 y.2 in
          let v : ℕ = next g rank d u g.arcs in
          let same : get_or d (g.head x.0) 0 ≡ get_or d v 0 = ap (λ (y : ℕ). get_or d y 0) x.3 in
          let rest : Trail g t v (path g rank d n v) (get_or d v 0) =
          rec v (omega (arith, x.3, sound.head_in x.0 x.1 x.2.real)) (omega (arith, x.2.exact)) (omega (arith, x.2.exact, x.2.real)) in
          let there : Trail g t (g.head x.0) (path g rank d n v) (get_or d v 0) = rw x.3 rest in
          let cost : get_or d u 0 ≡ get_or d v 0 + g.weight x.0 = omega (arith, x.2.exact) in
          rw q (goes x.0 x.1 x.2.real x.2.leaves there cost)

  -- of all paths that cost the least it comes first
  pub path_first : Tells g rank → (n u : ℕ) {c : ℕ} {p : List ℕ} → Trail g t u p c → c ≡ get_or d u 0 → get_or d u 0 ≤ n → First rank (path g rank d n u) p
  unfolding path
  path_first tells zero u ends q h = same
  path_first tells zero u (goes e l k z w r) q h = absurd (omega arith)
  path_first tells (suc n) u ends q h = rw (eq-eqb (get_or d u 0) 0 (sym q), path) same
  path_first tells (suc n) u (goes {b = b} {p = p} e l k z w r) q h =
      let exact : get_or d u 0 ≡ get_or d (g.head e) 0 + g.weight e = omega (arith, none_less ok (trail_walk w), ok.low e l k, ap (λ (x : ℕ). get_or d x 0) z) in
      rw (ne_eqb (get_or d u 0) 0 (λ x. omega arith), path) (then (go (next_is u e l (record { leaves = z; real = k; exact = exact })) (λ a.
      path_first tells n (g.head e) w (omega arith) (omega arith))))
    where
      v : ℕ
      v = next g rank d u g.arcs

      go : (f : ℕ) × (f < g.arcs) × Tight g d u f × (g.head f ≡ v) × (rank v ≤ rank (g.head e)) → (Unit {0} → First rank (path g rank d n (g.head e)) p) → First rank (path g rank d n v) p
      go x rec = apart (below_or (rank v) (rank (g.head e)))
        where
          apart : (rank v < rank (g.head e)) ⊎ (rank (g.head e) ≤ rank v) → First rank (path g rank d n v) p
          apart (inl j) = rw ((path_front g rank d n v).1, (trail_front w).1) (less j)
          apart (inr j) =
              let level : rank (g.head x.0) ≡ rank (g.head e) = omega (arith, x.4, ap rank x.3) in
              rw (sym x.3 ∙ tells x.0 e x.1 l x.2.real k level) (rec tt)
