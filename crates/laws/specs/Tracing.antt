-- The first path, found node by node and written into a lent list: `next` over the arcs of one node, and the loop along the path.
use Prim.Native.Nat.{ℕ, zero, suc, ◌+◌, ◌-◌, ◌≤◌, ◌<◌}
use Rattle.std.proofs.Common.{add-one, sym, ◌∙◌, append_assoc, length-append, length-drop, drop-cons}
use native.Mathlib.Omega.{arith}
use Rattle.std.proofs.Math.Path.{◌≡◌, refl, ap}
use Rattle.std.specs.Prelude.{Bool, true, false, ◌&&◌, List, [], ◌∷◌, ◌++◌, length, set, drop, ltb, eqb}
use Rattle.std.proofs.Math.ListN.{get_or}
use Rattle.std.proofs.lemmas.List.{set_at}
use borrow.Author.Tests.{ltb-true, lt-ltb, eqb-true, eq-eqb, ne_eqb}
use Rattle.laws.specs.Fold.{pick}
use Rattle.laws.specs.Graph.{Graph, Sound, Settled, turned}
use Rattle.laws.specs.FirstPath.{Trail, ends, goes, tight, better, closer, next, path, path_trail, trail_front, path_front}

-- ---- the next node
module _ (g : Graph) (rank : ℕ → ℕ) (d : List ℕ) (u : ℕ) where
  -- arc e changes nothing: it is not on a least-cost path, or leads to no better node
  pub next_skip : (e b : ℕ) → (0 < g.weight e → get_or d u 0 ≡ get_or d (g.head e) 0 + g.weight e → better g rank (g.head e) b ≡ true → ⊥) → b ≡ closer g rank d u e b
  unfolding closer tight
  next_skip e b h = go (eqb (g.tail e) u) (ltb 0 w) (eqb (get_or d u 0) y) (better g rank (g.head e) b) refl refl refl
    where
      w : ℕ
      w = g.weight e

      y : ℕ
      y = get_or d (g.head e) 0 + g.weight e

      go : (p q r t : Bool) → ltb 0 w ≡ q → eqb (get_or d u 0) y ≡ r → better g rank (g.head e) b ≡ t → b ≡ pick ((p && (q && r)) && t) (g.head e) b
      go false q r t x z k = refl
      go true false r t x z k = refl
      go true true false t x z k = refl
      go true true true false x z k = refl
      go true true true true x z k = absurd (h (ltb-true 0 w x) (eqb-true (get_or d u 0) y z) k)

  pub next_take : (e b : ℕ) → g.tail e ≡ u → 0 < g.weight e → get_or d u 0 ≡ get_or d (g.head e) 0 + g.weight e → better g rank (g.head e) b ≡ true → g.head e ≡ closer g rank d u e b
  unfolding closer tight
  next_take e b t p q r = rw (eq-eqb (g.tail e) u t, lt-ltb 0 (g.weight e) p, eq-eqb (get_or d u 0) (get_or d (g.head e) 0 + g.weight e) q, r)

  -- one arc more
  pub next_suc : (e b r : ℕ) → b ≡ next g rank d u e → r ≡ closer g rank d u e b → r ≡ next g rank d u (e + 1)
  unfolding next
  next_suc e b r p q = rw (add-one e) (q ∙ ap (λ (x : ℕ). closer g rank d u e x) p)

  -- arcs that do not leave u
  pub next_same : (m n : ℕ) → ((e : ℕ) → m ≤ e → e < m + n → g.tail e ≡ u → ⊥) → next g rank d u (m + n) ≡ next g rank d u m
  unfolding next closer tight
  next_same m zero h = let q : m + 0 ≡ m = omega arith in ap (λ (k : ℕ). next g rank d u k) q
  next_same m (suc n) h =
      let q : m + suc n ≡ suc (m + n) = omega arith in
      ap (λ (k : ℕ). next g rank d u k) q ∙ rw (ne_eqb (g.tail (m + n)) u (h (m + n) (omega arith) (omega arith))) (next_same m n (λ e a b. h e a (omega arith)))

-- ---- the path
-- i nodes of the path from `from` to t stand in front of what the list held, and u is the next
pub record Tracing (g : Graph) (rank : ℕ → ℕ) (t from : ℕ) (d old new : List ℕ) (u i : ℕ) : Type 0 where
  pub passed : List ℕ
  pub many : length passed ≡ i
  pub is : passed ++ path g rank d (get_or d from 0 - i) u ≡ path g rank d (get_or d from 0) from
  pub written : new ≡ passed ++ drop i old
  pub cost : ℕ
  pub rest : Trail g t u (path g rank d (get_or d from 0 - i) u) cost
  pub room : length (path g rank d (get_or d from 0) from) ≤ length old

path_zero : (g : Graph) (rank : ℕ → ℕ) (d : List ℕ) (n u : ℕ) → get_or d u 0 ≡ 0 → path g rank d n u ≡ u ∷ []
unfolding path
path_zero g rank d zero u z = refl
path_zero g rank d (suc n) u z = rw (eq-eqb (get_or d u 0) 0 z, path)

path_suc : (g : Graph) (rank : ℕ → ℕ) (d : List ℕ) (n u : ℕ) → (get_or d u 0 ≡ 0 → ⊥) → path g rank d (suc n) u ≡ u ∷ path g rank d n (next g rank d u g.arcs)
unfolding path
path_suc g rank d n u z = rw (ne_eqb (get_or d u 0) 0 z, path)

trail_node : {g : Graph} {t u c : ℕ} {p : List ℕ} → Sound g → t < g.nodes → Trail g t u p c → u < g.nodes
trail_node sound l ends = l
trail_node sound l (goes e k p h w q) = omega (arith, sound.tail_in e k p)

-- what follows on the first node of a path that is not at the goal
trail_next : {g : Graph} {t u c : ℕ} {p : List ℕ} → Trail g t u p c → (u ≡ t → ⊥) → (q : List ℕ) → p ≡ u ∷ q → (v : ℕ) × (b : ℕ) × (r : List ℕ) × (q ≡ v ∷ r) × Trail g t v q b
trail_next ends z q f = absurd (z refl)
trail_next {g} (goes {b = b} {p = p} e l k h w x) z q f =
    let same : p ≡ q = cc in
    let y = trail_front w in
    (g.head e, b, y.0, sym same ∙ y.1, rw (← same) w)

module _ {g : Graph} {rank : ℕ → ℕ} {t from : ℕ} {d old : List ℕ} where
  pub tracing_none : {top : ℕ} → Settled (turned g) t top d → Sound g → from < g.nodes → get_or d from 0 < top
      → length (path g rank d (get_or d from 0) from) ≤ length old → Tracing g rank t from d old old from 0
  tracing_none ok sound l k h =
      let q : get_or d from 0 - 0 ≡ get_or d from 0 = omega arith in
      record { passed = []; many = refl; is = rw q refl; written = refl; cost = get_or d from 0; rest = rw q (path_trail rank ok sound (get_or d from 0) from l k (omega arith)); room = h }

  module _ {new : List ℕ} {u i : ℕ} (now : Tracing g rank t from d old new u i) where
    pub tracing_node : Sound g → t < g.nodes → u < g.nodes
    tracing_node sound l = trail_node sound l now.rest

    -- there is room for the next node
    pub tracing_room : (i < length new) × (i < length (path g rank d (get_or d from 0) from))
    tracing_room =
        let front = path_front g rank d (get_or d from 0 - i) u in
        let whole : i + length (path g rank d (get_or d from 0 - i) u) ≡ length (path g rank d (get_or d from 0) from) =
        omega (arith, length-append now.passed (path g rank d (get_or d from 0 - i) u), ap length now.is, now.many) in
        let more : i < length (path g rank d (get_or d from 0) from) = omega (arith, whole, ap length front.1) in
        (omega (arith, more, ap length now.written, length-append now.passed (drop i old), length-drop i old, now.many, now.room), more)

    -- the list with the node written
    one_more : set new i u ≡ (now.passed ++ (u ∷ [])) ++ drop (suc i) old
    one_more =
        let l : i < length old = omega (arith, tracing_room.1, now.room) in
        rw (now.written, drop-cons old i 0 l, append_assoc now.passed (u ∷ []) (drop (suc i) old)) (set_at now.passed (get_or old i 0) (drop (suc i) old) u i now.many)

    -- at the goal
    pub tracing_over : get_or d u 0 ≡ 0 → (set new i u ≡ path g rank d (get_or d from 0) from ++ drop (i + 1) old) × (i + 1 ≡ length (path g rank d (get_or d from 0) from))
    tracing_over z =
        let all : now.passed ++ (u ∷ []) ≡ path g rank d (get_or d from 0) from = ap (λ (x : List ℕ). now.passed ++ x) (sym (path_zero g rank d (get_or d from 0 - i) u z)) ∙ now.is in
        (rw (add-one i, ← all) one_more, omega (arith, ap length all, length-append now.passed (u ∷ []), now.many))

    module _ (start : get_or d t 0 ≡ 0) (h : get_or d u 0 ≡ 0 → ⊥) where
      on : (n : ℕ) → Trail g t u (path g rank d n u) now.cost → (m : ℕ) × (n ≡ suc m) × (b : ℕ) × Trail g t (next g rank d u g.arcs) (path g rank d m (next g rank d u g.arcs)) b
      on zero w = let x = trail_next w (λ e. h (ap (λ (y : ℕ). get_or d y 0) e ∙ start)) [] (unfold path in refl) in let z : ◌≡◌ {A = ℕ} 0 1 = cc x.3 in absurd (omega arith)
      on (suc m) w =
          let v : ℕ = next g rank d u g.arcs in
          let x = trail_next w (λ e. h (ap (λ (y : ℕ). get_or d y 0) e ∙ start)) (path g rank d m v) (path_suc g rank d m u h) in
          let same : x.0 ≡ v = cc (x.3, (path_front g rank d m v).1) in
          (m, refl, x.1, rw same at x.4)

      -- on the way
      pub tracing_more : Tracing g rank t from d old (set new i u) (next g rank d u g.arcs) (i + 1)
      tracing_more =
          let v : ℕ = next g rank d u g.arcs in
          let x = on (get_or d from 0 - i) now.rest in
          let left : get_or d from 0 - (i + 1) ≡ x.0 = omega (arith, x.1) in
          record {
            passed = now.passed ++ (u ∷ []);
            many = omega (arith, length-append now.passed (u ∷ []), now.many);
            is = rw (left, append_assoc now.passed (u ∷ []) (path g rank d x.0 v), ← (path_suc g rank d x.0 u h), ← x.1) now.is;
            written = rw (add-one i) one_more;
            cost = x.2;
            rest = rw left x.3;
            room = now.room;
          }
