-- A search that serves one waiting node after another, in any order, ends in the least costs.
-- p has `true` for each node that waits: one whose arcs are still to be taken, since its own cost was lowered.
use Rattle.std.specs.Prelude.{ℕ, zero, suc, ◌+◌, ◌≤◌, ◌<◌, ◌≡◌, ◌⊎◌, Bool, true, false, List, [], ◌∷◌, get_or, length, set, replicate}
use Rattle.std.specs.List.{sum_by}
use Rattle.std.proofs.Common.{add-one, arith, sym, ap, ◌∙◌, inl, inr, get_or-set_same, get_or-set_other}
use Rattle.std.proofs.Math.Decide.{ℕ_discrete}
use Rattle.std.proofs.Math.ListN.{length-set}
use Rattle.std.proofs.lemmas.List.{length-replicate, get_or-replicate}
use Rattle.std.proofs.lemmas.List.Sums.{sum_by-set}
use Rattle.std.proofs.lemmas.Bool.{false≢true}
use Rattle.laws.specs.Fold.{pick, bit}
use Rattle.laws.specs.Graph.{Graph, Sound, Rough, Low, Settled}
use Rattle.laws.specs.Relaxing.{offers, relaxed, outset, set_each, Relaxed, taken, kept, relaxed_cases, lowered_rough, outset_rough}
use Rattle.laws.specs.Offers.{offered, not_offered}

-- the tail of arc e waits, or the arc offers nothing
abbrev pub Held : Graph → List ℕ → List Bool → ℕ → Type 0
Held g d p e = (get_or p (g.tail e) false ≡ true) ⊎ (get_or d (g.head e) 0 ≤ get_or d (g.tail e) 0 + g.weight e)

-- between two turns
pub record Waiting (g : Graph) (s top : ℕ) (d : List ℕ) (p : List Bool) : Type 0 where
  pub rough : Rough g s top d
  pub long : g.nodes ≤ length p
  pub held : (e : ℕ) → e < g.arcs → 0 < g.weight e → Held g d p e

-- within the turn of node u: its arcs from m on are still to be taken
pub record Serving (g : Graph) (s top : ℕ) (d : List ℕ) (p : List Bool) (u m : ℕ) : Type 0 where
  pub rough : Rough g s top d
  pub long : g.nodes ≤ length p
  pub held : (e : ℕ) → e < g.arcs → 0 < g.weight e → Held g d p e ⊎ ((g.tail e ≡ u) × (m ≤ e))

-- p after arc e: its head waits if it took the offer
unfoldable pub awaited : Graph → List ℕ → List Bool → ℕ → List Bool
awaited g d p e = pick (offers g d e) (set p (g.head e) true) p

unfoldable pub total : List ℕ → ℕ
total [] = 0
total (x ∷ xs) = x + total xs

-- what each turn brings down
unfoldable pub work : List ℕ → List Bool → ℕ
work d p = total d + total d + sum_by bit p

-- ---- the work
total_set_is : (d : List ℕ) (i x : ℕ) → i < length d → total (set d i x) + get_or d i 0 ≡ total d + x
unfolding total
total_set_is [] i x l = absurd (omega arith)
total_set_is (y ∷ ys) zero x l = omega arith
total_set_is (y ∷ ys) (suc i) x l = omega (arith, total_set_is ys i x (omega arith))

-- a node that waits no longer
pub work_served : (d : List ℕ) (p : List Bool) (u : ℕ) → u < length p → get_or p u false ≡ true → work d (set p u false) < work d p
unfolding work bit
work_served d p u l h = omega (arith, sum_by-set bit p u false false l, ap bit h)

-- an arc adds no work
pub work_arc : {g : Graph} → Sound g → (d : List ℕ) (p : List Bool) (m : ℕ) → length d ≡ g.nodes → g.nodes ≤ length p → m < g.arcs → work (relaxed g d m) (awaited g d p m) ≤ work d p
unfolding work awaited bit
work_arc {g} sound d p m ld lp l = go (relaxed_cases g d m)
  where
    go : Relaxed g d m (relaxed g d m) → work (relaxed g d m) (pick (offers g d m) (set p (g.head m) true) p) ≤ work d p
    go (taken q o x) =
        let i : g.head m < g.nodes = sound.head_in m l q in
        rw (x, (offered g d m q o).0) (omega (arith, total_set_is d (g.head m) (get_or d (g.tail m) 0 + g.weight m) (omega arith), sum_by-set bit p (g.head m) true false (omega arith)))
    go (kept low x) = rw (x, (not_offered g d m low).0) (omega arith)

-- ---- the turns
module _ {g : Graph} {s top : ℕ} (sound : Sound g) where
  -- at the outset s waits
  pub waiting_none : (n : ℕ) → g.nodes ≤ n → s < g.nodes → 0 < top → Waiting g s top (outset g s top) (set (replicate n false) s true)
  unfolding outset
  waiting_none n r l t =
      record {
        rough = rough;
        long = omega (arith, length-set none s true, size);
        held = λ e k p. go e k p (ℕ_discrete (g.tail e) s);
      }
    where
      rough : Rough g s top (outset g s top)
      rough = outset_rough l t

      none : List Bool
      none = replicate n false

      size : length none ≡ n
      size = length-replicate n false

      go : (e : ℕ) → e < g.arcs → 0 < g.weight e → Dec (g.tail e ≡ s) → Held g (outset g s top) (set none s true) e
      go e k p (yes q) = inl (rw q (get_or-set_same none s true false (omega (arith, size))))
      go e k p (no q) =
          inr (omega (
            arith,
            rough.capped (g.head e) (sound.head_in e k p),
            get_or-set_other (replicate g.nodes top) s (g.tail e) 0 0 q,
            get_or-replicate g.nodes (g.tail e) top 0 (sound.tail_in e k p),
          ))

  -- u waits no longer, and its arcs are to be taken
  pub serving_none : {d : List ℕ} {p : List Bool} → Waiting g s top d p → (u m : ℕ) → ((e : ℕ) → e < g.arcs → 0 < g.weight e → g.tail e ≡ u → m ≤ e) → Serving g s top d (set p u false) u m
  serving_none {d} {p} w u m first = record { rough = w.rough; long = omega (arith, length-set p u false, w.long); held = λ e l q. go e l q (ℕ_discrete (g.tail e) u) (w.held e l q) }
    where
      go : (e : ℕ) → e < g.arcs → 0 < g.weight e → Dec (g.tail e ≡ u) → Held g d p e → Held g d (set p u false) e ⊎ ((g.tail e ≡ u) × (m ≤ e))
      go e l i (yes q) h = inr (q, first e l i q)
      go e l i (no q) (inl h) = inl (inl (rw (get_or-set_other p u (g.tail e) false false q) h))
      go e l i (no q) (inr h) = inl (inr h)

  -- all of u's arcs are taken
  pub serving_all : {d : List ℕ} {p : List Bool} {u m : ℕ} → Serving g s top d p u m → ((e : ℕ) → e < g.arcs → 0 < g.weight e → g.tail e ≡ u → e < m) → Waiting g s top d p
  serving_all {d} {p} {u} {m} w last = record { rough = w.rough; long = w.long; held = λ e l q. go e l q (w.held e l q) }
    where
      go : (e : ℕ) → e < g.arcs → 0 < g.weight e → Held g d p e ⊎ ((g.tail e ≡ u) × (m ≤ e)) → Held g d p e
      go e l q (inl h) = h
      go e l q (inr h) = absurd (omega (arith, last e l q h.0))

  -- nobody waits: the certificate
  pub waiting_over : {d : List ℕ} {p : List Bool} → Waiting g s top d p → ((v : ℕ) → v < g.nodes → get_or p v false ≡ false) → Settled g s top d
  waiting_over {d} {p} w none = record { rough = w.rough; low = λ e l q. go e l q (w.held e l q) }
    where
      go : (e : ℕ) → e < g.arcs → 0 < g.weight e → Held g d p e → get_or d (g.head e) 0 ≤ get_or d (g.tail e) 0 + g.weight e
      go e l q (inl h) = absurd (false≢true (sym (none (g.tail e) (sound.tail_in e l q)) ∙ h))
      go e l q (inr h) = h

  -- one arc of u: it offers nothing, or its head takes the offer and waits
  serving_skip : {d : List ℕ} {p : List Bool} {u m : ℕ} → Serving g s top d p u m → Low g d m → Serving g s top d p u (suc m)
  serving_skip {d} {p} {u} {m} w low = record { rough = w.rough; long = w.long; held = λ e l q. go e l q (ℕ_discrete e m) (w.held e l q) }
    where
      go : (e : ℕ) → e < g.arcs → 0 < g.weight e → Dec (e ≡ m) → Held g d p e ⊎ ((g.tail e ≡ u) × (m ≤ e)) → Held g d p e ⊎ ((g.tail e ≡ u) × (suc m ≤ e))
      go e l q (yes r) h = inl (inr (rw r (low (rw r at q))))
      go e l q (no r) (inl h) = inl h
      go e l q (no r) (inr h) = inr (h.0, omega (arith, h.1))

  serving_take : {d : List ℕ} {p : List Bool} {u m : ℕ} → Serving g s top d p u m → m < g.arcs → g.tail m ≡ u → 0 < g.weight m → get_or d (g.tail m) 0 + g.weight m < get_or d (g.head m) 0
      → Serving g s top (set d (g.head m) (get_or d (g.tail m) 0 + g.weight m)) (set p (g.head m) true) u (suc m)
  serving_take {d} {p} {u} {m} w l t q o =
      record {
        rough = lowered_rough sound w.rough m l q o;
        long = omega (arith, length-set p v true, w.long);
        held = λ e k z. go e (ℕ_discrete (g.tail e) v) (ℕ_discrete e m) (w.held e k z);
      }
    where
      v : ℕ
      v = g.head m

      x : ℕ
      x = get_or d (g.tail m) 0 + g.weight m

      in_d : v < length d
      in_d = omega (arith, sound.head_in m l q, w.rough.sized)

      in_p : v < length p
      in_p = omega (arith, sound.head_in m l q, w.long)

      -- no entry rises
      down : (y : ℕ) → get_or (set d v x) y 0 ≤ get_or d y 0
      down = set_each (λ (y z : ℕ). z ≤ get_or d y 0) d v x in_d (omega (arith, o)) (λ y _. omega arith)

      go : (e : ℕ) → Dec (g.tail e ≡ v) → Dec (e ≡ m) → Held g d p e ⊎ ((g.tail e ≡ u) × (m ≤ e)) → Held g (set d v x) (set p v true) e ⊎ ((g.tail e ≡ u) × (suc m ≤ e))
      go e (yes r) b h = inl (inl (rw r (get_or-set_same p v true false in_p)))
      go e (no r) (yes b) h =
          inl (inr (omega (
            arith,
            get_or-set_same d v x 0 in_d,
            get_or-set_other d v (g.tail e) x 0 r,
            ap (λ (k : ℕ). get_or (set d v x) (g.head k) 0) b,
            ap (λ (k : ℕ). get_or d (g.tail k) 0) b,
            ap (λ (k : ℕ). g.weight k) b,
          )))
      go e (no r) (no b) (inl (inl h)) = inl (inl (rw (get_or-set_other p v (g.tail e) true false r) h))
      go e (no r) (no b) (inl (inr h)) = inl (inr (omega (arith, down (g.head e), get_or-set_other d v (g.tail e) x 0 r)))
      go e (no r) (no b) (inr h) = inr (h.0, omega (arith, h.1))

  -- as the code takes it
  pub serving_arc : {d : List ℕ} {p : List Bool} {u m : ℕ} → Serving g s top d p u m → m < g.arcs → g.tail m ≡ u → Serving g s top (relaxed g d m) (awaited g d p m) u (m + 1)
  unfolding awaited
  serving_arc {d} {p} {u} {m} w l t = rw (add-one m) (go (relaxed_cases g d m))
    where
      go : Relaxed g d m (relaxed g d m) → Serving g s top (relaxed g d m) (pick (offers g d m) (set p (g.head m) true) p) u (suc m)
      go (taken q o x) = rw (x, (offered g d m q o).0) (serving_take w l t q o)
      go (kept low x) = rw (x, (not_offered g d m low).0) (serving_skip w low)
