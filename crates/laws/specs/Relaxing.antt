-- One arc at a time, on a list of costs: an arc's offer is taken where it is less, and the list stays rough.
use Prim.Native.Nat.{ℕ, ◌+◌, ◌≤◌, ◌<◌}
use Rattle.std.proofs.Math.Decide.{ℕ_discrete}
use native.Mathlib.Omega.{arith}
use Rattle.std.specs.Prelude.{◌≡◌, refl, ◌≢◌, Bool, true, false, ◌&&◌, get_or, set, ltb}
use Rattle.std.proofs.Common.{ap, ◌∙◌, get_or-set_other, ltb-true, ltb-false}
use mathlib.Core.List.{List}
use Rattle.std.proofs.Math.ListN.{length, replicate, length-set, length-replicate, get_or-replicate}
use Rattle.std.proofs.Math.Seq.{get_or-set_same}
use Rattle.laws.specs.Fold.{pick}
use Rattle.laws.specs.Graph.{Graph, Sound, Walk, stay, along, Rough, Low}

-- before the first arc: 0 at s and top elsewhere
unfoldable pub outset : Graph → ℕ → ℕ → List ℕ
outset g s top = set (replicate g.nodes top) s 0

-- arc e offers its head less than the head has
unfoldable pub offers : Graph → List ℕ → ℕ → Bool
offers g d e = ltb 0 (g.weight e) && ltb (get_or d (g.tail e) 0 + g.weight e) (get_or d (g.head e) 0)

-- the list after arc e: its head takes the offer
unfoldable pub relaxed : Graph → List ℕ → ℕ → List ℕ
relaxed g d e = pick (offers g d e) (set d (g.head e) (get_or d (g.tail e) 0 + g.weight e)) d

-- ---- the laws
-- what holds of the entry that was set, and of the others, holds of each
pub set_each : (P : ℕ → ℕ → Type 0) (d : List ℕ) (i x : ℕ) → i < length d → P i x → ((v : ℕ) → v ≢ i → P v (get_or d v 0)) → (v : ℕ) → P v (get_or (set d i x) v 0)
set_each P d i x l here others v = go (ℕ_discrete v i)
  where
    go : Dec (v ≡ i) → P v (get_or (set d i x) v 0)
    go (yes e) = rw (e, get_or-set_same d i x 0 l) here
    go (no e) = rw (get_or-set_other d i v x 0 e) (others v e)

-- what arc e makes of d: its offer is taken, or there is none
pub data Relaxed (g : Graph) (d : List ℕ) (e : ℕ) (f : List ℕ) : Type 0 where
  taken : 0 < g.weight e → get_or d (g.tail e) 0 + g.weight e < get_or d (g.head e) 0 → f ≡ set d (g.head e) (get_or d (g.tail e) 0 + g.weight e) → Relaxed g d e f
  kept : Low g d e → f ≡ d → Relaxed g d e f

pub relaxed_cases : (g : Graph) (d : List ℕ) (e : ℕ) → Relaxed g d e (relaxed g d e)
unfolding relaxed offers
relaxed_cases g d e = go (ltb 0 w) (ltb o h) refl refl
  where
    w : ℕ
    w = g.weight e

    o : ℕ
    o = get_or d (g.tail e) 0 + g.weight e

    h : ℕ
    h = get_or d (g.head e) 0

    go : (p q : Bool) → ltb 0 w ≡ p → ltb o h ≡ q → Relaxed g d e (pick (p && q) (set d (g.head e) o) d)
    go true true a b = taken (ltb-true 0 w a) (ltb-true o h b) refl
    go true false a b = kept (λ _. ltb-false o h b) refl
    go false q a b = kept (λ p. absurd (omega (arith, ltb-false 0 w a))) refl

module _ {g : Graph} {s top : ℕ} where
  -- an arc's offer is taken: the list stays rough
  pub lowered_rough : Sound g → {d : List ℕ} → Rough g s top d → (e : ℕ) → e < g.arcs → 0 < g.weight e → get_or d (g.tail e) 0 + g.weight e < get_or d (g.head e) 0
      → Rough g s top (set d (g.head e) (get_or d (g.tail e) 0 + g.weight e))
  lowered_rough sound {d} r e l p o =
      let h : ℕ = g.head e in
      let x : ℕ = get_or d (g.tail e) 0 + g.weight e in
      let in_h : h < g.nodes = sound.head_in e l p in
      let in-t : g.tail e < g.nodes = sound.tail_in e l p in
      let long : h < length d = omega (arith, r.sized) in
      let cap : get_or d h 0 ≤ top = r.capped h in_h in
      record {
        sized = length-set d h x ∙ r.sized;
        start = get_or-set_other d h s x 0 (λ q. omega (arith, r.start, ap (λ (y : ℕ). get_or d y 0) q)) ∙ r.start;
        capped = set_each (λ (v y : ℕ). v < g.nodes → y ≤ top) d h x long (λ _. omega arith) (λ v _. r.capped v);
        made = set_each (λ (v y : ℕ). v < g.nodes → y < top → Walk g s v y) d h x long (λ _ _. along e l p refl (r.made (g.tail e) in-t (omega arith)) refl) (λ v _. r.made v);
      }

  pub outset_rough : s < g.nodes → 0 < top → Rough g s top (outset g s top)
  unfolding outset
  outset_rough l t =
      let all : List ℕ = replicate g.nodes top in
      let size : length all ≡ g.nodes = length-replicate g.nodes top in
      let long : s < length all = omega arith in
      record {
        sized = length-set all s 0 ∙ size;
        start = get_or-set_same all s 0 0 long;
        capped = set_each (λ (v y : ℕ). v < g.nodes → y ≤ top) all s 0 long (λ _. omega arith) (λ v _ k. omega (arith, get_or-replicate g.nodes v top 0 k));
        made = set_each (λ (v y : ℕ). v < g.nodes → y < top → Walk g s v y) all s 0 long (λ _ _. stay) (λ v _ k m. absurd (omega (arith, get_or-replicate g.nodes v top 0 k)));
      }
