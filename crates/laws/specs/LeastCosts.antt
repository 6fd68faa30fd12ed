-- The least costs as a function: sweeps over all arcs, there and back, until nothing is lowered (Bellman and Ford). `least_costs_settled` says that it gives the least costs.
use Prim.Native.Nat.{ℕ, zero, suc, ◌+◌, ◌-◌, ◌*◌, ◌^◌, ◌≤◌, ◌<◌}
use Rattle.std.proofs.Math.Decide.{ℕ_discrete}
use Rattle.std.proofs.Common.{arith, sym, ap, ◌∙◌, inr, ltb-true, ltb-false}
use Rattle.std.specs.Prelude.{◌≡◌, ◌⊎◌, List, [], ◌∷◌, Bool, true, false, length, set, ltb}
use Rattle.std.proofs.Math.Path.{refl}
use Rattle.std.proofs.Math.Logic.{inl}
use Rattle.std.proofs.Math.ListN.{get_or}
use Rattle.laws.specs.Fold.{pick}
use Rattle.laws.specs.Relaxing.{outset, lowered_rough, outset_rough}
use Rattle.laws.specs.Digits.{packed, digit, unpacked, Below, digit_packed, lowered_digit, unpacked_packed}
use Rattle.laws.specs.Graph.{Graph, Sound, Rough, Low, Settled}

-- ---- the function
-- The costs of all nodes are kept as the digits of one number, in base top + 1.
-- An arc that is there: the places of the digits of its ends, and its weight.
pub record Link : Type 0 where
  pub from : ℕ
  pub to : ℕ
  pub weight : ℕ

abbrev pub link_at : ℕ → Graph → ℕ → Link
link_at b g e = record { from = b ^ g.tail e; to = b ^ g.head e; weight = g.weight e }

-- those of arcs 0 to n - 1 that are there
unfoldable pub links : ℕ → Graph → ℕ → List Link
links b g zero = []
links b g (suc n) = let rest = links b g n in pick (ltb 0 (g.weight n)) (link_at b g n ∷ rest) rest

-- the costs after a link: the end that it leads to takes its offer, where that is less
unfoldable pub lowered : ℕ → ℕ → Link → ℕ
lowered b d l =
    let x = digit b d l.from + l.weight in
    let y = digit b d l.to in
    pick (ltb x y) (d - (y - x) * l.to) d

-- the costs after all links, from the first to the last and back to the first
unfoldable pub swept : ℕ → List Link → ℕ → ℕ
swept b [] d = d
swept b (l ∷ ls) d = lowered b (swept b ls (lowered b d l)) l

-- sweeps until one lowers nothing; n bounds their number
unfoldable pub sweeps : ℕ → List Link → ℕ → ℕ → ℕ
sweeps b ls zero d = d
sweeps b ls (suc n) d =
    let f = swept b ls d in
    elim (ltb f d) [ true ↦ sweeps b ls n f | false ↦ d ]

-- the least cost from s to each node, and top where there is no walk
unfoldable pub least_costs : Graph → ℕ → ℕ → List ℕ
least_costs g s top =
    let d = packed (suc top) (outset g s top) in
    unpacked (suc top) g.nodes (sweeps (suc top) (links (suc top) g g.arcs) (suc d) d)

-- ---- the laws
-- none of the first n arcs offers less
abbrev Lows : Graph → List ℕ → ℕ → Type 0
Lows g d n = (e : ℕ) → e < n → Low g d e

one_more : (g : Graph) (d : List ℕ) (n : ℕ) → Lows g d n → Low g d n → Lows g d (suc n)
one_more g d n below now e i = go (ℕ_discrete e n)
  where
    go : Dec (e ≡ n) → Low g d e
    go (yes q) = rw q now
    go (no q) = below e (omega arith)

-- f is d, of which this holds, or its digits make less
abbrev Fallen : ℕ → List ℕ → List ℕ → Type 0 → Type 0
Fallen b d f P = ((f ≡ d) × P) ⊎ (packed b f < packed b d)

fallen_le : (b : ℕ) {d f : List ℕ} {P : Type 0} → Fallen b d f P → packed b f ≤ packed b d
fallen_le b (inl k) = omega (arith, ap (packed b) k.0)
fallen_le b (inr k) = omega arith

-- a link, the links below it, and the link again: d, then a, then c, then f
there_and_back : (b : ℕ) (g : Graph) (n : ℕ) {d a c f : List ℕ} → Fallen b d a (Low g d n) → Fallen b a c (Lows g a n) → Fallen b c f (Low g c n) → Fallen b d f (Lows g d (suc n))
there_and_back b g n (inr p) q r = inr (omega (arith, fallen_le b q, fallen_le b r))
there_and_back b g n (inl p) (inr q) r = inr (omega (arith, ap (packed b) p.0, fallen_le b r))
there_and_back b g n (inl p) (inl q) (inr r) = inr (omega (arith, ap (packed b) p.0, ap (packed b) q.0))
there_and_back b g n {d} (inl p) (inl q) (inl r) = inl (r.0 ∙ q.0 ∙ p.0, one_more g d n (rw p.0 at q.1) p.1)

-- what sweeps make of the digits of d: those of a list that is rough too
record Kept (g : Graph) (s top : ℕ) (d : List ℕ) (P : Type 0) (x : ℕ) : Type 0 where
  now : List ℕ
  is : x ≡ packed (suc top) now
  rough : Rough g s top now
  fallen : Fallen (suc top) d now P

module _ {g : Graph} {s top : ℕ} (sound : Sound g) where
  digits_fit : {d : List ℕ} → Rough g s top d → Below (suc top) d
  digits_fit {d} r i l = omega (arith, r.capped i (omega (arith, r.sized)))

  digits_are : {d : List ℕ} → Rough g s top d → unpacked (suc top) g.nodes (packed (suc top) d) ≡ d
  digits_are {d} r = ap (λ n. unpacked (suc top) n (packed (suc top) d)) (sym r.sized) ∙ unpacked_packed (suc top) d (digits_fit r)

  -- after one link
  lowered_kept : {d : List ℕ} → Rough g s top d → (e : ℕ) → e < g.arcs → 0 < g.weight e → Kept g s top d (Low g d e) (lowered (suc top) (packed (suc top) d) (link_at (suc top) g e))
  unfolding lowered
  lowered_kept {d} r e l p = rw (digit_packed (suc top) d (g.tail e) (digits_fit r) long_t, digit_packed (suc top) d (g.head e) (digits_fit r) long_h) (go (ltb o h) refl)
    where
      o : ℕ
      o = get_or d (g.tail e) 0 + g.weight e

      h : ℕ
      h = get_or d (g.head e) 0

      long_t : g.tail e < length d
      long_t = omega (arith, r.sized, sound.tail_in e l p)

      long_h : g.head e < length d
      long_h = omega (arith, r.sized, sound.head_in e l p)

      go : (t : Bool) → ltb o h ≡ t → Kept g s top d (Low g d e) (pick t (packed (suc top) d - (h - o) * suc top ^ g.head e) (packed (suc top) d))
      go true q =
          let k = lowered_digit (suc top) d (g.head e) o (omega arith) long_h (ltb-true o h q) in
          record { now = set d (g.head e) o; is = k.0; rough = lowered_rough sound r e l p (ltb-true o h q); fallen = inr k.1 }
      go false q = record { now = d; is = refl; rough = r; fallen = inl (refl, λ _. ltb-false o h q) }

  -- after the links of the first n arcs
  swept_kept : (n : ℕ) → n ≤ g.arcs → {d : List ℕ} → Rough g s top d → Kept g s top d (Lows g d n) (swept (suc top) (links (suc top) g n) (packed (suc top) d))
  unfolding swept links
  swept_kept zero l {d} r = record { now = d; is = refl; rough = r; fallen = inl (refl, λ e h. absurd (omega arith)) }
  swept_kept (suc n) l {d} r = go (λ x q. swept_kept n (omega arith) {d = x} q) (ltb 0 (g.weight n)) refl
    where
      b : ℕ
      b = suc top

      go : ((x : List ℕ) → Rough g s top x → Kept g s top x (Lows g x n) (swept b (links b g n) (packed b x)))
          → (t : Bool) → ltb 0 (g.weight n) ≡ t → Kept g s top d (Lows g d (suc n)) (swept b (pick t (link_at b g n ∷ links b g n) (links b g n)) (packed b d))
      go rec true e =
          let there = lowered_kept r n l (ltb-true 0 (g.weight n) e) in
          let below = rec there.now there.rough in
          let back = lowered_kept below.rough n l (ltb-true 0 (g.weight n) e) in
          rw (there.is, below.is) (record { now = back.now; is = back.is; rough = back.rough; fallen = there_and_back b g n there.fallen below.fallen back.fallen })
      go rec false e = let below = rec d r in record { now = below.now; is = below.is; rough = below.rough; fallen = more below.fallen }
        where
          more : {f : List ℕ} → Fallen b d f (Lows g d n) → Fallen b d f (Lows g d (suc n))
          more (inl k) = inl (k.0, one_more g d n k.1 (λ p. absurd (omega (arith, ltb-false 0 (g.weight n) e))))
          more (inr k) = inr k

  -- sweeps end in the certificate, where more are allowed than the number that the digits make
  sweeps_settled : (n : ℕ) {d : List ℕ} → Rough g s top d → packed (suc top) d < n
      → Settled g s top (unpacked (suc top) g.nodes (sweeps (suc top) (links (suc top) g g.arcs) n (packed (suc top) d)))
  unfolding sweeps
  sweeps_settled zero r l = absurd (omega arith)
  sweeps_settled (suc n) {d} r l = go (λ x q k. sweeps_settled n {d = x} q k) (swept_kept g.arcs (omega arith) r) (ltb f (packed b d)) refl
    where
      b : ℕ
      b = suc top

      f : ℕ
      f = swept b (links b g g.arcs) (packed b d)

      go : ((x : List ℕ) → Rough g s top x → packed b x < n → Settled g s top (unpacked b g.nodes (sweeps b (links b g g.arcs) n (packed b x))))
          → Kept g s top d (Lows g d g.arcs) f
          → (t : Bool) → ltb f (packed b d) ≡ t
          → Settled g s top (unpacked b g.nodes (elim (ltb f (packed b d)) [ true ↦ sweeps b (links b g g.arcs) n f | false ↦ packed b d ]))
      go rec k true e = rw (e, k.is) (rec k.now k.rough (omega (arith, k.is, ltb-true f (packed b d) e)))
      go rec k false e = rw (e, digits_are r) (record { rough = r; low = still k.fallen })
        where
          still : Fallen b d k.now (Lows g d g.arcs) → Lows g d g.arcs
          still (inl h) = h.1
          still (inr h) = absurd (omega (arith, k.is, ltb-false f (packed b d) e))

  -- the function's list is certified
  pub least_costs_settled : s < g.nodes → 0 < top → Settled g s top (least_costs g s top)
  unfolding least_costs
  least_costs_settled l t = sweeps_settled (suc (packed (suc top) (outset g s top))) (outset_rough l t) (omega arith)
