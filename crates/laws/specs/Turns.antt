-- A search serves the nodes of a queue: what it is given, what a turn leaves, and what is known of the queue. The graph is any graph, of any size.
use Rattle.std.specs.Prelude.{ℕ, ◌+◌, ◌≤◌, ◌<◌, ◌≡◌, refl, ◌⊎◌, ◌≢◌, Bool, true, false, List, ◌++◌, length, get_or, set, replicate}
use Rattle.std.proofs.Math.Decide.{ℕ_discrete}
use Rattle.std.proofs.Common.{arith, sym, ap, ◌∙◌, inl, inr, length-set, get_or-set_same, get_or-set_other, below_more}
use Rattle.std.proofs.lemmas.List.{length-replicate}
use Rattle.laws.specs.Graph.{Graph, Sound, below_or}
use Rattle.laws.specs.Relaxing.{relaxed, outset, relaxed_cases, Relaxed, taken, kept, set_each}
use Rattle.laws.specs.Waiting.{Waiting, Serving, Held, awaited, work, work_arc, waiting_none}
use Rattle.laws.specs.Extending.{Extends, ArcsOf, entry, head_has, turn_arc, turn_ends}

-- a graph whose arcs weigh no more than `most`, a list of costs, and room for those that wait
pub record Searchable (g : Graph) (most costs wait : ℕ) : Type 0 where
  pub numbers : costs ≡ g.nodes
  pub room : g.nodes ≤ wait
  pub sound : Sound g
  pub light : (e : ℕ) → e < g.arcs → g.weight e ≤ most

-- with other lists that are long enough
pub searchable_in : {g : Graph} {most k w i j : ℕ} → Searchable g most k w → i ≡ g.nodes → g.nodes ≤ j → Searchable g most i j
searchable_in s numbers room = record { numbers = numbers; room = room; sound = s.sound; light = s.light }

-- at the outset s waits
pub begins : {g : Graph} {most top k w s : ℕ} {costs : List ℕ} {wait : List Bool} → Searchable g most k w → s < g.nodes → 0 < top
    → costs ≡ set (replicate k top) s 0 → wait ≡ set (replicate w false) s true → Waiting g s top costs wait
unfolding outset
begins {w = w} h l t f k = rw (f, k, h.numbers) (waiting_none h.sound w h.room l t)

-- ---- a turn
-- node u had its turn, if it is one of the n and waits: the work has not risen, and then it has fallen
pub record Turned (n u : ℕ) (d : List ℕ) (p : List Bool) (e : List ℕ) (q : List Bool) : Type 0 where
  pub risen : work e q ≤ work d p
  pub fallen : u < n → get_or p u false ≡ true → work e q < work d p

pub turned_none : {n u : ℕ} {d : List ℕ} {p : List Bool} → (u < n → get_or p u false ≡ true → ⊥) → Turned n u d p d p
turned_none never = record { risen = omega arith; fallen = λ l w. absurd (never l w) }

pub turned_less : {n u : ℕ} {d e : List ℕ} {p q : List Bool} → work e q < work d p → Turned n u d p e q
turned_less l = record { risen = omega arith; fallen = λ _ _. l }

-- u had all its arcs taken, from arc a on, with no more work than before
pub record Served (base : Graph) (u a : ℕ) (d : List ℕ) (p : List Bool) (e : List ℕ) (q : List Bool) : Type 0 where
  pub done : (g : Graph) (o : List ℕ) (r : List Bool) → Extends g base → (s top : ℕ) → Serving g s top (d ++ o) (p ++ r) u a → Waiting g s top (e ++ o) (q ++ r)
  pub light : work e q ≤ work d p

-- arcs that offer nothing are passed over
past : {g : Graph} {s top u m : ℕ} {d : List ℕ} {p : List Bool} → Serving g s top d p u m → (k : ℕ)
    → ((e : ℕ) → e < g.arcs → 0 < g.weight e → g.tail e ≡ u → m ≤ e → e < k → get_or d (g.head e) 0 ≤ get_or d u 0 + g.weight e) → Serving g s top d p u k
past {g} {s} {top} {u} {m} {d} {p} w k low = record { rough = w.rough; long = w.long; held = λ e l q. go e l q (below_or e k) (w.held e l q) }
  where
    go : (e : ℕ) → e < g.arcs → 0 < g.weight e → (e < k) ⊎ (k ≤ e) → Held g d p e ⊎ ((g.tail e ≡ u) × (m ≤ e)) → Held g d p e ⊎ ((g.tail e ≡ u) × (k ≤ e))
    go e l q b (inl h) = inl h
    go e l q (inl b) (inr h) = inl (inr (omega (arith, low e l q h.0 h.1 b, ap (λ (x : ℕ). get_or d x 0) h.0)))
    go e l q (inr b) (inr h) = inr (h.0, b)

-- an arc leaves its tail's own entry, raises none and adds none
still : {g : Graph} → Sound g → (d : List ℕ) (a : ℕ) → length d ≡ g.nodes → a < g.arcs
    → (get_or (relaxed g d a) (g.tail a) 0 ≡ get_or d (g.tail a) 0) × ((v : ℕ) → get_or (relaxed g d a) v 0 ≤ get_or d v 0) × (length (relaxed g d a) ≡ length d)
still {g} sound d a ld l = go (relaxed_cases g d a)
  where
    go : Relaxed g d a (relaxed g d a)
        → (get_or (relaxed g d a) (g.tail a) 0 ≡ get_or d (g.tail a) 0) × ((v : ℕ) → get_or (relaxed g d a) v 0 ≤ get_or d v 0) × (length (relaxed g d a) ≡ length d)
    go (kept low x) = rw x (refl, λ v. omega arith, refl)
    go (taken q o x) =
        let v : ℕ = g.head a in
        let y : ℕ = get_or d (g.tail a) 0 + g.weight a in
        rw x (
          get_or-set_other d v (g.tail a) y 0 (λ z. absurd (omega (arith, ap (λ (k : ℕ). get_or d k 0) z))),
          set_each (λ (k z : ℕ). z ≤ get_or d k 0) d v y (omega (arith, sound.head_in a l q)) (omega arith) (λ k _. omega arith),
          length-set d v y,
        )

-- the turn of a node u of which only arc k may offer something: that arc is all of it
module _ {base : Graph} {most : ℕ} (d : List ℕ) (p : List Bool) {u a b k : ℕ} (given : Searchable base most (length d) (length p))
    (low : u < base.nodes) (arcs : ArcsOf base u a b) (arc : k < base.arcs) (own : base.tail k ≡ u)
    (others : (e : ℕ) → e < base.arcs → 0 < base.weight e → base.tail e ≡ u → e ≢ k → get_or d (base.head e) 0 ≤ get_or d u 0 + base.weight e) where
  -- nor after it was taken
  after : (e : ℕ) → e < base.arcs → 0 < base.weight e → base.tail e ≡ u → e ≢ k → get_or (relaxed base d k) (base.head e) 0 ≤ get_or (relaxed base d k) u 0 + base.weight e
  after e l q t n =
      let h = still given.sound d k given.numbers arc in
      omega (arith, others e l q t n, h.1 (base.head e), h.0, ap (λ (x : ℕ). get_or d x 0) own, ap (λ (x : ℕ). get_or (relaxed base d k) x 0) own)

  -- so it is in a graph with further arcs
  module _ {g : Graph} (ext : Extends g base) (o : List ℕ) (r : List Bool) where
    lifted : (x : List ℕ) → length x ≡ base.nodes → (e : ℕ) → e < g.arcs → 0 < g.weight e → g.tail e ≡ u
        → (e < base.arcs → 0 < base.weight e → base.tail e ≡ u → get_or x (base.head e) 0 ≤ get_or x u 0 + base.weight e)
        → get_or (x ++ o) (g.head e) 0 ≤ get_or (x ++ o) u 0 + g.weight e
    lifted x lx e le q t no_less = go (below_or e base.arcs)
      where
        go : (e < base.arcs) ⊎ (base.arcs ≤ e) → get_or (x ++ o) (g.head e) 0 ≤ get_or (x ++ o) u 0 + g.weight e
        go (inl l) =
            let pos : 0 < base.weight e = omega (arith, ext.weights e l) in
            omega (
              arith,
              no_less l pos (sym (ext.tails e l) ∙ t),
              ext.weights e l,
              head_has ext given.sound o r x p lx given.room e l pos,
              entry ext given.sound o r x p lx given.room e l u low,
            )
        go (inr l) = absurd (omega (arith, ext.others e l le))

    alone : (s top : ℕ) → Serving g s top (d ++ o) (p ++ r) u a → Waiting g s top (relaxed base d k ++ o) (awaited base d p k ++ r)
    alone s top w =
        let first = past w k (λ e l q t _ i. lifted d given.numbers e l q t (λ j q f. others e j q f (λ z. absurd (omega arith)))) in
        let second = turn_arc ext given.sound o r d p given.numbers given.room arc own first in
        let long : length (relaxed base d k) ≡ base.nodes = (still given.sound d k given.numbers arc).2 ∙ given.numbers in
        let last = past second b (λ e l q t i _. lifted (relaxed base d k) long e l q t (λ j r f. after e j r f (λ z. absurd (omega arith)))) in
        turn_ends ext given.sound o r low arcs (relaxed base d k) (awaited base d p k) (omega arith) last

  pub served_alone : Served base u a d p (relaxed base d k) (awaited base d p k)
  served_alone = record { done = λ g o r ext s top w. alone ext o r s top w; light = work_arc given.sound d p k given.numbers given.room arc }

-- ---- the queue
-- it ends at t: if it is empty none of the n nodes waits, and otherwise its first one does
pub record Lined (n : ℕ) (wait : List Bool) (queue : List ℕ) (t : ℕ) : Type 0 where
  pub few : t ≤ n
  pub none : t ≡ 0 → (v : ℕ) → v < n → get_or wait v false ≡ false
  pub low : 0 < t → get_or queue 0 0 < n
  pub waits : 0 < t → get_or wait (get_or queue 0 0) false ≡ true

pub lined_none : (wait : List Bool) (queue : List ℕ) → Lined 0 wait queue 0
lined_none wait queue = record { few = omega arith; none = λ _ v l. absurd (omega arith); low = λ l. absurd (omega arith); waits = λ l. absurd (omega arith) }

module _ {n t : ℕ} {wait : List Bool} {queue : List ℕ} (so_far : Lined n wait queue t) where
  -- node n does not wait
  pub lined_skip : get_or wait n false ≡ false → Lined (n + 1) wait queue t
  lined_skip h =
      record {
        few = omega (arith, so_far.few);
        none = λ e. below_more (λ (v : ℕ). get_or wait v false ≡ false) n (so_far.none e) h;
        low = λ l. omega (arith, so_far.low l);
        waits = so_far.waits;
      }

  -- node n waits
  pub lined_take : get_or wait n false ≡ true → t < length queue → Lined (n + 1) wait (set queue t n) (t + 1)
  lined_take h l = let first = go (ℕ_discrete t 0) in record { few = omega (arith, so_far.few); none = λ e. absurd (omega arith); low = λ _. first.0; waits = λ _. first.1 }
    where
      go : Dec (t ≡ 0) → (get_or (set queue t n) 0 0 < n + 1) × (get_or wait (get_or (set queue t n) 0 0) false ≡ true)
      go (yes e) = rw (e, get_or-set_same queue 0 n 0 (omega arith)) (omega arith, h)
      go (no e) = rw (get_or-set_other queue t 0 n 0 (λ z. e (sym z))) (omega (arith, so_far.low (omega arith)), so_far.waits (omega arith))

-- a queue of one
pub lined_alone : {n e w : ℕ} {wait : List Bool} {queue : List ℕ} (q : List ℕ) → e < n → e < w → 0 < length q → wait ≡ set (replicate w false) e true → queue ≡ set q 0 e → Lined n wait queue 1
lined_alone {n} {e} {w} q l k r f g =
    rw (f, g)
    (record {
      few = omega arith;
      none = λ z. absurd (omega arith);
      low = λ _. rw (get_or-set_same q 0 e 0 r) l;
      waits = λ _. rw (get_or-set_same q 0 e 0 r) (get_or-set_same (replicate w false) e true false (omega (arith, length-replicate w false)));
    })
