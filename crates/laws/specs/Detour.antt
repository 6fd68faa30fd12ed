-- Paths through portals against walks over a floor: a route exists exactly when a walk does, it is a walk, and it is longer than any walk by at most 2 * D for each move over a border.
-- Portals are numbers with a crossing cell and edges.
use Rattle.std.specs.Prelude.{ℕ, suc, ◌+◌, ◌*◌, ◌≤◌, ◌<◌, ◌≡◌, refl, ◌⊎◌, ◌≢◌, ◌↔◌, Bool, true, List, [], ◌∷◌, length}
use Rattle.std.proofs.Common.{zero-add, add_assoc, arith, ◌∙◌, inl, inr}
use Rattle.std.proofs.Math.Decide.{ℕ_discrete}
use Rattle.std.proofs.Math.Option.{none, some}
use Rattle.laws.specs.Floor.{Floor, BorderMove, Walk, stand, step, cross, SomeWalk, Inside, move, inside_join, inside_walk, walk_inside, inside_alone, walk_starts}
use Rattle.laws.specs.Members.{In}
use Rattle.laws.specs.Winner.{winner, winner_in, winner_least, winner_some}

-- What the move from x to y over a border has beside it: a portal on the near side and one on the far side that face each other.
-- At most D moves inside the sector lead from x to the near one's crossing cell, and at most D from the far one's to y.
pub record Gate (f : Floor) (D : ℕ) (Portal : ℕ → Type 0) (mid : ℕ → ℕ) (Faces : ℕ → ℕ → Type 0) (x y : ℕ) : Type 0 where
  pub near : ℕ
  pub far : ℕ
  pub near_is : Portal near
  pub far_is : Portal far
  pub over : Faces near far
  pub to : ℕ
  pub from : ℕ
  pub to_low : to ≤ D
  pub from_low : from ≤ D
  pub to_is : Inside f x (mid near) to
  pub from_is : Inside f (mid far) y from

-- The portal graph of a floor. Edge p q w: an edge of weight w leads from p to q.
--   mid_open   a portal's crossing cell is open
--   edge-is    an edge is w moves inside a sector between the two crossing cells, or (w = 1) one move over a border between them
--   edge-made  two portals whose crossing cells n moves inside a sector join have an edge that weighs no more
--   gate       every move over a border has a facing pair of portals beside it, with an edge of weight 1 between them
pub record Portals (f : Floor) (D : ℕ) : Type 1 where
  pub Portal : ℕ → Type 0
  pub mid : ℕ → ℕ
  pub Edge : ℕ → ℕ → ℕ → Type 0
  pub mid_open : (p : ℕ) → Portal p → f.Open (mid p)
  pub edge_is : (p q w : ℕ) → Edge p q w → Inside f (mid p) (mid q) w ⊎ ((w ≡ 1) × f.Cross (mid p) (mid q))
  pub edge_made : (p q n : ℕ) → Portal p → Portal q → p ≢ q → Inside f (mid p) (mid q) n → (w : ℕ) × (w ≤ n) × Edge p q w
  pub gate : (x y : ℕ) → f.Cross x y → Gate f D Portal mid (λ p q. Edge p q 1) x y

-- A path from p to q in the portal graph, and what it costs.
pub data Path {f : Floor} {D : ℕ} (g : Portals f D) : ℕ → ℕ → ℕ → Type 0 where
  at : {p : ℕ} → Path g p p 0
  along : {p q r w c : ℕ} → g.Edge p q w → Path g q r c → Path g p r (w + c)

-- ---- a path is a walk
module _ {f : Floor} {D : ℕ} (g : Portals f D) where
  path_walk : {p q c y n : ℕ} → Path g p q c → SomeWalk f (g.mid q) y n → SomeWalk f (g.mid p) y (c + n)
  path_walk at w = (w.0, rw zero-add w.1)
  path_walk {y = y} {n = n} (along {p} {q} {r} {w} {c} e a) b = go (g.edge_is p q w e) (path_walk a b)
    where
      go : Inside f (g.mid p) (g.mid q) w ⊎ ((w ≡ 1) × f.Cross (g.mid p) (g.mid q)) → SomeWalk f (g.mid q) y (c + n) → SomeWalk f (g.mid p) y (w + c + n)
      go (inl i) t = (t.0, rw add_assoc (inside_walk i t.1))
      go (inr h) t =
          let same : w + c + n ≡ suc (c + n) = omega (arith, h.0) in
          (record { from = g.mid p; to = g.mid q } ∷ t.0, rw same (cross h.1 t.1))

  -- leg, path and last stretch, end to end
  route_walk : {x p q y l c t : ℕ} → g.Portal q → Inside f x (g.mid p) l → Path g p q c → Inside f (g.mid q) y t → SomeWalk f x y (l + (c + t))
  route_walk {q = q} port leg path tail =
      let rest = path_walk path ([], inside_alone tail (g.mid_open q port)) in
      (rest.0, inside_walk leg rest.1)

-- ---- a walk has a path beside it
-- For a walk of n moves, k of them over a border, of which the first comes after `before` moves: a start portal, an end portal and a path.
record Beside {f : Floor} {D : ℕ} (g : Portals f D) (x y n k : ℕ) : Type 0 where
  pub first : ℕ
  last : ℕ
  first_is : g.Portal first
  last_is : g.Portal last
  before : ℕ
  pub leg : ℕ
  pub cost : ℕ
  tail : ℕ
  pub leg_is : Inside f x (g.mid first) leg
  path : Path g first last cost
  tail_is : Inside f (g.mid last) y tail
  leg_low : leg ≤ before + D
  run_low : cost + tail + D + before ≤ n + 2 * D * k

module _ {f : Floor} {D : ℕ} (g : Portals f D) where
  -- the first move is inside the sector
  beside_step : {x y z n k : ℕ} → f.Step x y → Beside g y z n k → Beside g x z (suc n) k
  beside_step s b = record {
    first = b.first;
    last = b.last;
    first_is = b.first_is;
    last_is = b.last_is;
    before = suc b.before;
    leg = suc b.leg;
    cost = b.cost;
    tail = b.tail;
    leg_is = move s b.leg_is;
    path = b.path;
    tail_is = b.tail_is;
    leg_low = omega (arith, b.leg_low);
    run_low = omega (arith, b.run_low);
  }

  -- the first move is the only one over a border
  beside_last : {x y z n : ℕ} → f.Cross x y → Inside f y z n → Beside g x z (suc n) 1
  beside_last {x} {y} {z} {n} c i =
      let w = g.gate x y c in
      record {
        first = w.near;
        last = w.far;
        first_is = w.near_is;
        last_is = w.far_is;
        before = 0;
        leg = w.to;
        cost = 1 + 0;
        tail = w.from + n;
        leg_is = w.to_is;
        path = along w.over at;
        tail_is = inside_join w.from_is i;
        leg_low = omega (arith, w.to_low);
        run_low = omega (arith, w.from_low);
      }

  -- where moves inside a sector join p to the first portal of a path, a path begins at p: an edge leads to that portal, or p is it
  path_from : {p q r n c : ℕ} → g.Portal p → g.Portal q → Inside f (g.mid p) (g.mid q) n → Path g q r c → (d : ℕ) × (d ≤ n + c) × Path g p r d
  path_from {p} {q} {r} {n} {c} a b i path = go (ℕ_discrete p q)
    where
      go : Dec (p ≡ q) → (d : ℕ) × (d ≤ n + c) × Path g p r d
      go (yes e) = (c, omega arith, rw e path)
      go (no e) = let j = g.edge_made p q n a b e i in (j.0 + c, omega (arith, j.1), along j.2 path)

  -- the first move is over a border, and there are more: a path leads on from the far portal of this one
  beside_cross : {x y z n k : ℕ} → f.Cross x y → Beside g y z n k → Beside g x z (suc n) (suc k)
  beside_cross {x} {y} c b =
      let w = g.gate x y c in
      let j = path_from w.far_is b.first_is (inside_join w.from_is b.leg_is) b.path in
      record {
        first = w.near;
        last = b.last;
        first_is = w.near_is;
        last_is = b.last_is;
        before = 0;
        leg = w.to;
        cost = 1 + j.0;
        tail = b.tail;
        leg_is = w.to_is;
        path = along w.over j.2;
        tail_is = b.tail_is;
        leg_low = omega (arith, w.to_low);
        run_low = omega (arith, b.run_low, b.leg_low, w.from_low, j.1);
      }

  walk_beside : {x y n : ℕ} {over : List BorderMove} → Walk f x y n over → 0 < length over → Beside g x y n (length over)
  walk_beside (stand o) h = absurd (omega arith)
  walk_beside (step s w) h = beside_step s (walk_beside w h)
  walk_beside (cross {x} {y} {z} {n} {over} c w) h = go (ℕ_discrete (length over) 0) (λ l. walk_beside w l)
    where
      go : Dec (length over ≡ 0) → (0 < length over → Beside g y z n (length over)) → Beside g x z (suc n) (suc (length over))
      go (yes e) more = rw e (beside_last c (walk_inside w e))
      go (no e) more = beside_cross c (more (omega arith))

-- where no moves inside a sector join x and y, every walk leaves it
walk_leaves : {f : Floor} {x y n : ℕ} {over : List BorderMove} → ((m : ℕ) → ¬ Inside f x y m) → Walk f x y n over → 0 < length over
walk_leaves {n = n} {over} apart w = go (ℕ_discrete (length over) 0)
  where
    go : Dec (length over ≡ 0) → 0 < length over
    go (yes e) = absurd (apart n (walk_inside w e))
    go (no e) = omega arith

-- ---- the pair that is chosen
-- `least x y` is the least n with R x y n, and `some x y` says whether there is one, for each x of From
pub record LeastOf (From : ℕ → Type 0) (R : ℕ → ℕ → ℕ → Type 0) (some : ℕ → ℕ → Bool) (least : ℕ → ℕ → ℕ) : Type 0 where
  pub attained : (x y : ℕ) → some x y ≡ true → R x y (least x y)
  pub found : (x y n : ℕ) → From x → R x y n → some x y ≡ true
  pub lowest : (x y n : ℕ) → From x → R x y n → least x y ≤ n

-- The numbers that a route is chosen by: the fewest moves inside a sector, and the least cost of a path.
pub record Lengths {f : Floor} {D : ℕ} (g : Portals f D) : Type 0 where
  pub joined : ℕ → ℕ → Bool
  pub moves : ℕ → ℕ → ℕ
  pub linked : ℕ → ℕ → Bool
  pub cost : ℕ → ℕ → ℕ
  pub moves_least : LeastOf f.Open (Inside f) joined moves
  pub cost_least : LeastOf g.Portal (Path g) linked cost

-- p is a portal joined to x, e is a portal joined to y, and a path leads from p to e
pub record Pair {f : Floor} {D : ℕ} (g : Portals f D) (c : Lengths g) (x y p e : ℕ) : Type 0 where
  pub start_is : g.Portal p
  pub end_is : g.Portal e
  pub start_joined : c.joined x (g.mid p) ≡ true
  pub end_joined : c.joined (g.mid e) y ≡ true
  pub pair_linked : c.linked p e ≡ true

-- Leg is the moves to the start portal's crossing cell, run the rest.
abbrev pub leg_of : {f : Floor} {D : ℕ} (g : Portals f D) → Lengths g → ℕ → ℕ → ℕ
leg_of g c x p = c.moves x (g.mid p)

abbrev pub run_by : {f : Floor} {D : ℕ} (g : Portals f D) → Lengths g → ℕ → ℕ → ℕ → ℕ
run_by g c y p e = c.cost p e + c.moves (g.mid e) y

-- An answer, of which `Given leg run` says that it is a route with this leg and run, is by choice of a pair: a route is given where there is a pair, and it is a pair with the least run.
pub record Chosen {f : Floor} {D : ℕ} (g : Portals f D) (c : Lengths g) (x y : ℕ) (Given : ℕ → ℕ → Type 0) : Type 0 where
  pub some : (p e : ℕ) → Pair g c x y p e → (leg : ℕ) × (run : ℕ) × Given leg run
  pub is : (leg run : ℕ) → Given leg run
      → (p : ℕ) × (e : ℕ) × Pair g c x y p e × (leg ≡ leg_of g c x p) × (run ≡ run_by g c y p e) × ((q d : ℕ) → Pair g c x y q d → run ≤ run_by g c y q d)

-- What is promised of it.
pub record Promise (f : Floor) (D x y : ℕ) (Given : ℕ → ℕ → Type 0) : Type 0 where
  pub exactly_when : ((leg : ℕ) × (run : ℕ) × Given leg run) ↔ ((n : ℕ) × SomeWalk f x y n)
  pub is_a_walk : (leg run : ℕ) → Given leg run → SomeWalk f x y (leg + run)
  pub at_most : (leg run : ℕ) → Given leg run → (n : ℕ) (over : List BorderMove) → Walk f x y n over → run + D ≤ n + 2 * D * length over

module _ {f : Floor} {D : ℕ} (g : Portals f D) (c : Lengths g) where
  -- a pair is a walk
  pair_walk : {x y p e : ℕ} → Pair g c x y p e → SomeWalk f x y (leg_of g c x p + run_by g c y p e)
  pair_walk {x} {y} {p} {e} w =
      route_walk g w.end_is (c.moves_least.attained x (g.mid p) w.start_joined) (c.cost_least.attained p e w.pair_linked) (c.moves_least.attained (g.mid e) y w.end_joined)

  -- a walk that leaves the sector has a pair beside it, of low run, and of low leg and run together
  walk_pair : {x y n : ℕ} {over : List BorderMove} → Walk f x y n over → 0 < length over
      → (p : ℕ) × (e : ℕ) × Pair g c x y p e × (run_by g c y p e + D ≤ n + 2 * D * length over) × (leg_of g c x p + run_by g c y p e ≤ n + 2 * D * length over)
  walk_pair {x} {y} w h =
      let b = walk_beside g w h in
      let p : ℕ = b.first in
      let e : ℕ = b.last in
      let o : f.Open x = walk_starts w in
      let m : f.Open (g.mid e) = g.mid_open e b.last_is in
      let leg : c.moves x (g.mid p) ≤ b.leg = c.moves_least.lowest x (g.mid p) b.leg o b.leg_is in
      let tail : c.moves (g.mid e) y ≤ b.tail = c.moves_least.lowest (g.mid e) y b.tail m b.tail_is in
      let path : c.cost p e ≤ b.cost = c.cost_least.lowest p e b.cost b.first_is b.path in
      let pair : Pair g c x y p e = record {
        start_is = b.first_is;
        end_is = b.last_is;
        start_joined = c.moves_least.found x (g.mid p) b.leg o b.leg_is;
        end_joined = c.moves_least.found (g.mid e) y b.tail m b.tail_is;
        pair_linked = c.cost_least.found p e b.cost b.first_is b.path;
      } in
      (p, e, pair, omega (arith, b.run_low), omega (arith, b.run_low, b.leg_low))

  -- THE THEOREM: the choice keeps the promise
  pub promise : {x y : ℕ} {Given : ℕ → ℕ → Type 0} → ((m : ℕ) → ¬ Inside f x y m) → Chosen g c x y Given → Promise f D x y Given
  promise {x} {y} {Given} apart ch = record {
    exactly_when = (λ a. (a.0 + a.1, walks a.0 a.1 a.2), λ w. let p = walk_pair w.1.1 (walk_leaves apart w.1.1) in ch.some p.0 p.1 p.2);
    is_a_walk = walks;
    at_most = λ leg run a n over w. let p = walk_pair w (walk_leaves apart w) in omega (arith, p.3, (ch.is leg run a).5 p.0 p.1 p.2);
  }
    where
      walks : (leg run : ℕ) → Given leg run → SomeWalk f x y (leg + run)
      walks leg run a =
          let h = ch.is leg run a in
          let w = pair_walk h.2 in
          let same : leg_of g c x h.0 + run_by g c y h.0 h.1 ≡ leg + run = omega (arith, h.3, h.4) in
          (w.0, rw same at w.1)

-- The winner by run, of a list of candidates, each with a leg and a run.
pub record Winning {A : Type 0} (leg run : A → ℕ) (cs : List A) (l r : ℕ) : Type 0 where
  pub one : A
  pub wins : winner run none cs ≡ some one
  pub leg_is : l ≡ leg one
  pub run_is : r ≡ run one

-- Where the candidates are pairs with their leg and run, and each pair has one whose run is no larger, the winner is a choice.
pub chosen : {f : Floor} {D : ℕ} (g : Portals f D) (c : Lengths g) (x y : ℕ) {A : Type 0} (start end leg run : A → ℕ) (cs : List A)
    → ((a : A) → In a cs → Pair g c x y (start a) (end a) × (leg a ≡ leg_of g c x (start a)) × (run a ≡ run_by g c y (start a) (end a)))
    → ((p e : ℕ) → Pair g c x y p e → (a : A) × In a cs × (run a ≤ run_by g c y p e))
    → Chosen g c x y (Winning leg run cs)
chosen g c x y start end leg run cs are has = record {
  some = λ p e w. let z = winner_some run (has p e w).1 in (leg z.0, run z.0, record { one = z.0; wins = z.1; leg_is = refl; run_is = refl });
  is = λ l r w.
      let h = are w.one (winner_in run w.wins) in
      (start w.one, end w.one, h.0, w.leg_is ∙ h.1, w.run_is ∙ h.2, λ q d v. let a = has q d v in omega (arith, winner_least run w.wins a.1, a.2, w.run_is));
}
