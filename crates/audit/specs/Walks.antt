-- 01's walk, a list of cells, is a walk of `laws` over the account's floor, with the same moves over a border.
use Prim.Native.Nat.{ℕ, suc, ◌<◌}
use Rattle.std.proofs.Math.Decide.{ℕ_discrete}
use Rattle.std.proofs.Common.{arith, eq-eqb, ne_eqb}
use Rattle.std.specs.Prelude.{◌≡◌, refl, ◌↔◌, true, eqb, length}
use Rattle.std.proofs.Math.Path.{ap}
use mathlib.Core.List.Memᴰ
use mathlib.Core.List.{List, [], ◌∷◌}
use Rattle.laws.specs.Fold.{pick}
use Rattle.laws.specs.Members.{In}
use Rattle.laws.specs.Floor.{Floor, BorderMove, stand, step, cross, walk_starts}
use Rattle.laws.specs.Floor as floor
use Rattle.model.specs.Costs.{open_at}
use Rattle.model.specs.Sectors.{cells, sector_of}
use Rattle.model.specs.Account.{Account, account_costs, Along, border_moves, WalkBy}
use Rattle.audit.specs.Crossings.{floor_by, open_on}

module _ (Allowed : BorderMove → Type 0) (a : Account) (sized : length (account_costs a) ≡ cells a.measures) where
  abbrev ground : Floor
  ground = floor_by Allowed a.measures (account_costs a)

  on_floor_lem : (x : ℕ) → open_at (account_costs a) x ≡ true → x < cells a.measures
  on_floor_lem x o = omega (arith, open_on (account_costs a) x o, sized)

  -- one more move over a border
  also : {b c : BorderMove} {over : List BorderMove} → Allowed c → ((d : BorderMove) → In d over → Allowed d) → In b (c ∷ over) → Allowed b
  also {b} {c} ok others (Memᴰ.head e) = rw e ok
  also {b} {c} ok others (Memᴰ.tail i) = others b i

  listed : {x y n : ℕ} {over : List BorderMove} → floor.Walk ground x y n over → WalkBy Allowed a x y n over
  unfolding border_moves
  listed (stand {x} o) = record { next = []; goes = (on_floor_lem x o, o, refl); moves = refl; crossed = refl; allowed = λ b i. absurd (Memᴰ.not-nil i) }
  listed (step {x} {y} m w) =
      let c = listed w in
      record {
        next = y ∷ c.next;
        goes = (on_floor_lem x m.leaves, m.leaves, m.side, c.goes);
        moves = ap suc c.moves;
        crossed = rw (eq-eqb (sector_of x) (sector_of y) m.kind) c.crossed;
        allowed = c.allowed;
      }
  listed (cross {x} {y} m w) =
      let c = listed w in
      record {
        next = y ∷ c.next;
        goes = (on_floor_lem x m.leaves, m.leaves, m.side, c.goes);
        moves = ap suc c.moves;
        crossed = rw (ne_eqb (sector_of x) (sector_of y) m.kind.0, c.crossed);
        allowed = λ b i. also m.kind.1 c.allowed i;
      }

  walked : (l : List ℕ) (x y : ℕ) → Along a.measures (account_costs a) x l y → ((b : BorderMove) → In b (border_moves x l) → Allowed b)
      → floor.Walk ground x y (length l) (border_moves x l)
  unfolding border_moves
  walked [] x y g ok = rw (← g.2) (stand g.1)
  walked (z ∷ l) x y g ok = go (ℕ_discrete (sector_of x) (sector_of z)) (walked l z y g.3)
    where
      go : Dec (sector_of x ≡ sector_of z) → (((b : BorderMove) → In b (border_moves z l) → Allowed b) → floor.Walk ground z y (length l) (border_moves z l))
          → floor.Walk ground x y (suc (length l)) (pick (eqb (sector_of x) (sector_of z)) (border_moves z l) (record { from = x; to = z } ∷ border_moves z l))
      go (yes e) rest =
          let w = rest (rw (eq-eqb (sector_of x) (sector_of z) e) at ok) in
          rw (eq-eqb (sector_of x) (sector_of z) e) (step (record { leaves = g.1; enters = walk_starts w; side = g.2; kind = e }) w)
      go (no e) rest =
          let each : (b : BorderMove) → In b (record { from = x; to = z } ∷ border_moves z l) → Allowed b = rw (ne_eqb (sector_of x) (sector_of z) e) at ok in
          let w = rest (λ b i. each b (Memᴰ.tail i)) in
          let may : Allowed (record { from = x; to = z }) = each (record { from = x; to = z }) (Memᴰ.head refl) in
          rw (ne_eqb (sector_of x) (sector_of z) e) (cross (record { leaves = g.1; enters = walk_starts w; side = g.2; kind = (e, may) }) w)

  pub walk_is : (x y n : ℕ) (over : List BorderMove) → floor.Walk ground x y n over ↔ WalkBy Allowed a x y n over
  walk_is x y n over = (listed, λ w. rw (w.moves, w.crossed) at (walked w.next x y w.goes (rw w.crossed w.allowed)))
