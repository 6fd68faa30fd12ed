-- Moves inside a sector of the floor are the walks of the sector's own graph, so that `joined` and `moves_to` are least over all moves inside a sector.
use Rattle.std.specs.Prelude.{ℕ, suc, ◌+◌, ◌*◌, ◌/◌, ◌%◌, ◌≤◌, ◌<◌, ◌≡◌, refl, true, not, List, eqb, drop}
use native.Mathlib.Omega.{arith}
use Rattle.std.proofs.Common.{sym, ap, subst, subst₂, ◌∙◌, get_or-take, get_or-drop}
use Rattle.laws.specs.Region.{region}
use Rattle.laws.specs.Graph.{Walk, stay, along, walk_join}
use Rattle.laws.specs.Floor.{Inside, here, move, inside_join}
use Rattle.laws.specs.Detour.{LeastOf}
use Rattle.model.specs.declared.Measures.{Measures}
use Rattle.model.specs.declared.Side.{Side}
use Rattle.model.specs.Cells.{side_number, side_at, beside}
use Rattle.model.specs.Costs.{open_at}
use Rattle.model.specs.Sectors.{floor_number, sector_of, place_of, costs_of}
use Rattle.model.specs.Moves.{move_graph, moves_to, joined}
use Rattle.model.specs.Sides.{side_number_lem, side_low}
use Rattle.model.specs.CellSides.{beside_over, over_beside}
use Rattle.model.specs.SectorSides.{sector_cell}
use Rattle.model.specs.MovesFewest.{Moves, move_is, move_one, moves_fewest, moves_any, joined_is, is_joined}
use Rattle.model.specs.Account.{ShareSide}
use Rattle.audit.specs.Borders.{over_share, share_over, over_inside}
use Rattle.audit.specs.Crossings.{floor_of}

-- ---- a sector's costs
pub open_in : (costs : List ℕ) (s i : ℕ) → i < 100 → open_at (costs_of costs s) i ≡ open_at costs (floor_number s i)
unfolding open_at region
open_in costs s i l = ap (λ (c : ℕ). not (eqb c 255)) (get_or-take 100 (drop (s * 100) costs) i 255 l ∙ get_or-drop (s * 100) costs i 255)

-- ---- side neighbours share a side, and cells of a sector that share a side are side neighbours
share_beside : (m : Measures) (s i : ℕ) (k : Side) → i < 100 → beside i k < 100 → ShareSide m (floor_number s i) (floor_number s (beside i k))
share_beside m s i k l h = over_share m k (floor_number s i) (floor_number s (beside i k)) ((over_inside m s k i (beside i k) l h).0 (beside_over i k l h))

beside_share : (m : Measures) (s i j : ℕ) → i < 100 → j < 100 → ShareSide m (floor_number s i) (floor_number s j) → (k : Side) × (beside i k ≡ j)
beside_share m s i j l h p =
    let t = share_over m (floor_number s i) (floor_number s j) p in
    (t.0, over_beside i j t.0 l h ((over_inside m s t.0 i j l h).1 t.1))

-- ---- walks of a sector's graph, and moves inside the sector
module _ (m : Measures) (costs : List ℕ) where
  arc_step : (s e : ℕ) → e < 400 → 0 < (move_graph (costs_of costs s)).weight e → (floor_of m costs).Step (floor_number s (e / 4)) (floor_number s (beside (e / 4) (side_at (e % 4))))
  arc_step s e l p =
      let i : ℕ = e / 4 in
      let k : Side = side_at (e % 4) in
      let low : i < 100 = omega arith in
      let a = move_is (costs_of costs s) i (beside i k) p in
      record {
        leaves = rw (open_in costs s i low) at a.leaves;
        enters = rw (open_in costs s (beside i k) a.inside) at a.enters;
        side = share_beside m s i k low a.inside;
        kind = sector_cell s i low ∙ sym (sector_cell s (beside i k) a.inside);
      }

  walk_moves : (s : ℕ) {i j n : ℕ} → Walk (move_graph (costs_of costs s)) i j n → Inside (floor_of m costs) (floor_number s i) (floor_number s j) n
  walk_moves s stay = here
  walk_moves s (along {v} {b} {c} e l p k w q) =
      let one : (move_graph (costs_of costs s)).weight e ≡ 1 =
      move_one (costs_of costs s) (e / 4) (beside (e / 4) (side_at (e % 4))) (move_is (costs_of costs s) (e / 4) (beside (e / 4) (side_at (e % 4))) p) in
      let z : c ≡ b + suc 0 = omega arith in
      rw (z, ← k) (inside_join (walk_moves s w) (move (arc_step s e l p) here))

  -- one step is one arc
  one_arc : (s i j : ℕ) (k : Side) → i < 100 → beside i k ≡ j → Moves (costs_of costs s) i j → Walk (move_graph (costs_of costs s)) i j 1
  one_arc s i j k l b a =
      let e : ℕ = 4 * i + side_number k in
      let t : (4 * i + side_number k) / 4 ≡ i = omega (arith, side_low k) in
      let r : (4 * i + side_number k) % 4 ≡ side_number k = omega (arith, side_low k) in
      let z : side_at ((4 * i + side_number k) % 4) ≡ k = rw r (side_number_lem k) in
      let head : beside ((4 * i + side_number k) / 4) (side_at ((4 * i + side_number k) % 4)) ≡ j = rw (t, z) b in
      let one : (move_graph (costs_of costs s)).weight e ≡ 1 = rw (head, t) (move_one (costs_of costs s) i j a) in
      let from : Walk (move_graph (costs_of costs s)) i ((4 * i + side_number k) / 4) 0 = rw t stay in
      let sum : 1 ≡ 0 + (move_graph (costs_of costs s)).weight e = omega arith in
      along e (omega (arith, side_low k)) (omega arith) head from sum

  step_arc : (x y : ℕ) → (floor_of m costs).Step x y → Walk (move_graph (costs_of costs (sector_of x))) (place_of x) (place_of y) 1
  step_arc x y w =
      let px : x ≡ floor_number (sector_of x) (place_of x) = omega arith in
      let py : y ≡ floor_number (sector_of x) (place_of y) = omega (arith, w.kind) in
      let k = beside_share m (sector_of x) (place_of x) (place_of y) (omega arith) (omega arith) (subst₂ (ShareSide m) px py w.side) in
      one_arc (sector_of x) (place_of x) (place_of y) k.0 (omega arith) k.1
      (record {
        inside = omega arith;
        leaves = open_in costs (sector_of x) (place_of x) (omega arith) ∙ subst (λ (z : ℕ). open_at costs z ≡ true) px w.leaves;
        enters = open_in costs (sector_of x) (place_of y) (omega arith) ∙ subst (λ (z : ℕ). open_at costs z ≡ true) py w.enters;
      })

  moves_walk : {x y n : ℕ} → Inside (floor_of m costs) x y n → (sector_of x ≡ sector_of y) × Walk (move_graph (costs_of costs (sector_of x))) (place_of x) (place_of y) n
  moves_walk here = (refl, stay)
  moves_walk (move {x} {y} {z} {n} w a) =
      let t = moves_walk a in
      let rest : Walk (move_graph (costs_of costs (sector_of x))) (place_of y) (place_of z) n = rw w.kind t.1 in
      let sum : suc n ≡ 1 + n = omega arith in
      (w.kind ∙ t.0, rw sum (walk_join (step_arc x y w) rest))

  -- moves inside a sector: x and y are joined, by no more
  pub inside_joined : {x y n : ℕ} → Inside (floor_of m costs) x y n → (joined costs x y ≡ true) × (moves_to costs x y ≤ n)
  unfolding moves_to
  inside_joined {x} {y} {n} a =
      let t = moves_walk a in
      let b = moves_any (costs_of costs (sector_of x)) (place_of x) (omega arith) t.1 in
      (is_joined costs x y (record { sector = t.0; near = b.0 }), b.1)

  pub joined_inside : (x y : ℕ) → joined costs x y ≡ true → Inside (floor_of m costs) x y (moves_to costs x y)
  unfolding moves_to
  joined_inside x y e =
      let j = joined_is costs x y e in
      let w = walk_moves (sector_of x) (moves_fewest (costs_of costs (sector_of x)) (place_of x) (omega arith) (place_of y) (omega arith) j.near).attained in
      let px : floor_number (sector_of x) (place_of x) ≡ x = omega arith in
      let py : floor_number (sector_of x) (place_of y) ≡ y = omega (arith, j.sector) in
      rw (px, py) at w

  -- THE FEWEST MOVES: `joined` and `moves_to` are the least over all moves inside a sector
  pub fewest : LeastOf (floor_of m costs).Open (Inside (floor_of m costs)) (joined costs) (moves_to costs)
  fewest = record { attained = joined_inside; found = λ x y n o a. (inside_joined a).0; lowest = λ x y n o a. (inside_joined a).1 }
