-- `moves` gives the fewest moves, and `apart` exactly where no moves lead. The way back is as long.
use Rattle.std.specs.Prelude.{ℕ, ◌+◌, ◌*◌, ◌/◌, ◌%◌, ◌≤◌, ◌<◌, ◌≡◌, refl, Bool, true, false, ◌&&◌, List, ltb, eqb, get_or}
use Rattle.std.proofs.Common.{arith, ◌∙◌, ltb-true, lt-ltb, eqb-true, eq-eqb}
use Rattle.std.proofs.Math.Path.{sym}
use Rattle.laws.specs.Fold.{pick}
use Rattle.laws.specs.Search.{both}
use Rattle.laws.specs.Graph.{Sound, Walk, Least, Settled, BothWays, none_less, settled_least, reached, least_back}
use Rattle.laws.specs.LeastCosts.{least_costs_settled}
use Rattle.model.specs.declared.Side.{Side}
use Rattle.model.specs.Cells.{side_number, side_at, opposite, beside}
use Rattle.model.specs.Sides.{side_number_lem, side_low}
use Rattle.model.specs.CellSides.{beside_back}
use Rattle.model.specs.Costs.{open_at}
use Rattle.model.specs.Sectors.{sector_of, place_of, costs_of}
use Rattle.model.specs.Moves.{move, move_graph, apart, moves, moves_to, joined}

-- ---- the graph of moves
-- what a move says
pub record Moves (costs : List ℕ) (i j : ℕ) : Type 0 where
  pub inside : j < 100
  pub leaves : open_at costs i ≡ true
  pub enters : open_at costs j ≡ true

pub move_is : (costs : List ℕ) (i j : ℕ) → 0 < move costs i j → Moves costs i j
unfolding move
move_is costs i j p = go (ltb j 100 && (open_at costs i && open_at costs j)) refl p
  where
    go : (t : Bool) → ltb j 100 && (open_at costs i && open_at costs j) ≡ t → 0 < pick t 1 0 → Moves costs i j
    go true e q =
        let a = both (ltb j 100) (open_at costs i && open_at costs j) e in
        let b = both (open_at costs i) (open_at costs j) a.1 in
        record { inside = ltb-true j 100 a.0; leaves = b.0; enters = b.1 }
    go false e q = absurd (omega arith)

pub move_one : (costs : List ℕ) (i j : ℕ) → Moves costs i j → move costs i j ≡ 1
unfolding move
move_one costs i j m = rw (lt-ltb j 100 m.inside, m.leaves, m.enters)

move_low : (costs : List ℕ) (i j : ℕ) → move costs i j ≤ 1
unfolding move
move_low costs i j = go (ltb j 100 && (open_at costs i && open_at costs j))
  where
    go : (t : Bool) → pick t 1 0 ≤ 1
    go true = omega arith
    go false = omega arith

module _ (costs : List ℕ) where
  pub move_sound : Sound (move_graph costs)
  move_sound = record { tail_in = λ e l p. omega arith; head_in = λ e l p. (move_is costs (e / 4) (beside (e / 4) (side_at (e % 4))) p).inside }

  -- each move can be made back
  pub move_back : BothWays (move_graph costs)
  move_back e l p =
      let i : ℕ = e / 4 in
      let side : Side = side_at (e % 4) in
      let j : ℕ = beside i side in
      let m : Moves costs i j = move_is costs i j p in
      let f : ℕ = j * 4 + side_number (opposite side) in
      let low : side_number (opposite side) < 4 = side_low (opposite side) in
      let tail : f / 4 ≡ j = omega (arith, low) in
      let over : f % 4 ≡ side_number (opposite side) = omega (arith, low) in
      let head : beside (f / 4) (side_at (f % 4)) ≡ i = rw (tail, over, side_number_lem (opposite side)) (beside_back i side (omega arith) m.inside) in
      let back : Moves costs j i = record { inside = omega arith; leaves = m.enters; enters = m.leaves } in
      let weight : move costs (f / 4) (beside (f / 4) (side_at (f % 4))) ≡ move costs i j = rw (head, tail) (move_one costs j i back ∙ sym (move_one costs i j m)) in
      (f, omega (arith, low, m.inside), tail, head, weight)

  module _ (i : ℕ) (inside : i < 100) where
    pub moves_settled : Settled (move_graph costs) i apart (moves costs i)
    unfolding moves
    moves_settled = least_costs_settled move_sound inside (omega arith)

    -- THE FEWEST: an entry below `apart` is the least over all walks from cell i
    pub moves_fewest : (j : ℕ) → j < 100 → get_or (moves costs i) j 0 < apart → Least (move_graph costs) i j (get_or (moves costs i) j 0)
    moves_fewest j l b = settled_least moves_settled j l b

    -- NONE: where moves lead from i to j the entry is below `apart`, and no more than their count
    pub moves_any : {j n : ℕ} → Walk (move_graph costs) i j n → (get_or (moves costs i) j 0 < apart) × (get_or (moves costs i) j 0 ≤ n)
    moves_any w = (reached {most = 1} moves_settled move_sound (λ e l. move_low costs (e / 4) (beside (e / 4) (side_at (e % 4)))) (omega arith) w, none_less moves_settled w)

  -- the way back is as long
  moves_back : (i j : ℕ) → i < 100 → j < 100 → get_or (moves costs i) j 0 < apart → get_or (moves costs j) i 0 ≡ get_or (moves costs i) j 0
  moves_back i j l k b =
      let there = least_back move_back (moves_fewest i l j k b) in
      let any = moves_any j k there.attained in
      let back = least_back move_back (moves_fewest j k i l any.0) in
      omega (arith, any.1, (moves_any i l back.attained).1)

-- ---- joined
pub record Joined (costs : List ℕ) (x y : ℕ) : Type 0 where
  pub sector : sector_of x ≡ sector_of y
  pub near : moves_to costs x y < apart

pub joined_is : (costs : List ℕ) (x y : ℕ) → joined costs x y ≡ true → Joined costs x y
unfolding joined
joined_is costs x y e = let a = both (eqb (sector_of x) (sector_of y)) (ltb (moves_to costs x y) apart) e in
    record { sector = eqb-true (sector_of x) (sector_of y) a.0; near = ltb-true (moves_to costs x y) apart a.1 }

pub is_joined : (costs : List ℕ) (x y : ℕ) → Joined costs x y → joined costs x y ≡ true
unfolding joined
is_joined costs x y j = rw (eq-eqb (sector_of x) (sector_of y) j.sector, lt-ltb (moves_to costs x y) apart j.near)

module _ (costs : List ℕ) where
  pub joined_back : (x y : ℕ) → joined costs x y ≡ true → (joined costs y x ≡ true) × (moves_to costs y x ≡ moves_to costs x y)
  unfolding moves_to
  joined_back x y e =
      let j = joined_is costs x y e in
      let same : moves_to costs y x ≡ moves_to costs x y = rw (← j.sector) (moves_back (costs_of costs (sector_of x)) (place_of x) (place_of y) (omega arith) (omega arith) j.near) in
      (is_joined costs y x (record { sector = sym j.sector; near = omega (arith, same, j.near) }), same)
