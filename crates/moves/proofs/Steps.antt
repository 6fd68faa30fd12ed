-- How the fewest moves from a cell grow from cell to cell: the cell before the last move, the next cell, and that no count lies past one that no cell has.
use Prim.Native.Nat.{ℕ, ◌+◌, ◌*◌, ◌/◌, ◌%◌, ◌≤◌, ◌<◌}
use native.Mathlib.Omega.{arith}
use mathlib.Core.Path.{◌≡◌, refl, sym, ap, ◌∙◌}
use mathlib.Core.Logic.{◌⊎◌, inl, inr}
use mathlib.Core.Bool.{true, false, false≢true}
use mathlib.Core.List.{List}
use lib.ListN.{length, get_or}
use Rattle.laws.specs.Graph.{Walk, stay, along, Settled, none_less, reached, below_or}
use Rattle.laws.specs.LeastCosts.{least_costs, least_costs_settled}
use Rattle.model.specs.declared.Side.{Side}
use Rattle.model.specs.Cells.{side_number, side_at, beside}
use Rattle.model.specs.Costs.{open_at}
use Rattle.model.specs.Moves.{move_graph, moves}
use Rattle.model.specs.Sides.{side_number_lem, side_low}
use Rattle.model.specs.MovesFewest.{Moves, move_is, move_one, move_sound, move_back, moves_settled}

-- the fewest moves to cell i
abbrev pub far : List ℕ → ℕ → ℕ → ℕ
far costs from i = get_or (moves costs from) i 0

-- a cell beside v with at most k moves
pub record Before (costs : List ℕ) (from v k : ℕ) : Type 0 where
  pub side : Side
  pub inside : beside v side < 100
  pub near : far costs from (beside v side) ≤ k

module _ (costs : List ℕ) (from : ℕ) (low : from < 100) where
  settled : Settled (move_graph costs) from 255 (moves costs from)
  settled = moves_settled costs from low

  -- what the arc of a walk says
  arc : (e : ℕ) → 0 < (move_graph costs).weight e → Moves costs ((move_graph costs).tail e) ((move_graph costs).head e)
  arc e p = move_is costs (e / 4) (beside (e / 4) (side_at (e % 4))) p

  arc_one : (e : ℕ) → 0 < (move_graph costs).weight e → (move_graph costs).weight e ≡ 1
  arc_one e p = move_one costs (e / 4) (beside (e / 4) (side_at (e % 4))) (arc e p)

  -- no move leads out of a blocked cell
  blocked_walk : open_at costs from ≡ false → {v c : ℕ} → Walk (move_graph costs) from v c → v ≡ from
  blocked_walk b stay = refl
  blocked_walk b (along e l p h w q) = absurd (false≢true (sym b ∙ ap (open_at costs) (sym (blocked_walk b w)) ∙ (arc e p).leaves))

  -- moves from an open cell lead to open cells
  open_walk : open_at costs from ≡ true → {v c : ℕ} → Walk (move_graph costs) from v c → open_at costs v ≡ true
  open_walk o stay = o
  open_walk o (along e l p h w q) = ap (open_at costs) (sym h) ∙ (arc e p).enters

  none_walk : {v c : ℕ} → Walk (move_graph costs) from v c → c ≡ 0 → v ≡ from
  none_walk stay z = refl
  none_walk (along e l p h w q) z = absurd (omega arith)

  -- the cell before the last move of a walk
  last_walk : {v c : ℕ} → Walk (move_graph costs) from v c → (k : ℕ) → c ≡ k + 1 → Before costs from v k
  last_walk stay k z = absurd (omega arith)
  last_walk {v} (along {b = b} e l p h w q) k z =
      let x = move_back costs e l p in
      let at : beside v (side_at (x.0 % 4)) ≡ e / 4 = ap (λ (u : ℕ). beside u (side_at (x.0 % 4))) (sym h ∙ sym x.2) ∙ x.3 in
      record { side = side_at (x.0 % 4); inside = omega (arith, at, l); near = omega (arith, none_less settled w, arc_one e p, ap (λ (u : ℕ). far costs from u) at) }

  made : (i : ℕ) → i < 100 → far costs from i < 255 → Walk (move_graph costs) from i (far costs from i)
  made i l b = settled.rough.made i l b

  -- ---- the laws
  pub moves_long : length (moves costs from) ≡ 100
  moves_long = settled.rough.sized

  pub far_start : far costs from from ≡ 0
  far_start = settled.rough.start

  pub far_capped : (i : ℕ) → i < 100 → far costs from i ≤ 255
  far_capped i l = settled.rough.capped i l

  pub far_none : (i : ℕ) → i < 100 → far costs from i ≡ 0 → i ≡ from
  far_none i l z = none_walk (made i l (omega arith)) z

  pub far_blocked : open_at costs from ≡ false → (i : ℕ) → i < 100 → far costs from i < 255 → i ≡ from
  far_blocked b i l h = blocked_walk b (made i l h)

  pub far_open : open_at costs from ≡ true → (i : ℕ) → i < 100 → far costs from i < 255 → open_at costs i ≡ true
  far_open o i l h = open_walk o (made i l h)

  pub far_before : (i k : ℕ) → i < 100 → k < 254 → far costs from i ≡ k + 1 → Before costs from i k
  far_before i k l m z = last_walk (made i l (omega arith)) k z

  -- a move can be made back
  back_arc : (e : ℕ) → e < 400 → 0 < (move_graph costs).weight e → far costs from ((move_graph costs).tail e) ≤ far costs from ((move_graph costs).head e) + 1
  back_arc e l p =
      let x = move_back costs e l p in
      omega (arith, settled.low x.0 x.1 (omega (arith, x.4)), x.4, arc_one e p, ap (λ (u : ℕ). far costs from u) x.2, ap (λ (u : ℕ). far costs from u) x.3)

  -- a move between open cells
  pub far_next : (i : ℕ) (side : Side) → i < 100 → beside i side < 100 → open_at costs i ≡ true → open_at costs (beside i side) ≡ true → far costs from i ≤ far costs from (beside i side) + 1
  far_next i side l h o p =
      let e : ℕ = i * 4 + side_number side in
      let tail : e / 4 ≡ i = omega (arith, side_low side) in
      let place : e % 4 ≡ side_number side = omega (arith, side_low side) in
      let head : beside (e / 4) (side_at (e % 4)) ≡ beside i side = rw (tail, place, side_number_lem side) refl in
      let one : (move_graph costs).weight e ≡ 1 = rw (head, tail) (move_one costs i (beside i side) (record { inside = h; leaves = o; enters = p })) in
      rw (head, tail) at (back_arc e (omega (arith, side_low side)) (omega (arith, one)))

  -- no count above k + 1 where none is k + 1
  still_walk : (k : ℕ) → ((i : ℕ) → i < 100 → far costs from i ≡ k + 1 → ⊥) → {v c : ℕ} → Walk (move_graph costs) from v c → c ≡ far costs from v → far costs from v ≤ k
  still_walk k none stay z = omega (arith, far_start)
  still_walk k none (along {v} {b} e l p h w q) z =
      let there : far costs from ((move_graph costs).head e) ≡ far costs from v = ap (λ (u : ℕ). far costs from u) h in
      let same : b ≡ far costs from (e / 4) = omega (arith, none_less settled w, settled.low e l p, there) in
      let in-v : v < 100 = omega (arith, (arc e p).inside, h) in
      let not_next : far costs from v ≡ k + 1 → ⊥ = none v in-v in
      go (below_or (far costs from v) (k + 1)) (below_or (k + 1) (far costs from v)) not_next (still_walk k none w same) (settled.low e l p) there (arc_one e p)
    where
      go : {x y m : ℕ} → (x < k + 1) ⊎ (k + 1 ≤ x) → (k + 1 < x) ⊎ (x ≤ k + 1) → (x ≡ k + 1 → ⊥) → y ≤ k → {z : ℕ} → z ≤ y + m → z ≡ x → m ≡ 1 → x ≤ k
      go (inl a) n f g h i j = omega arith
      go (inr a) (inl b) f g h i j = absurd (omega arith)
      go (inr a) (inr b) f g h i j = absurd (f (omega arith))

  pub far_still : (k : ℕ) → ((i : ℕ) → i < 100 → far costs from i ≡ k + 1 → ⊥) → (i : ℕ) → i < 100 → far costs from i < 255 → far costs from i ≤ k
  far_still k none i l h = still_walk k none (made i l h) refl

  -- no count is above 100: with 101 for "no moves" the counts are the same
  pub far_few : (i : ℕ) → i < 100 → far costs from i < 255 → far costs from i ≤ 100
  far_few i l h =
      let short : Settled (move_graph costs) from 101 (least_costs (move_graph costs) from 101) = least_costs_settled (move_sound costs) low (omega arith) in
      let less : get_or (least_costs (move_graph costs) from 101) i 0 < 101 =
      reached {most = 1} short (move_sound costs) (λ e l. light e (below_or 0 ((move_graph costs).weight e))) (omega arith) (made i l h) in
      omega (arith, none_less settled (short.rough.made i l less))
    where
      light : (e : ℕ) → (0 < (move_graph costs).weight e) ⊎ ((move_graph costs).weight e ≤ 0) → (move_graph costs).weight e ≤ 1
      light e (inl p) = omega (arith, arc_one e p)
      light e (inr p) = omega arith
