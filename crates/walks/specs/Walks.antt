-- Walks on the board: how far they go, and what they block.
use Prim.Native.Nat.{ℕ, zero, suc, ◌+◌, ◌*◌, ◌/◌, ◌%◌, ◌≤◌, ◌<◌}
use Rattle.std.proofs.Common.{suc-mul, arith, ◌∙◌}
use Rattle.std.specs.Prelude.{◌≡◌, Bool, true, false, List, ltb, length, set}
use Rattle.std.proofs.Math.Path.{refl, sym, ap}
use Rattle.laws.specs.Fold.{run, run_turn}
use Rattle.laws.specs.Search.{Sought, first_same}
use Rattle.model.specs.declared.Measures.{Measures}
use Rattle.model.specs.declared.CompassDir.{CompassDir}
use Rattle.model.specs.Sectors.{sectors}
use Rattle.model.specs.Directions.{compass, eastward, southward, stepped, landing}
use Rattle.model.specs.Scaling.{passes, block_step, block_passed, walk}
use Rattle.fields.specs.Bounds.{steps_small, landing_index}
use Rattle.walks.specs.Costs.{Costs, costs_again}
use Rattle.walks.specs.Lines.{Line, blocked_on}
use Rattle.walks.specs.Board.{board_of, board_long, corner, corner_high, spot, stride, line_low, line_high, wall_shown, board_set}

-- a board that shows the scaled costs, and where it shows the first cell of sector s
pub record Shows (m : Measures) (s o : ℕ) (xs bs : List ℕ) : Type 0 where
  pub costs : Costs m xs
  pub on : s < sectors m
  pub at : o ≡ corner m s
  pub shows : bs ≡ board_of m xs

module _ {m : Measures} {s o : ℕ} {xs bs : List ℕ} (h : Shows m s o xs bs) where
  pub shows_long : length bs ≡ 14400
  shows_long = board_long m xs h.shows

  -- the cells of the sector are on it
  pub shows_room : o + 1090 ≤ length bs
  shows_room = rw (shows_long, h.at) (corner_high m s h.costs.measures h.on)

  -- another list of the same length, and its board
  pub shows_again : {ys cs : List ℕ} → length ys ≡ length xs → cs ≡ board_of m ys → Shows m s o ys cs
  shows_again long e = record { costs = costs_again h.costs long; on = h.on; at = h.at; shows = e }

  module _ {i : ℕ} (d : CompassDir) {step : ℕ} (cell : i < 100) (is : step ≡ stride d) where
    -- nine steps stay on the board
    pub on_board : (n : ℕ) → n ≤ 9 → Line (spot o i) step n (length bs)
    on_board n few = rw (is, h.at, shows_long) (record {
      low = λ k l. line_low m s h.costs.measures h.on i d k cell (omega arith);
      high = λ k l. line_high m s h.costs.measures h.on i d k cell (omega arith);
    })

    -- and meet a wall where the walk does
    pub walk_passes : {r : ℕ} {met : Bool} → Sought (blocked_on bs (spot o i) step) m.scale r met → r ≡ passes m xs s i d
    unfolding passes
    walk_passes w = sym w.at ∙ rw (is, h.at, h.shows) (first_same _ _ m.scale (λ k l. sym (wall_shown m s h.costs.measures h.on i d (k + 1) cell (omega (arith, h.costs.measures.few_scale)) xs)))

-- ---- the cells passed
-- a step on one axis, on a circle of ten places
turn_axis : (c e k : ℕ) {x : ℕ} → c ≤ 9 → e ≤ 2 → k < 9 → x ≡ stepped c e k % 10 → (x + 9 + e) % 10 ≡ stepped c e (k + 1) % 10
turn_axis c e k on small few is = omega (arith, is, suc-mul k e)

axis_none : (c e : ℕ) → c ≤ 9 → c ≡ stepped c e 0 % 10
axis_none c e on = omega arith

-- after k steps of a walk from cell i: the last was in column x and row y
pub record Turned (i : ℕ) (d : CompassDir) (k x y : ℕ) : Type 0 where
  pub column : x ≡ stepped (i % 10) (eastward d) k % 10
  pub row : y ≡ stepped (i / 10) (southward d) k % 10

pub turned_none : (i : ℕ) (d : CompassDir) → i < 100 → Turned i d 0 (i % 10) (i / 10)
turned_none i d cell = record { column = axis_none (i % 10) (eastward d) (omega arith); row = axis_none (i / 10) (southward d) (omega arith) }

pub turned_more : {i : ℕ} {d : CompassDir} {k x y x' y' : ℕ} → i < 100 → k < 9 → Turned i d k x y → x' ≡ (x + 9 + eastward d) % 10 → y' ≡ (y + 9 + southward d) % 10 → Turned i d (k + 1) x' y'
turned_more {i} {d} {k} cell few h across down = record {
  column = across ∙ turn_axis (i % 10) (eastward d) k (omega arith) (steps_small d).0 few h.column;
  row = down ∙ turn_axis (i / 10) (southward d) k (omega arith) (steps_small d).1 few h.row;
}

-- the place of the cell passed at step k + 1 becomes a wall
unfoldable pub block_spot : ℕ → ℕ → CompassDir → ℕ → List ℕ → List ℕ
block_spot o i d k bs = set bs (spot o (landing i d (k + 1)).index) 255

module _ {i : ℕ} {d : CompassDir} (k : ℕ) {x y : ℕ} (h : Turned i d (k + 1) x y) where
  turned_index : (landing i d (k + 1)).index ≡ y * 10 + x
  unfolding landing
  turned_index = rw (h.column, h.row) refl

  pub step_is : (s : ℕ) (xs : List ℕ) → set xs (s * 100 + (y * 10 + x)) 255 ≡ block_step s i d k xs
  unfolding block_step
  step_is s xs = rw turned_index refl

  pub spot_is : (o : ℕ) (bs : List ℕ) → set bs (o + y * 120 + x) 255 ≡ block_spot o i d k bs
  unfolding block_spot
  spot_is o bs = let e : spot o (y * 10 + x) ≡ o + y * 120 + x = omega (arith, h.column) in rw (turned_index, e) refl

-- what is blocked in the list is blocked on the board
module _ {m : Measures} {s o i : ℕ} {xs bs : List ℕ} (d : CompassDir) (h : Shows m s o xs bs) (cell : i < 100) where
  step_shown : (k : ℕ) → k < 9 → (ys : List ℕ) → block_spot o i d k (board_of m ys) ≡ board_of m (block_step s i d k ys)
  unfolding block_spot block_step
  step_shown k few ys = rw h.at (sym (board_set m s h.costs.measures h.on (landing i d (k + 1)).index (landing_index i d (k + 1) cell (omega arith)) ys))

  pub run_shown : (n : ℕ) → n ≤ 9 → run (block_spot o i d) n bs ≡ board_of m (run (block_step s i d) n xs)
  unfolding run
  run_shown zero few = h.shows
  run_shown (suc n) few = ap (block_spot o i d n) (run_shown n (omega arith)) ∙ step_shown n (omega arith) (run (block_step s i d) n xs)

-- ---- a walk
module _ (m : Measures) (xs : List ℕ) (s i : ℕ) (d : CompassDir) {r : ℕ} {met : Bool} (e : r ≡ passes m xs s i d) (test : ltb r m.scale ≡ met) where
  -- it met a wall
  pub walk_met : met ≡ true → run (block_step s i d) r xs ≡ block_passed m s i d (passes m xs s i d) xs
  unfolding block_passed
  walk_met h = rw (← e, test, h) refl

  -- it met none
  pub walk_clear : met ≡ false → xs ≡ block_passed m s i d (passes m xs s i d) xs
  unfolding block_passed
  walk_clear h = rw (← e, test, h) refl

-- the walk in direction k of the order, after those before it
pub walked : (m : Measures) (s i : ℕ) (k : ℕ) (zs : List ℕ) {d : CompassDir} {xs ys : List ℕ} → d ≡ compass k → ys ≡ block_passed m s i d (passes m xs s i d) xs → xs ≡ run (walk m s i) k zs → ys ≡ run (walk m s i) (k + 1) zs
unfolding walk
walked m s i k zs {xs = xs} {ys = ys} is e h = run_turn (walk m s i) k zs xs ys (e ∙ ap (λ (d : CompassDir). block_passed m s i d (passes m xs s i d) xs) is) h
