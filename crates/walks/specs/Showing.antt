-- A board of walls on which the floor is shown place by place, from the front.
use Rattle.std.specs.Prelude.{ℕ, suc, ◌+◌, ◌-◌, ◌*◌, ◌/◌, ◌%◌, ◌≤◌, ◌<◌, ◌≡◌, refl, Bool, true, false, List, leb, length, get_or, replicate}
use Rattle.std.proofs.Common.{mul-le-mul, le_refl, suc-mul, arith, sym, subst, ◌∙◌, le-leb, leb-true, leb-false}
use Rattle.std.proofs.lemmas.List.{length-replicate, get_or-replicate}
use Rattle.laws.specs.Fold.{pick}
use Rattle.laws.specs.Search.{both}
use Rattle.laws.specs.Table.{Tabled, tabled_none, tabled_all, get_or_default}
use Rattle.laws.specs.Region.{region, within, length_region, get_or_region, length_within, get_or_below, get_or_inside, get_or_above}
use Rattle.model.specs.declared.Measures.{Measures}
use Rattle.model.specs.Sectors.{sectors}
use Rattle.model.specs.Directions.{on_axis}
use Rattle.model.specs.Nearby.{on_axis_lem}
use Rattle.walks.specs.Costs.{Costs}
use Rattle.walks.specs.Board.{column_at, row_at, is_cell, number_at, shown, shown_at, board_of}

-- the places before k show what they must, those from k on a wall
pub record Showing (m : Measures) (xs : List ℕ) (k : ℕ) (bs : List ℕ) : Type 0 where
  pub passed : Tabled (shown m xs) 14400 k bs
  pub ahead : (p : ℕ) → k ≤ p → p < 14400 → get_or bs p 0 ≡ 255

-- a place that is on no cell of the floor
wall_at : (m : Measures) (xs : List ℕ) (p : ℕ) → (1 ≤ column_at p → column_at p ≤ m.columns → 1 ≤ row_at p → row_at p ≤ m.rows → ⊥) → shown m xs p ≡ 255
unfolding shown
wall_at m xs p off = go (is_cell m p) refl
  where
    go : (b : Bool) → is_cell m p ≡ b → pick b (get_or xs (number_at m p) 255) 255 ≡ 255
    go true e =
        let t = both (on_axis (column_at p) m.columns) (on_axis (row_at p) m.rows) e in
        let across = on_axis_lem (column_at p) m.columns t.0 in
        let down = on_axis_lem (row_at p) m.rows t.1 in
        absurd (off across.0 across.1 down.0 down.1)
    go false e = refl

module _ {m : Measures} {xs : List ℕ} where
  -- a board of walls
  pub showing_none : {bs : List ℕ} → bs ≡ replicate 14400 255 → Showing m xs 0 bs
  showing_none e = subst (λ (l : List ℕ). Showing m xs 0 l) (sym e) walls
    where
      walls : Showing m xs 0 (replicate 14400 255)
      walls = record { passed = tabled_none (shown m xs) 14400 (replicate 14400 255) (length-replicate {A = ℕ} 14400 255); ahead = λ p _. get_or-replicate {A = ℕ} 14400 p 255 0 }

  showing_all : {k : ℕ} {bs : List ℕ} → Showing m xs k bs → 14400 ≤ k → bs ≡ board_of m xs
  unfolding board_of
  showing_all h l = tabled_all h.passed l

  -- a place named otherwise
  pub showing_at : {k n : ℕ} {bs : List ℕ} → Showing m xs k bs → k ≡ n → Showing m xs n bs
  showing_at {bs = bs} h e = subst (λ (i : ℕ). Showing m xs i bs) e h

  -- places that show walls are there already
  showing_walls : {k : ℕ} {bs : List ℕ} (n : ℕ) → Showing m xs k bs → k ≤ n → n ≤ 14400 → ((p : ℕ) → k ≤ p → p < n → shown m xs p ≡ 255) → Showing m xs n bs
  showing_walls {k} {bs} n h l most walls = record {
    passed = record { within = most; long = h.passed.long; at = λ p b. go p b (leb k p) refl };
    ahead = λ p b c. h.ahead p (omega arith) c;
  }
    where
      go : (p : ℕ) → p < n → (b : Bool) → leb k p ≡ b → get_or bs p 0 ≡ shown m xs p
      go p b true e = h.ahead p (leb-true k p e) (omega arith) ∙ sym (walls p (leb-true k p e) b)
      go p b false e = h.passed.at p (leb-false k p e)

  -- ten cells of the floor from number a on are put in place k and those after it
  showing_ten : (k a : ℕ) {bs cs : List ℕ} → Showing m xs k bs → k + 10 ≤ 14400 → a + 10 ≤ length xs → ((j : ℕ) → j < 10 → shown m xs (k + j) ≡ get_or xs (a + j) 0)
      → cs ≡ within k 10 (λ old. region a 10 xs) bs → Showing m xs (k + 10) cs
  showing_ten k a {bs} h most fits same e = rw e (record {
    passed = record { within = most; long = length_within k 10 put bs room kept ∙ h.passed.long; at = λ p b. go p b (leb k p) refl };
    ahead = λ p b c. get_or_above k 10 put bs room kept p b ∙ h.ahead p (omega arith) c;
  })
    where
      put : List ℕ → List ℕ
      put old = region a 10 xs

      room : k + 10 ≤ length bs
      room = omega (arith, h.passed.long)

      kept : length (put (region k 10 bs)) ≡ 10
      kept = length_region a 10 xs fits

      go : (p : ℕ) → p < k + 10 → (b : Bool) → leb k p ≡ b → get_or (within k 10 put bs) p 0 ≡ shown m xs p
      go p b true e =
          let j : ℕ = p - k in
          let at : p ≡ k + j = omega (arith, leb-true k p e) in
          let l : j < 10 = omega (arith, leb-true k p e) in
          rw at (get_or_inside k 10 put bs room kept j l ∙ get_or_region a 10 xs j l ∙ sym (same j l))
      go p b false e = get_or_below k 10 put bs room kept p (leb-false k p e) ∙ h.passed.at p (leb-false k p e)

-- ---- row by row: row y of the plain floor begins at its first cell
abbrev pub row_start : ℕ → ℕ
row_start y = (y + 10) * 120 + 10

module _ {m : Measures} {xs : List ℕ} (costs : Costs m xs) where
  -- the list has ten cells of row y, in sector column c
  pub row_fits : (y c j : ℕ) → y < m.rows * 10 → c < m.columns → j < 10 → (c * m.rows + y / 10) * 100 + y % 10 * 10 + j < length xs
  row_fits y c j down across l =
      let room : suc c * m.rows ≤ sectors m = mul-le-mul across (le_refl m.rows) in
      omega (arith, room, suc-mul c m.rows, costs.long)

  -- and they are shown one after the other
  row_shown : (y c j : ℕ) → y < m.rows * 10 → c < m.columns → j < 10
      → shown m xs (row_start y + c * 10 + j) ≡ get_or xs ((c * m.rows + y / 10) * 100 + y % 10 * 10 + j) 0
  row_shown y c j down across l =
      let place : row_start y + c * 10 + j ≡ (y / 10 * 10 + (y % 10 + 10)) * 120 + (c * 10 + (j + 10)) = omega arith in
      let column : c + (j + 10) / 10 ≡ c + 1 = omega arith in
      let row : y / 10 + (y % 10 + 10) / 10 ≡ y / 10 + 1 = omega arith in
      let index : (y % 10 + 10) % 10 * 10 + (j + 10) % 10 ≡ y % 10 * 10 + j = omega arith in
      let c' : c + 1 - 1 ≡ c = omega arith in
      let y' : y / 10 + 1 - 1 ≡ y / 10 = omega arith in
      let sum : (c * m.rows + y / 10) * 100 + (y % 10 * 10 + j) ≡ (c * m.rows + y / 10) * 100 + y % 10 * 10 + j = omega arith in
      let few : c ≤ 9 = omega (arith, costs.measures.few_columns) in
      rw (place, shown_at m xs c (y / 10) (j + 10) (y % 10 + 10) few (omega arith), column, row, index, c', y', le-leb 1 (c + 1) (omega arith), le-leb (c + 1) m.columns (omega arith), le-leb 1 (y / 10 + 1) (omega arith), le-leb (y / 10 + 1) m.rows (omega arith), sum)
      (get_or_default xs _ 255 0 (row_fits y c j down across l))

  pub row_more : (y c : ℕ) {bs cs : List ℕ} → y < m.rows * 10 → c < m.columns → Showing m xs (row_start y + c * 10) bs
      → cs ≡ within (row_start y + c * 10) 10 (λ old. region ((c * m.rows + y / 10) * 100 + y % 10 * 10) 10 xs) bs → Showing m xs (row_start y + (c + 1) * 10) cs
  row_more y c down across h e =
      let k : row_start y + (c + 1) * 10 ≡ row_start y + c * 10 + 10 = omega arith in
      rw k (showing_ten (row_start y + c * 10) ((c * m.rows + y / 10) * 100 + y % 10 * 10) h (omega (arith, costs.measures.few_columns, costs.measures.few_rows)) (omega (arith, row_fits y c 9 down across (omega arith))) (λ j l. row_shown y c j down across l) e)

  pub row_end : (y : ℕ) {bs : List ℕ} → y < m.rows * 10 → Showing m xs (row_start y + m.columns * 10) bs → Showing m xs (row_start (y + 1)) bs
  row_end y down h = showing_walls (row_start (y + 1)) h (omega (arith, costs.measures.few_columns)) (omega (arith, costs.measures.few_rows)) (λ p l u. wall_at m xs p (λ a b c d. omega arith))

  pub floor_start : {bs : List ℕ} → Showing m xs 0 bs → Showing m xs (row_start 0) bs
  floor_start h = showing_walls (row_start 0) h (omega arith) (omega arith) (λ p l u. wall_at m xs p (λ a b c d. omega arith))

  pub floor_end : (y : ℕ) {bs : List ℕ} → m.rows * 10 ≤ y → Showing m xs (row_start y) bs → bs ≡ board_of m xs
  floor_end y l h = showing_all (showing_walls 14400 h h.passed.within (omega arith) (λ p k u. wall_at m xs p (λ a b c d. omega arith))) (omega arith)
