-- The floor of a hall by its scaled costs, as the floors of `laws`; and how a move over a border leaves a sector and enters the next.
use Rattle.std.specs.Prelude.{ℕ, ◌+◌, ◌*◌, ◌≤◌, ◌<◌, ◌≡◌, refl, ◌⊎◌, ◌≢◌, true, List, length}
use Rattle.std.proofs.Common.{arith, sym, inl, inr, true≢false}
use Rattle.std.proofs.Math.ListN.{get_or-eq_default}
use Rattle.laws.specs.Graph.{below_or}
use Rattle.laws.specs.Floor.{Floor, BorderMove}
use Rattle.model.specs.declared.Measures.{Measures}
use Rattle.model.specs.declared.Side.{Side}
use Rattle.model.specs.Cells.{cell_at, opposite}
use Rattle.model.specs.Sides.{Axis, other, axis, sense, next_carry, Over}
use Rattle.model.specs.CellSides.{cell_on, cell_low, on_border, facing_border, is_border}
use Rattle.model.specs.Costs.{open_at}
use Rattle.model.specs.Sectors.{sectors, cells, floor_number, sector_of, place_of, beyond, has_beyond}
use Rattle.model.specs.SectorSides.{sector_on, same_sector, is_beyond, floor_on, floor_is}
use Rattle.model.specs.Windows.{border}
use Rattle.model.specs.Account.{ShareSide, AnyBorder}
use Rattle.audit.specs.Borders.{share_over}

-- ---- the floor
-- a move between open cells that share a side, of a kind: inside a sector, or over a border
pub record Move (m : Measures) (costs : List ℕ) (Kind : ℕ → ℕ → Type 0) (x y : ℕ) : Type 0 where
  pub leaves : open_at costs x ≡ true
  pub enters : open_at costs y ≡ true
  pub side : ShareSide m x y
  pub kind : Kind x y

-- the floor on which the moves over a border are those that are Allowed
abbrev pub floor_by : (BorderMove → Type 0) → Measures → List ℕ → Floor
floor_by Allowed m costs = record {
  Open = λ x. open_at costs x ≡ true;
  Step = Move m costs (λ x y. sector_of x ≡ sector_of y);
  Cross = Move m costs (λ x y. (sector_of x ≢ sector_of y) × Allowed (record { from = x; to = y }));
  step_leaves = λ x y w. w.leaves;
  step_opens = λ x y w. w.enters;
  cross_leaves = λ x y w. w.leaves;
  cross_opens = λ x y w. w.enters;
}

abbrev pub floor_of : Measures → List ℕ → Floor
floor_of m costs = floor_by AnyBorder m costs

-- an open cell is on the floor
pub open_on : (costs : List ℕ) (x : ℕ) → open_at costs x ≡ true → x < length costs
unfolding open_at
open_on costs x o = go (below_or x (length costs))
  where
    go : (x < length costs) ⊎ (length costs ≤ x) → x < length costs
    go (inl l) = l
    go (inr l) = absurd (true≢false (sym (rw (get_or-eq_default costs 255 l) at o)))

-- ---- a move over a border
-- it leaves by a place of a side and enters by the same place of the opposite side
pub record Leaving (m : Measures) (x y : ℕ) : Type 0 where
  pub sector : ℕ
  pub side : Side
  pub at : ℕ
  pub on : sector < sectors m
  pub there : has_beyond m sector side ≡ true
  pub in_side : at < 10
  pub from_is : x ≡ floor_number sector (border side at)
  pub to_is : y ≡ floor_number (beyond m sector side) (border (opposite side) at)

-- numbers of two digits, the lower below 10
level : (a b c d : ℕ) → c < 10 → d < 10 → a * 10 + c ≡ b * 10 + d → (a ≡ b) × (c ≡ d)
level a b c d l k e = (omega arith, omega arith)

module _ (m : Measures) (costs : List ℕ) (sized : length costs ≡ cells m) where
  pub open_sector : (x : ℕ) → open_at costs x ≡ true → sector_of x < sectors m
  open_sector x o = omega (arith, open_on costs x o)

  pub cross_leaving : (x y : ℕ) → (floor_of m costs).Cross x y → Leaving m x y
  cross_leaving x y c = go (share_over m x y c.side).0 (share_over m x y c.side).1
    where
      low : (n : ℕ) (a : Axis) → cell_on (cell_at (place_of n)) a < 10
      low n a = cell_low a (place_of n) (omega arith)

      go : (k : Side) → Over k (floor_on m x) (floor_on m y) → Leaving m x y
      go k o =
          let on = open_sector x c.leaves in
          let a : Axis = axis k in
          let b : Axis = other (axis k) in
          let p : Axis → ℕ = sector_on m (sector_of x) in
          let q : Axis → ℕ = sector_on m (sector_of y) in
          let u = level (p b) (q b) _ _ (low x b) (low y b) (rw (floor_is m x b, floor_is m y b) at o.stays) in
          let apart : p a ≢ q a = λ e. c.kind.0 (same_sector m a (sector_of x) (sector_of y) e u.0) in
          let v = next_carry (sense k) {a = p a} {b = q a} (low x a) (low y a) apart (rw (floor_is m x a, floor_is m y a) at o.moves) in
          let there = is_beyond m (sector_of x) on k (sector_of y) (open_sector y c.enters) (record { moves = v.0; stays = u.0 }) in
          let at : ℕ = cell_on (cell_at (place_of x)) b in
          let low_at : at < 10 = low x b in
          let own : place_of x ≡ border k at = is_border a (place_of x) (on_border k at low_at) v.1 refl in
          let facing : place_of y ≡ border (opposite k) at = is_border a (place_of y) (facing_border k at low_at) v.2 (sym u.1) in
          record {
            sector = sector_of x;
            side = k;
            at = at;
            on = on;
            there = there.0;
            in_side = low_at;
            from_is = omega (arith, own);
            to_is = rw there.1 (omega (arith, facing));
          }
