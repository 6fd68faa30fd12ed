-- Floors as their open cells and moves, and walks over them. Nothing here knows of columns, rows or costs.
use Rattle.std.specs.Prelude.{ℕ, suc, ◌+◌, ◌≡◌, List, [], ◌∷◌, length}
use Rattle.std.proofs.Common.{zero-add, suc-add, arith}

-- A floor: its open cells, the moves inside a sector and the moves over a border. Both kinds of move go between open cells.
pub record Floor : Type 1 where
  pub Open : ℕ → Type 0
  pub Step : ℕ → ℕ → Type 0
  pub Cross : ℕ → ℕ → Type 0
  pub step_leaves : (x y : ℕ) → Step x y → Open x
  pub step_opens : (x y : ℕ) → Step x y → Open y
  pub cross_leaves : (x y : ℕ) → Cross x y → Open x
  pub cross_opens : (x y : ℕ) → Cross x y → Open y

-- A move over a border, by its two cells.
pub record BorderMove : Type 0 where
  pub from : ℕ
  pub to : ℕ

-- A walk from x to y of n moves, with those over a border in order: it stands on an open cell, or makes one move and goes on.
pub data Walk (f : Floor) : ℕ → ℕ → ℕ → List BorderMove → Type 0 where
  stand : {x : ℕ} → f.Open x → Walk f x x 0 []
  step : {x y z n : ℕ} {over : List BorderMove} → f.Step x y → Walk f y z n over → Walk f x z (suc n) over
  cross : {x y z n : ℕ} {over : List BorderMove} → f.Cross x y → Walk f y z n over → Walk f x z (suc n) (record { from = x; to = y } ∷ over)

-- some walk of n moves from x to y
abbrev pub SomeWalk : Floor → ℕ → ℕ → ℕ → Type 0
SomeWalk f x y n = (over : List BorderMove) × Walk f x y n over

-- n moves inside a sector lead from x to y. A cell is joined to itself, open or not.
pub data Inside (f : Floor) : ℕ → ℕ → ℕ → Type 0 where
  here : {x : ℕ} → Inside f x x 0
  move : {x y z n : ℕ} → f.Step x y → Inside f y z n → Inside f x z (suc n)

module _ {f : Floor} where
  pub inside_join : {x y z m n : ℕ} → Inside f x y m → Inside f y z n → Inside f x z (m + n)
  inside_join here b = rw zero-add b
  inside_join (move s a) b = rw suc-add (move s (inside_join a b))

  -- a walk may begin with them
  pub inside_walk : {x y z m n : ℕ} {over : List BorderMove} → Inside f x y m → Walk f y z n over → Walk f x z (m + n) over
  inside_walk here w = rw zero-add w
  inside_walk (move s a) w = rw suc-add (step s (inside_walk a w))

  -- a walk that crosses no border stays inside a sector
  pub walk_inside : {x y n : ℕ} {over : List BorderMove} → Walk f x y n over → length over ≡ 0 → Inside f x y n
  walk_inside (stand o) e = here
  walk_inside (step s w) e = move s (walk_inside w e)
  walk_inside (cross c w) e = absurd (omega arith)

  -- moves inside a sector from an open cell are a walk
  pub inside_alone : {x y n : ℕ} → Inside f x y n → f.Open x → Walk f x y n []
  inside_alone here o = stand o
  inside_alone (move {x} {y} s a) o = step s (inside_alone a (f.step_opens x y s))

  -- both ends of a walk are open
  pub walk_starts : {x y n : ℕ} {over : List BorderMove} → Walk f x y n over → f.Open x
  walk_starts (stand o) = o
  walk_starts (step {x} {y} s w) = f.step_leaves x y s
  walk_starts (cross {x} {y} c w) = f.cross_leaves x y c

  pub walk_ends : {x y n : ℕ} {over : List BorderMove} → Walk f x y n over → f.Open y
  walk_ends (stand o) = o
  walk_ends (step s w) = walk_ends w
  walk_ends (cross c w) = walk_ends w
