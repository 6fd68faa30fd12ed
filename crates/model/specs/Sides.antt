-- A side as an axis and a sense: what it does to column and to row. CellSides and SectorSides bring the definitions of 01 to this form, side by side.
-- Every other fact about sides has the side as a parameter and goes by axis and sense.
use Rattle.std.specs.Prelude.{ℕ, zero, suc, ◌+◌, ◌-◌, ◌*◌, ◌<◌, ◌≡◌, refl, ◌↔◌, ◌⊎◌}
use Rattle.std.proofs.Math.Decide.{ℕ_discrete}
use Rattle.std.proofs.Common.{arith, sym, inl, inr}
use Rattle.model.specs.declared.Side.{Side}
use Rattle.model.specs.declared.Side.TheVariants.{North, East, South, West}
use Rattle.model.specs.Cells.{side_number, side_at, opposite}

-- ---- sides by number
pub side_number_lem : (k : Side) → side_at (side_number k) ≡ k
side_number_lem North = refl
side_number_lem East = refl
side_number_lem South = refl
side_number_lem West = refl

pub side_low : (k : Side) → side_number k < 4
side_low North = omega arith
side_low East = omega arith
side_low South = omega arith
side_low West = omega arith

pub number_side : (n : ℕ) → n < 4 → side_number (side_at n) ≡ n
number_side zero l = refl
number_side (suc zero) l = refl
number_side (suc (suc zero)) l = refl
number_side (suc (suc (suc n))) l = omega arith

-- ---- axis and sense
pub data Axis : Type 0 where
  Column Row : Axis

pub data Sense : Type 0 where
  Lower Higher : Sense

abbrev pub other : Axis → Axis
other Column = Row
other Row = Column

pub other_twice : (a : Axis) → other (other a) ≡ a
other_twice Column = refl
other_twice Row = refl

abbrev pub turned : Sense → Sense
turned Lower = Higher
turned Higher = Lower

abbrev pub axis : Side → Axis
axis North = Row
axis East = Column
axis South = Row
axis West = Column

abbrev pub sense : Side → Sense
sense North = Lower
sense East = Higher
sense South = Higher
sense West = Lower

-- the opposite side has the same axis and the other sense
pub record Opposite (k : Side) : Type 0 where
  pub axis_is : axis (opposite k) ≡ axis k
  pub sense_is : sense (opposite k) ≡ turned (sense k)
  pub twice : opposite (opposite k) ≡ k

pub opposite_is : (k : Side) → Opposite k
opposite_is North = record { axis_is = refl; sense_is = refl; twice = refl }
opposite_is East = record { axis_is = refl; sense_is = refl; twice = refl }
opposite_is South = record { axis_is = refl; sense_is = refl; twice = refl }
opposite_is West = record { axis_is = refl; sense_is = refl; twice = refl }

-- ---- one axis
-- from place x to place y is one on in a sense
abbrev pub Next : Sense → ℕ → ℕ → Type 0
Next Lower x y = x ≡ suc y
Next Higher x y = y ≡ suc x

-- the last of so many places in a sense, and whether a place has one further on
abbrev pub last : Sense → ℕ → ℕ
last Lower n = 0
last Higher n = n - 1

abbrev pub Room : Sense → ℕ → ℕ → Type 0
Room Lower n x = 0 < x
Room Higher n x = x + 1 < n

abbrev pub moved : Sense → ℕ → ℕ
moved Lower x = x - 1
moved Higher x = x + 1

next_back : (e : Sense) (x y : ℕ) → Next e x y → Next (turned e) y x
next_back Lower x y h = h
next_back Higher x y h = h

pub next_other : (e : Sense) {x y : ℕ} → Next e x y → x ≡ y → ⊥
next_other Lower h q = omega arith
next_other Higher h q = omega arith

pub next_same : (e : Sense) (x : ℕ) {y z : ℕ} → Next e x y → Next e x z → y ≡ z
next_same Lower x h g = omega arith
next_same Higher x h g = omega arith

pub next_moved : (e : Sense) {n x : ℕ} → x < n → Room e n x → (moved e x < n) × Next e x (moved e x)
next_moved Lower l r = (omega arith, omega arith)
next_moved Higher l r = (omega arith, omega arith)

pub next_room : (e : Sense) {n x y : ℕ} → x < n → y < n → Next e x y → Room e n x
next_room Lower l k h = omega arith
next_room Higher l k h = omega arith

pub room_or_last : (e : Sense) (n x : ℕ) → x < n → Room e n x ⊎ (x ≡ last e n)
room_or_last Lower n x l = go (ℕ_discrete x 0)
  where
    go : Dec (x ≡ 0) → (0 < x) ⊎ (x ≡ 0)
    go (yes q) = inr q
    go (no q) = inl (omega arith)
room_or_last Higher n x l = go (ℕ_discrete x (n - 1))
  where
    go : Dec (x ≡ n - 1) → (x + 1 < n) ⊎ (x ≡ n - 1)
    go (yes q) = inr q
    go (no q) = inl (omega arith)

pub last_none : (e : Sense) (n x : ℕ) → x ≡ last e n → Room e n x → ⊥
last_none Lower n x q r = omega arith
last_none Higher n x q r = omega arith

-- numbers of two digits, the lower below 10: one on with the same higher digit, and with another
pub next_digit : (e : Sense) (a c d : ℕ) → Next e c d ↔ Next e (a * 10 + c) (a * 10 + d)
next_digit Lower a c d = ((λ h. omega arith), (λ h. omega arith))
next_digit Higher a c d = ((λ h. omega arith), (λ h. omega arith))

pub next_carry : (e : Sense) {a b c d : ℕ} → c < 10 → d < 10 → (a ≡ b → ⊥) → Next e (a * 10 + c) (b * 10 + d) → Next e a b × (c ≡ last e 10) × (d ≡ last (turned e) 10)
next_carry Lower l k n h = (omega arith, omega arith, omega arith)
next_carry Higher l k n h = (omega arith, omega arith, omega arith)

pub carry_next : (e : Sense) (a b : ℕ) → Next e a b → Next e (a * 10 + last e 10) (b * 10 + last (turned e) 10)
carry_next Lower a b h = omega arith
carry_next Higher a b h = omega arith

-- ---- both axes
-- from point p to point q is one on over a side: on its axis by its sense, and level on the other
pub record Over (k : Side) (p q : Axis → ℕ) : Type 0 where
  pub moves : Next (sense k) (p (axis k)) (q (axis k))
  pub stays : p (other (axis k)) ≡ q (other (axis k))

pub over_back : (k : Side) {p q : Axis → ℕ} → Over k p q → Over (opposite k) q p
over_back k o = record {
  moves = rw ((opposite_is k).axis_is, (opposite_is k).sense_is) (next_back (sense k) _ _ o.moves);
  stays = rw (opposite_is k).axis_is (sym o.stays);
}
