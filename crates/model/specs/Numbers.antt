-- The refusals by number: 01, "Calls and their numbers, in order", and 02's after them; and what a call answers by its number and the value that it gives where it is not refused.
use Rattle.std.specs.Prelude.{◌≡◌, refl, ℕ, zero, suc, ◌+◌, ◌-◌, ◌<◌, Bool, true, ◌&&◌, eqb, List, [], ◌∷◌, Result, Ok, Err, length, get_or}
use Rattle.std.proofs.Common.{arith, eqb-true}
use Rattle.std.proofs.lemmas.Bool.{and_parts}
use Rattle.std.specs.Result.{IsErrAnd}
use Rattle.std.proofs.lemmas.Result.{err_from_is_err_and}
use Rattle.model.specs.declared.Refusal.{Refusal}
use Rattle.model.specs.declared.Refusal.TheVariants.{NotFinite, Size, Radius, Unit, BelowOneSector, RadiusOfSector, ScaleOfTen, ScaleOfZero, AboveTenSectors, FileUnderFive, Sectors, Scale, EntryCount, FileLength, EntryNumber, ListLength, BaseLength, StoreLength, FourthByte, Mark, FloorNumber, MoreWindows, Source, Goal, StepRoom, Sector, WindowRoom, EntryAgain, FileRoom}

abbrev pub number : Refusal → ℕ
number NotFinite = 1
number Size = 2
number Radius = 3
number Unit = 4
number BelowOneSector = 5
number RadiusOfSector = 6
number ScaleOfTen = 7
number ScaleOfZero = 8
number AboveTenSectors = 9
number FileUnderFive = 10
number Sectors = 11
number Scale = 12
number EntryCount = 13
number FileLength = 14
number EntryNumber = 15
number ListLength = 16
number BaseLength = 17
number StoreLength = 18
number FourthByte = 19
number Mark = 20
number FloorNumber = 21
number MoreWindows = 22
number Source = 23
number Goal = 24
number StepRoom = 25
number Sector = 26
number WindowRoom = 27
number EntryAgain = 28
number FileRoom = 29

-- the refusal that a number stands for
abbrev refusals : List Refusal
refusals =
    NotFinite ∷ Size ∷ Radius ∷ Unit ∷ BelowOneSector ∷ RadiusOfSector ∷ ScaleOfTen ∷ ScaleOfZero ∷ AboveTenSectors ∷ FileUnderFive ∷ Sectors ∷ Scale ∷ EntryCount ∷ FileLength ∷ EntryNumber ∷ ListLength ∷ BaseLength ∷ StoreLength ∷ FourthByte ∷ Mark ∷ FloorNumber ∷ MoreWindows ∷ Source ∷ Goal ∷ StepRoom ∷ Sector ∷ WindowRoom ∷ EntryAgain ∷ FileRoom ∷ []

abbrev pub refusal : ℕ → Refusal
refusal n = get_or refusals (n - 1) NotFinite

pub refusal_lem : (r : Refusal) → refusal (number r) ≡ r
refusal_lem r = grind arith

-- they stand in the order of their numbers
abbrev in_order : ℕ → List Refusal → Bool
in_order k [] = true
in_order k (r ∷ rest) = eqb (number r) k && in_order (suc k) rest

in_order_at : (list : List Refusal) (k i : ℕ) → in_order k list ≡ true → i < length list → number (get_or list i NotFinite) ≡ k + i
in_order_at [] k i e l = absurd (omega arith)
in_order_at (r ∷ rest) k zero e l = let b = and_parts (eqb (number r) k) (in_order (suc k) rest) e in omega (arith, eqb-true (number r) k b.0)
in_order_at (r ∷ rest) k (suc i) e l = let b = and_parts (eqb (number r) k) (in_order (suc k) rest) e in omega (arith, in_order_at rest (suc k) i b.1 (omega arith))

pub number_lem : (n : ℕ) → n < 29 → number (refusal (suc n)) ≡ suc n
number_lem n h = let i : suc n - 1 ≡ n = omega arith in rw i (omega (arith, in_order_at refusals 1 n refl h))

pub some_number : (r : Refusal) → 0 < number r
some_number r = grind arith

-- ---- an answer
-- the value where the number is 0, and else the refusal
unfoldable pub answered : {A : Type 0} → ℕ → A → Result A Refusal
answered zero v = Ok v
answered (suc n) v = Err (refusal (suc n))

-- 01's number of an answer: "A refusal returns its number, every other result 0"
abbrev pub number_of : {A : Type 0} → Result A Refusal → ℕ
number_of (Ok v) = 0
number_of (Err r) = number r

-- the refusal of an earlier call, handed on
pub number_on : {A : Type 0} (answer : Result A Refusal) (r : Refusal) → IsErrAnd answer (λ e. e ≡ r) → number_of answer ≡ number r
number_on {A} answer r e = let p = err_from_is_err_and answer e in rw (p.1, p.2) refl

-- its value, and what stands for that where it is refused
abbrev pub value_of : {A : Type 0} → A → Result A Refusal → A
value_of none (Ok v) = v
value_of none (Err r) = none
