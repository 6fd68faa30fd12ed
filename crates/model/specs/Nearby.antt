-- The nine places around a changed sector.
use Rattle.std.specs.Prelude.{ℕ, zero, suc, ◌+◌, ◌-◌, ◌*◌, ◌≤◌, ◌<◌, ◌≡◌, true, List, leb}
use Rattle.std.proofs.Common.{mul-le-mul, suc-mul, le_refl, arith, leb-true}
use Rattle.laws.specs.Fold.{pick}
use Rattle.laws.specs.Search.{both}
use Rattle.model.specs.declared.Measures.{Measures}
use Rattle.model.specs.Sectors.{sectors, column_of, row_of}
use Rattle.model.specs.Directions.{compass, eastward, southward, shifted, on_axis, on_floor}
use Rattle.model.specs.Change.{nearby, is_there}

-- a place on an axis
pub on_axis_lem : (n wide : ℕ) → on_axis n wide ≡ true → (1 ≤ n) × (n ≤ wide)
on_axis_lem n wide h = let t = both (leb 1 n) (leb n wide) h in (leb-true 1 n t.0, leb-true n wide t.1)

-- a shift that stays on the floor leads to one of its sectors
shifted_lt : (m : Measures) (s east south : ℕ) → on_floor m s east south ≡ true → shifted m s east south < sectors m
unfolding on_floor
shifted_lt m s east south h =
    let t = both (on_axis (column_of m s + east) m.columns) (on_axis (row_of m s + south) m.rows) h in
    let x = on_axis_lem (column_of m s + east) m.columns t.0 in
    let y = on_axis_lem (row_of m s + south) m.rows t.1 in
    let column = column_of m s + east - 1 in
    let room : suc column * m.rows ≤ sectors m = mul-le-mul (omega arith) (le_refl m.rows) in
    omega (arith, room, suc-mul column m.rows)

-- a step made for the sector at place k, if there is one
abbrev pub at_nearby : Measures → ℕ → (ℕ → List ℕ → List ℕ) → ℕ → List ℕ → List ℕ
at_nearby m t step k xs = pick (is_there m t k) (step (nearby m t k) xs) xs

-- what is there is a sector of the floor
pub nearby_lt : (m : Measures) (t k : ℕ) → t < sectors m → is_there m t k ≡ true → nearby m t k < sectors m
unfolding nearby is_there
nearby_lt m t zero l h = l
nearby_lt m t (suc k) l h = shifted_lt m t (eastward (compass k)) (southward (compass k)) h
