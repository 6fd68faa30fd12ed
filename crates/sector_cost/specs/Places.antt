-- A step made at a place around a sector, by whether there is a sector there.
use Rattle.std.specs.Prelude.{ℕ, ◌≡◌, refl, Bool, true, false, List, Option, Some, None}
use Rattle.std.specs.Bool.{then_some}
use Rattle.laws.specs.Fold.{pick}

pub place_some : (step : ℕ → List ℕ → List ℕ) (b : Bool) (x s : ℕ) (xs : List ℕ) {r : Option ℕ} → r ≡ then_some b x → r ≡ Some s → step s xs ≡ pick b (step x xs) xs
place_some step true x s xs e is = cc
place_some step false x s xs e is = cc

pub place_none : (step : ℕ → List ℕ → List ℕ) (b : Bool) (x : ℕ) (xs : List ℕ) {r : Option ℕ} → r ≡ then_some b x → r ≡ None → xs ≡ pick b (step x xs) xs
place_none step true x xs e is = cc
place_none step false x xs e is = refl
