-- An Option that has a value if a test holds.
use Rattle.std.specs.Prelude.{Bool, true, false, if◌then◌else◌, Some, None, ◌≡◌, refl}

pub some_if : {A : Type 0} (test : Bool) (a : A) {b : A} → Some b ≡ (if test then Some a else None) → (test ≡ true) × (b ≡ a)
some_if true a e = (refl, cc)
some_if false a e = cc

pub none_if : {A : Type 0} (test : Bool) (a : A) → None ≡ (if test then Some a else None) → test ≡ false
none_if true a e = cc
none_if false a e = refl
