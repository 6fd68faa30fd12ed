-- The refusals of measures, and what a test found of measures that were read from bytes: for the search at each return of a ladder.
use Rattle.std.specs.Prelude.{◌≡◌, Bool, true, false, not, List, ℕ, ◌*◌, ◌<◌, ltb, eqb, length}
use Rattle.std.proofs.Common.{sym, ap, ◌∙◌, arith}
use Rattle.laws.specs.Ladder.{refuse, passed, refuse_past}
use Rattle.laws.specs.Search.{any}
use Rattle.model.specs.declared.Measures.{Measures}
use Rattle.model.specs.Sectors.{sectors, cells}
use Rattle.model.specs.Accepted.{bad_sectors, bad_scale, Accepted, accepted}
use Rattle.model.specs.Store.{measures_at, size_of, marks_in}
use Rattle.model.specs.Calls.{bad_mark}

-- 11, 12
unfoldable pub measures_number : Measures → ℕ
measures_number m = refuse (bad_sectors m) 11 (refuse (bad_scale m) 12 0)

-- what they show of a ladder that goes on after them
module _ (m : Measures) where
  pub measures_refused : (n rest : ℕ) → 0 < n → n ≡ measures_number m → n ≡ refuse (bad_sectors m) 11 (refuse (bad_scale m) 12 rest)
  unfolding measures_number refuse
  measures_refused n rest h = go (bad_sectors m) (bad_scale m)
    where
      go : (a b : Bool) → n ≡ refuse a 11 (refuse b 12 0) → n ≡ refuse a 11 (refuse b 12 rest)
      go true b e = e
      go false true e = e
      go false false e = absurd (omega arith)

  pub measures_passed : (n rest : ℕ) → 0 ≡ measures_number m → n ≡ rest → n ≡ refuse (bad_sectors m) 11 (refuse (bad_scale m) 12 rest)
  unfolding measures_number
  measures_passed n rest z e =
      let a = passed _ 10 _ (sym z) in
      let b = passed _ 11 _ a.1 in
      refuse_past _ _ 11 _ a.0 (refuse_past _ _ 12 _ b.0 e)

  pub measures_accepted : 0 ≡ measures_number m → Accepted m
  unfolding measures_number
  measures_accepted z =
      let a = passed _ 10 _ (sym z) in
      let b = passed _ 11 _ a.1 in
      accepted m a.0 b.0

pub measures_found : (bytes : List ℕ) (m : Measures) → m ≡ measures_at bytes → (n : ℕ) → n ≡ measures_number m → n ≡ measures_number (measures_at bytes)
measures_found bytes m read n e = e ∙ ap measures_number read

module _ (bytes : List ℕ) (m : Measures) (read : m ≡ measures_at bytes) (r t : Bool) where
  found : (f : Measures → Bool) → r ≡ f m → r ≡ t → f (measures_at bytes) ≡ t
  found f e h = sym (e ∙ ap f read) ∙ h

  pub size_found : (size : ℕ) → r ≡ not (eqb size (cells m)) → r ≡ t → not (eqb size (cells (measures_at bytes))) ≡ t
  size_found size = found (λ n. not (eqb size (cells n)))

  pub room_found : r ≡ ltb (length bytes) (size_of m) → r ≡ t → ltb (length bytes) (size_of (measures_at bytes)) ≡ t
  room_found = found (λ n. ltb (length bytes) (size_of n))

  pub marks_found : r ≡ any (bad_mark m (marks_in m bytes)) (sectors m * 4) → r ≡ t → any (bad_mark (measures_at bytes) (marks_in (measures_at bytes) bytes)) (sectors (measures_at bytes) * 4) ≡ t
  marks_found = found (λ n. any (bad_mark n (marks_in n bytes)) (sectors n * 4))
