-- 02, request 2: a floor that was written as a file, read and built again has the same file.
use Rattle.std.specs.Prelude.{ℕ, ◌≤◌, ◌≡◌, refl, List, length}
use Rattle.std.proofs.Common.{ap, le-ltb, eq-eqb}
use Rattle.laws.specs.Ladder.{refuse}
use Rattle.model.specs.declared.Measures.{Measures}
use Rattle.model.specs.Sectors.{cells}
use Rattle.model.specs.Accepted.{good_sectors, good_scale}
use Rattle.model.specs.Halls.{Hall}
use Rattle.model.specs.Store.{measures_at, size_of, decode, file_of, file_in}
use Rattle.model.specs.StoreLayout.{decode_laid}
use Rattle.model.specs.Calls.{build_number, built, build_into, check_number, read_into}
use Rattle.model.specs.Checked.{checked}
use Rattle.model.specs.FileWritten.{reads_back, file_for}
use Rattle.audit.specs.BuiltStore.{Accepts}
use Rattle.audit.specs.Reached.{Reached, reached_hall, reached_passes}

-- ---- what build leaves passes the check, and its file is that of the costs it was built from
module _ (m : Measures) (base lent : List ℕ) (a : Accepts m base lent) where
  pub build_accepted : build_number m base lent ≡ 0
  unfolding build_number refuse
  build_accepted = rw (good_sectors a.measures, good_scale a.measures, eq-eqb (length base) (cells m) a.long, le-ltb (length lent) (size_of m) a.room)

  reached : Reached (record { measures = m; base = base }) lent (build_into m base lent)
  reached = record { accepted = build_accepted; is_built = refl }

  pub built_passes : check_number (build_into m base lent) ≡ 0
  built_passes = reached_passes reached

  pub built_file : file_in (build_into m base lent) ≡ file_of m base
  unfolding decode built
  built_file =
      let h : decode (build_into m base lent) ≡ built m base = reached_hall reached in
      rw (ap (λ (x : Hall). x.measures) h, ap (λ (x : Hall). x.base) h)

-- ---- written, read and built again
-- the store that build leaves in `lent`, from what the file of `st` gives a list
abbrev pub again : List ℕ → List ℕ → List ℕ → List ℕ
again st list lent = build_into (measures_at (file_in st)) (read_into (file_in st) list) lent

pub record SameAgain (st list lent : List ℕ) : Type 0 where
  pub accepted : build_number (measures_at (file_in st)) (read_into (file_in st) list) lent ≡ 0
  pub passes : check_number (again st list lent) ≡ 0
  pub same : file_in (again st list lent) ≡ file_in st

-- for every store that passes the check, a list of the right length and a store with room
pub built_again : (st list lent : List ℕ) → check_number st ≡ 0 → length list ≡ cells (measures_at st) → size_of (measures_at st) ≤ length lent → SameAgain st list lent
unfolding decode
built_again st list lent e right room = record { accepted = rw (m_is, base_is) (build_accepted m base lent ok); passes = rw (m_is, base_is) (built_passes m base lent ok); same = rw (m_is, base_is) (built_file m base lent ok) }
  where
    m : Measures
    m = measures_at st

    base : List ℕ
    base = (decode st).base

    m_is : measures_at (file_in st) ≡ m
    m_is = (file_for m base).measures

    base_is : read_into (file_in st) list ≡ base
    base_is = (reads_back st e list right).1

    ok : Accepts m base lent
    ok = record { measures = (checked st e).measures; long = (decode_laid st (checked st e).room).base_cells; room = room }
