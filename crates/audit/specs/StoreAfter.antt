-- A built store after one change: at scale 1 it is what build of the altered base costs writes, and a refused change leaves it.
use Rattle.std.specs.Prelude.{ℕ, zero, suc, ◌≤◌, ◌<◌, ◌≡◌, refl, ◌≢◌, List, ◌++◌, set, drop}
use Rattle.std.proofs.Common.{ap, ◌∙◌, length-set, drop_at}
use borrow.Author.Tests.{le-leb, lt-leb}
use Rattle.laws.specs.Ladder.{refuse}
use Rattle.model.specs.declared.Measures.{Measures}
use Rattle.model.specs.Sectors.{cells, sector_of}
use Rattle.model.specs.Halls.{Hall}
use Rattle.model.specs.Change.{changed}
use Rattle.model.specs.Store.{size_of, decode, encode, written}
use Rattle.model.specs.StoreLayout.{Laid, length_encode}
use Rattle.model.specs.Calls.{or_else, if_accepted, built, alter_number, change_number, change_into}
use Rattle.audit.specs.ChangeAtOne.{changed_built, built_fresh, fresh_exceeds}
use Rattle.audit.specs.BuiltStore.{Accepts, laid, decoded, checks}

-- a hall written over another of the same measures
written_over : (g h : Hall) (st : List ℕ) → Laid g → g.measures ≡ h.measures → written h (written g st) ≡ written h st
unfolding written
written_over g h st laid e =
    ap (λ (rest : List ℕ). encode h ++ rest)
    (drop_at (encode g) (drop (size_of g.measures) st) (size_of h.measures) (length_encode g laid ∙ ap size_of e) ∙ ap (λ (m : Measures). drop (size_of m) st) e)

measures_same : (m : Measures) (a b : List ℕ) → (built m a).measures ≡ (built m b).measures
unfolding built
measures_same m a b = refl

module _ (m : Measures) (base st : List ℕ) (ok : Accepts m base st) (n v : ℕ) where
  -- it goes by the hall
  change_is : change_number (written (built m base) st) n v ≡ alter_number (built m base) n (changed (built m base) n v)
  unfolding change_number or_else
  change_is = rw (checks m base st ok, decoded m base st ok)

  -- at scale 1 it is accepted where the number lies on the floor, and gives the build of the altered base costs
  module _ (one : m.scale ≡ 1) (on : n < cells m) where
    accepted_one : change_number (written (built m base) st) n v ≡ 0
    unfolding alter_number refuse built
    accepted_one =
        let fresh = built_fresh m (set base n v) ok.measures.few_sectors (length-set base n v ∙ ok.long) in
        change_is ∙ rw (changed_built m base n v one ok.long on, lt-leb (cells m) n on, fresh_exceeds (built m (set base n v)) fresh (sector_of n))

    pub changed_one : change_into (written (built m base) st) n v ≡ written (built m (set base n v)) st
    unfolding change_into if_accepted
    changed_one =
        rw (accepted_one, decoded m base st ok, changed_built m base n v one ok.long on)
        (written_over (built m base) (built m (set base n v)) st (laid m base st ok) (measures_same m base (set base n v)))

  -- off the floor it is refused
  pub refused_off : cells m ≤ n → change_number (written (built m base) st) n v ≡ 21
  unfolding alter_number refuse built
  refused_off off = change_is ∙ rw (le-leb (cells m) n off)

-- a refused change leaves the store
pub refused_leaves : (st : List ℕ) (n v : ℕ) → change_number st n v ≢ 0 → change_into st n v ≡ st
unfolding change_into if_accepted
refused_leaves st n v e = go (change_number st n v) e
  where
    go : (k : ℕ) → k ≢ 0 → if_accepted k (written (changed (decode st) n v) st) st ≡ st
    go zero d = absurd (d refl)
    go (suc k) d = refl
