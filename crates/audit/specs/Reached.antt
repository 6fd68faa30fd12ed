-- A REACHED HALL: after build and any list of calls the store is what build of the account leaves.
use Rattle.std.specs.Prelude.{ℕ, ◌<◌, ◌≡◌, ◌≢◌, Bool, true, false, ◌&&◌, List, [], ◌∷◌, ◌++◌, ltb, eqb, set}
use Rattle.std.proofs.Common.{arith, sym, ap, ◌∙◌, true≢false, length-set, ltb-true, ltb-false, eqb-true, eq-eqb}
use Rattle.std.proofs.Math.Path.{refl}
use Rattle.laws.specs.Fold.{pick, pick_keeps}
use Rattle.model.specs.declared.Measures.{Measures}
use Rattle.model.specs.Sectors.{cells}
use Rattle.model.specs.Account.{Call, change, route, Account, opening, fed, account_after}
use Rattle.model.specs.Store.{decode, written}
use Rattle.model.specs.Calls.{if_accepted, build_number, built, build_into, check_number, change_number, change_into, store_after_call, store_after}
use Rattle.audit.specs.FreshMarks.{Fresh}
use Rattle.audit.specs.BuiltStore.{Accepts, accepts, fresh, decoded, checks}
use Rattle.audit.specs.StoreAfter.{changed_one, refused_off, refused_leaves}

-- ---- the definition
-- Build of the account is accepted in the store `lent`, and the store `st` is what it leaves there, byte for byte: the hall of the account, and past its size what was lent.
pub record Reached (a : Account) (lent st : List ℕ) : Type 0 where
  pub accepted : build_number a.measures a.base lent ≡ 0
  pub is_built : st ≡ build_into a.measures a.base lent

-- "the list has an accepted change only at scale 1": wherever a change stands in the list, if it is accepted on the store that it is made on, the scale is 1
abbrev pub ChangesOnlyAtScale1 : Measures → List ℕ → List ℕ → List Call → Type 0
ChangesOnlyAtScale1 m base lent list =
    (before : List Call) (n cost : ℕ) (rest : List Call) → list ≡ before ++ (change n cost ∷ rest) → change_number (store_after (build_into m base lent) before) n cost ≡ 0 → m.scale ≡ 1

-- ---- what holds of a reached hall
module _ {a : Account} {lent st : List ℕ} (r : Reached a lent st) where
  stored : st ≡ written (built a.measures a.base) lent
  unfolding build_into if_accepted
  stored = r.is_built ∙ rw r.accepted

  ok : Accepts a.measures a.base lent
  ok = accepts a.measures a.base lent r.accepted

  -- the hall in the store is the one that build makes
  pub reached_hall : decode st ≡ built a.measures a.base
  reached_hall = rw stored (decoded a.measures a.base lent ok)

  -- the store passes the check
  pub reached_passes : check_number st ≡ 0
  reached_passes = rw stored (checks a.measures a.base lent ok)

  pub reached_fresh : Fresh (built a.measures a.base)
  reached_fresh = fresh a.measures a.base lent ok

-- ---- one call
fed_measures : (a : Account) (c : Call) → (fed a c).measures ≡ a.measures
unfolding fed
fed_measures a (change n v) =
    pick_keeps (λ (b : Account). b.measures ≡ a.measures) (eqb a.measures.scale 1 && ltb n (cells a.measures)) (opening a.measures (set a.base n v)) a refl refl
fed_measures a (route s g r) = refl

-- build looks at no cost
put_accepted : (m : Measures) (base lent : List ℕ) (n v : ℕ) → build_number m base lent ≡ 0 → build_number m (set base n v) lent ≡ 0
unfolding build_number
put_accepted m base lent n v e = rw (length-set base n v) e

module _ (a : Account) (lent st : List ℕ) (r : Reached a lent st) where
  -- at scale 1 a change on the floor gives the build of the account that it is put into
  put_reached : (n v : ℕ) → a.measures.scale ≡ 1 → n < cells a.measures → Reached (opening a.measures (set a.base n v)) lent (change_into st n v)
  unfolding build_into if_accepted
  put_reached n v one on =
      let number = put_accepted a.measures a.base lent n v r.accepted in
      record { accepted = number; is_built = rw (number, stored r) (changed_one a.measures a.base lent (ok r) n v one on) }

  -- any other change is refused
  change_reached : (n v : ℕ) → (change_number st n v ≡ 0 → a.measures.scale ≡ 1) → Reached (fed a (change n v)) lent (change_into st n v)
  unfolding fed
  change_reached n v only = go (eqb a.measures.scale 1) (ltb n (cells a.measures)) refl refl
    where
      left : change_number st n v ≢ 0 → Reached a lent (change_into st n v)
      left refused = rw (refused_leaves st n v refused) r

      go : (s t : Bool) → eqb a.measures.scale 1 ≡ s → ltb n (cells a.measures) ≡ t → Reached (pick (s && t) (opening a.measures (set a.base n v)) a) lent (change_into st n v)
      go true true e l = put_reached n v (eqb-true a.measures.scale 1 e) (ltb-true n (cells a.measures) l)
      go true false e l =
          let number : change_number st n v ≡ 21 = rw (stored r) (refused_off a.measures a.base lent (ok r) n v (ltb-false n (cells a.measures) l)) in
          left (λ z. omega arith)
      go false t e l = left (λ z. true≢false (sym (eq-eqb a.measures.scale 1 (only z)) ∙ e))

  call_reached : (c : Call) → ((n v : ℕ) → c ≡ change n v → change_number st n v ≡ 0 → a.measures.scale ≡ 1) → Reached (fed a c) lent (store_after_call st c)
  unfolding store_after_call fed
  call_reached (change n v) only = change_reached n v (only n v refl)
  call_reached (route s g room) only = r

-- ---- any list of calls
calls_reached : (lent : List ℕ) (list : List Call) (a : Account) (st : List ℕ) → Reached a lent st
    → ((before : List Call) (n v : ℕ) (rest : List Call) → list ≡ before ++ (change n v ∷ rest) → change_number (store_after st before) n v ≡ 0 → a.measures.scale ≡ 1)
    → Reached (account_after a list) lent (store_after st list)
unfolding account_after store_after
calls_reached lent [] a st r only = r
calls_reached lent (c ∷ list) a st r only =
    calls_reached lent list (fed a c) (store_after_call st c)
    (call_reached a lent st r c (λ n v e. only [] n v list (ap (λ (d : Call). d ∷ list) e)))
    (λ before n v rest e k.
    ap (λ (m : Measures). m.scale) (fed_measures a c) ∙ only (c ∷ before) n v rest (ap (λ (l : List Call). c ∷ l) e) k)

-- THE THEOREM
pub reached : (m : Measures) (base lent : List ℕ) → build_number m base lent ≡ 0
    → (list : List Call) → ChangesOnlyAtScale1 m base lent list
    → Reached (account_after (opening m base) list) lent (store_after (build_into m base lent) list)
reached m base lent accepted list only = calls_reached lent list (opening m base) (build_into m base lent) (record { accepted = accepted; is_built = refl }) only
