-- The moves between a cell and the portals of its sector, as one list by place; by it go the start portals, the end portals, leg and the last moves.
use Rattle.std.specs.Prelude.{if◌then◌else◌, Option, Some, None, is_some, IsSome, ℕ, ◌≤◌, ◌<◌, ◌≡◌, ◌⊎◌, Bool, ◌&&◌, List, length, get_or}
use Rattle.std.proofs.Common.{arith, sym, ap, ◌∙◌, inl, inr, ext_get_or}
use Rattle.std.proofs.Math.Path.{refl}
use Rattle.std.proofs.Math.Bool.{true, false}
use Rattle.std.proofs.Math.Dec.{ltb}
use borrow.Author.Tests.{ltb-true, lt-ltb, le-ltb, eq-eqb, ne_eqb}
use Rattle.laws.specs.Fold.{pick}
use Rattle.laws.specs.Search.{both}
use Rattle.laws.specs.Graph.{below_or}
use Rattle.laws.specs.Options.{some_if}
use Rattle.laws.specs.Table.{tabulate, length_tabulate, tabulate_at, table_at}
use Rattle.model.specs.Sectors.{sector_cells, sector_of, place_of, costs_of}
use Rattle.model.specs.Moves.{moves, moves_to, joined, apart}
use Rattle.model.specs.MovesFewest.{joined_back, moves_settled}
use Rattle.model.specs.Halls.{Hall}
use Rattle.model.specs.Portals.{sector_portals, place_portal, is_portal, midpoint, mid_cell}
use Rattle.moves.specs.Levels.{moves_or_none}
use Rattle.model.specs.PortalCrossings.{Fits, mid_low, mid_sector, mid_place}

-- the index of a portal's midpoint, or 100
unfoldable pub mid_of : Hall → ℕ → ℕ
mid_of h p = pick (is_portal h p) (midpoint h p) sector_cells

unfoldable pub sector_mids : Hall → ℕ → List ℕ
sector_mids h s = tabulate (λ c. mid_of h (place_portal s c)) sector_portals 0

-- the moves to a midpoint, by the moves to the cells of its sector
unfoldable pub near_by : List ℕ → ℕ → ℕ
near_by from mid = pick (ltb mid sector_cells) (get_or from mid 0) apart

-- from cell x to the portals of its sector
unfoldable pub portal_moves : Hall → ℕ → List (Option ℕ)
portal_moves h x = tabulate (λ c. moves_or_none (near_by (moves (costs_of h.scaled (sector_of x)) (place_of x)) (mid_of h (place_portal (sector_of x) c)))) sector_portals 0

-- in the cases that code meets
pub mid_some : (h : Hall) (p : ℕ) {n : ℕ} → is_portal h p ≡ true → n ≡ midpoint h p → n ≡ mid_of h p
unfolding mid_of
mid_some h p e f = rw e f

pub mid_none : (h : Hall) (p : ℕ) → is_portal h p ≡ false → sector_cells ≡ mid_of h p
unfolding mid_of
mid_none h p e = rw e refl

pub near_none : (from : List ℕ) (mid : ℕ) → sector_cells ≤ mid → apart ≡ near_by from mid
unfolding near_by
near_none from mid l = rw (le-ltb mid sector_cells l)

pub near_some : (from : List ℕ) (mid : ℕ) {n : ℕ} → mid < sector_cells → n ≡ mid → get_or from n 0 ≡ near_by from mid
unfolding near_by
near_some from mid l e = rw (lt-ltb mid sector_cells l, e)

-- the same as code answers it
pub answer_none : (from : List ℕ) (mid : ℕ) → sector_cells ≤ mid → None ≡ moves_or_none (near_by from mid)
answer_none from mid l = rw (← near_none from mid l) refl

pub answer_some : (from : List ℕ) (mid : ℕ) → mid < sector_cells → moves_or_none (get_or from mid 0) ≡ moves_or_none (near_by from mid)
answer_some from mid l = ap moves_or_none (near_some from mid l refl)

pub other_sector : (costs : List ℕ) (x y : ℕ) → (sector_of x ≡ sector_of y → ⊥) → apart ≡ pick (joined costs x y) (moves_to costs x y) apart
unfolding joined
other_sector costs x y n = rw (ne_eqb (sector_of x) (sector_of y) n) refl

pub same_sector : (costs : List ℕ) (x y : ℕ) {from : List ℕ} → sector_of x ≡ sector_of y → from ≡ moves (costs_of costs (sector_of x)) (place_of x)
    → get_or from (place_of y) 0 ≡ pick (joined costs x y) (moves_to costs x y) apart
unfolding joined moves_to
same_sector costs x y {from} e f = rw (f, eq-eqb (sector_of x) (sector_of y) e) (go (below_or (get_or d (place_of y) 0) apart))
  where
    d : List ℕ
    d = moves (costs_of costs (sector_of x)) (place_of x)

    cap : get_or d (place_of y) 0 ≤ apart
    cap = (moves_settled (costs_of costs (sector_of x)) (place_of x) (omega arith)).rough.capped (place_of y) (omega arith)

    go : (get_or d (place_of y) 0 < apart) ⊎ (apart ≤ get_or d (place_of y) 0) → get_or d (place_of y) 0 ≡ pick (ltb (get_or d (place_of y) 0) apart) (get_or d (place_of y) 0) apart
    go (inl l) = rw (lt-ltb (get_or d (place_of y) 0) apart l)
    go (inr l) = rw (le-ltb (get_or d (place_of y) 0) apart l) (omega (arith, cap))

pub answer_other : (costs : List ℕ) (x y : ℕ) → (sector_of x ≡ sector_of y → ⊥) → None ≡ (if joined costs x y then Some (moves_to costs x y) else None)
unfolding joined
answer_other costs x y n = rw (ne_eqb (sector_of x) (sector_of y) n) refl

pub answer_same : (costs : List ℕ) (x y : ℕ) {from : List ℕ} → sector_of x ≡ sector_of y → from ≡ moves (costs_of costs (sector_of x)) (place_of x)
    → moves_or_none (get_or from (place_of y) 0) ≡ (if joined costs x y then Some (moves_to costs x y) else None)
unfolding joined moves_to
answer_same costs x y {from} e f = rw (f, eq-eqb (sector_of x) (sector_of y) e) refl

-- entries by the moves of the sector and its midpoints
pub near_list : (h : Hall) (x : ℕ) {from mids : List ℕ} {near : List (Option ℕ)} → from ≡ moves (costs_of h.scaled (sector_of x)) (place_of x) → mids ≡ sector_mids h (sector_of x)
    → length near ≡ sector_portals → ((k : ℕ) → k < sector_portals → get_or near k None ≡ moves_or_none (near_by from (get_or mids k 0))) → near ≡ portal_moves h x
unfolding sector_mids portal_moves
near_list h x {from} {mids} {near} e f l at =
    ext_get_or None near (tabulate rule sector_portals 0) (l ∙ sym (length_tabulate rule sector_portals 0)) (λ k b. entry k (omega arith) ∙ sym (tabulate_at rule sector_portals k None (omega arith)))
  where
    rule : ℕ → Option ℕ
    rule c = moves_or_none (near_by (moves (costs_of h.scaled (sector_of x)) (place_of x)) (mid_of h (place_portal (sector_of x) c)))

    entry : (k : ℕ) → k < sector_portals → get_or near k None ≡ rule k
    entry k b = at k b ∙ rw (e, table_at (λ c. mid_of h (place_portal (sector_of x) c)) sector_portals f k 0 b) refl

-- "joined" goes both ways
joined_same : (costs : List ℕ) (x y : ℕ) → joined costs y x ≡ joined costs x y
joined_same costs x y = go (joined costs x y) (joined costs y x) refl refl
  where
    go : (a b : Bool) → joined costs x y ≡ a → joined costs y x ≡ b → b ≡ a
    go true true e f = refl
    go true false e f = sym f ∙ (joined_back costs x y e).0
    go false true e f = sym (joined_back costs y x f).0 ∙ e
    go false false e f = refl

some_test : (t : Bool) (n : ℕ) → is_some (if t then Some n else None) ≡ t
some_test true n = refl
some_test false n = refl

-- ---- what the entry of place c says
module _ (h : Hall) (fits : Fits h) (x c : ℕ) (low : c < sector_portals) where
  abbrev number : ℕ
  number = place_portal (sector_of x) c

  entry_is : get_or (portal_moves h x) c None ≡ moves_or_none (near_by (moves (costs_of h.scaled (sector_of x)) (place_of x)) (mid_of h number))
  unfolding portal_moves
  entry_is = tabulate_at (λ d. moves_or_none (near_by (moves (costs_of h.scaled (sector_of x)) (place_of x)) (mid_of h (place_portal (sector_of x) d)))) sector_portals c None low

  none_there : is_portal h number ≡ false → get_or (portal_moves h x) c None ≡ None
  unfolding mid_of near_by
  none_there e = entry_is ∙ rw e refl

  -- the midpoint lies in the sector, and the entry has the moves to it
  record There : Type 0 where
    sector : sector_of x ≡ sector_of (mid_cell h number)
    moved : get_or (portal_moves h x) c None ≡ moves_or_none (moves_to h.scaled x (mid_cell h number))

  there : is_portal h number ≡ true → There
  unfolding mid_of near_by moves_to
  there e =
      record { sector = omega (arith, mid_sector h fits number e); moved = entry_is ∙ rw (e, lt-ltb (midpoint h number) sector_cells (mid_low h fits number e), mid_place h fits number e) refl }

  -- THE STARTS AND ENDS: a number's portal is joined to the cell exactly where the entry has moves
  pub start_test : (is_portal h number && joined h.scaled x (mid_cell h number)) ≡ is_some (get_or (portal_moves h x) c None)
  unfolding joined
  start_test = go (is_portal h number) refl
    where
      go : (t : Bool) → is_portal h number ≡ t → (t && joined h.scaled x (mid_cell h number)) ≡ is_some (get_or (portal_moves h x) c None)
      go false e = rw (none_there e) refl
      go true e = let t = there e in rw (eq-eqb (sector_of x) (sector_of (mid_cell h number)) t.sector, t.moved) (sym (some_test (ltb (moves_to h.scaled x (mid_cell h number)) apart) (moves_to h.scaled x (mid_cell h number))))

  pub end_test : (is_portal h number && joined h.scaled (mid_cell h number) x) ≡ is_some (get_or (portal_moves h x) c None)
  end_test = rw (joined_same h.scaled x (mid_cell h number)) start_test

  -- and then it has the moves, from the cell and to it
  pub near_portal : IsSome (get_or (portal_moves h x) c None) → is_portal h number ≡ true
  near_portal l = (both (is_portal h number) (joined h.scaled x (mid_cell h number)) (start_test ∙ l)).0

  pub leg_moves : {n : ℕ} → Some n ≡ get_or (portal_moves h x) c None → moves_to h.scaled x (mid_cell h number) ≡ n
  leg_moves {n} e =
      let t = there (near_portal (ap is_some (sym e))) in
      sym (some_if (ltb (moves_to h.scaled x (mid_cell h number)) apart) (moves_to h.scaled x (mid_cell h number)) (e ∙ t.moved)).1

  pub near_low : {n : ℕ} → Some n ≡ get_or (portal_moves h x) c None → n < apart
  near_low {n} e =
      let t = there (near_portal (ap is_some (sym e))) in
      let some = some_if (ltb (moves_to h.scaled x (mid_cell h number)) apart) (moves_to h.scaled x (mid_cell h number)) (e ∙ t.moved) in
      omega (arith, some.1, ltb-true (moves_to h.scaled x (mid_cell h number)) apart some.0)

  pub last_moves_lem : {n : ℕ} → Some n ≡ get_or (portal_moves h x) c None → moves_to h.scaled (mid_cell h number) x ≡ n
  last_moves_lem {n} e =
      let t = both (is_portal h number) (joined h.scaled x (mid_cell h number)) (start_test ∙ ap is_some (sym e)) in
      (joined_back h.scaled x (mid_cell h number) t.1).1 ∙ leg_moves e
