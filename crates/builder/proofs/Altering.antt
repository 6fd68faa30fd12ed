-- Facts for the proofs of changing: sides that exceed, the hall after a change, and what is answered and left in the store.
use mathlib.Core.Path.{◌≡◌, refl, sym, ap, ◌∙◌}
use mathlib.Core.Bool.{Bool, true, false, not, ◌&&◌}
use mathlib.Core.List.{List, [], ◌∷◌}
use Prim.Native.Nat.{ℕ, zero, suc, ◌+◌, ◌*◌, ◌/◌, ◌%◌, ◌≤◌, ◌<◌}
use native.Mathlib.Nat.{not-suc-le-zero, le_of_suc-le-suc}
use native.Mathlib.Omega.{arith}
use native.Mathlib.Decide.{dec_lt}
use lib.Dec.{ltb}
use lib.ListN.{length, get_or, set}
use Rattle.laws.specs.Fold.{pick, bit}
use Rattle.std.specs.Prelude.{Option, Some, None, if◌then◌else◌}
use Rattle.laws.specs.Options.{some_if}
use Rattle.laws.specs.Ladder.{refuse}
use Rattle.laws.specs.Table.{tabulate, length_tabulate, tabulate_at}
use Rattle.model.specs.declared.Measures.{Measures}
use Rattle.model.specs.declared.Side.{Side}
use Rattle.model.specs.Cells.{side_number, side_at, opposite}
use Rattle.model.specs.Sectors.{sectors, sector_of, beyond, has_beyond}
use Rattle.model.specs.SectorSides.{beyond_low}
use Rattle.model.specs.Accepted.{Accepted}
use Rattle.model.specs.Windows.{is_open, begins, begun, bits, open_place, mark_of, window_count}
use Rattle.model.specs.WindowRuns.{bits_small}
use Rattle.model.specs.Store.{measures_at, marks_in, hall_in, decode, written}
use Rattle.model.specs.Change.{is_nearby, rescaled, remarked, changed, exceeds_at, exceeds}
use Rattle.model.specs.Calls.{if_accepted}
use Rattle.store.specs.Layout.{hall_of, hall_read}
use Rattle.builder.specs.Marks.{Small}
use Rattle.builder.specs.Parts.{Changeable, altered_number, altered_into}

-- ---- sides that exceed
none_past : (l : List ℕ) (k : ℕ) → length l ≤ k → 0 ≡ get_or l k 0
none_past [] k h = refl
none_past (x ∷ l) zero h = absurd (not-suc-le-zero h)
none_past (x ∷ l) (suc k) h = none_past l k (le_of_suc-le-suc h)

-- windows of a mark of the list, and of none past it
pub windows_some : {marks : List ℕ} (k : ℕ) {mark r : ℕ} → Small marks → mark ≡ get_or marks k 0 → (mark ≤ 1023 → r ≡ window_count mark) → r ≡ window_count (get_or marks k 0)
windows_some {marks} k s e w = rw (← e) (w (rw e (s.small k)))

pub windows_none : (marks : List ℕ) (k : ℕ) {r : ℕ} → length marks ≤ k → r ≡ 0 → r ≡ window_count (get_or marks k 0)
unfolding window_count begun begins is_open bit
windows_none marks k h e = rw (← none_past marks k h) e

beyond_few : {m : Measures} (s : ℕ) (side : Side) {other : ℕ} → Accepted m → s ≤ 10000 → other ≡ beyond m s side → other ≤ 20000
beyond_few {m} s side f l e = omega (arith, f.few_rows, beyond_low m s side)

pub few_there : (m : Measures) (s : ℕ) (side : Side) {o : Option ℕ} {other : ℕ} → Accepted m → s ≤ 10000 → o ≡ Some other → o ≡ (if has_beyond m s side then Some (beyond m s side) else None) → other ≤ 20000
few_there m s side f l e o = beyond_few s side f l (some_if (has_beyond m s side) (beyond m s side) (sym e ∙ o)).1

pub exceeds_by : (m : Measures) (marks : List ℕ) (t s : ℕ) (side : Side) {o : Option ℕ} {r : Bool} → is_nearby m t s ≡ true → o ≡ (if has_beyond m s side then Some (beyond m s side) else None)
    → (o ≡ None → r ≡ false)
    → ((other : ℕ) → o ≡ Some other → r ≡ not (is_nearby m t other) && ltb (window_count (get_or marks (other * 4 + side_number (opposite side)) 0)) (window_count (get_or marks (s * 4 + side_number side) 0)))
    → r ≡ exceeds_at (hall_of m [] [] marks) t s side
unfolding exceeds_at
exceeds_by m marks t s side {o} {r} fresh e none some = rw fresh (go (has_beyond m s side) e)
  where
    go : (b : Bool) → o ≡ (if b then Some (beyond m s side) else None)
        → r ≡ b && true && not (is_nearby m t (beyond m s side)) && ltb (window_count (get_or marks (beyond m s side * 4 + side_number (opposite side)) 0)) (window_count (get_or marks (s * 4 + side_number side) 0))
    go true e = some (beyond m s side) e
    go false e = none e

-- ---- the hall after a change
module _ {m : Measures} (st : List ℕ) (read : m ≡ measures_at st) where
  pub changed_by : (n cost : ℕ) {b s s' k k' : List ℕ} → b ≡ (hall_in m st).base → s ≡ (hall_in m st).scaled → s' ≡ rescaled m (set b n cost) (n / 100) s
      → k ≡ marks_in m st → k' ≡ remarked m s' (n / 100) k → hall_of m (set b n cost) s' k' ≡ changed (decode st) n cost
  unfolding changed
  changed_by n cost {b} {s} {s'} {k} {k'} eb es es' ek ek' =
      let base : set b n cost ≡ set (hall_in m st).base n cost = ap (λ l. set l n cost) eb in
      let new : s' ≡ rescaled m (set (hall_in m st).base n cost) (n / 100) (hall_in m st).scaled = es' ∙ rw (base, es) in
      let marks : k' ≡ remarked m (rescaled m (set (hall_in m st).base n cost) (n / 100) (hall_in m st).scaled) (n / 100) (marks_in m st) = ek' ∙ rw (new, ek) in
      let done : hall_of m (set b n cost) s' k' ≡ changed (hall_in m st) n cost = λ i. record { measures = m; base = base i; scaled = new i; marks = marks i } in
      done ∙ ap (λ h. changed h n cost) (hall_read st read)

-- marks of ten bits
mark_small : (m : Measures) (costs : List ℕ) (s : ℕ) (side : Side) → mark_of m costs s side ≤ 1023
unfolding mark_of
mark_small m costs s side = go (has_beyond m s side)
  where
    go : (b : Bool) → pick b (bits (open_place m costs s side) 10) 0 ≤ 1023
    go true = omega (arith, bits_small (open_place m costs s side) 10)
    go false = omega arith

remarked_small : (m : Measures) (costs : List ℕ) (t : ℕ) (marks : List ℕ) → ((k : ℕ) → k < sectors m * 4 → get_or marks k 0 ≤ 1023) → Small (remarked m costs t marks)
unfolding remarked
remarked_small m costs t marks old = record { small = λ k. go k (dec_lt k (sectors m * 4)) }
  where
    rule : ℕ → ℕ
    rule k = pick (is_nearby m t (k / 4)) (mark_of m costs (k / 4) (side_at (k % 4))) (get_or marks k 0)

    one : (b : Bool) (x y : ℕ) → x ≤ 1023 → y ≤ 1023 → pick b x y ≤ 1023
    one true x y p q = p
    one false x y p q = q

    go : (k : ℕ) → Dec (k < sectors m * 4) → get_or (tabulate rule (sectors m * 4) 0) k 0 ≤ 1023
    go k (yes l) =
        rw (tabulate_at rule (sectors m * 4) k 0 l) (one (is_nearby m t (k / 4)) (mark_of m costs (k / 4) (side_at (k % 4))) (get_or marks k 0) (mark_small m costs (k / 4) (side_at (k % 4))) (old k l))
    go k (no l) = rw (← none_past (tabulate rule (sectors m * 4) 0) k (rw (length_tabulate rule (sectors m * 4) 0) (omega arith))) (omega arith)

-- ---- what is answered, and left in the store
module _ (m : Measures) (st : List ℕ) (n cost : ℕ) (base costs marks : List ℕ) (is : hall_of m base costs marks ≡ changed (decode st) n cost) where
  pub small_changed : Changeable m st n → Small marks
  unfolding changed decode
  small_changed c =
      let e : marks ≡ (changed (decode st) n cost).marks = ap (λ h. h.marks) is in
      rw e (remarked_small (measures_at st) _ (sector_of n) (marks_in (measures_at st) st) c.stored.small_marks)

  module _ {more : Bool} (found : more ≡ exceeds (hall_of m [] [] marks) (sector_of n)) where
    number : altered_number st n cost ≡ refuse more 22 0
    unfolding altered_number exceeds exceeds_at
    number = rw (← is, found)

    pub altered_22 : more ≡ true → 22 ≡ altered_number st n cost
    unfolding refuse
    altered_22 h = sym (number ∙ rw h)

    pub altered_0 : more ≡ false → 0 ≡ altered_number st n cost
    unfolding refuse
    altered_0 h = sym (number ∙ rw h)

    pub altered_kept : more ≡ true → st ≡ altered_into st n cost
    unfolding altered_into if_accepted
    altered_kept h = rw (← altered_22 h)

    pub altered_written : {out : List ℕ} → more ≡ false → out ≡ written (hall_of m base costs marks) st → out ≡ altered_into st n cost
    unfolding altered_into if_accepted
    altered_written h o = rw (← altered_0 h) (o ∙ ap (λ h. written h st) is)
