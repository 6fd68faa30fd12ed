-- Facts for the listing's proofs: a window's entry, and a list that begins with the entries of some windows.
use mathlib.Core.Path.{◌≡◌, refl, sym, ap, ◌∙◌}
use mathlib.Core.List.{List, [], ◌∷◌, ◌++◌, append_assoc, append-nil}
use Prim.Native.Nat.{ℕ, zero, suc, ◌+◌, ◌-◌, ◌*◌, ◌%◌, ◌≤◌, ◌<◌}
use native.Mathlib.Nat.{add-zero}
use native.Mathlib.Numerals.{add-one}
use native.Mathlib.Omega.{arith}
use mir.Val.{Fits}
use mir.Syntax.{w64}
use lib.ListN.{length, get_or, take, drop, length-append, length-take, length-drop, drop_of_length-le}
use lib.Seq.{take_at, drop_at, drop-drop, take_all}
use borrow.Rule.Slice.PartMut.{put_mid}
use Rattle.std.specs.List.{sum_by}
use Rattle.laws.specs.Table.{tabulate, length_tabulate, tabulate_more}
use Rattle.model.specs.declared.PortalWindow.{PortalWindow}
use Rattle.model.specs.declared.Side.{Side}
use Rattle.model.specs.Cells.{side_number, side_at}
use Rattle.model.specs.Windows.{border, window_count, window_at, side_windows}
use Rattle.model.specs.WindowRuns.{window_run}
use Rattle.model.specs.Calls.{flat_windows}
use Rattle.portal.specs.declared.runs.OpenRun.{OpenRun}
use Rattle.portal.specs.Runs.{starts, places_of}
use Rattle.portal.proofs.AllMarks.{few_ones, count_is}
use Rattle.portal.specs.SectorWindows.{windows_by, FourMarks, over, length_by, few_by}

-- ---- an entry
module _ {mark j : ℕ} {run : OpenRun} (e : run ≡ places_of mark j) (m : mark ≤ 1023) (h : j < window_count mark) where
  pub first_inside : run.«first» < 10
  first_inside = let r = window_run mark (omega arith) j h in rw (ap (λ p. p.«first») e) (omega (arith, r.ordered, r.inside))

  pub last_inside : run.last < 10
  last_inside = rw (ap (λ p. p.last) e) (window_run mark (omega arith) j h).inside

pub ruleset inside = (first_inside, last_inside)

pub window_is : (side : Side) (mark j : ℕ) {run : OpenRun} {a z n k : ℕ} → run ≡ places_of mark j → a ≡ border side run.«first» → z ≡ border side run.last → k ≡ side_number side → n ≡ k
    → record { «first» = a; last = z; side = n } ≡ window_at side mark j
unfolding window_at
window_is side mark j e f g k n =
    let a = f ∙ ap (λ p. border side p.«first») e in
    let z = g ∙ ap (λ p. border side p.last) e in
    let s = n ∙ k in
    λ i. record { «first» = a i; last = z i; side = s i }

-- ---- the bytes of windows
flat_append : (ws vs : List PortalWindow) → flat_windows (ws ++ vs) ≡ flat_windows ws ++ flat_windows vs
unfolding flat_windows
flat_append [] vs = refl
flat_append (w ∷ ws) vs = ap (λ l. w.«first» ∷ w.last ∷ w.side ∷ l) (flat_append ws vs)

length_flat : (ws : List PortalWindow) → length (flat_windows ws) ≡ 3 * length ws
unfolding flat_windows
length_flat [] = refl
length_flat (w ∷ ws) = omega (arith, length_flat ws)

-- windows past those that a list begins with
over_more : (ws vs : List PortalWindow) (xs : List ℕ) (a : ℕ) → a ≡ 3 * length ws → take a (over ws xs) ++ over vs (drop a (over ws xs)) ≡ over (ws ++ vs) xs
over_more ws vs xs a e =
    let l : length (flat_windows ws) ≡ a = length_flat ws ∙ sym e in
    rw (take_at (flat_windows ws) (drop (length (flat_windows ws)) xs) a l, drop_at (flat_windows ws) (drop (length (flat_windows ws)) xs) a l, drop-drop, flat_append, length-append, append_assoc)

length_over : (ws : List PortalWindow) (xs : List ℕ) → 3 * length ws ≤ length xs → length (over ws xs) ≡ length xs
length_over ws xs h = simp (length-append, length-drop) (omega (arith, length_flat ws))

-- The invariant of a loop whose turn i leaves a list that begins with the windows f i.
pub record Filled (f : ℕ → List PortalWindow) (n i : ℕ) (xs t : List ℕ) : Type 0 where
  pub within : i ≤ n
  pub same : length t ≡ length xs
  pub is : t ≡ over (f i) xs

-- at a turn's end, where the windows vs were written past those of f i
filled_turn : {f : ℕ → List PortalWindow} {n i a : ℕ} {xs t last : List ℕ} (vs : List PortalWindow) → Filled f n i xs t → i < n → a ≡ 3 * length (f i) → f (i + 1) ≡ f i ++ vs
    → 3 * length (f (i + 1)) ≤ length xs
    → last ≡ over vs (take (length t - a) (drop a t)) → Filled f n (i + 1) xs (put_mid a (length t - a) t last)
filled_turn {f} {n} {i} {a} {xs} {t} {last} vs r l e g room came =
    let whole : take (length t - a) (drop a t) ≡ drop a t = take_all (length t - a) (drop a t) (simp length-drop (omega arith)) in
    let none : drop (length t - a) (drop a t) ≡ [] = drop_of_length-le (drop a t) {i = length t - a} (simp length-drop (omega arith)) in
    let now : put_mid a (length t - a) t last ≡ over (f (i + 1)) xs = rw (came, whole, none, append-nil, r.is, g) (over_more (f i) vs xs a e) in
    record { within = omega arith; same = ap length now ∙ length_over (f (i + 1)) xs room; is = now }

-- ---- the windows of a side, one after the other
abbrev windows_to : Side → ℕ → ℕ → List PortalWindow
windows_to side mark j = tabulate (window_at side mark) j 0

pub record SideFilled (side : Side) (mark count j : ℕ) (xs t : List ℕ) : Type 0 where
  pub counted : count ≡ window_count mark
  pub filled : Filled (windows_to side mark) (window_count mark) j xs t

pub side_none : {mark count : ℕ} (side : Side) (xs : List ℕ) → mark ≤ 1023 → (mark ≤ 1023 → count ≡ window_count mark) → SideFilled side mark count 0 xs xs
unfolding tabulate flat_windows
side_none side xs m c = record { counted = c m; filled = record { within = omega arith; same = refl; is = refl } }

pub side_turn : {side : Side} {mark count j : ℕ} {xs t last : List ℕ} {w : PortalWindow} → SideFilled side mark count j xs t → j < count → 3 * window_count mark ≤ length xs
    → w ≡ window_at side mark j → last ≡ over (w ∷ []) (take (length t - 3 * j) (drop (3 * j) t)) → SideFilled side mark count (j + 1) xs (put_mid (3 * j) (length t - 3 * j) t last)
side_turn {side} {mark} {count} {j} {xs} {t} {last} {w} r l room e came =
    let at : 3 * j ≡ 3 * length (windows_to side mark j) = ap (λ n. 3 * n) (sym (length_tabulate (window_at side mark) j 0)) in
    let more : windows_to side mark (j + 1) ≡ windows_to side mark j ++ (w ∷ []) = rw e (tabulate_more (window_at side mark) j) in
    let fits : 3 * length (windows_to side mark (j + 1)) ≤ length xs = rw (length_tabulate (window_at side mark) (j + 1) 0) (omega arith) in
    record { counted = r.counted; filled = filled_turn (w ∷ []) r.filled (omega arith) at more fits came }

pub side_end : {side : Side} {mark count j : ℕ} {xs t : List ℕ} → SideFilled side mark count j xs t → count ≤ j → t ≡ over (side_windows side mark) xs
unfolding side_windows
side_end {side} {mark} {count} {j} {xs} r l =
    let all : j ≡ window_count mark = omega arith in
    r.filled.is ∙ ap (λ n. over (windows_to side mark n) xs) all

pub ruleset siding = (side_none, side_turn, side_end)

-- ---- the windows of a sector, side by side
pub record SectorFilled (marks : List ℕ) (count k : ℕ) (xs t : List ℕ) : Type 0 where
  pub counted : count ≡ length (windows_by marks k)
  pub filled : Filled (windows_by marks) 4 k xs t

by_more : (marks : List ℕ) (k : ℕ) → windows_by marks (suc k) ≡ windows_by marks k ++ side_windows (side_at k) (get_or marks k 0)
unfolding windows_by
by_more marks k = refl

pub sector_none : (marks xs : List ℕ) → SectorFilled marks 0 0 xs xs
unfolding windows_by flat_windows
sector_none marks xs = record { counted = refl; filled = record { within = omega arith; same = refl; is = refl } }

-- the first sides have no more windows than all four
fewer : (marks : List ℕ) (k : ℕ) → k ≤ 4 → length (windows_by marks k) ≤ length (windows_by marks 4)
fewer marks k h = go (4 - k) k (omega arith)
  where
    go : (d k : ℕ) → k + d ≡ 4 → length (windows_by marks k) ≤ length (windows_by marks 4)
    go zero k e = rw (← e, add-zero) (omega arith)
    go (suc d) k e = omega (arith, length_by marks k, go d (suc k) (omega arith))

pub sector_start : {marks : List ℕ} {count k : ℕ} {xs t : List ℕ} → SectorFilled marks count k xs t → 3 * length (windows_by marks 4) ≤ length xs → 3 * count ≤ length t
sector_start {marks} {count} {k} r room = omega (arith, r.counted, r.filled.same, fewer marks k r.filled.within)

module _ {marks : List ℕ} {count k : ℕ} {xs t : List ℕ} (r : SectorFilled marks count k xs t) (l : k < 4) (room : 3 * length (windows_by marks 4) ≤ length xs) where
  -- with the windows of the next side there is room too
  next_fits : 3 * (count + window_count (get_or marks k 0)) ≤ length t
  next_fits = omega (arith, r.counted, r.filled.same, length_by marks k, fewer marks (suc k) (omega arith))

  pub sector_room : 3 * window_count (get_or marks k 0) ≤ length (take (length t - 3 * count) (drop (3 * count) t))
  sector_room = simp (length-take, length-drop) (omega (arith, next_fits))

  pub sector_turn : {n : ℕ} {last : List ℕ} {side : Side} → side ≡ side_at k → n ≡ window_count (get_or marks k 0)
      → last ≡ over (side_windows side (get_or marks k 0)) (take (length t - 3 * count) (drop (3 * count) t))
      → SectorFilled marks (count + n) (k + 1) xs (put_mid (3 * count) (length t - 3 * count) t last)
  sector_turn {n} {last} {side} e c came =
      let more : windows_by marks (k + 1) ≡ windows_by marks k ++ side_windows side (get_or marks k 0) = rw (add-one, e) (by_more marks k) in
      let longer : count + n ≡ length (windows_by marks (k + 1)) = rw add-one (omega (arith, r.counted, length_by marks k)) in
      let fits : 3 * length (windows_by marks (k + 1)) ≤ length xs = omega (arith, next_fits, r.filled.same) in
      record { counted = longer; filled = filled_turn (side_windows side (get_or marks k 0)) r.filled l (ap (λ n. 3 * n) r.counted) more fits came }

-- where the loop is left
module _ {marks : List ℕ} {count k : ℕ} {xs t : List ℕ} (r : SectorFilled marks count k xs t) (l : 4 ≤ k) where
  all_sides : k ≡ 4
  all_sides = omega (arith, r.filled.within)

  pub sector_end : t ≡ over (windows_by marks 4) xs
  sector_end = r.filled.is ∙ ap (λ n. over (windows_by marks n) xs) all_sides

  pub sector_count : count ≡ length (windows_by marks 4)
  sector_count = r.counted ∙ ap (λ n. length (windows_by marks n)) all_sides

pub four_small : {marks : List ℕ} → FourMarks marks → (k : ℕ) → k < 4 → get_or marks k 0 ≤ 1023
four_small f k l = f.small k l

pub sum_fits : {marks : List ℕ} {count k n : ℕ} {xs t : List ℕ} → SectorFilled marks count k xs t → FourMarks marks → k < 4 → n ≡ window_count (get_or marks k 0) → Fits w64 (count + n)
sum_fits {marks} {count} {k} r f l e = omega (arith, r.counted, few_by f (suc k) l, length_by marks k)

pub triple_fits : {marks : List ℕ} {count k : ℕ} {xs t : List ℕ} → SectorFilled marks count k xs t → FourMarks marks → Fits w64 (3 * count)
triple_fits {marks} {count} {k} r f = omega (arith, r.counted, r.filled.within, few_by f k r.filled.within)

pub ruleset filling = (sector_none, sector_room, sector_end, sector_count, four_small, sum_fits)

-- ---- how many windows a sector has
-- four marks, summed
module _ (marks : List ℕ) (four : length marks ≡ 4) where
  abbrev starts_at : ℕ → ℕ
  starts_at k = starts (get_or marks k 0)

  sum_four : sum_by starts marks ≡ starts_at 0 + starts_at 1 + starts_at 2 + starts_at 3
  sum_four = go marks four
    where
      go : (l : List ℕ) → length l ≡ 4 → sum_by starts l ≡ starts (get_or l 0 0) + starts (get_or l 1 0) + starts (get_or l 2 0) + starts (get_or l 3 0)
      go [] e = absurd (omega arith)
      go (a ∷ []) e = absurd (omega arith)
      go (a ∷ b ∷ []) e = absurd (omega arith)
      go (a ∷ b ∷ c ∷ []) e = absurd (omega arith)
      go (a ∷ b ∷ c ∷ d ∷ []) e = omega arith
      go (a ∷ b ∷ c ∷ d ∷ x ∷ l) e = absurd (omega arith)

  -- they are few, since a u16 has no more than 16 ones
  pub sum_few : ((k : ℕ) → get_or marks k 0 < 65536) → sum_by starts marks ≤ 64
  sum_few small = omega (arith, sum_four, few 0, few 1, few 2, few 3)
    where
      few : (k : ℕ) → starts_at k ≤ 16
      few k = few_ones (get_or marks k 0) (65535 - get_or marks k 0 * 2 % 65536) (small k)

  pub sum_is : FourMarks marks → sum_by starts marks ≡ length (windows_by marks 4)
  unfolding windows_by
  sum_is f = omega (arith, sum_four, side 0 (omega arith), side 1 (omega arith), side 2 (omega arith), side 3 (omega arith), length_by marks 0, length_by marks 1, length_by marks 2, length_by marks 3)
    where
      side : (k : ℕ) → k < 4 → starts_at k ≡ window_count (get_or marks k 0)
      side k l = count_is (get_or marks k 0) (f.small k l)
