-- Facts for the proofs of layout: the bytes of marks one after the other, and a hall written part by part.
use mathlib.Core.Path.{◌≡◌, refl, sym, ap, ◌∙◌}
use mathlib.Core.List.{List, [], ◌∷◌, ◌++◌, append_assoc, append-nil}
use Prim.Native.Nat.{ℕ, zero, suc, ◌+◌, ◌-◌, ◌*◌, ◌/◌, ◌%◌, ◌≤◌, ◌<◌}
use native.Mathlib.Nat.{not-suc-le-zero, le_of_suc-le-suc, add-sub_cancel_left}
use native.Mathlib.Numerals.{add-one}
use native.Mathlib.Omega.{arith}
use lib.ListN.{length, take, drop, length-append}
use lib.Seq.{take_at, drop_at, drop-drop, drop-length, take_all}
use borrow.Rule.Slice.PartMut.{put_mid}
use Rattle.laws.specs.Region.{region, within, placed, within_came}
use Rattle.model.specs.declared.Measures.{Measures}
use Rattle.model.specs.Store.{header, size_of, u16_bytes, encode, written}
use Rattle.model.specs.U16s.{length_u16s}
use Rattle.model.specs.StoreLayout.{Laid}
use Rattle.store.specs.Layout.{hall_of, set_mark}

-- ---- marks
-- the bytes of the marks before k, in front of what stood there
pub record MarksPut (marks : List ℕ) (k : ℕ) (s t : List ℕ) : Type 0 where
  pub within : k ≤ length marks
  pub same : length t ≡ length s
  pub is : t ≡ u16_bytes (take k marks) ++ drop (2 * k) s

set_next : (mark a b k : ℕ) (marks d : List ℕ) → set_mark (mark ∷ marks) (suc k) (a ∷ b ∷ d) ≡ a ∷ b ∷ set_mark marks k d
unfolding set_mark
set_next mark a b k marks d =
    let high : 2 * suc k + 1 ≡ suc (suc (2 * k + 1)) = omega arith in
    let low : 2 * suc k ≡ suc (suc (2 * k)) = omega arith in
    rw (high, low)

drop_next : (a b k : ℕ) (d : List ℕ) → drop (2 * suc k) (a ∷ b ∷ d) ≡ drop (2 * k) d
drop_next a b k d = let e : 2 * suc k ≡ suc (suc (2 * k)) = omega arith in rw e

first : (mark a b : ℕ) (marks d : List ℕ) → set_mark (mark ∷ marks) 0 (a ∷ b ∷ d) ≡ mark % 256 ∷ mark / 256 ∷ d
unfolding set_mark
first mark a b marks d = refl

mark_next : (k : ℕ) (marks d : List ℕ) → k < length marks → 2 * length marks ≤ length d
    → set_mark marks k (u16_bytes (take k marks) ++ drop (2 * k) d) ≡ u16_bytes (take (suc k) marks) ++ drop (2 * suc k) d
unfolding u16_bytes
mark_next k [] d l h = absurd (not-suc-le-zero l)
mark_next k (mark ∷ marks) [] l h = absurd (omega arith)
mark_next k (mark ∷ marks) (a ∷ []) l h = absurd (omega arith)
mark_next zero (mark ∷ marks) (a ∷ b ∷ d) l h = first mark a b marks d
mark_next (suc k) (mark ∷ marks) (a ∷ b ∷ d) l h =
    rw (drop_next a b k d, drop_next a b (suc k) d, set_next mark (mark % 256) (mark / 256) k marks (u16_bytes (take k marks) ++ drop (2 * k) d))
    (ap (λ (t : List ℕ). mark % 256 ∷ mark / 256 ∷ t) (mark_next k marks d (le_of_suc-le-suc l) (omega arith)))

pub marks_none : (marks s : List ℕ) → MarksPut marks 0 s s
unfolding u16_bytes
marks_none marks s = record { within = omega arith; same = refl; is = refl }

pub marks_turn : {marks : List ℕ} {k : ℕ} {s t u : List ℕ} → MarksPut marks k s t → k < length marks → length s ≡ 2 * length marks → u ≡ set_mark marks k t → length u ≡ length t
    → MarksPut marks (k + 1) s u
marks_turn {marks} {k} {s} {t} r l fits e same =
    record { within = omega arith; same = same ∙ r.same; is = e ∙ ap (set_mark marks k) r.is ∙ rw add-one (mark_next k marks s l (omega arith)) }

pub marks_end : {marks : List ℕ} {k : ℕ} {s t : List ℕ} → MarksPut marks k s t → length marks ≤ k → length s ≡ 2 * length marks → t ≡ u16_bytes marks
marks_end {marks} {k} {s} r l fits =
    let e : 2 * k ≡ length s = omega (arith, r.within) in
    r.is ∙ rw (take_all k marks l, e, drop-length) (append-nil (u16_bytes marks))

pub ruleset marking = (marks_none, marks_turn, marks_end)

-- ---- a hall, part by part
placed_on : (a : ℕ) (p ys xs : List ℕ) → length p ≡ a → placed a ys (p ++ drop a xs) ≡ (p ++ ys) ++ drop (a + length ys) xs
unfolding placed within region
placed_on a p ys xs e = rw (take_at p (drop a xs) a e, drop_at p (drop a xs) a e, drop-drop, append_assoc)

together : (p q r s : List ℕ) → ((p ++ q) ++ r) ++ s ≡ p ++ (q ++ (r ++ s))
together p q r s = simp append_assoc

pub written_by : (m : Measures) (base costs marks st : List ℕ) {s₁ s₂ s₃ ys : List ℕ} → Laid (hall_of m base costs marks)
    → s₁ ≡ header m ++ drop 4 st → s₂ ≡ placed 4 base s₁ → s₃ ≡ placed (4 + length base) costs s₂ → ys ≡ u16_bytes marks
    → put_mid (4 + 2 * length base) (4 + 2 * length base + 2 * length marks - (4 + 2 * length base)) s₃ ys ≡ written (hall_of m base costs marks) st
unfolding written encode placed
written_by m base costs marks st {s₁} {s₂} {s₃} {ys} laid e₁ e₂ e₃ e =
    let opening : List ℕ = header m in
    let n : ℕ = length base in
    let a : ℕ = 4 + 2 * n in
    let bytes : List ℕ = u16_bytes marks in
    let f₂ : s₂ ≡ (opening ++ base) ++ drop (4 + n) st = e₂ ∙ ap (placed 4 base) e₁ ∙ placed_on 4 opening base st refl in
    let f₃ : s₃ ≡ ((opening ++ base) ++ costs) ++ drop (4 + n + length costs) st = e₃ ∙ ap (placed (4 + n) costs) f₂ ∙ placed_on (4 + n) (opening ++ base) costs st (length-append opening base) in
    let middle : 4 + n + length costs ≡ a = omega (arith, laid.base_cells, laid.scaled_cells) in
    let front : length ((opening ++ base) ++ costs) ≡ a = simp length-append (omega arith) in
    let whole : a + length bytes ≡ size_of m = omega (arith, length_u16s marks, laid.base_cells, laid.marks_sides) in
    let came : put_mid a (a + 2 * length marks - a) s₃ ys ≡ placed a bytes s₃ =
    within_came a (length bytes) (a + 2 * length marks - a) (λ old. bytes) s₃ ys (add-sub_cancel_left a (2 * length marks) ∙ sym (length_u16s marks)) e in
    let f₄ : placed a bytes s₃ ≡ (((opening ++ base) ++ costs) ++ bytes) ++ drop (a + length bytes) st =
    ap (placed a bytes) (rw middle at f₃) ∙ placed_on a ((opening ++ base) ++ costs) bytes st front in
    came ∙ rw whole at f₄ ∙ ap (λ (l : List ℕ). l ++ drop (size_of m) st) (together opening base costs bytes)
