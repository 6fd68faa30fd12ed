-- Facts for the proofs of the lines: the letters of sides, and what texts say that are put one behind the other.
use Rattle.std.specs.Prelude.{◌≡◌, refl, List, [], ◌∷◌, ◌++◌, ℕ, ◌+◌, ◌^◌, ◌≤◌, ◌<◌, Option, Some, None, Ok, Err}
use Rattle.std.specs.Fmt as lib
use Rattle.std.proofs.Common.{sym, ap, ◌∙◌, append_assoc, append-nil, lt-ltb, le-ltb}
use Rattle.laws.specs.Table.{tabulate}
use Rattle.model.specs.declared.RouteStep.{RouteStep}
use Rattle.model.specs.declared.Route.{Route}
use Rattle.model.specs.declared.Refusal.{Refusal}
use Rattle.model.specs.declared.Side.{Side}
use Rattle.model.specs.Numbers.{number}
use Rattle.model.specs.Cells.{side_number, side_at}
use Rattle.model.specs.Sides.{number_side}
use Rattle.model.specs.FlatSteps.{step_in, steps_in, no_steps_in, steps_in_more}
use Rattle.model.specs.Calls.{Routed}
use Rattle.model.specs.Hallroute.{side_letter, window_text, step_text, steps_text}
use Rattle.cards.specs.Decimal.{decimal_lem}
use Rattle.cards.specs.Line.{route_text, routed_text, line_of}

-- ---- letters
-- by a side's number
pub letter_at : {n k : ℕ} {side : Side} → n ≡ k → n < 4 → side ≡ side_at n → side_letter (side_number side) ≡ side_letter k
letter_at {n} e l is = ap (λ (s : Side). side_letter (side_number s)) is ∙ ap side_letter (number_side n l ∙ e)

-- ---- a step
module _ (a : List ℕ) (s : RouteStep) where
  pub no_window : {b : List ℕ} → 4 ≤ s.side → b ≡ a ++ 45 ∷ [] → b ≡ a ++ window_text s
  unfolding window_text tabulate
  no_window l p = p ∙ rw (le-ltb s.side 4 l)

  pub with_window : {b c d e l : List ℕ} → s.side < 4 → s.«first» < 2 ^ 64 → s.last < 2 ^ 64 → l ≡ side_letter s.side → b ≡ a ++ l → c ≡ b ++ lib.decimal s.«first» → d ≡ c ++ 45 ∷ [] → e ≡ d ++ lib.decimal s.last
      → e ≡ a ++ window_text s
  unfolding window_text tabulate
  with_window side small low i p q r t = rw (t, r, q, p, i, lt-ltb s.side 4 side, decimal_lem s.«first» small, decimal_lem s.last low) (simp append_assoc)

pub step_written : (a : List ℕ) {b c d e f g h : List ℕ} (s : RouteStep) → s.column < 2 ^ 64 → s.row < 2 ^ 64 → s.goal < 2 ^ 64
    → b ≡ a ++ 32 ∷ [] → c ≡ b ++ lib.decimal s.column → d ≡ c ++ 44 ∷ [] → e ≡ d ++ lib.decimal s.row → f ≡ e ++ 58 ∷ [] → g ≡ f ++ lib.decimal s.goal → h ≡ g ++ window_text s
    → h ≡ a ++ step_text s
unfolding step_text tabulate
step_written a s x y z p q r t u v w = rw (w, v, u, t, r, q, p, decimal_lem s.column x, decimal_lem s.row y, decimal_lem s.goal z) (simp append_assoc)

-- ---- steps
steps_append : (s r : List RouteStep) → steps_text (s ++ r) ≡ steps_text s ++ steps_text r
unfolding steps_text
steps_append [] r = refl
steps_append (x ∷ s) r = ap (λ l. step_text x ++ l) (steps_append s r) ∙ sym (append_assoc (step_text x) (steps_text s) (steps_text r))

pub steps_none : (flat a : List ℕ) → a ≡ a ++ steps_text (steps_in 0 flat)
unfolding steps_text
steps_none flat a = rw no_steps_in (sym (append-nil a))

pub steps_more : (a : List ℕ) {b c : List ℕ} (flat : List ℕ) (k : ℕ) {s : RouteStep} → b ≡ a ++ steps_text (steps_in k flat) → s ≡ step_in flat k → c ≡ b ++ step_text s → c ≡ a ++ steps_text (steps_in (k + 1) flat)
unfolding steps_text
steps_more a flat k p e q = rw (q, e, p, steps_in_more, steps_append, append-nil) (simp append_assoc)

-- ---- an answer
pub route_written : (a : List ℕ) {b c d e f g h : List ℕ} (r : Route) (flat : List ℕ) → r.steps < 2 ^ 64 → r.leg < 2 ^ 64 → r.run < 2 ^ 64
    → b ≡ a ++ 32 ∷ [] → c ≡ b ++ lib.decimal r.steps → d ≡ c ++ 32 ∷ [] → e ≡ d ++ lib.decimal r.leg → f ≡ e ++ 32 ∷ [] → g ≡ f ++ lib.decimal r.run → h ≡ g ++ steps_text (steps_in r.steps flat)
    → h ≡ a ++ route_text r flat
unfolding route_text tabulate
route_written a r flat x y z p q s t u v w = rw (w, v, u, t, s, q, p, decimal_lem r.steps x, decimal_lem r.leg y, decimal_lem r.run z) (simp append_assoc)

module _ {answer : Routed} (flat a : List ℕ) {b : List ℕ} where
  pub route_answer : (r : Route) {o : Option Route} → answer ≡ Ok o → o ≡ Some r → b ≡ a ++ route_text r flat → b ≡ a ++ routed_text answer flat
  unfolding routed_text
  route_answer r e f p = rw (e, f) p

  pub none_answer : {o : Option Route} → answer ≡ Ok o → o ≡ None → b ≡ a ++ (32 ∷ 110 ∷ 111 ∷ 110 ∷ 101 ∷ []) → b ≡ a ++ routed_text answer flat
  unfolding routed_text tabulate
  none_answer e f p = rw (e, f) p

  pub refused_answer : (r : Refusal) {n : ℕ} {c : List ℕ} → answer ≡ Err r → n ≡ number r → n < 2 ^ 64 → b ≡ a ++ (32 ∷ 110 ∷ 111 ∷ 32 ∷ []) → c ≡ b ++ lib.decimal n → c ≡ a ++ routed_text answer flat
  unfolding routed_text tabulate
  refused_answer r {n} e i l p q = rw (q, p, e, decimal_lem n l, i) (simp append_assoc)

-- ---- a line
pub line_written : (a : List ℕ) {b c d e f : List ℕ} (source goal : ℕ) (answer : Routed) (flat : List ℕ) → source < 2 ^ 64 → goal < 2 ^ 64
    → b ≡ a ++ lib.decimal source → c ≡ b ++ 32 ∷ [] → d ≡ c ++ lib.decimal goal → e ≡ d ++ routed_text answer flat → f ≡ e ++ 10 ∷ []
    → f ≡ a ++ line_of source goal answer flat
unfolding line_of tabulate
line_written a source goal answer flat x y p q r s t = rw (t, s, r, q, p, decimal_lem source x, decimal_lem goal y) (simp append_assoc)
