-- The steps of a path by position, and a list that begins with the bytes of steps.
use Prim.Native.Nat.{ℕ, zero, suc, ◌+◌, ◌-◌, ◌*◌, ◌/◌, ◌≤◌, ◌<◌}
use native.Mathlib.Omega.{arith}
use Rattle.std.specs.Prelude.{◌≡◌, true, length, get_or, take, drop}
use Rattle.std.proofs.Math.Path.{refl}
use Rattle.std.proofs.Common.{sym, ap, ◌∙◌, length-append, length-drop, drop_of_length-le, take_at, drop_at, drop-drop, take_all}
use mathlib.Core.List.{List, [], ◌∷◌, ◌++◌, append_assoc, append-nil}
use borrow.Rule.Slice.PartMut.{put_mid}
use Rattle.laws.specs.Table.{tabulate, length_tabulate, tabulate_more}
use Rattle.model.specs.declared.RouteStep.{RouteStep}
use Rattle.model.specs.Sectors.{sector_at, place_of}
use Rattle.model.specs.Steps.{last_step, step_bytes, flat_steps}
use Rattle.model.specs.Halls.{Hall}
use Rattle.model.specs.Portals.{portal_sector}
use Rattle.model.specs.Route.{step_at, steps_of}

-- ---- the steps by position
-- the steps at the first n even positions
abbrev pub even_steps : Hall → List ℕ → ℕ → List RouteStep
even_steps h path n = tabulate (λ k. step_at h (get_or path (2 * k) 0)) n 0

length_even : (h : Hall) (path : List ℕ) (n : ℕ) → length (even_steps h path n) ≡ n
length_even h path n = length_tabulate (λ k. step_at h (get_or path (2 * k) 0)) n 0

-- the last step, where p is the last portal
abbrev pub end_step : Hall → ℕ → ℕ → RouteStep
end_step h goal p = last_step (sector_at h.measures (portal_sector p)) (place_of goal)

-- two rules that agree from some places on
shifted : {A : Type 0} (f g : ℕ → A) (n i j : ℕ) → ((k : ℕ) → f (i + k) ≡ g (j + k)) → tabulate f n i ≡ tabulate g n j
unfolding tabulate
shifted f g zero i j e = refl
shifted f g (suc n) i j e =
    let p : i + 0 ≡ i = omega arith in
    let q : j + 0 ≡ j = omega arith in
    let here : f i ≡ g j = rw (p, q) at (e 0) in
    let rest : tabulate f n (suc i) ≡ tabulate g n (suc j) =
    shifted f g n (suc i) (suc j) (λ k. let a : suc i + k ≡ i + suc k = omega arith in let b : suc j + k ≡ j + suc k = omega arith in rw (a, b) (e (suc k))) in
    rw (here, rest)

module _ (h : Hall) (goal : ℕ) where
  -- a path of a portal or more has the steps at its even positions before the last, and the last
  steps_by_place : (path : List ℕ) → 1 ≤ length path → steps_of h goal true path ≡ even_steps h path (length path / 2) ++ (end_step h goal (get_or path (length path - 1) 0) ∷ [])
  unfolding steps_of tabulate
  steps_by_place [] l = absurd (omega arith)
  steps_by_place (p ∷ []) l = refl
  steps_by_place (p ∷ q ∷ []) l = refl
  steps_by_place (p ∷ q ∷ r ∷ rest) l =
      let f : ℕ → RouteStep = λ k. step_at h (get_or (p ∷ q ∷ r ∷ rest) (2 * k) 0) in
      let g : ℕ → RouteStep = λ k. step_at h (get_or (r ∷ rest) (2 * k) 0) in
      let half : suc (suc (suc (length rest))) / 2 ≡ suc (suc (length rest) / 2) = omega arith in
      let on : tabulate f (suc (length rest) / 2) 1 ≡ tabulate g (suc (length rest) / 2) 0 =
      shifted f g (suc (length rest) / 2) 1 0 (λ k. let two : 2 * (1 + k) ≡ suc (suc (2 * (0 + k))) = omega arith in rw two refl) in
      let last : suc (suc (suc (length rest))) - 1 ≡ suc (suc (suc (length rest) - 1)) = omega arith in
      rw (half, on, last) (ap (λ (s : List RouteStep). step_at h p ∷ s) (steps_by_place (r ∷ rest) (omega arith)))

-- ---- the bytes of steps
flat_append : (a b : List RouteStep) → flat_steps (a ++ b) ≡ flat_steps a ++ flat_steps b
unfolding flat_steps
flat_append [] b = refl
flat_append (s ∷ a) b = ap (λ (l : List ℕ). step_bytes s ++ l) (flat_append a b)

pub length_flat : (steps : List RouteStep) → length (flat_steps steps) ≡ 6 * length steps
unfolding flat_steps
length_flat [] = refl
length_flat (s ∷ steps) = omega (arith, length_flat steps)

-- a list whose first bytes are steps, and the others as they were
abbrev over : List RouteStep → List ℕ → List ℕ
over steps xs = flat_steps steps ++ drop (6 * length steps) xs

length_over : (steps : List RouteStep) (xs : List ℕ) → 6 * length steps ≤ length xs → length (over steps xs) ≡ length xs
length_over steps xs l = simp (length-append, length-drop) (omega (arith, length_flat steps))

-- what is written past the front of a list, k places of it anew
put_past : (front new xs : List ℕ) {t part : List ℕ} (a k : ℕ) → t ≡ front ++ drop a xs → length front ≡ a → part ≡ new ++ drop k (take (length t - a) (drop a t))
    → put_mid a (length t - a) t part ≡ (front ++ new) ++ drop (a + k) xs
put_past front new xs {t} {part} a k is l came =
    let whole : take (length t - a) (drop a t) ≡ drop a t = take_all (length t - a) (drop a t) (simp length-drop (omega arith)) in
    let none : drop (length t - a) (drop a t) ≡ [] = drop_of_length-le (drop a t) {i = length t - a} (simp length-drop (omega arith)) in
    rw (came, whole, none, append-nil, is, take_at front (drop a xs) a l, drop_at front (drop a xs) a l, drop-drop, append_assoc)

-- a step written past those that a list begins with
over_more : (steps : List RouteStep) (s : RouteStep) (xs : List ℕ) {t part : List ℕ} (a : ℕ) → t ≡ over steps xs → a ≡ 6 * length steps → part ≡ step_bytes s ++ drop 6 (take (length t - a) (drop a t))
    → put_mid a (length t - a) t part ≡ over (steps ++ (s ∷ [])) xs
unfolding flat_steps
over_more steps s xs a is e came =
    let more : 6 * length (steps ++ (s ∷ [])) ≡ a + 6 = omega (arith, length-append steps (s ∷ [])) in
    rw (more, flat_append steps (s ∷ [])) (put_past (flat_steps steps) (step_bytes s) xs a 6 (rw e is) (length_flat steps ∙ sym e) came)

-- ---- one step after the other
-- the steps at the first i even positions of a path stand at the front of a list
pub record Stepped (h : Hall) (path : List ℕ) (count i : ℕ) (xs t : List ℕ) : Type 0 where
  pub within : i ≤ count
  pub same : length t ≡ length xs
  pub is : t ≡ over (even_steps h path i) xs

pub stepped_none : (h : Hall) (path : List ℕ) (count : ℕ) (xs : List ℕ) → Stepped h path count 0 xs xs
unfolding tabulate flat_steps
stepped_none h path count xs = record { within = omega arith; same = refl; is = refl }

module _ {h : Hall} {path : List ℕ} {count i : ℕ} {xs t part : List ℕ} (r : Stepped h path count i xs t) (room : 6 * (count + 1) ≤ length xs) where
  pub stepped_turn : {s : RouteStep} → i < count → s ≡ step_at h (get_or path (2 * i) 0) → part ≡ step_bytes s ++ drop 6 (take (length t - 6 * i) (drop (6 * i) t))
      → Stepped h path count (i + 1) xs (put_mid (6 * i) (length t - 6 * i) t part)
  stepped_turn {s} l e came =
      let steps = even_steps h path in
      let more : steps (i + 1) ≡ steps i ++ (s ∷ []) = rw e (tabulate_more (λ k. step_at h (get_or path (2 * k) 0)) i) in
      let now : put_mid (6 * i) (length t - 6 * i) t part ≡ over (steps (i + 1)) xs = rw more (over_more (steps i) s xs (6 * i) r.is (omega (arith, length_even h path i)) came) in
      record { within = omega arith; same = ap length now ∙ length_over (steps (i + 1)) xs (omega (arith, length_even h path (i + 1))); is = now }

  -- the last step past them
  pub stepped_end : (goal n : ℕ) {s : RouteStep} → 1 ≤ n → length path ≡ n → count ≡ n / 2 → count ≤ i → s ≡ end_step h goal (get_or path (n - 1) 0)
      → part ≡ step_bytes s ++ drop 6 (take (length t - 6 * count) (drop (6 * count) t))
      → put_mid (6 * count) (length t - 6 * count) t part ≡ flat_steps (steps_of h goal true path) ++ drop (6 * (n / 2 + 1)) xs
  stepped_end goal n {s} some long half l e came =
      let at : i ≡ count = omega (arith, r.within) in
      let is : t ≡ over (even_steps h path count) xs = r.is ∙ ap (λ (k : ℕ). over (even_steps h path k) xs) at in
      let all : steps_of h goal true path ≡ even_steps h path count ++ (s ∷ []) = rw (e, half, ← long) (steps_by_place h goal path (omega arith)) in
      let many : length (even_steps h path count ++ (s ∷ [])) ≡ n / 2 + 1 = omega (arith, length-append (even_steps h path count) (s ∷ []), length_even h path count) in
      rw (all, ← many) (over_more (even_steps h path count) s xs (6 * count) is (omega (arith, length_even h path count)) came)
