-- A list that is written place by place until it begins with another.
use Rattle.std.specs.Prelude.{◌≡◌, refl, ◌≢◌, Bool, true, false, List, ◌++◌, ℕ, ◌+◌, ◌-◌, ◌≤◌, ◌<◌, ltb, length, get_or, set, drop}
use Rattle.std.proofs.Common.{sym, ap, ◌∙◌, arith, length-append, length-drop, get_or-set_same, get_or-set_other, get_or-append-add, get_or-drop, ext_get_or, ltb-true, ltb-false}
use Rattle.std.proofs.Math.Decide.{ℕ_discrete}
use Rattle.std.proofs.Math.ListN.{get_or-append}

-- the target's element is set at place q: a place is right if it is q or was right
pub toward : (target out : List ℕ) (q : ℕ) {v : ℕ} → q < length out → v ≡ get_or target q 0
    → (p : ℕ) → (p ≢ q → get_or out p 0 ≡ get_or target p 0) → get_or (set out q v) p 0 ≡ get_or target p 0
toward target out q {v} l e p old = go (ℕ_discrete p q)
  where
    go : Dec (p ≡ q) → get_or (set out q v) p 0 ≡ get_or target p 0
    go (yes z) = rw z (get_or-set_same out q v 0 l ∙ e)
    go (no z) = get_or-set_other out q p v 0 z ∙ old z

-- every place of the target is right, and every place past it is as it was
pub front_of : (target lent out : List ℕ) → length target ≤ length lent → length out ≡ length lent
    → ((p : ℕ) → p < length target → get_or out p 0 ≡ get_or target p 0) → ((p : ℕ) → length target ≤ p → get_or out p 0 ≡ get_or lent p 0)
    → out ≡ target ++ drop (length target) lent
front_of target lent out fits same front behind =
    ext_get_or 0 out (target ++ drop (length target) lent) (simp (length-append, length-drop) (omega arith)) (λ p l. go p (ltb p (length target)) refl)
  where
    go : (p : ℕ) (b : Bool) → ltb p (length target) ≡ b → get_or out p 0 ≡ get_or (target ++ drop (length target) lent) p 0
    go p true e = let h = ltb-true p (length target) e in front p h ∙ sym (get_or-append target (drop (length target) lent) 0 p h)
    go p false e =
        let h = ltb-false p (length target) e in
        let far : p ≡ length target + (p - length target) = omega arith in
        behind p h ∙ ap (λ (i : ℕ). get_or lent i 0) far ∙ sym (get_or-drop (length target) lent (p - length target) 0)
        ∙ sym (get_or-append-add target (drop (length target) lent) (p - length target) 0) ∙ ap (λ (i : ℕ). get_or (target ++ drop (length target) lent) i 0) (sym far)
