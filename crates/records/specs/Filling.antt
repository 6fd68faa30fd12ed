-- A list of records whose first n are the steps of a flat list, and the next record set.
use Rattle.std.specs.Prelude.{◌≡◌, List, [], ◌∷◌, ◌++◌, ℕ, ◌+◌, ◌≤◌, ◌<◌, length, get_or, set, drop}
use Rattle.std.proofs.Common.{sym, ap, ◌∙◌, append_assoc, add-one, arith, length-append, length-drop, drop-cons}
use Rattle.std.proofs.lemmas.List.{set_at}
use Rattle.model.specs.declared.RouteStep.{RouteStep}
use Rattle.model.specs.FlatSteps.{step_in, steps_in, length_steps_in, no_steps_in, steps_in_more}

abbrev pub filled : List ℕ → List RouteStep → ℕ → List RouteStep
filled flat list n = steps_in n flat ++ drop n list

pub filled_none : (flat : List ℕ) (list : List RouteStep) → filled flat list 0 ≡ list
filled_none flat list = rw no_steps_in

pub filled_length : (flat : List ℕ) (list : List RouteStep) (n : ℕ) → n ≤ length list → length (filled flat list n) ≡ length list
filled_length flat list n l = omega (arith, length-append (steps_in n flat) (drop n list), length_steps_in n flat, length-drop n list)

pub filled_next : (flat : List ℕ) (list : List RouteStep) (n : ℕ) → n < length list → set (filled flat list n) n (step_in flat n) ≡ filled flat list (n + 1)
filled_next flat list n l =
    let s : RouteStep = step_in flat n in
    let front : List RouteStep = steps_in n flat in
    let here : drop n list ≡ get_or list n s ∷ drop (n + 1) list = drop-cons list n s l ∙ ap (λ (k : ℕ). get_or list n s ∷ drop k list) (sym (add-one n)) in
    let seam : set (front ++ (get_or list n s ∷ drop (n + 1) list)) n s ≡ front ++ (s ∷ drop (n + 1) list) = set_at front (get_or list n s) (drop (n + 1) list) s n (length_steps_in n flat) in
    ap (λ (t : List RouteStep). set (front ++ t) n s) here ∙ seam ∙ sym (append_assoc front (s ∷ []) (drop (n + 1) list))
    ∙ ap (λ (t : List RouteStep). t ++ drop (n + 1) list) (sym (steps_in_more n flat))
