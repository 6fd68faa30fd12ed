-- The flat form of steps read back: the steps that a flat list holds, six bytes each, and that they are those whose flat form it begins with.
use Rattle.std.specs.Prelude.{◌≡◌, refl, List, [], ◌∷◌, ◌++◌, ℕ, suc, ◌+◌, ◌*◌, length, get_or}
use Rattle.std.proofs.Common.{ap, ◌∙◌, arith, get_or-append-add}
use Rattle.laws.specs.Table.{tabulate, length_tabulate, tabulate_more, tabulate_past}
use Rattle.model.specs.declared.RouteStep.{RouteStep}
use Rattle.model.specs.Steps.{step_bytes, flat_steps}

-- step k of a flat list, and its first n steps
abbrev pub step_in : List ℕ → ℕ → RouteStep
step_in flat k =
    record {
      column = get_or flat (6 * k) 0;
      row = get_or flat (6 * k + 1) 0;
      goal = get_or flat (6 * k + 2) 0;
      side = get_or flat (6 * k + 3) 0;
      «first» = get_or flat (6 * k + 4) 0;
      last = get_or flat (6 * k + 5) 0;
    }

unfoldable pub steps_in : ℕ → List ℕ → List RouteStep
steps_in n flat = tabulate (step_in flat) n 0

pub length_steps_in : (n : ℕ) (flat : List ℕ) → length (steps_in n flat) ≡ n
unfolding steps_in
length_steps_in n flat = length_tabulate (step_in flat) n 0

pub no_steps_in : (flat : List ℕ) → steps_in 0 flat ≡ []
unfolding steps_in tabulate
no_steps_in flat = refl

-- one step more
pub steps_in_more : (n : ℕ) (flat : List ℕ) → steps_in (n + 1) flat ≡ steps_in n flat ++ (step_in flat n ∷ [])
unfolding steps_in
steps_in_more n flat = tabulate_more (step_in flat) n

-- ---- the steps of a flat form
step_past : (s : RouteStep) (flat : List ℕ) (k : ℕ) → step_in (step_bytes s ++ flat) (suc k) ≡ step_in flat k
step_past s flat k =
    let e : (j : ℕ) (m : ℕ) → m ≡ 6 + j → get_or (step_bytes s ++ flat) m 0 ≡ get_or flat j 0 = λ j m h. ap (λ i. get_or (step_bytes s ++ flat) i 0) h ∙ get_or-append-add (step_bytes s) flat j 0 in
    let a = e (6 * k) (6 * suc k) (omega arith) in
    let b = e (6 * k + 1) (6 * suc k + 1) (omega arith) in
    let c = e (6 * k + 2) (6 * suc k + 2) (omega arith) in
    let d = e (6 * k + 3) (6 * suc k + 3) (omega arith) in
    let f = e (6 * k + 4) (6 * suc k + 4) (omega arith) in
    let g = e (6 * k + 5) (6 * suc k + 5) (omega arith) in
    λ i. record { column = a i; row = b i; goal = c i; side = d i; «first» = f i; last = g i }

-- a list that begins with the flat form of steps holds these steps
pub steps_back : (steps : List RouteStep) (rest : List ℕ) → steps_in (length steps) (flat_steps steps ++ rest) ≡ steps
unfolding steps_in tabulate flat_steps
steps_back [] rest = refl
steps_back (s ∷ steps) rest =
    let later : List ℕ = flat_steps steps ++ rest in
    ap (λ l. s ∷ l) (tabulate_past (step_in (step_bytes s ++ later)) (step_in later) (step_past s later) (length steps) 0 ∙ steps_back steps rest)
