-- `drain` serves the numbers of the queue. The loop's invariant: all is as it was, or the work has fallen; the first number does wait.
use native.Mathlib.Nat.{lt_of_le_of_lt}
use mathlib.Core.Path.{◌≡◌, ap, ◌∙◌}
use mathlib.Core.Bool.{Bool}
use mathlib.Core.Logic.{inr, ⊎_elim}
use mathlib.Core.List.{List}
use Prim.Native.Nat.{ℕ, ◌<◌}
use lib.ListN.{length, get_or}
use Rattle.laws.specs.Waiting.{work}
use Rattle.laws.specs.Turns.{Turned, Lined}
use Rattle.search.specs.declared.queue.Queue.{Queue}
use Rattle.search.proofs.keys.drain.Goals as goal

-- the first number's turn
first_falls : {d₀ d e : List ℕ} {p₀ p f : List Bool} {q₀ q : Queue} {u : ℕ} → Lined (length d₀) p₀ q₀.numbers q₀.end → q₀.head ≡ 0 → 0 < q₀.end → u ≡ get_or q.numbers q.head 0
    → Turned (length d) u d p e f → (q ≡ q₀) × (d ≡ d₀) × (p ≡ p₀) → work e f < work d₀ p₀
first_falls {q₀ = q₀} {u = u} lined none some next turn w =
    let first : u ≡ get_or q₀.numbers 0 0 = next ∙ ap (λ (x : Queue). get_or x.numbers x.head 0) w.0 ∙ ap (λ (h : ℕ). get_or q₀.numbers h 0) none in
    rw (← w.1, ← w.2) (turn.fallen (rw (w.1, first) (lined.low some)) (rw (w.2, first) (lined.waits some)))

pub loop-u-preserved : goal.loop-u-preserved
loop-u-preserved c =
    let turn = c.serve.ensures.turn in (
      λ g o r ext s top w. c.serve.ensures.kept g o r ext s top (c.loop-u.invariant.0 g o r ext s top w),
      inr (⊎_elim (first_falls c.requires.lined.0 c.requires.lined.1 c.requires.lined.2 c.in-Some.ensures.0 turn) (λ fell. lt_of_le_of_lt turn.risen fell) c.loop-u.invariant.1),
    )
