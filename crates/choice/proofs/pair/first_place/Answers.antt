-- `first_place` keeps the first of the least: a place's run is what its call returned.
use native.Mathlib.Omega.{arith}
use mathlib.Core.Path.{sym, ap, ◌∙◌}
use Prim.Native.Nat.{ℕ, ◌≤◌}
use Rattle.std.specs.Prelude.{Option}
use Rattle.std.specs.Option.{unwrap_or}
use Rattle.laws.specs.FirstLeast.{Picked, no_pick, picked, picked_take, picked_skip}
use Rattle.model.specs.LeastPath.{unlinked}
use Rattle.choice.proofs.pair.first_place.Goals as goal
use Rattle.choice.proofs.pair.first_place.Goals.{in-Some+then-run-least, in-Some+else-run-least, in_default}

least_low : {key : ℕ → ℕ} {size n least r : ℕ} → Picked key unlinked size n least r → least ≤ unlinked
least_low (no_pick e q all) = omega arith
least_low (picked q low h) = omega arith

pub loop-c-preserved : goal.loop-c-preserved
loop-c-preserved g c =
    elim c.match-run.branch [
      | in-Some+then-run-least w ↦ rw (w.best-is, w.least-is) (
        c.loop-c-test.true,
        λ key same. picked_take (c.loop-c.invariant.1 key same) (sym (ap (λ (o : Option ℕ). unwrap_or o unlinked) w.in-Some.is) ∙ same _ _ c.loop-c-test.true c.run.ensures) w.if-run-least.true,
      )
      | in-Some+else-run-least w ↦ rw (w.best-is, w.least-is) (
        c.loop-c.invariant.0,
        λ key same. picked_skip (c.loop-c.invariant.1 key same) (sym (ap (λ (o : Option ℕ). unwrap_or o unlinked) w.in-Some.is) ∙ same _ _ c.loop-c-test.true c.run.ensures) w.if-run-least.false,
      )
      | in_default w ↦ rw (w.best-is, w.least-is) (
        c.loop-c.invariant.0,
        λ key same. picked_skip (c.loop-c.invariant.1 key same) (sym (ap (λ (o : Option ℕ). unwrap_or o unlinked) w.in_default.is) ∙ same _ _ c.loop-c-test.true c.run.ensures) (least_low (c.loop-c.invariant.1 key same)),
      )
    ]
