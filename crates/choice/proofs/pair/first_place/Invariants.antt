-- `first_place` keeps the first of the least. The loop's invariant: best is it among the places before c, and least is its run.
use Prim.Native.Nat.{ℕ, ◌<◌}
use mathlib.Core.Path.{◌≡◌}
use Rattle.std.specs.Prelude.{Option}
use Rattle.std.specs.Option.{unwrap_or, IfSome}
use Rattle.laws.specs.FirstLeast.{Picked}
use Rattle.model.specs.LeastPath.{unlinked}
use Rattle.model.specs.Portals.{sector_portals}
use Rattle.choice.proofs.pair.first_place.Given as goal

abbrev pub invariant-loop-c : goal.invariant-loop-c
invariant-loop-c g l =
    IfSome l.best (λ c. c < sector_portals)
    × ((key : ℕ → ℕ) → ((c : ℕ) (r : Option ℕ) → c < sector_portals → goal.F-post g l.run c r → unwrap_or r unlinked ≡ key c) → Picked key unlinked sector_portals l.c l.least (unwrap_or l.best sector_portals))
