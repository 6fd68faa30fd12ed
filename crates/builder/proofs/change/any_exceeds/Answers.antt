-- `any_exceeds` answers refusal 22: it searches the nine places for a sector that exceeds.
use Rattle.std.specs.Prelude.{[]}
use Rattle.std.proofs.Common.{rules, tests, refl}
use Rattle.laws.specs.Ranges.{any_range}
use Rattle.store.specs.Layout.{hall_of}
use Rattle.builder.specs.Around.{place_exceeds}
use Rattle.builder.proofs.Around.{places_exceed}
use Rattle.builder.proofs.change.any_exceeds.Goals as goal

pub returns : goal.returns
returns c =
    let a = c.args in
    places_exceed (hall_of a.m [] [] a.marks.now) a.t c.requires.2 (any_range (place_exceeds (hall_of a.m [] [] a.marks.now) a.t) 9 _ _ _ _ c.any.ensures.ran refl (λ x b q k. search (rules, tests)))
