-- `exceeds_at` compares the windows on both sides of an edge.
use Rattle.std.proofs.Common.{rules, tests}
use Rattle.std.proofs.iter.Serving.{serving}
use Rattle.builder.proofs.Altering.{few_there, exceeds_by}
use Rattle.builder.proofs.change.exceeds_at.Goals as goal

pub is_some_and-requires : goal.is_some_and-requires
is_some_and-requires c = λ x e. let few = few_there _ _ c.args.side c.requires.0 (search rules) e c.neighbour.ensures in grind serving

pub returns : goal.returns
returns c = exceeds_by _ _ _ _ _ c.requires.4 c.neighbour.ensures (λ e. search (rules, tests)) (λ other e. search (rules, tests))
