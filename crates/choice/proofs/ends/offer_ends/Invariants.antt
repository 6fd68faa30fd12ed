-- `offer_ends` tries each end once. The loop's invariant: the goal's arcs before place k are taken, and weigh no more than an edge may.
use Prim.Native.Nat.{ℕ, ◌≤◌, ◌<◌}
use mathlib.Core.Path.{◌≡◌}
use lib.ListN.{length}
use Rattle.laws.specs.Graph.{Graph, Sound}
use Rattle.choice.specs.Ends.{EndsBegun, end_cost}
use Rattle.choice.proofs.ends.offer_ends.Given as goal

abbrev pub invariant-loop-k : goal.invariant-loop-k
invariant-loop-k l = record {
  begun : (g : Graph) → Sound g → length l.initial.keys ≡ g.nodes → EndsBegun g l.q l.lasts 0 l.initial.keys l.initial.wait → EndsBegun g l.q l.lasts l.k l.keys l.wait;
  light : (j : ℕ) → j < l.k → end_cost l.lasts j ≤ 1048576;
}
