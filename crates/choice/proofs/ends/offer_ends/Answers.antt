-- `offer_ends` tries each end once. The loop's invariant: the goal's arcs before place k are taken.
use native.Mathlib.Omega.{arith}
use mathlib.Core.Path.{◌∙◌}
use Prim.Native.Nat.{ℕ, ◌≤◌}
use Rattle.std.proofs.Common.{below_more}
use Rattle.laws.specs.Starts.{starts_more}
use Rattle.model.specs.Portals.{sector_portals}
use Rattle.choice.specs.Ends.{end_at, end_cost}
use Rattle.choice.proofs.ends.offer_ends.Goals as goal

pub loop-k-preserved : goal.loop-k-preserved
loop-k-preserved c =
    record {
      begun = λ g sound numbers b.
          starts_more g sector_portals (end_at c.args.q) (end_cost c.args.lasts.now) sound (λ j l. omega arith) c.loop-k.keys c.loop-k.wait (c.loop-k.auto.keys ∙ numbers) (c.loop-k.auto.wait
          ∙ c.requires.1
          ∙ numbers) c.loop-k.k (omega arith) c.offer_end.ensures.tried (c.loop-k.invariant.begun g sound numbers b);
      light = below_more (λ (j : ℕ). end_cost c.args.lasts.now j ≤ 1048576) c.loop-k.k c.loop-k.invariant.light c.offer_end.ensures.light;
    }
