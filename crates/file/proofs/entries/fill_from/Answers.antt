-- `fill_from` puts the entries of a file into a list of ones: those passed are in.
use Rattle.std.proofs.Common.{arith, length-set}
use Rattle.laws.specs.Fold.{ran_none, ran_turn}
use Rattle.laws.specs.Puts.{put}
use Rattle.file.specs.Entries.{put_entry}
use Rattle.file.proofs.entries.fill_from.Goals as goal

pub loop-k-init : goal.loop-k-init
loop-k-init c = ran_none (put_entry c.args.file.now) _ _

pub loop-k-preserved : goal.loop-k-preserved
unfolding put
loop-k-preserved c = ran_turn c.loop-k.invariant (omega arith) (rw (c.number.ensures, c.cost.ensures, c.of-entries.ensures.0)) (length-set _ _ _)
