-- `settle` ends where the queue of those that wait is empty. The loop's invariant: what waited is kept.
use Rattle.search.proofs.keys.settle.Goals as goal

pub loop-queue-preserved : goal.loop-queue-preserved
loop-queue-preserved c = λ g o r ext s top w. c.drain.ensures.kept g o r ext s top (c.loop-queue.invariant g o r ext s top w)
