-- `any_again` answers refusal 28: no entry passed was met before, and the floor numbers of those passed are marked.
use Rattle.file.specs.Entries.{Unrepeated}
use Rattle.file.proofs.entries.any_again.Given as goal

abbrev pub invariant-loop-k : goal.invariant-loop-k
invariant-loop-k l = Unrepeated l.file l.k l.met
