-- `push_steps`: in a turn the first k steps stand behind the text.
use Rattle.std.proofs.Common.{◌≡◌, ◌++◌, ◌+◌, ◌*◌, ◌≤◌}
use Rattle.arrayvec.specs.ArrayString.{array_string_len}
use Rattle.model.specs.FlatSteps.{steps_in}
use Rattle.model.specs.Hallroute.{steps_text}
use Rattle.cards.proofs.lines.push_steps.Given as goal

abbrev pub invariant-loop-k : goal.invariant-loop-k
invariant-loop-k g l = (l.line.bytes ≡ l.initial.line.bytes ++ steps_text (steps_in l.k l.flat)) × (array_string_len l.line ≤ array_string_len l.initial.line + 20 * l.k)
