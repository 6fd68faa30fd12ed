-- The step made of chunk k has the bytes that stand from place 6 k on.
use Rattle.std.specs.Prelude.{◌≡◌, List, ℕ, ◌+◌, ◌*◌, ◌<◌, ◌/◌, [], get_or, length}
use Rattle.std.proofs.Common.{ap, ◌∙◌, arith}
use Rattle.laws.specs.Chunks.{chunk_entry}
use Rattle.model.specs.Steps.{step_bytes}
use Rattle.fields.proofs.steps.step_in.Goals as goal

pub returns : goal.returns
returns c =
    let flat : List ℕ = c.args.flat.now in
    let k : ℕ = c.args.k in
    let byte : (j p : ℕ) → j < 6 → 6 * k + j ≡ p → get_or (step_bytes c.into.result) j 0 ≡ get_or flat p 0 =
    λ j p m e.
    ap (λ (l : List ℕ). get_or l j 0) (c.into.ensures ∙ ap (λ (chunks : List (List ℕ)). get_or chunks k []) c.as_chunks.ensures.front)
    ∙ (chunk_entry 6 (length flat / 6) k j flat [] (omega arith) m ∙ ap (λ a. get_or flat a 0) e) in
    λ i. record {
      column = byte 0 (6 * k) (omega arith) (omega arith) i;
      row = byte 1 (6 * k + 1) (omega arith) (omega arith) i;
      goal = byte 2 (6 * k + 2) (omega arith) (omega arith) i;
      side = byte 3 (6 * k + 3) (omega arith) (omega arith) i;
      «first» = byte 4 (6 * k + 4) (omega arith) (omega arith) i;
      last = byte 5 (6 * k + 5) (omega arith) (omega arith) i;
    }
