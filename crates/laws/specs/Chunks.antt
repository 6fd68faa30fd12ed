-- A list in runs of n entries.
use Rattle.std.specs.Prelude.{◌≡◌, List, ℕ, zero, suc, ◌+◌, ◌*◌, ◌<◌, get_or, drop}
use Rattle.std.specs.Simd.{first_chunks}
use Rattle.std.proofs.Common.{ap, ◌∙◌, arith, get_or-drop, get_or-take}

-- entry j of run i
pub chunk_entry : (n k i j : ℕ) (xs : List ℕ) (d : List ℕ) → i < k → j < n → get_or (get_or (first_chunks n k xs) i d) j 0 ≡ get_or xs (n * i + j) 0
chunk_entry n zero i j xs d l m = elim l [ ]
chunk_entry n (suc k) zero j xs d l m = get_or-take n xs j 0 m ∙ ap (λ a. get_or xs a 0) (omega arith)
chunk_entry n (suc k) (suc i) j xs d l m =
    chunk_entry n k i j (drop n xs) d (omega arith) m ∙ (get_or-drop n xs (n * i + j) 0 ∙ ap (λ a. get_or xs a 0) (omega arith))
