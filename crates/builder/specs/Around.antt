-- The four sides of a sector, and those of the sectors around a changed one: marked afresh one after the other, and searched for one that exceeds.
use Rattle.std.specs.Prelude.{Bool, ◌&&◌, List, ℕ, ◌+◌, ◌*◌}
use Rattle.laws.specs.Fold.{run}
use Rattle.laws.specs.Search.{any}
use Rattle.laws.specs.Each.{each}
use Rattle.model.specs.declared.Measures.{Measures}
use Rattle.model.specs.Cells.{side_at}
use Rattle.model.specs.Halls.{Hall}
use Rattle.model.specs.Change.{nearby, is_there, exceeds_at}
use Rattle.builder.specs.Marks.{fresh}

-- side i of sector s marked as the costs give, and all four
abbrev pub side_fresh : Measures → List ℕ → ℕ → ℕ → List ℕ → List ℕ
side_fresh m costs s i = each (fresh m costs) (s * 4 + i)

unfoldable pub sector_fresh : Measures → List ℕ → ℕ → List ℕ → List ℕ
sector_fresh m costs s marks = run (side_fresh m costs s) 4 marks

-- whether a side of sector s exceeds, and whether one of the sector at place k does, if there is one
unfoldable pub sector_exceeds : Hall → ℕ → ℕ → Bool
sector_exceeds h t s = any (λ i. exceeds_at h t s (side_at i)) 4

abbrev pub place_exceeds : Hall → ℕ → ℕ → Bool
place_exceeds h t k = is_there h.measures t k && sector_exceeds h t (nearby h.measures t k)
