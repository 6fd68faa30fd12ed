-- A window by its places, and a mark without its first windows.
use Rattle.std.specs.Prelude.{ℕ, suc, bit_and, count_ones, ◌-◌, ◌*◌, ◌/◌, ◌%◌, ◌^◌}
use Rattle.laws.specs.Fold.{run}
use Rattle.model.specs.Windows.{first_place, last_place}
use Rattle.portal.specs.declared.runs.OpenRun.{OpenRun}

-- how many ones of a mark have a zero below them
abbrev pub starts : ℕ → ℕ
starts mark = count_ones (bit_and mark (65535 - mark * 2 % 65536))

abbrev pub places_of : ℕ → ℕ → OpenRun
places_of mark j = record { «first» = first_place mark j; last = last_place mark j }

-- a mark without its first window
unfoldable pub rest_of : ℕ → ℕ
rest_of mark = mark / 2 ^ suc (last_place mark 0) * 2 ^ suc (last_place mark 0)

-- and without its first k windows
abbrev pub rest_after : ℕ → ℕ → ℕ
rest_after mark k = run (λ _. rest_of) k mark
