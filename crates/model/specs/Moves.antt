-- 01, item 7, second part: moves inside a sector, and "joined".
use Rattle.std.specs.Prelude.{ℕ, ◌*◌, ◌/◌, ◌%◌, Bool, ◌&&◌, List, ltb, eqb, get_or}
use Rattle.laws.specs.Fold.{pick}
use Rattle.laws.specs.Graph.{Graph}
use Rattle.laws.specs.LeastCosts.{least_costs}
use Rattle.model.specs.Cells.{side_at, beside}
use Rattle.model.specs.Costs.{open_at}
use Rattle.model.specs.Sectors.{sector_cells, sector_of, place_of, costs_of}

-- "Moves inside a sector go between open side neighbours at 1 each": for j beside i, 1 where j is in the sector and both are open, else 0
unfoldable pub move : List ℕ → ℕ → ℕ → ℕ
move costs i j = pick (ltb j sector_cells && (open_at costs i && open_at costs j)) 1 0

-- a sector's moves, by its 100 costs: arc e leaves cell e / 4 over its side e % 4
abbrev pub move_graph : List ℕ → Graph
move_graph costs = record {
  nodes = sector_cells;
  arcs = sector_cells * 4;
  tail = λ e. e / 4;
  head = λ e. beside (e / 4) (side_at (e % 4));
  weight = λ e. move costs (e / 4) (beside (e / 4) (side_at (e % 4)));
}

-- stands for no moves: more than any count of moves inside a sector
abbrev pub apart : ℕ
apart = 255

-- the fewest moves from cell i to each of the 100 cells, and `apart` where none lead there
unfoldable pub moves : List ℕ → ℕ → List ℕ
moves costs i = least_costs (move_graph costs) i apart

-- the fewest moves from floor number x to floor number y of the same sector
unfoldable pub moves_to : List ℕ → ℕ → ℕ → ℕ
moves_to costs x y = get_or (moves (costs_of costs (sector_of x)) (place_of x)) (place_of y) 0

-- "Two cells of a sector are joined if moves lead from one to the other; a cell is joined to itself, blocked or not"
unfoldable pub joined : List ℕ → ℕ → ℕ → Bool
joined costs x y = eqb (sector_of x) (sector_of y) && ltb (moves_to costs x y) apart
