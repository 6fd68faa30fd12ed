-- 01, "Stand-in for petgraph": the least portal path.
use Rattle.std.specs.Prelude.{ℕ, ◌+◌, ◌*◌, ◌/◌, List, get_or}
use Rattle.laws.specs.Graph.{Graph, turned}
use Rattle.laws.specs.LeastCosts.{least_costs}
use Rattle.laws.specs.FirstPath.{path}
use Rattle.model.specs.declared.FieldCell.{FieldCell}
use Rattle.model.specs.Cells.{side_number}
use Rattle.model.specs.Sectors.{sector_cells}
use Rattle.model.specs.Windows.{border_cell, first_place, last_place}
use Rattle.model.specs.Halls.{Hall}
use Rattle.model.specs.Portals.{portal_sector, portal_side, portal_window, portal_mark, key_step}

-- a cell's place in that order
abbrev pub cell_rank : FieldCell → ℕ
cell_rank c = c.column * 10 + c.row

-- "`PortalNode` order (sector, first cell, last cell, boundary N, E, S, W; cells by column, then row)", as a number
unfoldable pub node_rank : Hall → ℕ → ℕ
node_rank h p =
    let first = border_cell (portal_side p) (first_place (portal_mark h p) (portal_window p)) in
    let last = border_cell (portal_side p) (last_place (portal_mark h p) (portal_window p)) in
    ((portal_sector p * sector_cells + cell_rank first) * sector_cells + cell_rank last) * 4 + side_number (portal_side p)

-- stands for no path: more than any key
abbrev pub unlinked : ℕ
unlinked = 4294967295

-- the least key of a path to portal e from each portal. A key is 4,096 × cost + edges, and a least path has fewer than 2,000 edges: least cost, then "fewest edges"
unfoldable pub keys_to : Graph → ℕ → List ℕ
keys_to g e = least_costs (turned g) e unlinked

abbrev pub cost_of_key : ℕ → ℕ
cost_of_key k = k / key_step

-- the path from p: "then, at the first difference, the portal first in `PortalNode` order"
unfoldable pub least_path : Hall → Graph → List ℕ → ℕ → List ℕ
least_path h g keys p = path g (node_rank h) keys (get_or keys p 0) p
