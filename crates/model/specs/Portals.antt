-- 01, item 8, second part: portals and their edges. A side has at most five windows, so window j of side k of sector s is portal s × 20 + k × 5 + j.
use Rattle.std.specs.Prelude.{ℕ, ◌+◌, ◌*◌, ◌/◌, ◌%◌, Bool, ◌&&◌, List, [], ltb, eqb, get_or, replicate}
use Rattle.laws.specs.Fold.{pick}
use Rattle.laws.specs.Table.{tabulate}
use Rattle.laws.specs.Graph.{Graph}
pub use Rattle.laws.specs.Keys.{key_step}
use Rattle.model.specs.declared.Measures.{Measures}
use Rattle.model.specs.declared.PortalWindow.{PortalWindow}
use Rattle.model.specs.declared.Side.{Side}
use Rattle.model.specs.Cells.{side_number, side_at, opposite}
use Rattle.model.specs.Sectors.{sectors, floor_number, costs_of, beyond, has_beyond}
use Rattle.model.specs.Moves.{moves, apart}
use Rattle.model.specs.Windows.{border, window_count, crossing, window_at}
use Rattle.model.specs.Halls.{Hall, mark_at}

-- the numbers for portals of a side, of a sector, and of the largest hall, which has 100 sectors
abbrev pub side_portals : ℕ
side_portals = 5

abbrev pub sector_portals : ℕ
sector_portals = 20

abbrev pub hall_portals : ℕ
hall_portals = 2000

-- the arcs of a sector: 20 for each of its numbers
abbrev pub sector_arcs : ℕ
sector_arcs = 400

-- the numbers and arcs of a hall
abbrev pub portal_count : Measures → ℕ
portal_count m = sectors m * sector_portals

abbrev pub arc_count : Measures → ℕ
arc_count m = sectors m * sector_arcs

-- "A portal is a sector and a window": the number from sector, side and window
abbrev pub portal_at : ℕ → Side → ℕ → ℕ
portal_at s side j = s * sector_portals + side_number side * side_portals + j

-- and back
abbrev pub portal_sector : ℕ → ℕ
portal_sector p = p / sector_portals

abbrev pub portal_side : ℕ → Side
portal_side p = side_at (p % sector_portals / side_portals)

abbrev pub portal_window : ℕ → ℕ
portal_window p = p % side_portals

-- its place among the numbers of its sector, and the number at a place
abbrev pub portal_place : ℕ → ℕ
portal_place p = p % sector_portals

abbrev pub place_portal : ℕ → ℕ → ℕ
place_portal s c = s * sector_portals + c

abbrev pub portal_mark : Hall → ℕ → ℕ
portal_mark h p = mark_at h (portal_sector p) (portal_side p)

unfoldable pub is_portal : Hall → ℕ → Bool
is_portal h p = ltb (portal_sector p) (sectors h.measures) && ltb (portal_window p) (window_count (portal_mark h p))

-- the window of a portal
abbrev pub window_of : Hall → ℕ → PortalWindow
window_of h p = window_at (portal_side p) (portal_mark h p) (portal_window p)

-- the crossing of a portal: its place on the side, the index of its cell (01's midpoint), and the floor number of that
abbrev pub crossing_of : Hall → ℕ → ℕ
crossing_of h p = crossing (portal_mark h p) (portal_window p)

unfoldable pub midpoint : Hall → ℕ → ℕ
midpoint h p = border (portal_side p) (crossing_of h p)

unfoldable pub mid_cell : Hall → ℕ → ℕ
mid_cell h p = floor_number (portal_sector p) (midpoint h p)

-- the moves from a portal's midpoint to the cells of its sector
abbrev pub moves_from : Hall → ℕ → List ℕ
moves_from h p = moves (costs_of h.scaled (portal_sector p)) (midpoint h p)

-- the portal of the same number on the facing side
unfoldable pub facing : Hall → ℕ → ℕ
facing h p = portal_at (beyond h.measures (portal_sector p) (portal_side p)) (opposite (portal_side p)) (portal_window p)

-- place c of portal p leads to portal c of its sector, and p's own place to the facing portal
unfoldable pub head_of : Hall → ℕ → ℕ → ℕ
head_of h p c = pick (eqb c (portal_place p)) (facing h p) (place_portal (portal_sector p) c)

-- an edge of weight w as a key: 4,096 × w + 1; 0 says that there is no edge
abbrev pub key : ℕ → ℕ
key w = key_step * w + 1

-- "The i-th windows of facing sides have an edge of weight 1, for i below the smaller count"
unfoldable pub outer_edge : Hall → ℕ → ℕ
outer_edge h p = pick (has_beyond h.measures (portal_sector p) (portal_side p) && is_portal h (facing h p)) (key 1) 0

-- "Two portals of a sector whose midpoints are joined inside it have an edge, weight the fewest moves (0 if equal)": `from` holds the moves from one midpoint to each of the 100 cells
unfoldable pub inner_edge : Hall → List ℕ → ℕ → ℕ
inner_edge h from q = pick (is_portal h q && ltb (get_or from (midpoint h q) 0) apart) (key (get_or from (midpoint h q) 0)) 0

-- the 20 edges of a portal by place
unfoldable pub edge_at : Hall → ℕ → List ℕ → ℕ → ℕ
edge_at h p from c = pick (eqb c (portal_place p)) (outer_edge h p) (inner_edge h from (place_portal (portal_sector p) c))

unfoldable pub edges_from : Hall → ℕ → List ℕ → List ℕ
edges_from h p from = tabulate (edge_at h p from) sector_portals 0

unfoldable pub edges_of : Hall → ℕ → List ℕ
edges_of h p = pick (is_portal h p) (edges_from h p (moves_from h p)) (replicate sector_portals 0)

-- the edges of all portals
unfoldable pub edges : Hall → List (List ℕ)
edges h = tabulate (edges_of h) (portal_count h.measures) 0

-- arc e is place e % 20 of portal e / 20
abbrev pub arc_tail : ℕ → ℕ
arc_tail e = e / sector_portals

abbrev pub arc_place : ℕ → ℕ
arc_place e = e % sector_portals

abbrev pub arc_at : ℕ → ℕ → ℕ
arc_at p c = p * sector_portals + c

-- the portal graph
abbrev pub graph_of : Hall → List (List ℕ) → Graph
graph_of h table = record {
  nodes = portal_count h.measures;
  arcs = arc_count h.measures;
  tail = arc_tail;
  head = λ e. head_of h (arc_tail e) (arc_place e);
  weight = λ e. get_or (get_or table (arc_tail e) []) (arc_place e) 0;
}

unfoldable pub portal_graph : Hall → Graph
portal_graph h = graph_of h (edges h)
