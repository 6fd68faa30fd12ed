-- Further floors on which two paths tie, or two windows share a cell: the order of paths is by cost, then edges, then `PortalNode` order. Each entry is proved by computation.
use Rattle.std.specs.Prelude.{ℕ, ◌≡◌, refl, List, [], ◌∷◌, ◌++◌}
use Rattle.model.specs.Hallroute.{text, hallroute}
use Rattle.model.specs.Computing.{computing}
use Rattle.audit.specs.Starred.{hall, file, pair}

-- blocked cells that leave two paths of equal cost and equal edges, of which `PortalNode` order and the order of cell indices prefer different ones
abbrev tied : List ℕ
tied = 8 ∷ 19 ∷ 140 ∷ 151 ∷ 157 ∷ 158 ∷ 159 ∷ 162 ∷ 165 ∷ 166 ∷ 173 ∷ 174 ∷ 270 ∷ 271 ∷ []

pub record CornerFloor : Type 0 where
  -- two windows on one corner cell have an edge of weight 0
  pub shared_corner : hallroute (file (hall 2 2 1) (89 ∷ 98 ∷ []) ++ pair 250 113) ≡ text "250 113 3 4 9 1,0:90W90-90 0,0:99S99-99 0,1:13-\n"

pub corner : CornerFloor
unfolding computing
corner = record {
  shared_corner = refl;
}

pub record EdgesFloor : Type 0 where
  -- "fewest edges" comes before `PortalNode` order
  pub fewest_edges : hallroute (file (hall 3 1 1) (29 ∷ 79 ∷ []) ++ pair 273 89) ≡ text "273 89 3 6 15 2,0:40W0-90 1,0:80W80-90 0,0:89-\n"

pub edges : EdgesFloor
unfolding computing
edges = record {
  fewest_edges = refl;
}

pub record TieFloor : Type 0 where
  -- a tie by `PortalNode` order, not by cell index nor by list order
  pub by_node_order : hallroute (file (hall 3 1 1) tied ++ pair 9 280) ≡ text "9 280 5 0 21 0,0:9E9-9 1,0:20W20-30 0,0:79E59-99 1,0:89E89-99 2,0:80-\n"

pub tie : TieFloor
unfolding computing
tie = record {
  by_node_order = refl;
}
