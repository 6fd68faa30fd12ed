-- 01, item 4: the steps of a route.
use Rattle.std.specs.Prelude.{ℕ, List, [], ◌∷◌, ◌++◌}
use Rattle.model.specs.declared.SectorID.{SectorID}
use Rattle.model.specs.declared.PortalWindow.{PortalWindow}
use Rattle.model.specs.declared.RouteStep.{RouteStep}

-- "a step has a sector, a goal index and a window or none"
abbrev pub window_step : SectorID → ℕ → PortalWindow → RouteStep
window_step sector goal w = record { column = sector.column; row = sector.row; goal = goal; side = w.side; «first» = w.«first»; last = w.last }

-- the last step has no window: side 4
abbrev pub last_step : SectorID → ℕ → RouteStep
last_step sector goal = record { column = sector.column; row = sector.row; goal = goal; side = 4; «first» = 0; last = 0 }

-- the flat form of steps, six bytes each
abbrev pub step_bytes : RouteStep → List ℕ
step_bytes s = s.column ∷ s.row ∷ s.goal ∷ s.side ∷ s.«first» ∷ s.last ∷ []

unfoldable pub flat_steps : List RouteStep → List ℕ
flat_steps [] = []
flat_steps (s ∷ steps) = step_bytes s ++ flat_steps steps
