-- 01, "The hall account of demand 3", and the calls that it is fed.
use Rattle.std.specs.Prelude.{ℕ, suc, ◌<◌, ◌≡◌, ◌⊎◌, true, ◌&&◌, List, [], ◌∷◌, ltb, eqb, length, set}
use Rattle.laws.specs.Fold.{pick}
use Rattle.laws.specs.Members.{In}
use Rattle.laws.specs.Floor.{BorderMove}
use Rattle.model.specs.declared.Measures.{Measures}
use Rattle.model.specs.Costs.{open_at}
use Rattle.model.specs.Sectors.{cells, sector_of, across, down}
use Rattle.model.specs.Scaling.{scale_floor}

-- a change or a route call with its arguments; room is how many steps the lent list holds
pub data Call : Type 0 where
  change : (number cost : ℕ) → Call
  route : (source goal room : ℕ) → Call

-- "It holds what build was given: columns, rows, scale, base costs"
pub record Account : Type 0 where
  pub measures : Measures
  pub base : List ℕ

abbrev pub opening : Measures → List ℕ → Account
opening m base = record { measures = m; base = base }

-- "At scale 1, a change whose floor number lies on the floor puts its cost there. No other change alters the account (by the premises it is refused), nor does any route call, whatever it answers"
unfoldable pub fed : Account → Call → Account
fed a (change n cost) = pick (eqb a.measures.scale 1 && ltb n (cells a.measures)) (record { measures = a.measures; base = set a.base n cost }) a
fed a (route source goal room) = a

unfoldable pub account_after : Account → List Call → Account
account_after a [] = a
account_after a (c ∷ calls) = account_after (fed a c) calls

-- "Scaled costs are what item 7's scaling of the whole floor gives for these base costs"
unfoldable pub account_costs : Account → List ℕ
account_costs a = scale_floor a.measures a.base

-- cells that share a side, "over a sector border too": one apart on one axis of the plain floor, and level on the other
abbrev pub OneApart : ℕ → ℕ → Type 0
OneApart x y = (y ≡ suc x) ⊎ (x ≡ suc y)

abbrev pub ShareSide : Measures → ℕ → ℕ → Type 0
ShareSide m x y = ((across m x ≡ across m y) × OneApart (down m x) (down m y)) ⊎ ((down m x ≡ down m y) × OneApart (across m x) (across m y))

-- "a list of one or more cells of the floor: each next one shares a side with the one before, over a sector border too, and none has scaled cost 255": from x over the cells of the list to y
abbrev pub Along : Measures → List ℕ → ℕ → List ℕ → ℕ → Type 0
Along m costs x [] y = (x < cells m) × (open_at costs x ≡ true) × (x ≡ y)
Along m costs x (z ∷ rest) y = (x < cells m) × (open_at costs x ≡ true) × ShareSide m x z × Along m costs z rest y

-- "k counts its moves into another sector, each time anew": these moves, in order
unfoldable pub border_moves : ℕ → List ℕ → List BorderMove
border_moves x [] = []
border_moves x (z ∷ rest) = pick (eqb (sector_of x) (sector_of z)) (border_moves z rest) (record { from = x; to = z } ∷ border_moves z rest)

-- A walk from x to y: n is its moves, "its cells less one", and `over` those of them over a border, in order, k in number.
-- Allowed says which moves over a border a walk may make.
pub record WalkBy (Allowed : BorderMove → Type 0) (a : Account) (x y n : ℕ) (over : List BorderMove) : Type 0 where
  pub next : List ℕ
  pub goes : Along a.measures (account_costs a) x next y
  pub moves : length next ≡ n
  pub crossed : border_moves x next ≡ over
  pub allowed : (b : BorderMove) → In b over → Allowed b

-- between open cells it may make any
abbrev pub AnyBorder : BorderMove → Type 0
AnyBorder b = Unit

abbrev pub Walk : Account → ℕ → ℕ → ℕ → List BorderMove → Type 0
Walk a x y n over = WalkBy AnyBorder a x y n over
