-- Demand 3 at work: halls, lists of calls and pairs that meet its premises, and floors on which its bound is met exactly.
use Rattle.std.specs.Prelude.{ℕ, ◌+◌, ◌*◌, ◌%◌, ◌≤◌, ◌≡◌, refl, ◌&&◌, List, [], ◌∷◌, ltb, replicate}
use Rattle.std.proofs.Common.{arith, sym, subst, inl, inr}
use Rattle.laws.specs.Search.{passing}
use Rattle.laws.specs.Floor.{BorderMove}
use Rattle.model.specs.Account.{Call, change, route, opening, account_after, account_costs, border_moves, Along, Walk}
use Rattle.model.specs.Store.{size_of}
use Rattle.model.specs.Calls.{build_into, a_route, route_answer, store_after}
use Rattle.model.specs.ScaleOne.{floor_one}
use Rattle.model.specs.Computing.{computing}
use Rattle.audit.specs.Starred.{hall, floor}
use Rattle.audit.specs.Claim.{Claim}
use Rattle.audit.specs.Demand3.{demand_3}

-- the move over a border from x to y
abbrev over : ℕ → ℕ → BorderMove
over x y = record { from = x; to = y }

-- ---- 2 by 1, all open, then three calls: one change, one that is refused, and a route call
abbrev base : List ℕ
base = floor (hall 2 1 1) []

abbrev lent : List ℕ
lent = replicate (size_of (hall 2 1 1)) 0

abbrev list : List Call
list = change 0 255 ∷ change 200 1 ∷ route 5 7 1 ∷ []

-- the premises hold, so the theorem speaks of 99 to 190
claims : Claim (account_after (opening (hall 2 1 1) base) list) 99 190 (route_answer (store_after (build_into (hall 2 1 1) base lent) list) 99 190 1001)
unfolding computing
claims = (demand_3 (hall 2 1 1) base lent list 99 190 1001).promised refl (λ before n cost rest e k. refl) (record { differ = λ e. omega arith; apart = refl; roomy = omega arith })

-- the route given, and a walk of one move over one border
given : route_answer (store_after (build_into (hall 2 1 1) base lent) list) 99 190 1001 ≡ a_route 2 5 6
unfolding computing
given = refl

walk : Walk (account_after (opening (hall 2 1 1) base) list) 99 190 1 (over 99 190 ∷ [])
unfolding computing
walk = record { next = 190 ∷ []; goes = (omega arith, refl, inr (refl, inl refl), (omega arith, refl, refl)); moves = refl; crossed = refl; allowed = λ b i. tt }

-- run + 5 is n + 10 × k: the bound is met exactly
met : 6 + 5 ≤ 1 + 10 * 1
met = claims.at_most 2 5 6 given 1 (over 99 190 ∷ []) walk

-- ---- the bound is sharp for more borders: 3 by 1, the insides walled except row 9, the border columns open
abbrev walled : List ℕ
walled = passing (λ n. ltb (n % 100) 90 && (ltb 0 (n % 10) && ltb (n % 10) 9)) 300 0

-- from (9, 9) of the first sector to (0, 9) of the last: 11 moves along row 9 over 2 borders, and run 26 = 11 + 10 × 2 - 5
sharp : route_answer (build_into (hall 3 1 1) (floor (hall 3 1 1) walled) (replicate (size_of (hall 3 1 1)) 0)) 99 290 1001 ≡ a_route 3 5 26
unfolding computing
sharp = refl

-- scale 1 leaves the costs as they are
unscaled : account_costs (opening (hall 3 1 1) (floor (hall 3 1 1) walled)) ≡ floor (hall 3 1 1) walled
unfolding account_costs
unscaled = floor_one (hall 3 1 1) refl (floor (hall 3 1 1) walled)

-- x is followed by these cells, up to 290
abbrev ToEnd : ℕ → List ℕ → List ℕ → Type 0
ToEnd x next costs = Along (hall 3 1 1) costs x next 290

abbrev row_9 : List ℕ
row_9 = 190 ∷ 191 ∷ 192 ∷ 193 ∷ 194 ∷ 195 ∷ 196 ∷ 197 ∷ 198 ∷ 199 ∷ 290 ∷ []

to_end : ToEnd 99 row_9 (floor (hall 3 1 1) walled)
unfolding computing
to_end =
    let a : ToEnd 198 (199 ∷ 290 ∷ []) (floor (hall 3 1 1) walled) = (omega arith, refl, inr (refl, inl refl), (omega arith, refl, inr (refl, inl refl), (omega arith, refl, refl))) in
    let b : ToEnd 195 (196 ∷ 197 ∷ 198 ∷ 199 ∷ 290 ∷ []) (floor (hall 3 1 1) walled) =
    (omega arith, refl, inr (refl, inl refl), (omega arith, refl, inr (refl, inl refl), (omega arith, refl, inr (refl, inl refl), a))) in
    let c : ToEnd 192 (193 ∷ 194 ∷ 195 ∷ 196 ∷ 197 ∷ 198 ∷ 199 ∷ 290 ∷ []) (floor (hall 3 1 1) walled) =
    (omega arith, refl, inr (refl, inl refl), (omega arith, refl, inr (refl, inl refl), (omega arith, refl, inr (refl, inl refl), b))) in
    (omega arith, refl, inr (refl, inl refl), (omega arith, refl, inr (refl, inl refl), (omega arith, refl, inr (refl, inl refl), c)))

along_row_9 : Walk (opening (hall 3 1 1) (floor (hall 3 1 1) walled)) 99 290 11 (over 99 190 ∷ over 199 290 ∷ [])
unfolding border_moves
along_row_9 = record { next = row_9; goes = subst (ToEnd 99 row_9) (sym unscaled) to_end; moves = refl; crossed = refl; allowed = λ b i. tt }
