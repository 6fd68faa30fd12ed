-- The runs of all pairs, and that the first of the least in the order of pairs is 01's pair.
use Rattle.std.specs.Prelude.{Option, Some, None, is_some, IsSome, unwrap_or, ℕ, ◌+◌, ◌*◌, ◌/◌, ◌%◌, ◌≤◌, ◌<◌, ◌≡◌, Bool, ◌&&◌, List, [], ◌∷◌, get_or}
use Rattle.std.proofs.Common.{arith, sym, ◌∙◌}
use Rattle.std.proofs.Math.Path.{refl, ap}
use Rattle.std.proofs.Math.Bool.{true, false}
use Rattle.std.proofs.Math.Option.{none, some}
use Rattle.std.proofs.Math.Dec.{ltb}
use borrow.Author.Tests.{ltb-true, lt-ltb}
use Rattle.laws.specs.Fold.{pick}
use Rattle.laws.specs.Graph.{Graph}
use Rattle.laws.specs.FirstLeast.{Foremost, foremost_is}
use Rattle.laws.specs.Winner.{winner, Holds, empty, holds, row_none, row_some}
use Rattle.laws.specs.Spans.{spans, cell, pairs_in_row}
use Rattle.model.specs.Sectors.{sector_of}
use Rattle.model.specs.Moves.{joined}
use Rattle.model.specs.Halls.{Hall}
use Rattle.model.specs.Portals.{sector_portals, place_portal, is_portal, mid_cell, portal_graph}
use Rattle.model.specs.LeastPath.{unlinked, keys_to, cost_of_key}
use Rattle.model.specs.PortalCrossings.{Fits}
use Rattle.model.specs.Route.{starts, ends, end_of, Pair, linked_pair, run_of, route_pairs, chosen_pair}
use Rattle.graph.specs.Near.{portal_moves, start_test, end_test, near_low, last_moves_lem}

-- the run of a pair, or `unlinked` where a start or end is none or no path joins them
unfoldable pub run_for : ℕ → Option ℕ → Option ℕ → ℕ
run_for key leg last = pick (is_some leg && (is_some last && ltb key unlinked)) (cost_of_key key + unwrap_or last 0) unlinked

-- in the cases that code meets
module _ (key : ℕ) (leg last : Option ℕ) where
  pub no_leg : leg ≡ None → unlinked ≡ run_for key leg last
  unfolding run_for
  no_leg e = rw e refl

  pub no_last : last ≡ None → unlinked ≡ run_for key leg last
  unfolding run_for
  no_last e = rw e (go (is_some leg))
    where
      go : (t : Bool) → unlinked ≡ pick (t && (false && ltb key unlinked)) (cost_of_key key + 0) unlinked
      go true = refl
      go false = refl

  pub no_path : key ≡ unlinked → unlinked ≡ run_for key leg last
  unfolding run_for
  no_path e = go (is_some leg) (is_some last)
    where
      go : (t s : Bool) → unlinked ≡ pick (t && (s && ltb key unlinked)) (cost_of_key key + unwrap_or last 0) unlinked
      go true true = rw e refl
      go true false = refl
      go false s = refl

  pub some_run : IsSome leg → IsSome last → key < unlinked → cost_of_key key + unwrap_or last 0 ≡ run_for key leg last
  unfolding run_for
  some_run a b d = rw (a, b, lt-ltb key unlinked d)

-- the value that is there
some_of : (o : Option ℕ) → IsSome o → Some (unwrap_or o 0) ≡ o
some_of (Some n) e = refl
some_of None e = cc

pub never_none : (o : Option ℕ) → IsSome o → o ≡ None → ⊥
never_none (Some n) s e = cc
never_none None s e = cc

-- a run below `unlinked`
pub record Joins (key : ℕ) (leg last : Option ℕ) : Type 0 where
  pub near_start : IsSome leg
  pub near_end : IsSome last
  pub linked : key < unlinked
  pub run : run_for key leg last ≡ cost_of_key key + unwrap_or last 0

pub joins : (key : ℕ) (leg last : Option ℕ) → run_for key leg last < unlinked → Joins key leg last
unfolding run_for
joins key leg last low = go (is_some leg) (is_some last) (ltb key unlinked) refl refl refl low
  where
    go : (a b c : Bool) → is_some leg ≡ a → is_some last ≡ b → ltb key unlinked ≡ c → pick (a && (b && c)) (cost_of_key key + unwrap_or last 0) unlinked < unlinked → Joins key leg last
    go true true true e f g l = let z = ltb-true key unlinked g in record { near_start = e; near_end = f; linked = z; run = sym (some_run key leg last e f z) }
    go false b c e f g l = absurd (omega arith)
    go true false c e f g l = absurd (omega arith)
    go true true false e f g l = absurd (omega arith)

-- the pairs of two sectors, and the run of pair j: from place j / sector_portals of the start sector, whose first number is p,
-- to place j % sector_portals of the end sector, whose first number is q
abbrev pub sector_pairs : ℕ
sector_pairs = sector_portals * sector_portals

abbrev pub pair_run : Graph → List (Option ℕ) → List (Option ℕ) → ℕ → ℕ → ℕ → ℕ
pair_run g legs lasts p q j = run_for (get_or (keys_to g (q + j % sector_portals)) (p + j / sector_portals) 0) (get_or legs (j / sector_portals) None) (get_or lasts (j % sector_portals) None)

-- ---- the pair
module _ (h : Hall) (source goal : ℕ) where
  -- pair j, with the key of its path, its leg, the moves from its end to the goal, and its run
  abbrev pub pair_at : ℕ → Pair
  pair_at j = record { start = place_portal (sector_of source) (j / sector_portals); end = end_of h (portal_graph h) goal (place_portal (sector_of goal) (j % sector_portals)) }

  abbrev pub key_at : ℕ → ℕ
  key_at j = get_or (keys_to (portal_graph h) (place_portal (sector_of goal) (j % sector_portals))) (place_portal (sector_of source) (j / sector_portals)) 0

  abbrev pub leg_at : ℕ → Option ℕ
  leg_at j = get_or (portal_moves h source) (j / sector_portals) None

  abbrev pub last_at : ℕ → Option ℕ
  last_at j = get_or (portal_moves h goal) (j % sector_portals) None

  abbrev pub run_at : ℕ → ℕ
  run_at = pair_run (portal_graph h) (portal_moves h source) (portal_moves h goal) (sector_of source * sector_portals) (sector_of goal * sector_portals)

  -- pair j is 01's pair
  pub record Chosen (j : ℕ) : Type 0 where
    pub low : j < sector_pairs
    pub joined_by : Joins (key_at j) (leg_at j) (last_at j)
    pub wins : chosen_pair h (portal_graph h) source goal ≡ some (pair_at j)

  module _ (fits : Fits h) where
    cells : ℕ → List Pair
    cells =
        cell linked_pair (end_of h (portal_graph h) goal)
        (λ p. is_portal h p && joined h.scaled source (mid_cell h p))
        (λ p. is_portal h p && joined h.scaled (mid_cell h p) goal)
        sector_portals (sector_of source * sector_portals) (sector_of goal * sector_portals)

    pairs_are : route_pairs h (portal_graph h) source goal ≡ spans cells sector_pairs 0
    unfolding route_pairs starts ends cells
    pairs_are =
        pairs_in_row linked_pair (end_of h (portal_graph h) goal)
        (λ p. is_portal h p && joined h.scaled source (mid_cell h p))
        (λ p. is_portal h p && joined h.scaled (mid_cell h p) goal)
        sector_portals (sector_of goal * sector_portals) sector_portals (sector_of source * sector_portals)

    cell_is : (j : ℕ) → j < sector_pairs → cells j ≡ pick (is_some (leg_at j)) (pick (is_some (last_at j)) (pick (ltb (key_at j) unlinked) (pair_at j ∷ []) []) []) []
    unfolding cells linked_pair end_of
    cell_is j l = rw (start_test h fits source (j / sector_portals) (omega arith), end_test h fits goal (j % sector_portals) (omega arith))

    -- what stands at place j
    module _ (j : ℕ) (l : j < sector_pairs) where
      held : Joins (key_at j) (leg_at j) (last_at j) → cells j ≡ pair_at j ∷ []
      held z = cell_is j l ∙ rw (z.near_start, z.near_end, lt-ltb (key_at j) unlinked z.linked)

      place : Holds run_of unlinked (run_at j) (cells j)
      unfolding run_for run_of end_of
      place = go (is_some (leg_at j)) (is_some (last_at j)) (ltb (key_at j) unlinked) refl refl refl
        where
          read : (a b c : Bool) → is_some (leg_at j) ≡ a → is_some (last_at j) ≡ b → ltb (key_at j) unlinked ≡ c
              → (cells j ≡ pick a (pick b (pick c (pair_at j ∷ []) []) []) []) × (run_at j ≡ pick (a && (b && c)) (cost_of_key (key_at j) + unwrap_or (last_at j) 0) unlinked)
          read a b c e f g = (cell_is j l ∙ rw (e, f, g), rw (e, f, g))

          go : (a b c : Bool) → is_some (leg_at j) ≡ a → is_some (last_at j) ≡ b → ltb (key_at j) unlinked ≡ c → Holds run_of unlinked (run_at j) (cells j)
          go true true true e f g =
              let last : Some (unwrap_or (last_at j) 0) ≡ last_at j = some_of (last_at j) f in
              let below : key_at j < unlinked = ltb-true (key_at j) unlinked g in
              let r = read true true true e f g in
              holds (pair_at j) r.0 (r.1 ∙ ap (λ (n : ℕ). cost_of_key (key_at j) + n) (sym (last_moves_lem h fits goal (j % sector_portals) (omega arith) last))) (omega (arith, r.1, near_low h fits goal (j % sector_portals) (omega arith) last))
          go false b c e f g = let r = read false b c e f g in empty r.0 (omega (arith, r.1))
          go true false c e f g = let r = read true false c e f g in empty r.0 (omega (arith, r.1))
          go true true false e f g = let r = read true true false e f g in empty r.0 (omega (arith, r.1))

    -- THE CHOSEN PAIR: none, or the foremost
    module _ {r : ℕ} (f : Foremost run_at unlinked sector_pairs r) where
      pub chosen_none : sector_pairs ≤ r → chosen_pair h (portal_graph h) source goal ≡ none
      unfolding chosen_pair
      chosen_none past = ap (winner run_of none) pairs_are ∙ row_none run_of cells run_at unlinked sector_pairs place f past

      pub chosen_some : r < sector_pairs → Chosen r
      unfolding chosen_pair
      chosen_some l =
          let z = joins (key_at r) (leg_at r) (last_at r) (foremost_is f l).0 in
          record { low = l; joined_by = z; wins = ap (winner run_of none) pairs_are ∙ row_some run_of cells run_at unlinked sector_pairs place f l (held r l z) }
