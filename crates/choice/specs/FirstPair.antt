-- The first pair of the least run in two choices: the first start of least cost to the goal over any end, then the first end of least run from it.
use Rattle.std.specs.Prelude.{Option, Some, None, IsSome, ℕ, ◌+◌, ◌*◌, ◌/◌, ◌%◌, ◌≤◌, ◌<◌, ◌≡◌, refl, ◌⊎◌, List, get_or}
use Rattle.std.proofs.Common.{arith, ap, ◌∙◌, inl, inr}
use Rattle.std.proofs.Math.Decide.{ℕ_discrete}
use Rattle.laws.specs.Graph.{Graph, Sound, BothWays, below_or}
use Rattle.laws.specs.FirstLeast.{FirstLeast, Foremost, foremost_none, foremost_some, none_foremost, foremost_is}
use Rattle.model.specs.LeastPath.{unlinked, keys_to}
use Rattle.model.specs.Portals.{sector_portals}
use Rattle.search.specs.Keys.{keys_back}
use Rattle.choice.specs.Ends.{Nearest}
use Rattle.choice.specs.Choosing.{run_for, some_run, joins, sector_pairs, pair_run}

-- the cost of the start at place c, by keys from number p on: they count the moves from its end to the goal
abbrev pub start_run : List ℕ → ℕ → List (Option ℕ) → ℕ → ℕ
start_run keys p legs c = run_for (get_or keys (p + c) 0) (get_or legs c None) (Some 0)

-- the run to the end at place d, by keys from number q on
abbrev pub end_run : List ℕ → ℕ → List (Option ℕ) → ℕ → ℕ
end_run keys q lasts d = run_for (get_or keys (q + d) 0) (Some 0) (get_or lasts d None)

-- a run does not count the leg
same_leg : (key : ℕ) (leg other last : Option ℕ) → IsSome leg → IsSome other → run_for key leg last ≡ run_for key other last
unfolding run_for
same_leg key leg other last l k = rw (l, k)

-- ---- the two choices
module _ {g : Graph} (sound : Sound g) (back : ∥ BothWays g ∥₁) (p q : ℕ) (in_p : p + sector_portals ≤ g.nodes) (in_q : q + sector_portals ≤ g.nodes)
    (legs lasts : List (Option ℕ)) where
  -- the key and the run from the start at place c to the end at place d
  abbrev key_for : ℕ → ℕ → ℕ
  key_for c d = get_or (keys_to g (q + d)) (p + c) 0

  abbrev run_to : ℕ → ℕ → ℕ
  run_to c d = run_for (key_for c d) (get_or legs c None) (get_or lasts d None)

  abbrev runs : ℕ → ℕ
  runs = pair_run g legs lasts p q

  module _ (keys : List ℕ) (nearest : Nearest g q lasts keys) where
    abbrev start_cost : ℕ → ℕ
    start_cost c = start_run keys p legs c

    -- a start's cost is no more than its run to any end, and one move more
    start_most : (c d : ℕ) → c < sector_portals → d < sector_portals → run_to c d < unlinked → (start_cost c < unlinked) × (start_cost c ≤ run_to c d + 1)
    start_most c d lc ld low =
        let j = joins (key_for c d) (get_or legs c None) (get_or lasts d None) low in
        let found = nearest.found (p + c) d (omega arith) ld j.near_end j.linked in
        let cost = some_run (get_or keys (p + c) 0) (get_or legs c None) (Some 0) j.near_start refl found.0 in
        (omega (arith, cost, found.0), omega (arith, cost, found.1, j.run))

    -- and that of its run to some end
    start_some : (c : ℕ) → c < sector_portals → start_cost c < unlinked → (IsSome (get_or legs c None)) × ((d : ℕ) × (d < sector_portals) × (run_to c d < unlinked) × (run_to c d + 1 ≤ start_cost c))
    start_some c lc low =
        let j = joins (get_or keys (p + c) 0) (get_or legs c None) (Some 0) low in
        let o = nearest.over (p + c) (omega arith) j.linked in
        let run = some_run (key_for c o.0) (get_or legs c None) (get_or lasts o.0 None) j.near_start o.2 (omega (arith, o.3, j.linked)) in
        (j.near_start, (o.0, o.1, omega (arith, run, o.3, j.linked), omega (arith, run, o.3, j.run)))

    -- no start: no pair
    pub no_start : {r : ℕ} → Foremost start_cost unlinked sector_portals r → sector_portals ≤ r → Foremost runs unlinked sector_pairs sector_pairs
    no_start start past = foremost_none refl (λ j l. go j l (below_or (runs j) unlinked))
      where
        go : (j : ℕ) → j < sector_pairs → (runs j < unlinked) ⊎ (unlinked ≤ runs j) → unlinked ≤ runs j
        go j l (inl low) = absurd (omega (arith, none_foremost start past (j / sector_portals) (omega arith), (start_most (j / sector_portals) (j % sector_portals) (omega arith) (omega arith) low).0))
        go j l (inr high) = high

    module _ {c : ℕ} (start : Foremost start_cost unlinked sector_portals c) (some : c < sector_portals) where
      -- the first start
      starts_low : start_cost c < unlinked
      starts_low = (foremost_is start some).0

      starts_first : FirstLeast start_cost sector_portals c
      starts_first = (foremost_is start some).1

      module _ (tos : List ℕ) (to_start : tos ≡ keys_to g (p + c)) where
        -- the runs from it
        ends_are : (d : ℕ) → d < sector_portals → end_run tos q lasts d ≡ run_to c d
        ends_are d l =
            let key : get_or tos (q + d) 0 ≡ key_for c d = ap (λ (k : List ℕ). get_or k (q + d) 0) to_start ∙ keys_back sound back (omega arith) (omega arith) in
            rw key (same_leg (key_for c d) (Some 0) (get_or legs c None) (get_or lasts d None) refl (start_some c some starts_low).0)

        -- its leg
        pub start_leg : IsSome (get_or legs c None)
        start_leg = (start_some c some starts_low).0

        -- some end is joined to it
        pub some_end : {d : ℕ} → Foremost (end_run tos q lasts) unlinked sector_portals d → d < sector_portals
        some_end {d} end = go (below_or d sector_portals)
          where
            go : (d < sector_portals) ⊎ (sector_portals ≤ d) → d < sector_portals
            go (inl k) = k
            go (inr past) = let x = (start_some c some starts_low).1 in absurd (omega (arith, x.2, none_foremost end past x.0 x.1, ends_are x.0 x.1))

        -- its moves to the goal
        pub end_last : {d : ℕ} → Foremost (end_run tos q lasts) unlinked sector_portals d → IsSome (get_or lasts d None)
        end_last {d} end = (joins (get_or tos (q + d) 0) (Some 0) (get_or lasts d None) (foremost_is end (some_end end)).0).near_end

        -- THE PAIR
        pub first_pair : {d : ℕ} → Foremost (end_run tos q lasts) unlinked sector_portals d → Foremost runs unlinked sector_pairs (c * sector_portals + d)
        first_pair {d} end = foremost_some (omega (arith, chosen, ends_are d k, (foremost_is end k).0)) (record {
          low = omega (arith, k);
          before = λ j l. omega (arith, chosen, earlier j (omega (arith, k)) l (below_or (runs j) unlinked));
          least = λ j l. omega (arith, chosen, most j l (below_or (runs j) unlinked));
        })
          where
            k : d < sector_portals
            k = some_end end

            ends_first : FirstLeast (end_run tos q lasts) sector_portals d
            ends_first = (foremost_is end k).1

            chosen : runs (c * sector_portals + d) ≡ run_to c d
            chosen =
                let a : (c * sector_portals + d) / sector_portals ≡ c = omega (arith, k) in
                let b : (c * sector_portals + d) % sector_portals ≡ d = omega (arith, k) in
                rw (a, b)

            -- its run is the start's cost without the one move more
            cost_is : run_to c d + 1 ≤ start_cost c
            cost_is = let x = (start_some c some starts_low).1 in omega (arith, x.3, ends_first.least x.0 x.1, ends_are x.0 x.1, ends_are d k)

            most : (j : ℕ) → j < sector_pairs → (runs j < unlinked) ⊎ (unlinked ≤ runs j) → run_to c d ≤ runs j
            most j l (inl b) = omega (arith, cost_is, starts_first.least (j / sector_portals) (omega arith), (start_most (j / sector_portals) (j % sector_portals) (omega arith) (omega arith) b).1)
            most j l (inr b) = omega (arith, (foremost_is end k).0, ends_are d k)

            earlier : (j : ℕ) → j < sector_pairs → j < c * sector_portals + d → (runs j < unlinked) ⊎ (unlinked ≤ runs j) → run_to c d < runs j
            earlier j l i (inr b) = omega (arith, (foremost_is end k).0, ends_are d k)
            earlier j l i (inl b) = at (ℕ_discrete (j / sector_portals) c)
              where
                at : Dec (j / sector_portals ≡ c) → run_to c d < run_to (j / sector_portals) (j % sector_portals)
                at (no e) = omega (arith, cost_is, starts_first.before (j / sector_portals) (omega (arith, k)), (start_most (j / sector_portals) (j % sector_portals) (omega arith) (omega arith) b).1)
                at (yes e) = rw e (omega (arith, ends_first.before (j % sector_portals) (omega arith), ends_are (j % sector_portals) (omega arith), ends_are d k))
