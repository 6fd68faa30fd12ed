-- What the pairs of a route are: a start joined to the source, an end joined to the goal, and a portal path between them; and every such pair is there.
use Rattle.std.specs.Prelude.{ℕ, ◌*◌, ◌<◌, ◌≡◌, true, ◌&&◌, map, get_or}
use Rattle.std.proofs.Common.{arith, ◌∙◌}
use Rattle.std.proofs.Math.Path.{sym}
use mathlib.Core.List.Memᴰ
use Rattle.laws.specs.Search.{both, passing_is, passing_has}
use Rattle.laws.specs.Graph.{Graph}
use Rattle.laws.specs.Members.{In, pairs_is, pairs_has}
use Rattle.model.specs.Sectors.{sector_of}
use Rattle.model.specs.Moves.{joined}
use Rattle.model.specs.MovesFewest.{joined_is}
use Rattle.model.specs.Halls.{Hall}
use Rattle.model.specs.Portals.{sector_portals, portal_sector, is_portal, mid_cell}
use Rattle.model.specs.PortalCrossings.{Fits, mid_sector}
use Rattle.model.specs.LeastPath.{unlinked, keys_to}
use Rattle.model.specs.Route.{Pair, starts, ends, end_of, linked_pair, route_pairs}
use Rattle.model.specs.RouteChosen.{link_is, link_has}

-- the lists of starts and ends hold what they say
start_is : (h : Hall) (source : ℕ) {p : ℕ} → In p (starts h source) → (is_portal h p ≡ true) × (joined h.scaled source (mid_cell h p) ≡ true)
unfolding starts
start_is h source {p} i =
    both (is_portal h p) (joined h.scaled source (mid_cell h p)) (passing_is (λ q. is_portal h q && joined h.scaled source (mid_cell h q)) sector_portals (sector_of source * sector_portals) i).2

end_is : (h : Hall) (goal : ℕ) {e : ℕ} → In e (ends h goal) → (is_portal h e ≡ true) × (joined h.scaled (mid_cell h e) goal ≡ true)
unfolding ends
end_is h goal {e} i =
    both (is_portal h e) (joined h.scaled (mid_cell h e) goal) (passing_is (λ q. is_portal h q && joined h.scaled (mid_cell h q) goal) sector_portals (sector_of goal * sector_portals) i).2

module _ {h : Hall} (fits : Fits h) where
  start_has : (source p : ℕ) → is_portal h p ≡ true → joined h.scaled source (mid_cell h p) ≡ true → In p (starts h source)
  unfolding starts
  start_has source p a j =
      let s : sector_of source ≡ portal_sector p = (joined_is h.scaled source (mid_cell h p) j).sector ∙ mid_sector h fits p a in
      passing_has (λ q. is_portal h q && joined h.scaled source (mid_cell h q)) sector_portals (sector_of source * sector_portals) p (omega arith) (omega arith) (rw (a, j))

  end_has : (goal e : ℕ) → is_portal h e ≡ true → joined h.scaled (mid_cell h e) goal ≡ true → In e (ends h goal)
  unfolding ends
  end_has goal e a j =
      let s : portal_sector e ≡ sector_of goal = sym (mid_sector h fits e a) ∙ (joined_is h.scaled (mid_cell h e) goal j).sector in
      passing_has (λ q. is_portal h q && joined h.scaled (mid_cell h q) goal) sector_portals (sector_of goal * sector_portals) e (omega arith) (omega arith) (rw (a, j))

-- THE PAIR of start p and end e
pub record Candidate (h : Hall) (g : Graph) (source goal p e : ℕ) : Type 0 where
  pub start_is : is_portal h p ≡ true
  pub start_joined : joined h.scaled source (mid_cell h p) ≡ true
  pub end_is : is_portal h e ≡ true
  pub end_joined : joined h.scaled (mid_cell h e) goal ≡ true
  pub linked : get_or (keys_to g e) p 0 < unlinked

module _ (h : Hall) (g : Graph) (source goal : ℕ) where
  abbrev pub pair_of : ℕ → ℕ → Pair
  pair_of p e = record { start = p; end = end_of h g goal e }

  pub pair_is : {z : Pair} → In z (route_pairs h g source goal) → (p : ℕ) × (e : ℕ) × Candidate h g source goal p e × (z ≡ pair_of p e)
  unfolding route_pairs end_of
  pair_is {z} i =
      let w = pairs_is linked_pair (starts h source) (map (end_of h g goal) (ends h goal)) i in
      let e = Memᴰ.of_map (end_of h g goal) (ends h goal) w.3 in
      let k = link_is w.0 w.1 w.4 in
      let s = start_is h source w.2 in
      let t = end_is h goal e.1 in
      (w.0, e.0, record { start_is = s.0; start_joined = s.1; end_is = t.0; end_joined = t.1; linked = rw (← e.2) at k.1 }, rw e.2 k.0)

  pub is_pair : Fits h → {p e : ℕ} → Candidate h g source goal p e → In (pair_of p e) (route_pairs h g source goal)
  unfolding route_pairs end_of
  is_pair fits {p} {e} c =
      pairs_has linked_pair (start_has fits source p c.start_is c.start_joined) (Memᴰ.map (end_of h g goal) (end_has fits goal e c.end_is c.end_joined))
      (link_has p (end_of h g goal e) c.linked)
