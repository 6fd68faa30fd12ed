-- A least path leads from portal to portal.
use Rattle.std.specs.Prelude.{ℕ, zero, suc, ◌≤◌, ◌<◌, ◌≡◌, true, List, [], ◌∷◌, length, get_or}
use Rattle.std.proofs.Common.{le_of_suc-le-suc, arith}
use Rattle.laws.specs.Keys.{Journey, arrived, onward}
use Rattle.model.specs.Halls.{Hall}
use Rattle.model.specs.Portals.{is_portal, portal_graph}
use Rattle.model.specs.LeastPath.{unlinked, keys_to, least_path}
use Rattle.model.specs.PortalCrossings.{Fits}
use Rattle.model.specs.PortalEdges.{head_portal, portal_node}
use Rattle.model.specs.LeastPathFirst.{edge_cost, least_path_lem}

-- a path of portals, of one at least
pub record PortalPath (h : Hall) (path : List ℕ) : Type 0 where
  pub some : 1 ≤ length path
  pub each : (k : ℕ) → k < length path → is_portal h (get_or path k 0) ≡ true

-- edges lead to portals, so a path from a portal passes no other node
journey_path : (h : Hall) → Fits h → {e p a n : ℕ} {path : List ℕ} → is_portal h p ≡ true → Journey (portal_graph h) (edge_cost h) e p path a n → PortalPath h path
journey_path h fits {p = p} here arrived = record { some = omega arith; each = λ k. go k }
  where
    go : (k : ℕ) → k < 1 → is_portal h (get_or (p ∷ []) k 0) ≡ true
    go zero l = here
    go (suc k) l = absurd (omega arith)
journey_path h fits {p = p} here (onward {p = rest} e l w q j x y) = record { some = omega arith; each = λ k. go (journey_path h fits (head_portal h fits e l w) j) k }
  where
    go : PortalPath h rest → (k : ℕ) → k < suc (length rest) → is_portal h (get_or (p ∷ rest) k 0) ≡ true
    go more zero l = here
    go more (suc k) l = more.each k (le_of_suc-le-suc l)

-- such as every least path from a portal
pub least_portal_path : (h : Hall) → Fits h → (e : ℕ) → e < (portal_graph h).nodes → {keys : List ℕ} → keys ≡ keys_to (portal_graph h) e → (p : ℕ) → is_portal h p ≡ true → get_or keys p 0 < unlinked
    → PortalPath h (least_path h (portal_graph h) keys p)
least_portal_path h fits e end {keys} is p here linked =
    rw is (journey_path h fits here (least_path_lem h fits e end p (portal_node h fits p here) (rw is at linked)).0)
