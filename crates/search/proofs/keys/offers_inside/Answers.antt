-- `offers_inside` searches the twenty places.
use Prim.Native.Nat.{ℕ, ◌+◌}
use mathlib.Core.Path.{◌≡◌, sym, ◌∙◌, refl}
use mathlib.Core.Bool.{Bool, false}
use lib.ListN.{get_or}
use Rattle.std.specs.Prelude.{◌&&◌, ltb}
use Rattle.std.proofs.Common.{rules, tests}
use Rattle.laws.specs.Search.{any_none}
use Rattle.laws.specs.Ranges.{any_range}
use Rattle.model.specs.Portals.{sector_portals, portal_sector, place_portal, arc_at}
use Rattle.search.proofs.keys.offers_inside.Goals as goal

pub returns : goal.returns
returns c =
    let w : ℕ → ℕ = λ k. get_or c.args.edges.weights.now (arc_at c.args.u k) 0 in
    let test : ℕ → Bool = λ k. ltb 0 (w k) && ltb (get_or c.args.keys.now c.args.u 0 + w k) (get_or c.args.keys.now (place_portal (portal_sector c.args.u) k) 0) in
    λ none k l pos.
    let no : test k ≡ false = any_none test sector_portals k (sym (any_range test sector_portals _ _ _ _ c.any.ensures.ran refl (λ x b q k. search (rules, tests))) ∙ none) l in
    search (rules, tests)
