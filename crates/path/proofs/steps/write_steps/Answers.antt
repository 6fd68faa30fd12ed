-- `write_steps` writes the steps of a path: after i turns the list begins with the steps at the first i even positions.
use borrow.Author.Rules.{rules}
use native.Mathlib.Omega.{arith}
use mathlib.Core.Path.{◌≡◌, refl, sym, ap, ◌∙◌}
use mathlib.Core.Bool.{true}
use Prim.Native.Nat.{ℕ, ◌-◌, ◌≤◌, ◌<◌}
use lib.ListN.{length, get_or, length-take, length-drop}
use Rattle.model.specs.declared.Measures.{Measures}
use Rattle.model.specs.Sectors.{sector_at, place_of}
use Rattle.model.specs.Steps.{last_step}
use Rattle.model.specs.Portals.{is_portal, portal_sector}
use Rattle.model.specs.Route.{step_at}
use Rattle.store.specs.Stored.{stored}
use Rattle.graph.specs.Reading.{measures_are, accepted_of, portal_sector_lem}
use Rattle.path.specs.Stepping.{stepped_none, stepped_turn, stepped_end}
use Rattle.path.proofs.steps.write_steps.Goals as goal
use Rattle.path.proofs.steps.write_steps.Goals.{At-loop-i}

some : (c : At-loop-i) → 1 ≤ length c.args.nodes.now
some c = omega (arith, c.requires.0.some)

module _ (c : At-loop-i) (k : ℕ) (l : k < length c.args.nodes.now) where
  portal_at : is_portal (stored c.args.hall.now) (get_or c.args.nodes.now k 0) ≡ true
  portal_at = c.requires.0.each k l

  sector_low : portal_sector (get_or c.args.nodes.now k 0) < 256
  sector_low = omega (arith, portal_sector_lem c.args.hall.now.opened (get_or c.args.nodes.now k 0) portal_at, (accepted_of c.args.hall.now.opened).few_sectors)

pub loop-i-init : goal.loop-i-init
loop-i-init c = search (rules, stepped_none)

pub step_at-step-requires : goal.step_at-step-requires
step_at-step-requires c = rw c.from.ensures (portal_at (goal.at.step_at-step-requires c).At-loop-i _ (omega arith))

pub loop-i-preserved : goal.loop-i-preserved
loop-i-preserved c =
    stepped_turn c.loop-i.invariant c.requires.1 (omega arith) (c.step_at-step.ensures ∙ ap (step_at (stored c.args.hall.now)) c.from.ensures)
    (rw c.from-in-loop-i.ensures at c.put_front.ensures)

pub write_last-requires : goal.write_last-requires
write_last-requires c =
    let at_loop_i = (goal.at.write_last-requires c).At-loop-i in
    let low : c.portal_sector-last.result < 256 = rw (c.portal_sector-last.ensures, c.from-2.ensures) (sector_low at_loop_i _ (omega (arith, some at_loop_i))) in
    ((accepted_of c.args.hall.now.opened).some_rows, low, simp (length-take, length-drop) (omega (arith, c.loop-i.invariant.same, c.requires.1)))

pub returns : goal.returns
returns c =
    let at_loop_i = (goal.at.returns c).At-loop-i in
    let n = length c.args.nodes.now in
    let sector =
    ap (λ (m : Measures). last_step (sector_at m (portal_sector (get_or c.args.nodes.now (n - 1) 0))) (place_of c.args.goal)) (sym (measures_are c.args.hall.now.opened)) in
    stepped_end c.loop-i.invariant c.requires.1 c.args.goal n (some at_loop_i) refl refl (omega arith) sector (rw (c.portal_sector-last.ensures, c.from-2.ensures) at c.write_last.ensures)
