-- `print_pairs` prints one pair after the other.
use Rattle.std.specs.Prelude.{List, ℕ, [], ◌++◌}
use Rattle.std.proofs.Common.{sym, ap, ◌∙◌, append_assoc, append-nil, arith, rules}
use Rattle.model.specs.Hallroute.{pair_lines}
use Rattle.hallroute.specs.Printed.{first_pair, no_pair}
use Rattle.hallroute.proofs.Printing.{appends_none, appends_more}
use Rattle.hallroute.proofs.print_pairs.Goals as goal

pub print_pair-requires : goal.print_pair-requires
print_pair-requires g c = omega (arith, c.in-Some.ensures.steps.1.1, c.in-Some.ensures.steps.1.2, c.loop-pair.invariant.2)

pub loop-pair-init : goal.loop-pair-init
loop-pair-init g c = (search rules, tt, search rules, [], appends_none _, ap (pair_lines c.args.st.now) (search rules))

pub loop-pair-preserved : goal.loop-pair-preserved
loop-pair-preserved g c =
    let before = c.loop-pair.invariant in
    let steps = c.in-Some.ensures.steps in
    let next = first_pair c.args.st.now _ _ steps.1.0 (rw before.2 at steps.1.1) in (
      search rules,
      tt,
      steps.0 ∙ before.2,
      _,
      appends_more _ _ _ _ _ before.4 c.in_ok-print_pair.ensures,
      before.5 ∙ ap (λ (t : List ℕ). before.3 ++ t) next ∙ sym (append_assoc before.3 _ _),
    )

pub returns : goal.returns
returns g c =
    let before = c.loop-pair.invariant in
    rw (before.5, no_pair c.args.st.now _ c.in-None.ensures.steps.1.0, append-nil) before.4
