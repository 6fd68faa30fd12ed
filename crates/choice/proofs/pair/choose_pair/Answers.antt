-- `choose_pair` takes the first start, then the first end from it: both have the moves that go with them.
use native.Mathlib.Omega.{arith}
use Prim.Native.Nat.{◌<◌}
use Rattle.std.proofs.Common.{rules}
use Rattle.model.specs.Portals.{sector_portals}
use Rattle.choice.specs.Choosing.{never_none}
use Rattle.choice.specs.FirstPair.{start_run, end_run, no_start, start_leg, some_end, end_last, first_pair}
use Rattle.choice.proofs.pair.choose_pair.Goals as goal

pub returns-in_err-start : goal.returns-in_err-start
returns-in_err-start c =
    let edges = c.args.edges in
    let first = c.in_err-start.ensures.first (start_run c.keys_to_goal.new.keys c.args.p c.args.legs.now) (λ k r l h. search rules) in
    rw c.from_residual.ensures (record {
      pair = no_start edges.sound c.requires.both_ways c.args.p c.args.q c.requires.inside.0 c.requires.inside.1 c.args.legs.now c.args.lasts.now c.keys_to_goal.new.keys c.keys_to_goal.ensures first (omega arith);
      moves = tt;
    })

pub returns-in_err-end : goal.returns-in_err-end
returns-in_err-end c =
    let edges = c.args.edges in
    let start = c.in_ok-start.ensures.first (start_run c.keys_to_goal.new.keys c.args.p c.args.legs.now) (λ k r l h. search rules) in
    let end = c.in_err-end.ensures.first (end_run c.keys_to.new.keys c.args.q c.args.lasts.now) (λ k r l h. search rules) in
    let low : sector_portals < sector_portals = some_end edges.sound c.requires.both_ways c.args.p c.args.q c.requires.inside.0 c.requires.inside.1 c.args.legs.now c.args.lasts.now
    c.keys_to_goal.new.keys c.keys_to_goal.ensures start c.in_ok-start.ensures.low c.keys_to.new.keys c.keys_to.ensures end in
    absurd (omega arith)

pub returns : goal.returns
returns c =
    let edges = c.args.edges in
    let start = c.in_ok-start.ensures.first (start_run c.keys_to_goal.new.keys c.args.p c.args.legs.now) (λ k r l h. search rules) in
    let end = c.in_ok-end.ensures.first (end_run c.keys_to.new.keys c.args.q c.args.lasts.now) (λ k r l h. search rules) in
    record {
      pair = first_pair edges.sound c.requires.both_ways c.args.p c.args.q c.requires.inside.0 c.requires.inside.1 c.args.legs.now c.args.lasts.now
          c.keys_to_goal.new.keys c.keys_to_goal.ensures start c.in_ok-start.ensures.low c.keys_to.new.keys c.keys_to.ensures end;
      moves = (c.in_ok-legs.was, c.in_ok-lasts.was);
    }

pub returns-in_err-legs : goal.returns-in_err-legs
returns-in_err-legs c =
    let edges = c.args.edges in
    let start = c.in_ok-start.ensures.first (start_run c.keys_to_goal.new.keys c.args.p c.args.legs.now) (λ k r l h. search rules) in
    let some = start_leg edges.sound c.requires.both_ways c.args.p c.args.q c.requires.inside.0 c.requires.inside.1 c.args.legs.now c.args.lasts.now
    c.keys_to_goal.new.keys c.keys_to_goal.ensures start c.in_ok-start.ensures.low c.keys_to.new.keys c.keys_to.ensures in
    absurd (never_none _ some c.in_err-legs.was)

pub returns-in_err-lasts : goal.returns-in_err-lasts
returns-in_err-lasts c =
    let edges = c.args.edges in
    let start = c.in_ok-start.ensures.first (start_run c.keys_to_goal.new.keys c.args.p c.args.legs.now) (λ k r l h. search rules) in
    let end = c.in_ok-end.ensures.first (end_run c.keys_to.new.keys c.args.q c.args.lasts.now) (λ k r l h. search rules) in
    let some = end_last edges.sound c.requires.both_ways c.args.p c.args.q c.requires.inside.0 c.requires.inside.1 c.args.legs.now c.args.lasts.now
    c.keys_to_goal.new.keys c.keys_to_goal.ensures start c.in_ok-start.ensures.low c.keys_to.new.keys c.keys_to.ensures end in
    absurd (never_none _ some c.in_err-lasts.was)
