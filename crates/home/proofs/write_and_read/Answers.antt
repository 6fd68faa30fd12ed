-- `write_and_read` reads what it wrote: the file lies in front of the output, as long as write file answered.
use mathlib.Core.Path.{ap}
use native.Mathlib.Omega.{arith}
use lib.ListN.{take, length-take}
use Rattle.model.specs.Answers.{refused_on}
use Rattle.home.specs.Home.{comes_back, refused_back, base_kept, inside, answers_back, filled_back}
use Rattle.home.proofs.write_and_read.Goals as goal

pub returns-in_err-length : goal.returns-in_err-length
returns-in_err-length c =
    let st = c.args.st.now in
    let is = c.in_err-length.ensures.answer.number_is in
    let answer = refused_on _ _ c.from_residual.ensures.1 (refused_back st c.args.output.now c.args.base.now _ is) in
    let kept = base_kept st c.args.output.now c.args.base.now _ is in
    record { answer = answer; written = c.write_file.ensures.written; filled = kept; back = comes_back st c.args.output.now c.args.base.now answer kept }

pub slice_bounds-read_file-end : goal.slice_bounds-read_file-end
slice_bounds-read_file-end c = let l = inside _ c.args.output.now c.args.base.now c.in_ok-length.ensures.answer in omega (arith, l)

pub slice_bounds-read_file-end-2 : goal.slice_bounds-read_file-end-2
slice_bounds-read_file-end-2 c =
    let l = inside _ c.args.output.now c.args.base.now c.in_ok-length.ensures.answer in
    omega (arith, l, length-take c.in_ok-length.length c.write_file.new.output)

pub returns : goal.returns
returns c =
    let read = c.read_file in
    let of = c.in_ok-length.ensures.answer in
    let is = ap (take c.in_ok-length.length) c.write_file.ensures.written in
    let answer = answers_back _ c.args.output.now c.args.base.now of is read.ensures.answer in
    let filled = filled_back _ c.args.output.now c.args.base.now of is read.ensures.filled in
    record { answer = answer; written = c.write_file.ensures.written; filled = filled; back = comes_back _ c.args.output.now c.args.base.now answer filled }
