-- `named_count` counts the cells that have an entry: those passed are counted.
use Rattle.std.proofs.Common.{◌∙◌, arith}
use Rattle.laws.specs.Search.{bit_le, counted_none, counted_turn, counted_few}
use Rattle.model.specs.Store.{is_named}
use Rattle.file.specs.Making.{count_bit, counted_named}
use Rattle.file.proofs.made.named_count.Goals as goal

pub loop-cost-init : goal.loop-cost-init
loop-cost-init c = counted_none _ _

pub overflow_add-count : goal.overflow_add-count
overflow_add-count c =
    let add = c.from-count.ensures ∙ count_bit c.args.base.now c.loop-cost.cost-index in
    omega (arith, counted_few c.loop-cost.invariant, add, bit_le (is_named c.args.base.now c.loop-cost.cost-index))

pub loop-cost-preserved : goal.loop-cost-preserved
loop-cost-preserved c = counted_turn c.loop-cost.invariant (omega arith) (c.from-count.ensures ∙ count_bit c.args.base.now c.loop-cost.cost-index)

pub returns : goal.returns
returns c = (counted_named _ c.loop-cost.invariant (omega arith), counted_few c.loop-cost.invariant)
