use Rattle.std.proofs.Common.{arith, ◌∙◌}
use Rattle.call_arguments.proofs.TypeVariables.{typed_all, typed_more, type_typed_all, type_typed_more}
use Rattle.call_arguments.proofs.typed.+typed.Goals as goal

pub first_value-loop-index-preserved : goal.first_value-loop-index-preserved
first_value-loop-index-preserved t c =
    typed_more c.args.from c.args.types.now c.args.values.now c.args.variable c.loop-index.index _ _ c.loop-index.made _ _ (omega arith) (omega arith)
    c.index-types-index.is c.index-values-index.is c.in_ok-found.ensures c.fuller-made.ensures
    ∙ c.loop-index.invariant

pub first_value-returns : goal.first_value-returns
first_value-returns t c =
    typed_all c.args.from c.args.types.now c.args.values.now c.args.variable c.loop-index.index c.loop-index.made _ (omega arith) c.loop-index.invariant

pub first_type-loop-index-preserved : goal.first_type-loop-index-preserved
first_type-loop-index-preserved t c =
    type_typed_more c.args.from c.args.types.now c.args.readings.now c.args.variable c.loop-index.index _ _ c.loop-index.made _ _ (omega arith) (omega arith)
    c.index-types-index.is c.index-readings-index.is c.in_ok-found.ensures c.fuller-made.ensures
    ∙ c.loop-index.invariant

pub first_type-returns : goal.first_type-returns
first_type-returns t c =
    type_typed_all c.args.from c.args.types.now c.args.readings.now c.args.variable c.loop-index.index c.loop-index.made _ (omega arith) c.loop-index.invariant
