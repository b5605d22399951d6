use Rattle.std.proofs.Common.{◌∙◌, ap, arith}
use Rattle.value_fits.specs.Fitting.{fits}
use Rattle.call_arguments.specs.Placing.{Placing, arguments_fit}
use Rattle.call_arguments.proofs.Lists.{item_is}
use Rattle.call_arguments.proofs.Placed.{arguments_more, arguments_all, first_placed}
use Rattle.call_arguments.proofs.arguments.arguments_fit.Goals as goal

pub loop-index-init : goal.loop-index-init
loop-index-init c =
    first_placed c.args.known.now c.args.next _
    (arguments_fit (fits c.args.types.now) c.args.indices.now c.args.readings.now c.args.nested.now c.args.parameters.now c.args.values.now)
    c.nothing-made.ensures

pub loop-index-preserved : goal.loop-index-preserved
loop-index-preserved c =
    arguments_more (fits c.args.types.now) c.args.indices.now c.args.readings.now c.args.nested.now c.args.parameters.now c.args.values.now
    c.loop-index.index _ _ _ c.loop-index.known c.argument_fits.new.known c.loop-index.made _ _
    (omega arith) (omega arith) (omega arith) (item_is c.args.nested.now c.loop-index.index _ (omega arith)) c.index-parameters-index.is c.index-values-index.is
    c.in_ok-more.ensures.fitted c.in_ok-more.ensures.placed c.in_ok-made.ensures
    ∙ c.loop-index.invariant

pub returns : goal.returns
returns c =
    ap (λ (p : Placing). p.fitted)
    (arguments_all (fits c.args.types.now) c.args.indices.now c.args.readings.now c.args.nested.now c.args.parameters.now c.args.values.now
    c.loop-index.index c.loop-index.known c.loop-index.made _ (omega arith) c.loop-index.invariant)
