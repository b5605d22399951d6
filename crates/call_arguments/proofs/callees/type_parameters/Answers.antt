use Rattle.std.proofs.Common.{◌∙◌, sym, arith}
use Rattle.call_arguments.proofs.Numbered.{count_more, count_end}
use Rattle.call_arguments.proofs.callees.type_parameters.Goals as goal

pub loop-parameter-preserved : goal.loop-parameter-preserved
loop-parameter-preserved c = record {
  counted = count_more c.args.parameters.now c.loop-parameter.parameter-index c.parameter-item.result c.loop-parameter.count _
      c.loop-parameter-test.true c.parameter-item.is (omega arith) ∙ c.loop-parameter.invariant.counted;
  within = omega arith;
}

pub returns : goal.returns
returns c =
    sym (count_end c.args.parameters.now c.loop-parameter.parameter-index c.loop-parameter.count c.loop-parameter-test.false)
    ∙ c.loop-parameter.invariant.counted
