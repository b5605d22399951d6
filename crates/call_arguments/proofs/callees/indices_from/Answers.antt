use Rattle.std.proofs.Common.{◌∙◌, drop, sym}
use Rattle.value_indices.specs.Walking.{got, seen}
use Rattle.call_arguments.specs.Callees.{indices_from, number_parameters}
use Rattle.call_arguments.proofs.Lists.{pushed_all}
use Rattle.call_arguments.proofs.Numbered.{indices_more, indices_walked, indices_end_got, indices_end_run}
use Rattle.call_arguments.proofs.callees.indices_from.Goals as goal

pub loop-parameter-preserved : goal.loop-parameter-preserved
loop-parameter-preserved c =
    let all = c.args.parameters.now in
    let k = c.loop-parameter.parameter-index in
    let p = c.parameter-item.result in
    let j = c.loop-parameter.variable in
    let ts = c.args.types.now in
    let is = c.args.arguments.now in
    let w = seen c.loop-parameter.walking in
    let v = seen c.push_index.new.walking in
    record {
      value = indices_more all k p j _ ts is w v c.loop-parameter.made c.push_index.new.indices c.loop-parameter-test.true c.parameter-item.is
          c.in_ok-push_index.ensures.indices c.in_ok-push_index.ensures.walked c.in_ok-variable.ensures ∙ c.loop-parameter.invariant.value;
      walked = indices_walked all k p j _ ts is w v c.loop-parameter-test.true c.parameter-item.is
          c.in_ok-push_index.ensures.walked c.in_ok-variable.ensures ∙ c.loop-parameter.invariant.walked;
    }

pub returns : goal.returns
returns c =
    let all = c.args.parameters.now in
    let k = c.loop-parameter.parameter-index in
    let j = c.loop-parameter.variable in
    let ts = c.args.types.now in
    let is = c.args.arguments.now in
    let w = seen c.loop-parameter.walking in
    let rest = indices_from j (number_parameters (drop k all)) ts is in
    let past = c.loop-parameter-test.false in
    record {
      value = pushed_all c.loop-parameter.made (got rest w) _ (indices_end_got all k j ts is w past) c.loop-parameter.invariant.value;
      walked = sym (indices_end_run all k j ts is w past) ∙ c.loop-parameter.invariant.walked;
    }
