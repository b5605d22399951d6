use Rattle.std.proofs.Common.{map}
use Rattle.value_indices.specs.Walking.{seen}
use Rattle.expression_notes.specs.Patterns.{look}
use Rattle.function_notes.proofs.Walked.{parameter_value, parameter_walked, parameters_value_end, parameters_walked_end}
use Rattle.function_notes.proofs.clauses.open_parameters.Goals as goal

pub loop-typ-preserved : goal.loop-typ-preserved
loop-typ-preserved c =
    let l = c.loop-typ in
    let is = c.args.numbers.now in
    let ps = map look l.left.now in
    let ts = c.args.types.now in
    let t = c.typ-item.result in
    let w = seen l.walking in
    let v = seen c.open_parameter.new.walking in
    let found = c.in_ok-open_parameter.ensures in
    record {
      value = parameter_value is ps _ ts l.typ-index t w v c.loop-typ-test.true c.typ-item.is c.others-left.ensures found.walked
          l.made c.push.new.self _ c.in_ok-open_parameter.field-0 found.value c.in_ok-push.ensures.pushed l.invariant.value;
      walked = parameter_walked is ps _ ts l.typ-index t w v c.loop-typ-test.true c.typ-item.is c.others-left.ensures found.walked _ l.invariant.walked;
    }

pub returns-clause-value : goal.returns-clause-value
returns-clause-value c =
    let l = c.loop-typ in
    parameters_value_end c.args.numbers.now (map look l.left.now) c.args.types.now l.typ-index (seen l.walking) c.loop-typ-test.false l.made _ l.invariant.value

pub returns-clause-walked : goal.returns-clause-walked
returns-clause-walked c =
    let l = c.loop-typ in
    parameters_walked_end c.args.numbers.now (map look l.left.now) c.args.types.now l.typ-index (seen l.walking) c.loop-typ-test.false _ l.invariant.walked
