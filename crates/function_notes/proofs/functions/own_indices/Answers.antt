use Rattle.value_indices.specs.Walking.{seen}
use Rattle.value_indices.proofs.Parts.{each_value, each_walked, each_value_end, each_walked_end}
use Rattle.function_notes.specs.Functions.{own_index}
use Rattle.function_notes.proofs.functions.own_indices.Goals as goal

pub loop-own-preserved : goal.loop-own-preserved
loop-own-preserved c =
    let l = c.loop-own in
    let xs = c.args.variables.now in
    let x = c.own-item.result in
    let w = seen l.walking in
    let v = seen c.own_index.new.walking in
    let found = c.in_ok-own_index.ensures in
    record {
      value = each_value own_index xs l.own-index x w v c.loop-own-test.true c.own-item.is found.walked
          l.made c.push.new.self _ c.in_ok-own_index.field-0 found.value c.in_ok-push.ensures.pushed l.invariant.value;
      walked = each_walked own_index xs l.own-index x w v c.loop-own-test.true c.own-item.is found.walked _ l.invariant.walked;
    }

pub returns-clause-value : goal.returns-clause-value
returns-clause-value c =
    let l = c.loop-own in
    each_value_end own_index c.args.variables.now l.own-index (seen l.walking) c.loop-own-test.false l.made _ l.invariant.value

pub returns-clause-walked : goal.returns-clause-walked
returns-clause-walked c =
    let l = c.loop-own in
    each_walked_end own_index c.args.variables.now l.own-index (seen l.walking) c.loop-own-test.false _ l.invariant.walked
