use Rattle.value_indices.specs.Opening.{each_read, read_or_fresh}
use Rattle.value_indices.specs.Walking.{seen}
use Rattle.value_indices.proofs.Parts.{each_value, each_walked, each_value_end, each_walked_end}
use Rattle.value_indices.proofs.opening.read_each_or_fresh.Goals as goal

pub loop-argument-preserved : goal.loop-argument-preserved
unfolding each_read
loop-argument-preserved c =
    let l = c.loop-argument in
    let f = read_or_fresh c.args.indices.now in
    let xs = c.args.arguments.now in
    let x = c.argument-item.result in
    let w = seen l.walked in
    let v = seen c.read_or_fresh.new.walked in
    let found = c.in_ok-read_or_fresh.ensures in
    record {
      value = each_value f xs l.argument-index x w v c.loop-argument-test.true c.argument-item.is found.walked
          l.made c.push.new.self _ c.in_ok-read_or_fresh.field-0 found.value c.in_ok-push.ensures.pushed l.invariant.value;
      walked = each_walked f xs l.argument-index x w v c.loop-argument-test.true c.argument-item.is found.walked _ l.invariant.walked;
    }

pub returns-clause-value : goal.returns-clause-value
unfolding each_read
returns-clause-value c =
    let l = c.loop-argument in
    each_value_end (read_or_fresh c.args.indices.now) c.args.arguments.now l.argument-index (seen l.walked) c.loop-argument-test.false
    l.made _ l.invariant.value

pub returns-clause-walked : goal.returns-clause-walked
unfolding each_read
returns-clause-walked c =
    let l = c.loop-argument in
    each_walked_end (read_or_fresh c.args.indices.now) c.args.arguments.now l.argument-index (seen l.walked) c.loop-argument-test.false
    _ l.invariant.walked
