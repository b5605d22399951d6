use Rattle.value_indices.specs.Walking.{seen}
use Rattle.call_notes.proofs.Freshes.{fresh_got, fresh_run, known_is, lower_is, upper_is}
use Rattle.call_notes.proofs.rows.fresh_result.Goals as goal

pub returns : goal.returns
returns c =
    let js = c.args.indices.now in
    let low = c.args.low.now in
    let high = c.args.high.now in
    let cs = c.args.cons.now in
    let v = c.in_ok-variable.variable in
    let m = c.in_ok-number.number in
    let w = seen c.args.walking.now in
    let w1 = seen c.fresh.new.self in
    let w2 = seen c.assume_if.new.self in
    let w3 = seen c.assume_if-2.new.self in
    let w4 = seen c.assume_all.new.self in
    let lower = lower_is c.args.product js low high cs v m c.in_ok-below.below c.in_ok-numbers.numbers c.in_ok-low.low c.bound_below-bound.result
    c.in_ok-number.ensures c.in_ok-numbers.ensures c.in_ok-low.ensures c.in_ok-below.ensures c.bound_below-bound.ensures in
    let upper = upper_is c.args.product js low high cs v m c.in_ok-above.above c.in_ok-numbers.numbers c.in_ok-high.high c.bound_above-limit.result
    c.in_ok-number.ensures c.in_ok-numbers.ensures c.in_ok-high.ensures c.in_ok-above.ensures c.bound_above-limit.ensures in
    let known = known_is c.args.product js low high cs v m c.in_ok-numbers.numbers c.in_ok-conditions.conditions c.in_ok-number.ensures
    c.in_ok-numbers.ensures c.in_ok-conditions.ensures in
    record {
      value = fresh_got c.args.product js low high cs w w1 w2 w3 w4 v c.bound_below-bound.result c.bound_above-limit.result
          c.in_ok-conditions.conditions m c.in_ok-number.ensures c.in_ok-variable.ensures.value c.in_ok-variable.ensures.walked lower
          c.in_ok-assume_if.ensures upper c.in_ok-assume_if-2.ensures known c.in_ok-assume_all.ensures;
      walked = fresh_run c.args.product js low high cs w w1 w2 w3 w4 v c.bound_below-bound.result c.bound_above-limit.result
          c.in_ok-conditions.conditions c.in_ok-variable.ensures.value c.in_ok-variable.ensures.walked lower c.in_ok-assume_if.ensures upper
          c.in_ok-assume_if-2.ensures known c.in_ok-assume_all.ensures;
    }
