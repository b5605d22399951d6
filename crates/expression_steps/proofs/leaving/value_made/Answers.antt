use Rattle.pattern_leaves.proofs.Rests.{one_of}
use Rattle.expression_steps.proofs.leaving.value_made.Goals as goal

pub returns-in-len1 : goal.returns-in-len1
returns-in-len1 c =
    let is = one_of c.args.values.now c.value-item.result c.in-len1.len_at_least c.in-len1.len_below c.value-item.is in
    record { value = rw is c.part_made.ensures.value; walked = rw is c.part_made.ensures.walked }
