use Rattle.pattern_leaves.proofs.Rests.{one_of}
use Rattle.expression_steps.proofs.leaving.one_made.Goals as goal

pub returns-in-len1 : goal.returns-in-len1
returns-in-len1 c =
    let is = one_of c.args.parts.now c.core-item.result c.in-len1.len_at_least c.in-len1.len_below c.core-item.is in
    record { value = rw is c.value_made.ensures.value; walked = rw is c.value_made.ensures.walked }
