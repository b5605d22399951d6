use Rattle.lowered_steps.proofs.Chained.{few_begun, more_begun}
use Rattle.lowered_steps.proofs.chains.begin_arms.Goals as goal

pub returns-then-count-lt2-clause-code : goal.returns-then-count-lt2-clause-code
returns-then-count-lt2-clause-code c =
    few_begun c.args.coding.now c.args.count c.if-count-lt2.true

pub returns-else-count-lt2-clause-code : goal.returns-else-count-lt2-clause-code
returns-else-count-lt2-clause-code c =
    more_begun c.take_labels.result c.args.coding.now c.take_labels.new.self c.args.count c.if-count-lt2.false c.take_labels.ensures.taken
