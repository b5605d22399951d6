use Rattle.lowered_steps.proofs.Chained.{few_ended, more_ended}
use Rattle.lowered_steps.proofs.chains.end_arms.Goals as goal

pub returns-then-count-lt2 : goal.returns-then-count-lt2
returns-then-count-lt2 c =
    few_ended c.args.coding.now c.args.count c.args.end c.if-count-lt2.true

pub returns-else-count-lt2 : goal.returns-else-count-lt2
returns-else-count-lt2 c =
    more_ended c.put_label.result c.args.coding.now c.put_label.new.self c.args.count c.args.end c.if-count-lt2.false c.put_label.ensures
