use Rattle.lowered_steps.proofs.Chained.{kept_apart, kept_same}
use Rattle.lowered_steps.proofs.moves.put_kept_as.Goals as goal

pub returns-then-from-to : goal.returns-then-from-to
returns-then-from-to c = kept_same c.args.coding.now c.args.setting.now c.args.place c.args.temp c.args.from c.args.to c.if-from-to.true

pub returns-else-from-to : goal.returns-else-from-to
returns-else-from-to c =
    kept_apart c.put_apply_one.result c.args.coding.now c.put_apply_one.new.self c.args.setting.now c.args.place c.args.temp c.args.from c.args.to
    c.if-from-to.false
    c.put_apply_one.ensures
