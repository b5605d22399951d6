use Rattle.lowered_steps.proofs.Chained.{moved_same, moved_apart}
use Rattle.lowered_steps.proofs.moves.put_move.Goals as goal

pub returns-then-other-typ : goal.returns-then-other-typ
returns-then-other-typ c =
    moved_same c.put_copy.result c.args.coding.now c.put_copy.new.self c.args.setting.now c.args.to c.args.typ c.args.from c.args.other c.if-other-typ.true
    c.put_copy.ensures

pub returns-else-other-typ : goal.returns-else-other-typ
returns-else-other-typ c =
    moved_apart c.put_apply_one.result c.args.coding.now c.put_apply_one.new.self c.args.setting.now c.args.to c.args.typ c.args.from c.args.other
    c.if-other-typ.false
    c.put_apply_one.ensures
