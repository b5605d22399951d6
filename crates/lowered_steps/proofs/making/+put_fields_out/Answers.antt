use Rattle.lowered_pieces.proofs.Emitting.{emits_none}
use Rattle.lowered_steps.proofs.Changed.{outs_more, outs_none}
use Rattle.lowered_steps.proofs.Lists.{first_of, none_of, others}
use Rattle.lowered_steps.proofs.making.+put_fields_out.Goals as goal

pub returns-in-empty : goal.returns-in-empty
returns-in-empty t c =
    outs_none c.args.setting.now c.args.coding.now c.args.from c.args.whole c.args.field c.args.temp c.args.types.now
    (none_of c.args.types.now c.in-empty.len_below) (emits_none c.args.coding.now)

pub returns-in_ok-behind-in-len1-up : goal.returns-in_ok-behind-in-len1-up
returns-in_ok-behind-in-len1-up t c =
    outs_more c.put_fields_out.result c.args.setting.now c.args.coding.now c.put_fields_out.new.coding c.put_apply_one.new.self c.args.from c.args.whole
    c.args.field c.in_ok-behind-in-len1-up.behind c.args.temp c.in_ok-next-in-len1-up.next c.in_ok-number-in-len1-up.number c.first-item.result
    (others c.args.types.now) c.args.types.now (first_of c.args.types.now c.first-item.result c.in-len1-up.len_at_least c.first-item.is)
    c.in_ok-number-in-len1-up.ensures c.in_ok-behind-in-len1-up.ensures c.in_ok-next-in-len1-up.ensures c.in_ok-put_apply_one-in-len1-up.ensures
    c.put_fields_out.ensures
