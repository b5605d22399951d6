use Rattle.std.proofs.Common.{◌∙◌, ◌+◌, ap, arith}
use Rattle.lowered_pieces.proofs.Emitting.{emits_none}
use Rattle.lowered_steps.proofs.Lists.{head_of, none_of, only_of, others, others_many}
use Rattle.lowered_steps.proofs.Storing.{replaced_more, replaced_none, replaced_one}
use Rattle.lowered_steps.proofs.stores.+put_replaced.Goals as goal

pub returns-in-empty : goal.returns-in-empty
returns-in-empty t c =
    replaced_none c.args.setting.now c.args.coding.now c.args.suffixes.now c.args.indexes c.args.temp c.args.given c.args.part c.args.typ.now
    (none_of c.args.suffixes.now c.in-empty.len_below) (emits_none c.args.coding.now)

pub returns-in-len1 : goal.returns-in-len1
returns-in-len1 t c =
    replaced_one c.put_part.result c.args.setting.now c.args.coding.now c.put_part.new.coding _ c.args.suffixes.now c.args.indexes c.args.temp
    c.args.given c.args.part c.args.typ.now
    (only_of c.args.suffixes.now _ c.in-len1.len_at_least c.in-len1.len_below) c.put_part.ensures

pub returns-in_ok-number-in-len1-up : goal.returns-in_ok-number-in-len1-up
returns-in_ok-number-in-len1-up t c =
    replaced_more c.put_part-in-len1-up.result c.args.setting.now c.args.coding.now c.put_part-in-len1-up.new.coding _
    (others c.args.suffixes.now) c.args.suffixes.now c.put_taken.new.coding c.put_replaced.new.coding c.args.indexes c.in_ok-next-in-len1-up.next c.args.temp
    c.in_ok-behind-in-len1-up.behind c.args.given c.args.part c.in_ok-number-in-len1-up.number c.args.typ.now c.in_ok-inner-in-len1-up.inner
    (head_of c.args.suffixes.now _ (omega (arith, c.in-len1-up.len_at_least)))
    (others_many c.args.suffixes.now c.in-len1-up.len_at_least) c.in_ok-inner-in-len1-up.ensures
    (c.in_ok-next-in-len1-up.ensures ∙ ap (λ k. c.args.indexes + k) c.takes.ensures) c.in_ok-behind-in-len1-up.ensures
    c.in_ok-number-in-len1-up.ensures c.in_ok-put_taken-in-len1-up.ensures c.in_ok-put_replaced-in-len1-up.ensures c.put_part-in-len1-up.ensures
