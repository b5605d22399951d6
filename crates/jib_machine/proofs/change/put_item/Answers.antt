use Rattle.std.proofs.Common.{◌∙◌, ap}
use Rattle.jib_values.specs.Sources.{source_value}
use Rattle.jib_machine.proofs.ChangedLaws.{item_changed}
use Rattle.jib_machine.proofs.change.put_item.Goals as goal

pub returns : goal.returns
returns g c =
    let ls = c.args.machine.now.lets in
    let s = c.args.state.now in
    item_changed c.args.machine.now.program ls c.args.hart c.args.target c.args.typ c.args.slots.now.items c.taken-whole.new.slots.items
    c.put_result.new.slots.items s c.taken-whole.new.state c.put_result.new.state c.args.index.now c.args.item.now c.in_ok-place.place
    c.in_ok-value.value c.taken-whole.result c.changed_item-made.result
    (c.in_ok-place.ensures ∙ ap (λ q. source_value ls c.args.hart s q c.args.index.now) c.deref.ensures.value)
    (c.in_ok-value.ensures ∙ ap (λ q. source_value ls c.args.hart s q c.args.item.now) c.deref-2.ensures.value)
    (c.taken-whole.ensures.value ls) c.taken-whole.ensures.wrote c.changed_item-made.ensures c.in_ok-put_result.ensures
