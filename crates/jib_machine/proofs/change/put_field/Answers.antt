use Rattle.std.proofs.Common.{◌∙◌, ap}
use Rattle.jib_values.specs.Sources.{source_value}
use Rattle.jib_machine.proofs.ChangedLaws.{field_changed}
use Rattle.jib_machine.proofs.change.put_field.Goals as goal

pub returns : goal.returns
returns g c =
    let ls = c.args.machine.now.lets in
    let s = c.args.state.now in
    field_changed c.args.machine.now.program ls c.args.hart c.args.target c.args.typ c.args.slots.now.items c.taken-whole.new.slots.items
    c.put_result.new.slots.items s c.taken-whole.new.state c.put_result.new.state c.args.place c.args.part.now
    c.in_ok-value.value c.taken-whole.result c.changed_field-made.result
    (c.in_ok-value.ensures ∙ ap (λ q. source_value ls c.args.hart s q c.args.part.now) c.deref.ensures.value)
    (c.taken-whole.ensures.value ls) c.taken-whole.ensures.wrote c.changed_field-made.ensures c.in_ok-put_result.ensures
