use Rattle.jib_machine.specs.parts.Acts.{seen}
use Rattle.jib_machine.proofs.InPlaceLaws.{label_next, false_next, copied, worked}
use Rattle.jib_machine.proofs.in_place.in_place.Goals as goal

pub returns-in-Label : goal.returns-in-Label
returns-in-Label g c =
    label_next c.args.machine.now.program c.args.machine.now.lets c.args.hart (seen c.args.here.now) c.args.instruction.now c.args.slots.now.items
    c.args.state.now c.in-Label.field-0 c.in-Label.is

pub returns-in-Some-false : goal.returns-in-Some-false
returns-in-Some-false g c =
    false_next c.args.machine.now.program c.args.machine.now.lets c.args.hart (seen c.args.here.now) c.args.instruction.now c.args.slots.now.items
    c.args.state.now c.in-JumpIf.source c.in-JumpIf.field-1 c.deref.result.now c.in-Some-false.field-0 c.in-JumpIf.is c.deref.ensures.value
    c.in-Some-false.ensures c.in-Some-false.field-0-test

pub returns-in-Copy : goal.returns-in-Copy
returns-in-Copy g c =
    copied c.args.machine.now.program c.args.machine.now.lets c.args.hart (seen c.args.here.now) c.args.instruction.now c.args.slots.now.items
    c.args.state.now c.in-Copy.target c.in-Copy.source c.copy.result c.next_where.result c.copy.new.slots.items c.copy.new.state c.in-Copy.is
    c.next_where.ensures c.copy.ensures

pub returns-in-Apply : goal.returns-in-Apply
returns-in-Apply g c =
    worked c.args.machine.now.program c.args.machine.now.lets c.args.hart (seen c.args.here.now) c.args.instruction.now c.args.slots.now.items
    c.args.state.now c.in-Apply.target c.in-Apply.operation c.in-Apply.sources c.as_slice.result.now c.apply.result c.next_where-in-Apply.result
    c.apply.new.slots.items c.in-Apply.is c.as_slice.ensures c.next_where-in-Apply.ensures c.apply.ensures
