use Rattle.std.proofs.Common.{◌∙◌, ap, ◌≡◌, refl, sym, subst}
use Rattle.sail_types.specs.declared.values.Value.{out-Value}
use Rattle.jib.specs.Jib as J
use Rattle.jib_values.specs.Sources.{source_value, source_values, filled}
use Rattle.jib_machine.specs.parts.Acts.{seen}
use Rattle.jib_machine.specs.parts.Unread.{Begins}
use Rattle.jib_machine.proofs.ActLaws.{did_copy, did_apply, did_call, did_not_jump, did_take, did_label, did_end, did_throw, did_stop}
use Rattle.jib_machine.proofs.ActLaws.{did_no_measure, did_measure, did_tick}
use Rattle.jib_machine.proofs.step.act_of.Goals as goal

pub returns-in_ok-copy-in-Copy : goal.returns-in_ok-copy-in-Copy
returns-in_ok-copy-in-Copy g c =
    did_copy c.args.machine.now.program c.args.machine.now.lets c.args.hart (seen c.args.here.now) c.args.instruction.now c.args.slots.now.items
    c.args.state.now c.args.ticks.now
    c.in-Copy.target c.in-Copy.source c.copy.new.slots.items c.copy.new.state c.in-Copy.is c.in_ok-copy-in-Copy.ensures

pub returns-in_ok-act-in-Apply : goal.returns-in_ok-act-in-Apply
returns-in_ok-act-in-Apply g c =
    did_apply c.args.machine.now.program c.args.machine.now.lets c.args.hart (seen c.args.here.now) c.args.instruction.now c.args.slots.now.items
    c.args.state.now c.args.ticks.now
    c.in-Apply.target c.in-Apply.operation c.in-Apply.sources c.in_ok-act-in-Apply.act c.apply.new.slots.items c.apply.new.state c.in-Apply.is
    (c.in_ok-act-in-Apply.ensures c.args.ticks.now)

pub returns-in_ok-slots-in-Call : goal.returns-in_ok-slots-in-Call
returns-in_ok-slots-in-Call g c =
    did_call c.args.machine.now.program c.args.machine.now.lets c.args.hart (seen c.args.here.now) c.args.instruction.now c.args.slots.now.items
    c.args.state.now c.args.ticks.now
    c.in-Call.call c.in_ok-slots-in-Call.slots c.in-Call.is
    (subst (λ q. Begins c.args.machine.now.program c.in-Call.call.function (source_values c.args.machine.now.lets c.args.hart c.args.state.now q
    c.in-Call.call.arguments) c.in_ok-slots-in-Call.slots.items) c.deref.ensures.value c.in_ok-slots-in-Call.ensures)

pub returns-else-branch : goal.returns-else-branch
returns-else-branch g c =
    did_not_jump c.args.machine.now.program c.args.machine.now.lets c.args.hart (seen c.args.here.now) c.args.instruction.now c.args.slots.now.items
    c.args.state.now c.args.ticks.now
    c.in-JumpIf.source c.in-JumpIf.label c.in_ok-holds-in-JumpIf.field-0 c.in-JumpIf.is (c.in_ok-holds-in-JumpIf.ensures
    ∙ ap (λ v. J.is_true (out-Value v)) (ap (λ q. source_value c.args.machine.now.lets c.args.hart c.args.state.now q c.in-JumpIf.source)
    c.deref-in-JumpIf.ensures.value)) c.if-branch.false

pub returns-in_ok-put_slot-in-Some : goal.returns-in_ok-put_slot-in-Some
returns-in_ok-put_slot-in-Some g c =
    did_take c.args.machine.now.program c.args.machine.now.lets c.args.hart (seen c.args.here.now) c.args.instruction.now c.args.slots.now.items
    c.args.state.now c.args.ticks.now
    c.in-Payload.slot c.in-Payload.source c.in-Payload.constructor c.in-Payload.label c.in_ok-value-in-Payload.field-0 c.in-Some.value
    c.put_slot.new.slots.items c.in-Payload.is
    (c.in_ok-value-in-Payload.ensures ∙ ap (λ v. J.payload c.in-Payload.constructor (out-Value v)) (ap (λ q. source_value c.args.machine.now.lets c.args.hart
    c.args.state.now q c.in-Payload.source) c.deref-in-Payload.ensures.value)) c.in-Some.is c.in_ok-put_slot-in-Some.ensures

pub returns-in-Label : goal.returns-in-Label
returns-in-Label g c =
    did_label c.args.machine.now.program c.args.machine.now.lets c.args.hart (seen c.args.here.now) c.args.instruction.now c.args.slots.now.items
    c.args.state.now c.args.ticks.now
    c.in-Label.field-0 c.in-Label.is

pub returns-in_ok-value-in-End : goal.returns-in_ok-value-in-End
returns-in_ok-value-in-End g c =
    did_end c.args.machine.now.program c.args.machine.now.lets c.args.hart (seen c.args.here.now) c.args.instruction.now c.args.slots.now.items
    c.args.state.now c.args.ticks.now
    c.in-End.source c.in_ok-value-in-End.value c.in-End.is (c.in_ok-value-in-End.ensures ∙ ap (λ q. source_value c.args.machine.now.lets c.args.hart
    c.args.state.now q c.in-End.source) c.deref-in-End.ensures.value)

pub returns-in_ok-value-in-Throw : goal.returns-in_ok-value-in-Throw
returns-in_ok-value-in-Throw g c =
    did_throw c.args.machine.now.program c.args.machine.now.lets c.args.hart (seen c.args.here.now) c.args.instruction.now c.args.slots.now.items
    c.args.state.now c.args.ticks.now
    c.in-Throw.source c.in_ok-value-in-Throw.value c.in-Throw.is (c.in_ok-value-in-Throw.ensures ∙ ap (λ q. source_value c.args.machine.now.lets c.args.hart
    c.args.state.now q c.in-Throw.source) c.deref-in-Throw.ensures.value)

pub returns-in_ok-copied_cause-in-Stop : goal.returns-in_ok-copied_cause-in-Stop
returns-in_ok-copied_cause-in-Stop g c =
    did_stop c.args.machine.now.program c.args.machine.now.lets c.args.hart (seen c.args.here.now) c.args.instruction.now c.args.slots.now.items
    c.args.state.now c.args.ticks.now
    c.in-Stop.cause c.in_ok-copied_cause-in-Stop.field-0 c.in-Stop.is c.in_ok-copied_cause-in-Stop.ensures

pub returns-in-NoMeasure : goal.returns-in-NoMeasure
returns-in-NoMeasure g c =
    did_no_measure c.args.machine.now.program c.args.machine.now.lets c.args.hart (seen c.args.here.now) c.args.instruction.now c.args.slots.now.items
    c.args.state.now c.args.ticks.now
    c.in-NoMeasure.is

pub returns-in_ok-value-in-Measure : goal.returns-in_ok-value-in-Measure
returns-in_ok-value-in-Measure g c =
    did_measure c.args.machine.now.program c.args.machine.now.lets c.args.hart (seen c.args.here.now) c.args.instruction.now c.args.slots.now.items
    c.args.state.now c.args.ticks.now
    c.in-Measure.source c.in_ok-value-in-Measure.value c.measured.result c.in-Measure.is (c.in_ok-value-in-Measure.ensures ∙ ap (λ q. source_value
    c.args.machine.now.lets c.args.hart c.args.state.now q c.in-Measure.source) c.deref-in-Measure.ensures.value)
    (c.measured.ensures c.args.machine.now.program c.args.slots.now.items c.args.state.now c.args.ticks.now)

pub returns-in-Tick : goal.returns-in-Tick
returns-in-Tick g c =
    did_tick c.args.machine.now.program c.args.machine.now.lets c.args.hart (seen c.args.here.now) c.args.instruction.now c.args.slots.now.items
    c.args.state.now c.args.ticks.now
    c.tick.result c.tick.new.ticks c.in-Tick.is (c.tick.ensures c.args.machine.now.program c.args.slots.now.items c.args.state.now)
