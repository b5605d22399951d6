use Rattle.std.proofs.Common.{◌∙◌, ap, ◌≡◌, subst}
use Rattle.std.specs.Prelude.{slice_get}
use Rattle.jib.specs.Jib as J
use Rattle.jib_machine.specs.declared.act.Act.TheVariants as A
use Rattle.jib_machine.specs.declared.act.Ending.TheVariants as N
use Rattle.jib_values.specs.Sources.{source_values}
use Rattle.jib_values.specs.Results.{MadeIs}
use Rattle.jib_machine.proofs.ActLaws.{at_type, applied_none, applied_some, applied_stop}
use Rattle.jib_machine.proofs.step.work_out.Goals as goal

pub returns-in_ok-write-in-Nothing : goal.returns-in_ok-write-in-Nothing
returns-in_ok-write-in-Nothing g c =
    let vs = source_values c.args.machine.now.lets c.args.hart c.args.state.now c.args.slots.now.items c.args.sources.now in
    let made = subst (λ q. MadeIs (J.operate (slice_get c.args.machine.now.program.types c.type_of-typ.result) c.args.operation
    (source_values c.args.machine.now.lets c.args.hart c.args.state.now q c.args.sources.now) c.args.hart c.args.state.now)
    c.in_ok-operate.field-0 c.args.state.now c.operate.new.state) c.deref.ensures.value c.in_ok-operate.ensures in
    at_type c.args.machine.now.program c.args.machine.now.lets c.args.hart c.args.target c.type_of-typ.result
    (J.type_of c.args.machine.now.program c.args.function c.args.target) c.args.operation vs c.args.slots.now.items c.write.new.slots.items
    c.args.state.now c.write.new.state A.Go c.type_of-typ.ensures
    (applied_none c.args.machine.now.program c.args.machine.now.lets c.args.hart c.args.target c.type_of-typ.result c.args.operation vs
    c.args.slots.now.items c.args.state.now c.in_ok-operate.field-0 c.operate.new.state c.in_ok-value-in-Nothing.value c.write.new.slots.items c.write.new.state
    made c.in-Nothing.is c.in_ok-value-in-Nothing.ensures c.in_ok-write-in-Nothing.ensures)

pub returns-in_ok-write-in-Result : goal.returns-in_ok-write-in-Result
returns-in_ok-write-in-Result g c =
    let vs = source_values c.args.machine.now.lets c.args.hart c.args.state.now c.args.slots.now.items c.args.sources.now in
    let made = subst (λ q. MadeIs (J.operate (slice_get c.args.machine.now.program.types c.type_of-typ.result) c.args.operation
    (source_values c.args.machine.now.lets c.args.hart c.args.state.now q c.args.sources.now) c.args.hart c.args.state.now)
    c.in_ok-operate.field-0 c.args.state.now c.operate.new.state) c.deref.ensures.value c.in_ok-operate.ensures in
    at_type c.args.machine.now.program c.args.machine.now.lets c.args.hart c.args.target c.type_of-typ.result
    (J.type_of c.args.machine.now.program c.args.function c.args.target) c.args.operation vs c.args.slots.now.items c.write-in-Result.new.slots.items
    c.args.state.now c.write-in-Result.new.state A.Go c.type_of-typ.ensures
    (applied_some c.args.machine.now.program c.args.machine.now.lets c.args.hart c.args.target c.type_of-typ.result c.args.operation vs
    c.args.slots.now.items c.args.state.now c.in_ok-operate.field-0 c.in-Result.value c.operate.new.state c.in_ok-value-in-Result.value
    c.write-in-Result.new.slots.items c.write-in-Result.new.state made c.in-Result.is c.in_ok-value-in-Result.ensures c.in_ok-write-in-Result.ensures)

pub returns-in-Stop : goal.returns-in-Stop
returns-in-Stop g c =
    let vs = source_values c.args.machine.now.lets c.args.hart c.args.state.now c.args.slots.now.items c.args.sources.now in
    let made = subst (λ q. MadeIs (J.operate (slice_get c.args.machine.now.program.types c.type_of-typ.result) c.args.operation
    (source_values c.args.machine.now.lets c.args.hart c.args.state.now q c.args.sources.now) c.args.hart c.args.state.now)
    c.in_ok-operate.field-0 c.args.state.now c.operate.new.state) c.deref.ensures.value c.in_ok-operate.ensures in
    at_type c.args.machine.now.program c.args.machine.now.lets c.args.hart c.args.target c.type_of-typ.result
    (J.type_of c.args.machine.now.program c.args.function c.args.target) c.args.operation vs c.args.slots.now.items c.args.slots.now.items
    c.args.state.now c.operate.new.state (A.Over (N.Stopped c.in-Stop.cause)) c.type_of-typ.ensures
    (applied_stop c.args.machine.now.program c.args.machine.now.lets c.args.hart c.args.target c.type_of-typ.result c.args.operation vs
    c.args.slots.now.items c.args.state.now c.in_ok-operate.field-0 c.in-Stop.cause c.operate.new.state made c.in-Stop.is)
