use Rattle.std.proofs.Common.{◌∙◌, ap}
use Rattle.std.specs.Prelude.{slice_get, not}
use Rattle.sail_types.specs.declared.rows.Row.TheVariants as B
use Rattle.sail_types.specs.declared.values.Value.TheVariants as V
use Rattle.jib.specs.declared.code.Operation.TheVariants as O
use Rattle.jib.specs.declared.code.Target.TheVariants as T
use Rattle.jib.specs.Jib as J
use Rattle.jib_machine.proofs.InPlaceLaws.{applied_to, equal_is, unequal_is, slice_is}
use Rattle.jib_machine.proofs.in_place.apply.Goals as goal

pub returns-in-Some : goal.returns-in-Some
returns-in-Some g c =
    applied_to c.args.machine.now.program c.args.machine.now.lets c.args.hart c.args.function c.in-Slot.slot (O.Builtin B.Eq) c.args.sources.now (V.Truth
    c.in-Some.same)
    c.args.state.now c.args.target c.args.operation c.store_truth.result c.deref.result.now c.args.slots.now.items c.store_truth.new.slots.items
    c.in-Slot.is (c.in-Builtin.is ∙ ap O.Builtin c.in-Eq.is) c.deref.ensures.value
    (equal_is c.args.machine.now.lets c.args.hart c.args.state.now c.deref.result.now c.args.sources.now
    (slice_get c.args.machine.now.program.types (J.type_of c.args.machine.now.program c.args.function (T.Slot c.in-Slot.slot))) c.in-Some.same
    c.in-Some.ensures) c.store_truth.ensures

pub returns-in-Some-same : goal.returns-in-Some-same
returns-in-Some-same g c =
    applied_to c.args.machine.now.program c.args.machine.now.lets c.args.hart c.args.function c.in-Slot.slot (O.Builtin B.Neq) c.args.sources.now (V.Truth
    (not c.in-Some-same.same))
    c.args.state.now c.args.target c.args.operation c.store_truth-in-Some-same.result c.deref-in-Neq.result.now c.args.slots.now.items
    c.store_truth-in-Some-same.new.slots.items
    c.in-Slot.is (c.in-Builtin.is ∙ ap O.Builtin c.in-Neq.is) c.deref-in-Neq.ensures.value
    (unequal_is c.args.machine.now.lets c.args.hart c.args.state.now c.deref-in-Neq.result.now c.args.sources.now
    (slice_get c.args.machine.now.program.types (J.type_of c.args.machine.now.program c.args.function (T.Slot c.in-Slot.slot))) c.in-Some-same.same
    c.in-Some-same.ensures) c.store_truth-in-Some-same.ensures

pub returns-in-Some-slice : goal.returns-in-Some-slice
returns-in-Some-slice g c =
    applied_to c.args.machine.now.program c.args.machine.now.lets c.args.hart c.args.function c.in-Slot.slot (O.Slice) c.args.sources.now (V.Bits
    c.in-Some-slice.word)
    c.args.state.now c.args.target c.args.operation c.store_word.result c.deref-in-Slice.result.now c.args.slots.now.items c.store_word.new.slots.items
    c.in-Slot.is c.in-Slice.is c.deref-in-Slice.ensures.value
    (slice_is c.args.machine.now.lets c.args.hart c.args.state.now c.deref-in-Slice.result.now c.args.sources.now
    (slice_get c.args.machine.now.program.types (J.type_of c.args.machine.now.program c.args.function (T.Slot c.in-Slot.slot))) (V.Bits
    c.in-Some-slice.word) (c.in-Some-slice.ensures (slice_get c.args.machine.now.program.types (J.type_of c.args.machine.now.program c.args.function (T.Slot
    c.in-Slot.slot))))) c.store_word.ensures
