use Rattle.std.proofs.Common.{◌≡◌, ◌∙◌, ap, arith, refl, subst, true, ◌≤◌, length}
use Rattle.std.specs.Prelude.{slice_get, slice_index_or}
use Rattle.jib.specs.Jib.{slot_zero}
use Rattle.jib_machine.specs.parts.Begun.{begun_slots}
use Rattle.jib_machine.proofs.NeedLaws.{begun_where, begun_there}
use Rattle.jib_machine.proofs.step.fill.Goals as goal

pub fill-init : goal.fill-init
fill-init c = λ i n. refl

pub fill-preserved : goal.fill-preserved
fill-preserved c =
    let ts = c.args.machine.now.program.types in
    let typs = c.args.types.now in
    let xs = c.fill.slots.items in
    let v = c.in_ok-begun_value.field-0 in
    let e : c.len-in-fill.result ≡ length xs = omega (arith, c.len-in-fill.ensures) in
    let is : slice_index_or c.args.needs.now (length xs) true ≡ true → v ≡ slot_zero ts (slice_get typs (length xs)) =
    subst (λ q. slice_index_or c.args.needs.now q true ≡ true → v ≡ slot_zero ts (slice_get typs q)) e c.in_ok-begun_value.ensures in
    λ i n. ap (λ q. begun_slots ts typs q i) c.in_ok-push.ensures.items ∙ begun_where ts typs c.args.needs.now xs v is i n ∙ c.fill.invariant i n

pub returns : goal.returns
returns c =
    let all : length c.args.types.now ≤ length c.fill.slots.items = omega (arith, c.len.ensures) in
    begun_there c.args.machine.now.program.types c.args.types.now c.args.needs.now c.args.slots.now.items c.fill.slots.items all c.fill.invariant
