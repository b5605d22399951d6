use Rattle.std.proofs.Common.{◌≡◌, ◌∙◌, ap, arith, ◌<◌, length}
use Rattle.std.specs.Prelude.{slice_set}
use Rattle.jib.specs.Jib.{put}
use Rattle.jib_values.specs.Sources.{filled}
use Rattle.jib_values.proofs.SlotLaws.{more_slots, set_slots}
use Rattle.jib_values.proofs.reading.put_slot.Goals as goal

pub loop-slots-preserved : goal.loop-slots-preserved
loop-slots-preserved c = ap filled c.in_ok-push.ensures.items ∙ more_slots c.loop-slots.slots.items ∙ c.loop-slots.invariant

pub returns : goal.returns
returns c =
    let within : c.args.slot < length c.loop-slots.slots.items = omega (arith, c.len.ensures) in
    ap (λ v. filled (slice_set c.loop-slots.slots.items c.args.slot v)) c.replace-old.ensures.after
    ∙ set_slots c.loop-slots.slots.items c.args.slot c.args.value within ∙ ap (λ f. put f c.args.slot c.args.value) c.loop-slots.invariant
