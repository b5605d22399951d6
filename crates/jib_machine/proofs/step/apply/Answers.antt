use Rattle.std.proofs.Common.{subst}
use Rattle.jib.specs.Jib as J
use Rattle.jib_machine.specs.parts.Changes.{Changes}
use Rattle.jib_machine.proofs.ChangedLaws.{part_applied}
use Rattle.jib_machine.proofs.step.apply.Goals as goal

pub returns-in_ok-put_part-in-Some : goal.returns-in_ok-put_part-in-Some
returns-in_ok-put_part-in-Some g c =
    part_applied c.args.machine.now.program c.args.machine.now.lets c.args.hart c.args.target c.type_of-typ.result
    (J.type_of c.args.machine.now.program c.args.function c.args.target) c.args.operation c.args.sources.now c.in-Some.part
    c.args.slots.now.items c.put_part.new.slots.items c.args.state.now c.put_part.new.state
    (subst (λ q. Changes c.args.target c.args.operation q c.in-Some.part) c.as_slice.ensures c.in-Some.ensures.part)
    c.type_of-typ.ensures c.in_ok-put_part-in-Some.ensures
