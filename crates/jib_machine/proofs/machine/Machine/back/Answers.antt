use Rattle.std.proofs.Common.{refl, ap, ◌∙◌}
use Rattle.std.specs.Prelude.{slice_index_or}
use Rattle.jib_machine.proofs.MadeLaws.{ready_made}
use Rattle.jib_machine.proofs.RunLaws.{back_value, back_threw}
use Rattle.jib_machine.proofs.machine.Machine.back.Goals as goal

pub returns-in_ok-current-in-Value : goal.returns-in_ok-current-in-Value
returns-in_ok-current-in-Value c = λ hart s k.
    back_value c.args.self.now.program c.args.self.now.lets hart c.args.frames.now.items c.pop.new.self.items _ s k c.args.ending c.in-Value.value
    c.in-Some.frame
    c.in-Value.is c.in-Some.ensures.items c.requires.saved refl c.in_ok-current-in-Value.ensures c.in_ok-put_slot-in-Value.ensures

pub returns-in_ok-put_slot-in-Threw : goal.returns-in_ok-put_slot-in-Threw
returns-in_ok-put_slot-in-Threw c = λ hart s k.
    back_threw c.args.self.now.program c.args.self.now.lets hart c.args.frames.now.items c.pop.new.self.items _ s k c.args.self.now.places (ready_made
    c.args.self.now.program c.args.self.now.places c.args.self.now.kept c.args.self.now.found)
    c.args.ending c.in-Threw.value c.in-Some.frame c.in-Threw.is c.in-Some.ensures.items c.requires.saved refl
    (c.find-current.ensures ∙ ap (λ q. slice_index_or q c.in-Some.frame.current.at 0) c.table.ensures) c.in_ok-put_slot-in-Threw.ensures
