use Rattle.jib_machine.proofs.MadeLaws.{ready_made}
use Rattle.jib_machine.proofs.RunLaws.{went_enter, over_went, turned_is}
use Rattle.jib_machine.specs.declared.act.Turn.TheVariants as U
use Rattle.jib_machine.proofs.machine.Machine.advance.Goals as goal

pub returns-in_ok-ended-in-Over : goal.returns-in_ok-ended-in-Over
returns-in_ok-ended-in-Over g c =
    over_went c.args.self.now.program c.args.self.now.lets c.args.hart c.args.current.now c.turn.new.current c.back.new.current c.args.frames.now.items
    c.back.new.frames.items
    c.args.state.now c.turn.new.state c.args.ticks.now c.turn.new.ticks c.in-Over.ending
    (turned_is c.args.self.now.program c.args.self.now.lets c.args.hart c.args.current.now c.args.state.now c.args.ticks.now c.in_ok-ending.field-0 (U.Over
    c.in-Over.ending) c.turn.new.current c.turn.new.state c.turn.new.ticks
    c.in-Over.is c.in_ok-ending.ensures)
    c.in_ok-ended-in-Over.ended (c.in_ok-ended-in-Over.ensures c.args.hart c.turn.new.state c.turn.new.ticks)

pub returns-in_ok-enter-in-Enter : goal.returns-in_ok-enter-in-Enter
returns-in_ok-enter-in-Enter g c =
    went_enter c.args.self.now.program c.args.self.now.places c.args.self.now.lets c.args.hart (ready_made c.args.self.now.program c.args.self.now.places
    c.args.self.now.kept c.args.self.now.found)
    c.args.current.now c.turn.new.current c.enter.new.current c.args.frames.now.items c.enter.new.frames.items c.args.state.now c.turn.new.state
    c.args.ticks.now c.turn.new.ticks c.in-Enter.slot c.in-Enter.function c.in-Enter.label c.in-Enter.place c.in-Enter.slots c.requires.saved
    (turned_is c.args.self.now.program c.args.self.now.lets c.args.hart c.args.current.now c.args.state.now c.args.ticks.now c.in_ok-ending.field-0
    (U.Enter c.in-Enter.slot c.in-Enter.function c.in-Enter.slots c.in-Enter.label c.in-Enter.place) c.turn.new.current c.turn.new.state c.turn.new.ticks
    c.in-Enter.is c.in_ok-ending.ensures)
    c.in_ok-enter-in-Enter.ensures.frames c.in_ok-enter-in-Enter.ensures.here c.in_ok-enter-in-Enter.ensures.at c.in_ok-enter-in-Enter.ensures.slots
