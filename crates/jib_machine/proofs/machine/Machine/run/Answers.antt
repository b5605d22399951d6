use Rattle.std.proofs.Common.{refl, ◌≡◌, subst, Option, Some}
use Rattle.jib_machine.specs.parts.Runs.{Start, Advanced}
use Rattle.jib_machine.proofs.RunLaws.{begins}
use Rattle.jib_machine.proofs.machine.Machine.run.Goals as goal

pub run-init : goal.run-init
run-init g c =
    begins c.args.self.now.program c.args.self.now.lets c.args.hart c.args.function c.args.arguments.items c.args.state.now c.args.ticks _
    c.new-frames.result.items c.new-frames.ensures.items refl refl
    c.in_ok-slots.ensures

pub returns-in-Some : goal.returns-in-Some
returns-in-Some g c =
    let b : Start = record { function = c.args.function; arguments = c.args.arguments.items; state = c.args.state.now; ticks = c.args.ticks } in
    let d = subst (Advanced c.args.self.now.program c.args.self.now.lets c.args.hart c.run.current c.run.frames.items c.run.state c.run.ticks
    c.advance.new.current c.advance.new.frames.items
    c.advance.new.state c.advance.new.ticks) c.in-Some.is c.in_ok-ending.ensures in
    let came = d b c.run.invariant.1 in
    (c.advance.new.ticks, came.0, came.1)
