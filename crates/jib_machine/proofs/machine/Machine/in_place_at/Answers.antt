use Rattle.jib_machine.specs.parts.Acts.{seen}
use Rattle.jib_machine.proofs.InPlaceLaws.{done_at}
use Rattle.jib_machine.proofs.machine.Machine.in_place_at.Goals as goal

pub returns-in-Some-clause-done : goal.returns-in-Some-clause-done
returns-in-Some-clause-done g c =
    done_at c.args.self.now.program c.args.self.now.lets c.args.hart (seen c.args.current.now.here) c.args.current.now.at c.args.code.now
    c.args.current.now.slots.items c.in_place.new.slots.items c.args.state.now c.in_place.new.state
    c.instruction_at.result c.in-Some.instruction c.in_place.result c.requires.code c.instruction_at.ensures c.in-Some.is c.in_place.ensures
