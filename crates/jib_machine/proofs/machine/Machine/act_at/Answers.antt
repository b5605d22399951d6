use Rattle.jib_machine.specs.parts.Acts.{seen}
use Rattle.jib_machine.proofs.ActLaws.{acted_at, acted_past}
use Rattle.jib_machine.proofs.machine.Machine.act_at.Goals as goal

pub returns-in_ok-act-in-Some-clause-acted : goal.returns-in_ok-act-in-Some-clause-acted
returns-in_ok-act-in-Some-clause-acted g c =
    acted_at c.args.self.now.program c.args.self.now.lets c.args.hart (seen c.args.current.now.here) c.args.current.now.at c.args.code.now
    c.args.current.now.slots.items c.args.state.now c.args.ticks.now
    c.instruction_at.result c.in-Some.instruction c.in_ok-act-in-Some.act c.act_of.new.slots.items c.act_of.new.state c.act_of.new.ticks
    c.requires.code c.instruction_at.ensures c.in-Some.is c.in_ok-act-in-Some.ensures

pub returns-in-None-clause-acted : goal.returns-in-None-clause-acted
returns-in-None-clause-acted g c =
    acted_past c.args.self.now.program c.args.self.now.lets c.args.hart (seen c.args.current.now.here) c.args.current.now.at c.args.code.now
    c.args.current.now.slots.items c.args.state.now c.args.ticks.now
    c.instruction_at.result c.requires.code c.instruction_at.ensures c.in-None.is
