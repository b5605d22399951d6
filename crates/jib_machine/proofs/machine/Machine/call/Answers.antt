use Rattle.jib_machine.proofs.RunLaws.{calls_so}
use Rattle.jib_machine.proofs.machine.Machine.call.Goals as goal

pub returns : goal.returns
returns g c =
    let x = c.in_ok-ending.ensures in (
      x.1,
      calls_so c.args.self.now.program c.args.self.now.types c.args.self.now.lets c.args.hart 1000000 c.args.entry c.args.arguments.items
          c.args.state.now c.run.new.state x.0 x.1 c.in_ok-ending.ending c.in_ok-ended.ended x.2 c.in_ok-ended.ensures,
    )
