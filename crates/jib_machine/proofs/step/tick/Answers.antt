use Rattle.std.proofs.Common.{ap, arith, ◌<◌}
use Rattle.jib.specs.Jib as J
use Rattle.jib_values.specs.Sources.{filled}
use Rattle.jib_machine.specs.parts.Begun.{store}
use Rattle.jib_machine.proofs.ActLaws.{tick_on}
use Rattle.jib_machine.proofs.step.tick.Goals as goal

pub returns-then-ticks-eq0 : goal.returns-then-ticks-eq0
returns-then-ticks-eq0 c = λ m slots s xs. (xs, ap (λ q. J.tick q (filled slots) (store s c.args.ticks.now xs)) c.if-ticks-eq0.true)

pub returns : goal.returns
returns c =
    let some : 0 < c.args.ticks.now = omega arith in
    λ m slots s xs. (xs, tick_on c.args.ticks.now slots s xs some)
