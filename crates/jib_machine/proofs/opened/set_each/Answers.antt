use Rattle.std.proofs.Common.{◌<◌, length, arith}
use Rattle.jib_machine.proofs.OpenLaws.{set_next}
use Rattle.jib_machine.proofs.opened.set_each.Goals as goal

pub loop-hart-preserved : goal.loop-hart-preserved
loop-hart-preserved g c =
    let there : c.loop-hart.hart < length c.args.state.now.harts = omega (arith, c.loop-hart-test.true, c.harts-hart-end.ensures.count) in
    set_next c.args.state.now c.loop-hart.state c.put_register.new.state c.loop-hart.hart c.args.index c.args.value.now c.in_ok-copied.field-0 there
    c.loop-hart.invariant c.in_ok-copied.ensures c.put_register.ensures
