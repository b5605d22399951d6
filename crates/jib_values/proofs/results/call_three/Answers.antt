use Rattle.jib_values.specs.Sources.{source_value}
use Rattle.jib_values.proofs.OperandLaws.{made_three}
use Rattle.jib_values.proofs.results.call_three.Goals as goal

pub returns : goal.returns
returns g c =
    let value_at = source_value c.args.lets.now c.args.hart c.args.state.now c.args.slots.now in
    made_three c.args.row c.args.hart c.args.state.now c.builtin.new.state c.in_ok-made.made
    c.in_ok-first.first (value_at c.args.a.now) c.in_ok-second.second (value_at c.args.b.now) c.in_ok-third.third (value_at c.args.c.now)
    c.in_ok-first.ensures c.in_ok-second.ensures c.in_ok-third.ensures c.in_ok-made.ensures
