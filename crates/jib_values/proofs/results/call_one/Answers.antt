use Rattle.jib_values.specs.Sources.{source_value}
use Rattle.jib_values.proofs.OperandLaws.{made_one}
use Rattle.jib_values.proofs.results.call_one.Goals as goal

pub returns : goal.returns
returns g c =
    let value_at = source_value c.args.lets.now c.args.hart c.args.state.now c.args.slots.now in
    made_one c.args.row c.args.hart c.args.state.now c.builtin.new.state c.in_ok-made.made
    c.in_ok-first.first (value_at c.args.a.now) c.in_ok-first.ensures c.in_ok-made.ensures
