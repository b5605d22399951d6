use Rattle.written_types.proofs.Exponents.{looked_at}
use Rattle.written_types.proofs.sizes.push_exponents.Goals as goal

pub loop-number-preserved : goal.loop-number-preserved
loop-number-preserved c =
    looked_at c.args.numbers.now c.loop-number.numbers c.push_if_exponent.new.numbers c.loop-number.yielded c.in-Some.number
    c.loop-number.invariant c.in_ok-push_if_exponent.ensures
