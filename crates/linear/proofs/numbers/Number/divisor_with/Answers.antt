use Rattle.linear.proofs.Divisors.{found_fits, found_within, found_is}
use Rattle.linear.proofs.numbers.Number.divisor_with.Goals as goal

pub overflow_cast-result : goal.overflow_cast-result
overflow_cast-result c = found_fits c.args.self c.args.other _ _ _ c.size.ensures.size c.size-2.ensures.size c.size.ensures.small c.size-2.ensures.small
    c.divisor_of_sizes.ensures

pub invariant_of-result : goal.invariant_of-result
invariant_of-result c = found_within c.args.self c.args.other _ _ _ c.size.ensures.size c.size-2.ensures.size c.size.ensures.small c.size-2.ensures.small
    c.divisor_of_sizes.ensures

pub returns : goal.returns
returns c = found_is c.args.self c.args.other _ _ _ c.size.ensures.size c.size-2.ensures.size c.size.ensures.small c.size-2.ensures.small
    c.divisor_of_sizes.ensures
