use Rattle.sail_types.proofs.SumNumbers.{sum_number_is, difference_number}
use Rattle.sail_types.proofs.Substituted.{product_number, number_power}
use Rattle.sail_types.proofs.laws.sums_keep_numbers.Goals as goal

pub returns-clause-sum : goal.returns-clause-sum
returns-clause-sum c = λ nu a b m h. sum_number_is nu a b m h

pub returns-clause-difference : goal.returns-clause-difference
returns-clause-difference c = λ nu a b m h. difference_number nu a b m h

pub returns-clause-product : goal.returns-clause-product
returns-clause-product c = λ nu a b m h. product_number nu a b m h

pub returns-clause-power : goal.returns-clause-power
returns-clause-power c = λ nu n. number_power nu n
