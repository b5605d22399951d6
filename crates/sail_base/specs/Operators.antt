-- The operators by number, in the order of the manual's table of levels.
use Rattle.std.specs.Prelude.{ℕ}
use Rattle.sail_base.specs.declared.operators.Operator.{Operator}
use Rattle.sail_base.specs.declared.operators.Operator.TheVariants as O

abbrev pub number_of : Operator → ℕ
number_of O.Caret = 0
number_of O.Star = 1
number_of O.ShiftLeft = 2
number_of O.ShiftRight = 3
number_of O.Plus = 4
number_of O.Minus = 5
number_of O.Append = 6
number_of O.Cons = 7
number_of O.Equal = 8
number_of O.NotEqual = 9
number_of O.Less = 10
number_of O.LessEqual = 11
number_of O.Greater = 12
number_of O.GreaterEqual = 13
number_of O.LessUnsigned = 14
number_of O.LessEqualUnsigned = 15
number_of O.GreaterUnsigned = 16
number_of O.GreaterEqualUnsigned = 17
number_of O.LessSigned = 18
number_of O.LessEqualSigned = 19
number_of O.GreaterSigned = 20
number_of O.GreaterEqualSigned = 21
number_of O.And = 22
number_of O.Or = 23
