-- What the text of a type stands for, by its kind: a number, a constraint or a type, and as an argument of a named type.
use Rattle.std.specs.Prelude.{Option, Some, None, Result, Ok, Err}
use Rattle.sail_types.specs.declared.numbers.Num.{Num}
use Rattle.sail_types.specs.declared.numbers.Con.{Con}
use Rattle.sail_types.specs.declared.numbers.Index.{Index}
use Rattle.sail_types.specs.declared.numbers.Index.TheVariants as I
use Rattle.sail_types.specs.declared.types.Typ.{Typ}
use Rattle.type_arguments.specs.declared.normal.Normal.{Normal}
use Rattle.type_arguments.specs.declared.normal.Normal.TheVariants as N

abbrev pub number_of : Normal → Option Num
number_of (N.Number n) = Some n
number_of normal = None

abbrev pub constraint_of : Normal → Option Con
constraint_of (N.Constraint c) = Some c
constraint_of normal = None

abbrev pub typ_of : Normal → Option Typ
typ_of (N.Typ t) = Some t
typ_of normal = None

-- an argument of the kind `Int` or `Bool`, or one of the kind `Type`
abbrev pub argument_of : Normal → Result Index Typ
argument_of (N.Number n) = Ok (I.Number n)
argument_of (N.Constraint c) = Ok (I.Truth c)
argument_of (N.Typ t) = Err t
