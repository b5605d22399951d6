-- The variables that `{'n, ..}` binds, by themselves.
use Rattle.std.specs.Prelude.{ℕ, List, map, Option}
use Rattle.sail_base.specs.declared.kind.Kind.TheVariants as K
use Rattle.sail_syntax.specs.declared.name.Name.{Name}
use Rattle.sail_types.specs.declared.types.Typ.{Typ}
use Rattle.sail_kinds.specs.declared.scope.FoundVariable.{FoundVariable}
use Rattle.sail_kinds.specs.Scopes.{binder, variable_of}
use Rattle.shape_rules.specs.declared.error.ShapeError.{ShapeError}
use Rattle.shape_rules.specs.Written.{joined, told_if, untold}

-- an Int variable
abbrev pub int_found : ℕ → FoundVariable
int_found number = record { kind = K.Int; number = number }

-- the failure of one of the variables that are bound, by the type inside
abbrev pub untold_one : List Name → Option Typ → Name → List ShapeError
untold_one bound t name = untold name (told_if t (variable_of name.text (binder bound)))

-- and of several of them
abbrev pub untold_among : List Name → Option Typ → List Name → List ShapeError
untold_among bound t names = joined (map (untold_one bound t) names)
