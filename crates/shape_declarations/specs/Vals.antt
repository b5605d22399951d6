-- Type variables of a `val`: each Int or Bool variable gets its number from a parameter, and each Type variable stands in one (M17) (Sail
-- language manual, "Type variables").
use Rattle.std.specs.Prelude.{ℕ, nat_eq, Bool, false, List, [], ◌∷◌, ◌++◌, map, Option, Some, None}
use Rattle.std.specs.List.{list_any}
use Rattle.sail_base.specs.declared.kind.Kind.{Kind as AKind}
use Rattle.sail_base.specs.declared.kind.Kind.TheVariants as Sort
use Rattle.sail_syntax.specs.declared.name.Name.{Name}
use Rattle.sail_syntax.specs.declared.types.TyExp.{TyExp}
use Rattle.sail_syntax.specs.declared.words.Arrow.{Arrow}
use Rattle.sail_syntax.specs.declared.words.Arrow.TheVariants as Of
use Rattle.sail_syntax.specs.declared.definitions.Param.{Param}
use Rattle.sail_types.specs.declared.types.Typ.{Typ, Typ-F, fold-Typ}
use Rattle.sail_types.specs.declared.types.Typ.TheOpen as T
use Rattle.sail_kinds.specs.declared.scope.Variable.{Variable}
use Rattle.sail_kinds.specs.declared.scope.FoundVariable.{FoundVariable}
use Rattle.sail_kinds.specs.Scopes.{Within, variable_of}
use Rattle.shape_joins.specs.Joins.{any_of}
use Rattle.shape_rules.specs.declared.error.ShapeError.{ShapeError}
use Rattle.shape_rules.specs.Written.{typ_in, tells_number, written_faults, joined, untold}
use Rattle.shape_rules.specs.Calls.{parameters_of}

-- whether a Type variable stands in a type
abbrev pub standing_form : ℕ → Typ-F Bool → Bool
standing_form i (T.Variable j) = nat_eq i j
standing_form i (T.List b) = b
standing_form i (T.Vector n b) = b
standing_form i (T.Tuple bs) = any_of bs
standing_form i (T.Named t is bs) = any_of bs
standing_form i (T.Exists name c b) = b
standing_form i form = false

abbrev pub stands_in : ℕ → Typ → Bool
stands_in i = fold-Typ Bool (standing_form i)

-- whether parameters of these types say what a variable of a kind stands for
abbrev pub is_met : AKind → ℕ → List Typ → Bool
is_met Sort.Type i ts = list_any (stands_in i) ts
is_met kind i ts = list_any (tells_number i) ts

abbrev pub variable_faults : List Typ → Name → Option FoundVariable → List ShapeError
variable_faults ts name None = []
variable_faults ts name (Some found) = untold name (is_met found.kind found.number ts)

abbrev pub variables_faults : List Typ → List Variable → List Param → List ShapeError
variables_faults ts variables vs = joined (map (λ v. variable_faults ts v.name (variable_of v.name.text variables)) vs)

-- the types of the parameters, where what is written before the arrow stands for a type
abbrev pub parameters_if : Option Typ → List Typ
parameters_if None = []
parameters_if (Some t) = parameters_of t

-- a mapping binds none
abbrev pub first_bound : List Param → List ShapeError
first_bound [] = []
first_bound (v ∷ vs) = untold v.name false

abbrev pub quantifier_faults : Arrow → List Param → List Variable → Option Typ → List ShapeError
quantifier_faults Of.Mapping vs variables from = first_bound vs
quantifier_faults Of.Function vs variables from = variables_faults (parameters_if from) variables vs

-- a `val`, whose types are read within its variables
abbrev pub val_faults : Arrow → List Param → TyExp → TyExp → Within → List ShapeError
val_faults arrow vs from to within =
    quantifier_faults arrow vs within.variables (typ_in within from) ++ written_faults within from ++ written_faults within to
