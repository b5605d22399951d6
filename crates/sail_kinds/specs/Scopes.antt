-- What can be named where a type is read: type variables, and the types that a model defines
-- (Sail language manual, "Types" and "Type variables").
use Rattle.std.specs.Prelude.{ℕ, ◌+◌, Bool, true, false, ◌&&◌, not, bytes_eq, if◌then◌else◌, List, [], ◌∷◌, ◌++◌, map, reverse, Option, Some, None, option_map}
use Rattle.std.specs.Option.{option_map_or}
use Rattle.std.specs.HashMap.{get_by}
use Rattle.sail_base.specs.declared.kind.Kind.{Kind}
use Rattle.sail_base.specs.declared.kind.Kind.TheVariants as K
use Rattle.sail_syntax.specs.declared.name.Name.{Name}
use Rattle.sail_kinds.specs.declared.scope.Variable.{Variable}
use Rattle.sail_kinds.specs.declared.scope.NamedType.{NamedType}
use Rattle.sail_kinds.specs.declared.scope.TypeNames.{TypeNames}
use Rattle.sail_kinds.specs.declared.scope.Scope.{Scope}
use Rattle.sail_kinds.specs.declared.scope.FoundVariable.{FoundVariable}
use Rattle.sail_kinds.specs.declared.scope.Binders.{Binders, Binders-F, fold-Binders}
use Rattle.sail_kinds.specs.declared.scope.Binders.TheOpen as B

-- the types that can be named, the union that is being defined, which is named inside the argument of a `list` alone,
-- whether this is inside of one, and the type variables, the innermost first
pub record Within : Type 0 where
  pub types : List ℕ → Option NamedType
  pub own : Option (List ℕ)
  pub is_in_list : Bool
  pub variables : List Variable

-- inside the argument of a `list`
abbrev pub inside_list : Within → Within
inside_list within = record within { is_in_list = true }

-- a variable with which no kind is written
abbrev pub int_variable : List ℕ → Variable
int_variable name = record { name = name; kind = K.Int }

-- the variables of a list of names, the last of which is the innermost
abbrev pub binder : List Name → List Variable
binder names = reverse (map (λ name. int_variable name.text) names)

-- inside an existential type
abbrev pub inside_binder : List Name → Within → Within
inside_binder names within = record within { variables = binder names ++ within.variables }

-- the type of a name
abbrev pub named : List ℕ → Within → Option NamedType
named name within =
    if option_map_or (bytes_eq name) within.own false && not within.is_in_list then None else within.types name

-- whether variables of two kinds are counted together: those of types by themselves, all others together
abbrev pub are_counted_together : Kind → Kind → Bool
are_counted_together K.Type K.Type = true
are_counted_together K.Type kind = false
are_counted_together kind K.Type = false
are_counted_together kind other = true

-- what a variable is, seen from inside one more
abbrev pub seen_past : Kind → FoundVariable → FoundVariable
seen_past kind found = if are_counted_together kind found.kind then record found { number = found.number + 1 } else found

-- what a name is behind one more variable
abbrev pub seen_behind : List ℕ → Variable → Option FoundVariable → Option FoundVariable
seen_behind name variable outer =
    if bytes_eq variable.name name then Some (record { kind = variable.kind; number = 0 })
    else option_map (seen_past variable.kind) outer

-- what it is behind several, the first of which is the innermost
abbrev pub seen_behind_all : List ℕ → List Variable → Option FoundVariable → Option FoundVariable
seen_behind_all name [] outer = outer
seen_behind_all name (variable ∷ variables) outer = seen_behind name variable (seen_behind_all name variables outer)

-- the innermost variable of a name
abbrev pub variable_of : List ℕ → List Variable → Option FoundVariable
variable_of name variables = seen_behind_all name variables None

-- ---- what the code's scopes are

abbrev pub type_named : TypeNames → List ℕ → Option NamedType
type_named names name = get_by (λ key. bytes_eq name key.now) names.types

abbrev pub own_of : TypeNames → Option (List ℕ)
own_of names = option_map (λ name. name.now) names.own

abbrev pub binders_step : Binders-F (List Variable) → List Variable
binders_step (B.Parameters variables) = variables.now
binders_step (B.Exists names outer) = binder names.now ++ outer.now

abbrev pub variables_of : Binders → List Variable
variables_of = fold-Binders (List Variable) binders_step

abbrev pub within : Scope → Within
within scope = record {
  types = type_named scope.types.now;
  own = own_of scope.types.now;
  is_in_list = scope.is_in_list;
  variables = variables_of scope.variables.now;
}
