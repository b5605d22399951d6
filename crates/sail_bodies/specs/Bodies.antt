-- The failures in bodies, values and types of definitions: of each name, type and loop in them (Sail language manual, "Functions",
-- "Mappings", "Registers", "Let bindings").
use Rattle.std.specs.Prelude.{ℕ, ◌+◌, List, [], ◌∷◌, ◌++◌, map, Option, Some, None, option_map}
use Rattle.sail_base.specs.declared.kind.Kind.TheVariants as K
use Rattle.sail_syntax.specs.declared.types.TyExp.{TyExp}
use Rattle.sail_syntax.specs.declared.expressions.Exp.{Exp}
use Rattle.sail_syntax.specs.declared.patterns.Pat.{Pat}
use Rattle.sail_syntax.specs.declared.definitions.Sides.{Sides}
use Rattle.sail_syntax.specs.declared.definitions.FunctionClause.{FunctionClause}
use Rattle.sail_syntax.specs.declared.definitions.MappingClause.{MappingClause}
use Rattle.sail_syntax.specs.declared.definitions.Param.{Param}
use Rattle.sail_syntax.specs.declared.definitions.Def.{Def}
use Rattle.sail_syntax.specs.declared.definitions.Def.TheVariants as D
use Rattle.sail_kinds.specs.declared.error.TableError.{TableError}
use Rattle.sail_kinds.specs.Normal.{reading_as}
use Rattle.sail_names.specs.declared.around.Allowed.{Allowed}
use Rattle.sail_names.specs.declared.around.Allowed.TheVariants.{Any, Plain}
use Rattle.sail_names.specs.Known.{Known, Setting}
use Rattle.sail_names.specs.Patterns.{joined, pattern_failures, parameters_failures}
use Rattle.sail_names.specs.Uses.{maybe, expression_failures}
use Rattle.sail_names.specs.Clauses.{behind_parameters, function_clause_failures, mapping_clause_failures}
use Rattle.type_definitions.specs.Defined.{Types, under}
use Rattle.sail_signatures.specs.Signatures.{val_failures, typ_read, variables_in}
use Rattle.sail_bodies.specs.Voids.{register_void}

-- where the definition of a position stands, whose type variables these are
abbrev pub setting : Known → Types → Allowed → List Param → ℕ → Setting
setting known types allowed variables at = record { known = known; types = under types.named variables; allowed = allowed; number = at }

-- the clauses of a function
abbrev pub clauses_failures : Setting → List FunctionClause → List TableError
clauses_failures setting clauses = joined (map (function_clause_failures setting) clauses)

-- a measure, in which the names of its parameters are in scope
abbrev pub measure_failures : Setting → List Pat → Exp → List TableError
measure_failures setting parameters value =
    parameters_failures setting parameters ++ expression_failures value setting (behind_parameters setting parameters [])

-- the types of a mapping's sides, and its clauses
abbrev pub sides_failures : Setting → Option Sides → List TableError
sides_failures setting None = []
sides_failures setting (Some sides) =
    (reading_as K.Type sides.left setting.types).failures ++ (reading_as K.Type sides.right setting.types).failures

abbrev pub mapping_failures : Setting → List MappingClause → List TableError
mapping_failures setting clauses = joined (map (mapping_clause_failures setting) clauses)

-- a top-level `let`
abbrev pub let_failures : Setting → Pat → Exp → List TableError
let_failures setting pattern value = pattern_failures setting pattern ++ expression_failures value setting []

-- a register: its type, and its initial value
abbrev pub register_failures : Setting → Types → TyExp → Option Exp → List TableError
register_failures setting types typ initial =
    ((reading_as K.Type typ setting.types).failures ++ register_void types.table typ (typ_read setting.types typ))
    ++ maybe (option_map expression_failures initial) setting []

-- what a body may name: a plain expression names no function
abbrev pub allowed_in : Def → Allowed
allowed_in (D.Function place extent name clauses) = Any
allowed_in (D.Mapping place name sides clauses) = Any
allowed_in d = Plain

-- the type variables that a body can name: those of the `val` of its name
abbrev pub variables_at : List Def → Def → List Param
variables_at text (D.Function place extent name clauses) = variables_in text name.text
variables_at text (D.Measure place name parameters value) = variables_in text name.text
variables_at text (D.Mapping place name sides clauses) = variables_in text name.text
variables_at text d = []

-- the failures of a definition that is no `val`, where it stands
abbrev pub own_failures : Setting → Types → Def → List TableError
own_failures setting types (D.Function place extent name clauses) = clauses_failures setting clauses
own_failures setting types (D.Measure place name parameters value) = measure_failures setting parameters value
own_failures setting types (D.Mapping place name sides clauses) = sides_failures setting sides ++ mapping_failures setting clauses
own_failures setting types (D.Let place pattern value) = let_failures setting pattern value
own_failures setting types (D.Register place name typ initial) = register_failures setting types typ initial
own_failures setting types d = []

-- the failures of the definition of a position, in a text where these names are known and these types defined
abbrev pub body_failures : List Def → Known → Types → ℕ → Def → List TableError
body_failures text known types at (D.Val place name quantifier from arrow to) = val_failures types.named quantifier from to
body_failures text known types at d = own_failures (setting known types (allowed_in d) (variables_at text d) at) types d

-- the failures of definitions, the first of which has this position
abbrev pub body_failures_from : List Def → Known → Types → ℕ → List Def → List TableError
body_failures_from text known types at [] = []
body_failures_from text known types at (d ∷ rest) =
    body_failures text known types at d ++ body_failures_from text known types (at + 1) rest

-- those of all definitions of a text
abbrev pub all_body_failures : List Def → Known → Types → List TableError
all_body_failures text known types = body_failures_from text known types 0 text
