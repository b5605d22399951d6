-- What the tables know of each definition of a text, in which they have found no failure; and that then, where shapes find none either, the core's
-- bodies do what the clauses do.
use Rattle.std.specs.Prelude.{◌≡◌, ℕ, true, ◌&&◌, List, [], ◌∷◌, ◌++◌, codes, map, Option, Some, None}
use Rattle.sail_syntax.specs.declared.definitions.Def.{Def}
use Rattle.sail_syntax.specs.declared.definitions.Def.TheVariants as D
use Rattle.sail_syntax.specs.declared.definitions.FunctionClause.{FunctionClause}
use Rattle.sail_syntax.specs.declared.definitions.MappingClause.{MappingClause}
use Rattle.sail_types.specs.Shapes.{shape}
use Rattle.sail_types.specs.declared.table.Types.{Types}
use Rattle.sail_kinds.specs.declared.scope.Variable.{Variable}
use Rattle.sail_signatures.specs.declared.signature.Signature.{Signature}
use Rattle.sail_meaning.specs.Named.{constructor_named}
use Rattle.sail_names.specs.Known as Tables
use Rattle.sail_names.specs.Clauses.{behind_parameters}
use Rattle.sail_names.specs.Patterns.{parameters_failures}
use Rattle.sail_names.specs.Uses.{expression_failures}
use Rattle.shape_rules.specs.Calls.{param_shapes}
use Rattle.shape_rules.specs.Scopes.{Setting, answering, plainly}
use Rattle.shape_models.specs.Models.{Tabled, params_variables, place_in_table, setting_of, type_variables}
use Rattle.shape_clauses.specs.Functions as Found
use Rattle.shape_clauses.specs.Functions.{measure_of}
use Rattle.shape_meanings.specs.Whole.{all_below, all_of, below, closed}
use Rattle.shape_meanings.specs.Trees.{pattern_written, written}
use Rattle.shape_meanings.specs.Counted.{all_counted, counted}
use Rattle.shape_meanings.specs.Naming.{AreKnown}
use Rattle.body_meanings.specs.Bodies.{ClausesAreNamed}
use Rattle.body_meanings.specs.Directions.{CrossingsAreNamed}
use Rattle.shapes.specs.Failures.{all_lets, own_in, refusal}
use Rattle.known_texts.specs.Definitions.{DefinitionsAre, UnionIs}

-- a measure is as the grammar has it, and the tables find no failure of its names
abbrev pub MeasureIsNamed : Tables.Setting → Setting → Option Found.Measure → Type 0
MeasureIsNamed names setting None = Unit {0}
MeasureIsNamed names setting (Some m) =
    AreKnown (plainly setting) names × ((all_of (map pattern_written m.parameters) && written m.value) ≡ true)
    × (parameters_failures names m.parameters ≡ []) × (expression_failures m.value names (behind_parameters names m.parameters []) ≡ [])

-- a function: names in its clauses and in its measure mean to shapes what they mean to the tables
pub record FunctionKnown (tabled : Tabled) (text : List Def) (setting : List Variable → Setting) (name : List ℕ) (clauses : List FunctionClause)
    (s : Signature) : Type 0 where
  pub no_constructor : constructor_named tabled.types name ≡ None
  pub whole : all_below (type_variables s.variables) (param_shapes s.from) ≡ true
  pub answer : below (type_variables s.variables) (shape s.to) ≡ true
  pub counts : all_counted tabled.types (param_shapes s.from) ≡ true
  pub names : Tables.Setting
  pub known : AreKnown (answering (Some (shape s.to)) (setting s.variables)) names
  pub named : ClausesAreNamed names clauses
  pub measure_names : Tables.Setting
  pub measure : MeasureIsNamed measure_names (setting s.variables) (measure_of name text)

-- a mapping, likewise
pub record MappingKnown (types : Types) (setting : Setting) (name : List ℕ) (cs : List MappingClause) (s : Signature) : Type 0 where
  pub no_constructor : constructor_named types name ≡ None
  pub no_forwards : constructor_named types (name ++ codes "_forwards") ≡ None
  pub no_backwards : constructor_named types (name ++ codes "_backwards") ≡ None
  pub left : closed (shape s.from) ≡ true
  pub right : closed (shape s.to) ≡ true
  pub left_counts : counted types (shape s.from) ≡ true
  pub right_counts : counted types (shape s.to) ≡ true
  pub names : Tables.Setting
  pub known : AreKnown setting names
  pub named : CrossingsAreNamed names cs

abbrev pub DefinitionKnown : Tabled → List Def → (List Variable → Setting) → Def → Type 0
DefinitionKnown tabled text setting (D.Union place name variables cs) =
    UnionIs tabled.types (type_variables (params_variables variables)) (place_in_table tabled name.text)
DefinitionKnown tabled text setting (D.Function place extent name clauses) =
    (s : Signature) × (tabled.signature name.text ≡ Some s) × FunctionKnown tabled text setting name.text clauses s
DefinitionKnown tabled text setting (D.Mapping place name sides cs) =
    (s : Signature) × (tabled.signature name.text ≡ Some s) × MappingKnown tabled.types (setting []) name.text cs s
DefinitionKnown tabled text setting d = Unit {0}

abbrev pub EachKnown : Tabled → List Def → (List Variable → Setting) → List Def → Type 0
EachKnown tabled text setting [] = Unit {0}
EachKnown tabled text setting (d ∷ more) = DefinitionKnown tabled text setting d × EachKnown tabled text setting more

abbrev pub DefinitionsKnown : Tabled → List Def → (List Variable → Setting) → Type 0
DefinitionsKnown tabled text setting = UnionIs tabled.types 1 (Some 0) × EachKnown tabled text setting text

-- where the tables know each definition, and nothing is refused for its shapes
abbrev pub TextsAreRight : Type 0
TextsAreRight =
    (tabled : Tabled) (cycle : List ℕ → Option ℕ) (text : List Def) → refusal tabled text ≡ None
    → DefinitionsKnown tabled text (setting_of tabled (own_in tabled text) text (all_lets tabled text))
    → DefinitionsAre tabled text (setting_of tabled (own_in tabled text) text (all_lets tabled text)) cycle
