-- What has to be known of each definition of a text so that all names that can be called mean the same on both sides: its types leave nothing open,
-- no constructor has its name, and the core's body does what its clauses do.
use Rattle.std.specs.Prelude.{◌≡◌, ℕ, suc, true, List, [], ◌∷◌, ◌++◌, codes, Option, Some, None}
use Rattle.sail_base.specs.declared.place.Place.{Place}
use Rattle.sail_syntax.specs.declared.definitions.Def.{Def}
use Rattle.sail_syntax.specs.declared.definitions.Def.TheVariants as D
use Rattle.sail_syntax.specs.declared.definitions.FunctionClause.{FunctionClause}
use Rattle.sail_syntax.specs.declared.definitions.MappingClause.{MappingClause}
use Rattle.sail_types.specs.Named.{constructors}
use Rattle.sail_types.specs.Shapes.{shape}
use Rattle.sail_types.specs.declared.table.Field.{Field}
use Rattle.sail_types.specs.declared.table.Types.{Types}
use Rattle.sail_kinds.specs.declared.scope.Variable.{Variable}
use Rattle.sail_signatures.specs.declared.signature.Signature.{Signature}
use Rattle.sail_meaning.specs.Named.{constructor_named}
use Rattle.shape_rules.specs.Calls.{param_shapes}
use Rattle.shape_rules.specs.Scopes.{Setting}
use Rattle.shape_models.specs.Models.{Tabled, mapping_of, params_variables, place_in_table, type_variables}
use Rattle.shape_clauses.specs.Functions.{function_in}
use Rattle.shape_clauses.specs.Mappings.{backwards_core, forwards_core}
use Rattle.shape_meanings.specs.Whole.{all_below, below, closed}
use Rattle.shape_meanings.specs.Worlds.{is_payload}
use Rattle.shape_meanings.specs.Models.{DirectionIs}
use Rattle.body_meanings.specs.Calls.{IsFunction}
use Rattle.body_meanings.specs.Directions.{backwards, forwards}
use Rattle.known_texts.specs.Texts.{function_of}

-- constructors of a union with so many Type variables, from one on: each is found by its name
abbrev pub ConstructorsAre : Types → ℕ → ℕ → ℕ → List Field → Type 0
ConstructorsAre types u count k [] = Unit {0}
ConstructorsAre types u count k (f ∷ fs) =
    (constructor_named types f.name ≡ Some (u, k)) × (all_below count (param_shapes f.typ) ≡ true) × (is_payload f.typ ≡ true)
    × ConstructorsAre types u count (suc k) fs

abbrev pub UnionIs : Types → ℕ → Option ℕ → Type 0
UnionIs types count None = Unit {0}
UnionIs types count (Some u) = ConstructorsAre types u count 0 (constructors types u)

-- a function, in the setting under its type variables
pub record FunctionOf (tabled : Tabled) (text : List Def) (setting : List Variable → Setting) (place : Place) (name : List ℕ) (clauses : List FunctionClause)
    (s : Signature) (cycle : Option ℕ) : Type 0 where
  pub no_constructor : constructor_named tabled.types name ≡ None
  pub whole : all_below (type_variables s.variables) (param_shapes s.from) ≡ true
  pub answer : below (type_variables s.variables) (shape s.to) ≡ true
  pub is : IsFunction (setting s.variables) (param_shapes s.from) (shape s.to)
      (function_in tabled text (setting s.variables) place name clauses s cycle) (function_of tabled text place name clauses s cycle)

-- a mapping in both directions, around which no type variable is
pub record MappingOf (types : Types) (setting : Setting) (place : Place) (name : List ℕ) (cs : List MappingClause) (s : Signature) : Type 0 where
  pub no_constructor : constructor_named types name ≡ None
  pub no_forwards : constructor_named types (name ++ codes "_forwards") ≡ None
  pub no_backwards : constructor_named types (name ++ codes "_backwards") ≡ None
  pub left : closed (shape s.from) ≡ true
  pub right : closed (shape s.to) ≡ true
  pub ahead : DirectionIs setting (forwards_core setting place (mapping_of name 0 s) cs).body (forwards (mapping_of name 0 s) cs)
  pub back : DirectionIs setting (backwards_core setting place (mapping_of name 0 s) cs).body (backwards (mapping_of name 0 s) cs)

-- a definition: the tables give each function and mapping a signature
abbrev pub DefinitionIs : Tabled → List Def → (List Variable → Setting) → (List ℕ → Option ℕ) → Def → Type 0
DefinitionIs tabled text setting cycle (D.Union place name variables cs) =
    UnionIs tabled.types (type_variables (params_variables variables)) (place_in_table tabled name.text)
DefinitionIs tabled text setting cycle (D.Function place extent name clauses) =
    (s : Signature) × (tabled.signature name.text ≡ Some s) × FunctionOf tabled text setting place name.text clauses s (cycle name.text)
DefinitionIs tabled text setting cycle (D.Mapping place name sides cs) =
    (s : Signature) × (tabled.signature name.text ≡ Some s) × MappingOf tabled.types (setting []) place name.text cs s
DefinitionIs tabled text setting cycle d = Unit {0}

-- all definitions, and `option` before them, which has one Type variable
abbrev pub EachIs : Tabled → List Def → (List Variable → Setting) → (List ℕ → Option ℕ) → List Def → Type 0
EachIs tabled text setting cycle [] = Unit {0}
EachIs tabled text setting cycle (d ∷ more) = DefinitionIs tabled text setting cycle d × EachIs tabled text setting cycle more

abbrev pub DefinitionsAre : Tabled → List Def → (List Variable → Setting) → (List ℕ → Option ℕ) → Type 0
DefinitionsAre tabled text setting cycle = UnionIs tabled.types 1 (Some 0) × EachIs tabled text setting cycle text
