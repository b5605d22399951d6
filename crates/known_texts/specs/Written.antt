-- Definitions as the grammar has them (Sail language manual, "Types", "Functions", "Mappings", "Overloading"): the tables don't look at this again.
use Rattle.std.specs.Prelude.{◌≡◌, Bool, true, false, ◌&&◌, List, [], ◌∷◌, map, Option, Some, None}
use Rattle.sail_syntax.specs.declared.types.TyExp.{TyExp, TyExp-F, fold-TyExp}
use Rattle.sail_syntax.specs.declared.types.TyExp.TheOpen as X
use Rattle.sail_syntax.specs.declared.expressions.Exp.{Exp}
use Rattle.sail_syntax.specs.declared.words.Extent.{Extent}
use Rattle.sail_syntax.specs.declared.words.Extent.TheVariants as E
use Rattle.sail_syntax.specs.declared.definitions.Def.{Def}
use Rattle.sail_syntax.specs.declared.definitions.Def.TheVariants as D
use Rattle.sail_syntax.specs.declared.definitions.FunctionClause.{FunctionClause}
use Rattle.sail_syntax.specs.declared.definitions.MappingClause.{MappingClause}
use Rattle.sail_syntax.specs.declared.definitions.Sides.{Sides}
use Rattle.sail_signatures.specs.Signatures.{annotation}
use Rattle.shape_meanings.specs.Trees.{all_if, pattern_written, written}
use Rattle.shape_meanings.specs.Whole.{all_of}
use Rattle.body_meanings.specs.Directions.{both_ways_written}

-- ---- types

-- a tuple has several parts
abbrev pub tuple_written : List Bool → Bool
tuple_written [] = false
tuple_written (b ∷ []) = false
tuple_written bs = all_of bs

abbrev pub type_form : TyExp-F Bool → Bool
type_form (X.Named name bs) = all_of bs
type_form (X.Prefix place prefix b) = b
type_form (X.Infix place operator a b) = a && b
type_form (X.OneOf place b choices) = b
type_form (X.Tuple place bs) = tuple_written bs
type_form (X.Exists place names constraint b) = all_if constraint && b
type_form form = true

abbrev pub type_written : TyExp → Bool
type_written = fold-TyExp Bool type_form

abbrev pub maybe_type_written : Option TyExp → Bool
maybe_type_written None = true
maybe_type_written (Some typ) = type_written typ

-- ---- clauses

-- the types of its parameters and of its result, its parameters, and its body
abbrev pub clause_types_written : FunctionClause → Bool
clause_types_written c = all_of (map (λ p. maybe_type_written (annotation p)) c.parameters) && maybe_type_written c.result

abbrev pub clause_written : FunctionClause → Bool
clause_written c = all_of (map pattern_written c.parameters) && written c.body

abbrev pub crossing_written : MappingClause → Bool
crossing_written c = both_ways_written c.left && both_ways_written c.right

-- a function in one piece has a clause; a gathered one may have none
abbrev pub has_clauses : Extent → List FunctionClause → Bool
has_clauses E.Whole [] = false
has_clauses extent clauses = true

abbrev pub sides_written : Option Sides → Bool
sides_written None = true
sides_written (Some sides) = type_written sides.left && type_written sides.right

abbrev pub maybe_written : Option Exp → Bool
maybe_written None = true
maybe_written (Some value) = written value

abbrev pub is_some_name : {A : Type 0} → List A → Bool
is_some_name [] = false
is_some_name (name ∷ names) = true

-- ---- definitions

abbrev pub definition_written : Def → Bool
definition_written (D.Alias place name variables kind typ) = type_written typ
definition_written (D.Struct place name variables fields) = all_of (map (λ f. type_written f.typ) fields)
definition_written (D.Union place name variables constructors) = all_of (map (λ c. type_written c.typ) constructors)
definition_written (D.Val place name quantifier from arrow to) = type_written from && type_written to
definition_written (D.Function place extent name clauses) =
    (has_clauses extent clauses && all_of (map clause_types_written clauses)) && all_of (map clause_written clauses)
definition_written (D.Measure place name parameters value) = all_of (map pattern_written parameters) && written value
definition_written (D.Mapping place name sides clauses) = sides_written sides && all_of (map crossing_written clauses)
definition_written (D.Let place pattern value) = pattern_written pattern && written value
definition_written (D.Register place name typ initial) = type_written typ && maybe_written initial
definition_written (D.Overload place name members) = is_some_name members
definition_written d = true

-- a text as the grammar has it
abbrev pub IsWritten : List Def → Type 0
IsWritten text = all_of (map definition_written text) ≡ true
