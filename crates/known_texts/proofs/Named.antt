-- Clauses of functions and mappings, and measures, of a text without failures: the tables find no failure of their names.
use Rattle.std.proofs.Common.{◌≡◌, ℕ, ◌+◌, List, [], ◌∷◌, map, refl, subst, Bool, true, false, ◌&&◌, if◌then◌else◌, Option, Some, None}
use Rattle.std.proofs.lemmas.Bool.{and_parts}
use Rattle.std.specs.Option.{option_or}
use Rattle.std.specs.Str.{bytes_eq}
use Rattle.sail_syntax.specs.declared.definitions.Def.{Def}
use Rattle.sail_syntax.specs.declared.definitions.Def.TheVariants as D
use Rattle.sail_syntax.specs.declared.definitions.FunctionClause.{FunctionClause}
use Rattle.sail_syntax.specs.declared.definitions.MappingClause.{MappingClause}
use Rattle.sail_kinds.specs.declared.error.TableError.{TableError}
use Rattle.sail_names.specs.declared.around.Allowed.TheVariants.{Plain}
use Rattle.sail_names.specs.Known as Tables
use Rattle.sail_names.specs.Clauses.{behind_parameters, function_clause_failures, mapping_clause_failures}
use Rattle.sail_names.specs.Patterns.{joined, parameters_failures}
use Rattle.sail_names.specs.Uses.{expression_failures}
use Rattle.type_definitions.specs.Defined.{types_of}
use Rattle.sail_signatures.specs.Signatures.{variables_in}
use Rattle.known_names.specs.Meanings.{known_in}
use Rattle.sail_bodies.specs.Bodies.{body_failures, body_failures_from, clauses_failures, mapping_failures, setting}
use Rattle.shape_clauses.specs.Functions.{Measure, measure_of}
use Rattle.shape_joins.proofs.JoinsLeast.{none, some_same}
use Rattle.shape_meanings.specs.Trees.{pattern_written, written}
use Rattle.shape_meanings.specs.Whole.{all_of}
use Rattle.shape_meanings.proofs.Settling.{same_name}
use Rattle.body_meanings.specs.Bodies.{ClausesAreNamed}
use Rattle.body_meanings.specs.Directions.{CrossingsAreNamed}
use Rattle.known_texts.proofs.Failures.{apart}
use Rattle.known_texts.specs.Written.{clause_written, crossing_written, definition_written}

pub clauses_named : (names : Tables.Setting) (cs : List FunctionClause) → all_of (map clause_written cs) ≡ true → clauses_failures names cs ≡ []
    → ClausesAreNamed names cs
clauses_named names [] w e = tt
clauses_named names (c ∷ cs) w e =
    let k = and_parts (clause_written c) (all_of (map clause_written cs)) w in
    let f = apart (function_clause_failures names c) (joined (map (function_clause_failures names) cs)) e in
    (k.0, f.0, clauses_named names cs k.1 f.1)

pub crossings_named : (names : Tables.Setting) (cs : List MappingClause) → all_of (map crossing_written cs) ≡ true → mapping_failures names cs ≡ []
    → CrossingsAreNamed names cs
crossings_named names [] w e = tt
crossings_named names (c ∷ cs) w e =
    let k = and_parts (crossing_written c) (all_of (map crossing_written cs)) w in
    let f = apart (mapping_clause_failures names c) (joined (map (mapping_clause_failures names) cs)) e in
    (k.0, f.0, crossings_named names cs k.1 f.1)

-- ---- measures

-- a measure is as it is written, and its names have no failure
pub record MeasureNamed (names : Tables.Setting) (m : Measure) : Type 0 where
  pub is_written : (all_of (map pattern_written m.parameters) && written m.value) ≡ true
  pub parameters : parameters_failures names m.parameters ≡ []
  pub value : expression_failures m.value names (behind_parameters names m.parameters []) ≡ []

module _ (text : List Def) where
  abbrev fails_at : ℕ → Def → List TableError
  fails_at at d = body_failures text (known_in text) (types_of text) at d

  abbrev fail_from : ℕ → List Def → List TableError
  fail_from at rest = body_failures_from text (known_in text) (types_of text) at rest

  abbrev pub plain_at : ℕ → List ℕ → Tables.Setting
  plain_at at name = setting (known_in text) (types_of text) Plain (variables_in text name) at

  abbrev pub Found : List ℕ → Measure → Type 0
  Found name m = (at : ℕ) × MeasureNamed (plain_at at name) m

  here_if : (name : List ℕ) (m : Measure) (b : Bool) (own : Measure) (later : Option Measure) → (b ≡ true → Found name own)
      → (later ≡ Some m → Found name m) → option_or (if b then Some own else None) later ≡ Some m → Found name m
  here_if name m true own later its next e = subst (Found name) (some_same own m e) (its refl)
  here_if name m false own later its next e = next e

  found_from : (at : ℕ) (rest : List Def) (name : List ℕ) (m : Measure) → fail_from at rest ≡ [] → all_of (map definition_written rest) ≡ true
      → measure_of name rest ≡ Some m → Found name m
  found_from at [] name m e w h = none h
  found_from at ((D.Measure place own parameters value) ∷ rest) name m e w h =
      let f = apart (fails_at at (D.Measure place own parameters value)) (fail_from (at + 1) rest) e in
      let k = and_parts (definition_written (D.Measure place own parameters value)) (all_of (map definition_written rest)) w in
      let names : Tables.Setting = plain_at at own.text in
      let g = apart (parameters_failures names parameters) (expression_failures value names (behind_parameters names parameters [])) f.0 in
      let it : Measure = record { place = place; parameters = parameters; value = value } in
      here_if name m (bytes_eq own.text name) it (measure_of name rest)
      (λ same. subst (λ n. Found n it) (same_name own.text name same) (at, record { is_written = k.0; parameters = g.0; value = g.1 }))
      (λ l. found_from (at + 1) rest name m f.1 k.1 l) h
  found_from at (d ∷ rest) name m e w h =
      let f = apart (fails_at at d) (fail_from (at + 1) rest) e in
      let k = and_parts (definition_written d) (all_of (map definition_written rest)) w in
      found_from (at + 1) rest name m f.1 k.1 h

  pub measure_found : body_failures_from text (known_in text) (types_of text) 0 text ≡ [] → all_of (map definition_written text) ≡ true
      → (name : List ℕ) (m : Measure) → measure_of name text ≡ Some m → Found name m
  measure_found e w name m h = found_from 0 text name m e w h
