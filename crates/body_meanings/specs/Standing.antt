-- The function that a core has of a definition is that of the text, where no failure is found in its clauses and its measure.
use Rattle.std.specs.Prelude.{◌≡◌, true, ◌&&◌, ℕ, List, [], length, map, Option, Some, None, option_map}
use Rattle.sail_base.specs.declared.place.Place.{Place}
use Rattle.sail_types.specs.Shapes.{shape}
use Rattle.sail_types.specs.declared.shapes.Shape.{Shape}
use Rattle.sail_syntax.specs.declared.definitions.Def.{Def}
use Rattle.sail_syntax.specs.declared.definitions.FunctionClause.{FunctionClause}
use Rattle.sail_signatures.specs.declared.signature.Signature.{Signature}
use Rattle.sail_meaning.specs.Text.{Function, Measure}
use Rattle.sail_names.specs.Known as Tables
use Rattle.sail_names.specs.Clauses.{behind_parameters}
use Rattle.sail_names.specs.Patterns.{parameters_failures}
use Rattle.sail_names.specs.Uses.{expression_failures}
use Rattle.shape_rules.specs.Scopes.{Setting, plainly, answering}
use Rattle.shape_rules.specs.Calls.{parameters_of, param_shapes}
use Rattle.shape_models.specs.Models.{Tabled}
use Rattle.shape_declarations.specs.Signatures.{number_parameters}
use Rattle.shape_clauses.specs.Clauses.{clauses_faults}
use Rattle.shape_clauses.specs.Functions as Found
use Rattle.shape_clauses.specs.Functions.{function_in, measure_clause, measure_of, signed_clauses}
use Rattle.shape_meanings.specs.Whole.{all_of}
use Rattle.shape_meanings.specs.Trees.{written, pattern_written}
use Rattle.shape_meanings.specs.Counted.{all_counted}
use Rattle.shape_meanings.specs.Naming.{AreKnown}
use Rattle.body_meanings.specs.Bodies.{ClausesAreNamed}
use Rattle.body_meanings.specs.Calls.{IsFunction}

abbrev pub as_written : Found.Measure → Measure
as_written m = record { parameters = m.parameters; value = m.value }

-- a text's function is that of this definition, with this signature, measure and cycle
pub record IsDefined (f : Function) (at : Place) (defined : List FunctionClause) (s : Signature) (m : Option Found.Measure) (c : Option ℕ) : Type 0 where
  pub place : f.place ≡ at
  pub clauses : f.clauses ≡ defined
  pub parameters : f.parameters ≡ parameters_of s.from
  pub variables : f.variables ≡ length (number_parameters s.variables)
  pub measure : f.measure ≡ option_map as_written m
  pub cycle : f.cycle ≡ c

-- a measure is as the grammar has it, and no failure is found in it
abbrev pub MeasureIsFaultless : Tables.Setting → Setting → List Shape → Option Found.Measure → Type 0
MeasureIsFaultless names setting params None = Unit {0}
MeasureIsFaultless names setting params (Some m) =
    AreKnown (plainly setting) names × ((all_of (map pattern_written m.parameters) && written m.value) ≡ true)
    × (parameters_failures names m.parameters ≡ []) × (expression_failures m.value names (behind_parameters names m.parameters []) ≡ [])
    × ((measure_clause setting m.place params m.parameters m.value).faults ≡ [])

-- names mean the same to the tables and to shapes, in the clauses and in the measure
abbrev pub FunctionsStand : Type 0
FunctionsStand =
    (tabled : Tabled) (text : List Def) (setting : Setting) (names measure_names : Tables.Setting) (place : Place) (name : List ℕ)
    (clauses : List FunctionClause) (s : Signature) (cycle : Option ℕ) (f : Function)
    → IsDefined f place clauses s (measure_of name text) cycle
    → AreKnown (answering (Some (shape s.to)) setting) names → all_counted setting.types (param_shapes s.from) ≡ true
    → ClausesAreNamed names clauses → clauses_faults (signed_clauses setting s clauses) ≡ []
    → MeasureIsFaultless measure_names setting (param_shapes s.from) (measure_of name text)
    → IsFunction setting (param_shapes s.from) (shape s.to) (function_in tabled text setting place name clauses s cycle) f
