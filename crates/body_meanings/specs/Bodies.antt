-- Functions and their measures, where the tables have found no failure of their names, and no failure of shapes is found.
use Rattle.std.specs.Prelude.{◌≡◌, true, ◌&&◌, List, [], ◌∷◌, map, Option, Some, None}
use Rattle.sail_base.specs.declared.place.Place.{Place}
use Rattle.sail_types.specs.declared.shapes.Shape.{Shape}
use Rattle.sail_types.specs.declared.shapes.Shape.TheVariants as V
use Rattle.sail_syntax.specs.declared.definitions.FunctionClause.{FunctionClause}
use Rattle.sail_types.specs.declared.values.Value.{Value}
use Rattle.sail_core.specs.declared.tree.Core.{Core}
use Rattle.sail_core.specs.Run.{Now, within, ◌then◌}
use Rattle.sail_core.specs.Making as Core
use Rattle.sail_core.specs.Meaning.{core_meaning}
use Rattle.sail_meaning.specs.Text.{Function, Measure}
use Rattle.sail_meaning.specs.World as Source
use Rattle.sail_meaning.specs.World.{Piece, plain}
use Rattle.sail_meaning.specs.Patterns.{arguments_match}
use Rattle.sail_meaning.specs.Expressions.{meaning}
use Rattle.sail_names.specs.Known as Tables
use Rattle.sail_names.specs.Clauses.{function_clause_failures, behind_parameters}
use Rattle.sail_names.specs.Patterns.{parameters_failures}
use Rattle.sail_names.specs.Uses.{expression_failures}
use Rattle.shape_rules.specs.Scopes.{Setting, plainly, answering}
use Rattle.shape_clauses.specs.Clauses.{clauses_core, clauses_faults}
use Rattle.shape_clauses.specs.Functions.{function_clauses, measure_clause}
use Rattle.shape_meanings.specs.Whole.{Choice, all_of}
use Rattle.shape_meanings.specs.Trees.{written, pattern_written}
use Rattle.shape_meanings.specs.Counted.{all_counted}
use Rattle.shape_meanings.specs.Naming.{AreKnown}
use Rattle.shape_meanings.specs.Models.{FunctionIs}
use Rattle.shape_meanings.specs.Keeping.{Fits, FitAll, Good, reach_of, Agree}
use Rattle.shape_meanings.specs.Worlds.{Describes}

-- each clause is as the grammar has it, and the tables find no failure of its names
abbrev pub ClausesAreNamed : Tables.Setting → List FunctionClause → Type 0
ClausesAreNamed names [] = Unit {0}
ClausesAreNamed names (c ∷ cs) =
    ((all_of (map pattern_written c.parameters) && written c.body) ≡ true) × (function_clause_failures names c ≡ []) × ClausesAreNamed names cs

-- the clauses of a function with parameters and a result of these shapes
abbrev pub FunctionsAreRight : Type 0
FunctionsAreRight =
    (setting : Setting) (names : Tables.Setting) (params : List Shape) (answer : Shape) (place : Place) (f : Function)
    → AreKnown (answering (Some answer) setting) names → all_counted setting.types params ≡ true → ClausesAreNamed names f.clauses
    → clauses_faults (function_clauses setting params answer f.clauses) ≡ []
    → FunctionIs setting params answer (clauses_core place (function_clauses setting params answer f.clauses)) f

-- what a measure gives for these arguments
abbrev pub measured : Measure → Source.World → List Value → Piece Value
measured m ws vs = arguments_match ws m.parameters vs then λ found. within found (meaning m.value (plain ws))

-- a function's measure, which is found as a plain expression, in the worlds around the function
abbrev pub MeasureIs : Setting → List Shape → Option Core → Option Measure → Type 0
MeasureIs setting params None None = Unit {0}
MeasureIs setting params (Some core) (Some m) =
    (registers : List Shape) (c : Choice) (wc : Core.World Value) (ws : Source.World) → Describes setting registers wc ws
    → (vs : List Value) → wc.arguments ≡ vs → FitAll setting.types c params vs
    → (now : Now Value) → Good (reach_of (plainly setting) registers c []) now
    → Agree (reach_of (plainly setting) registers c []) (Fits setting.types c V.Int) (core_meaning wc core now) (measured m ws vs now)
MeasureIs setting params core m = ⊥

-- and its measure, a plain expression
abbrev pub MeasuresAreRight : Type 0
MeasuresAreRight =
    (setting : Setting) (names : Tables.Setting) (params : List Shape) (place : Place) (m : Measure)
    → AreKnown (plainly setting) names → all_counted setting.types params ≡ true
    → (all_of (map pattern_written m.parameters) && written m.value) ≡ true → parameters_failures names m.parameters ≡ []
    → expression_failures m.value names (behind_parameters names m.parameters []) ≡ []
    → (measure_clause setting place params m.parameters m.value).faults ≡ []
    → MeasureIs setting params (Some (clauses_core place (measure_clause setting place params m.parameters m.value ∷ []))) (Some m)
