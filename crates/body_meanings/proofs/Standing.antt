-- Functions of a core are those of the text: their numbered bodies and measures do what the clauses and the measure do.
use Rattle.std.proofs.Common.{◌≡◌, true, ℕ, List, [], ap, sym, ◌∙◌, subst, Option, Some, None}
use Rattle.std.specs.Prelude.{option_map}
use Rattle.sail_base.specs.declared.place.Place.{Place}
use Rattle.sail_types.specs.Shapes.{shape}
use Rattle.sail_types.specs.declared.shapes.Shape.{Shape}
use Rattle.sail_types.specs.declared.values.Value.{Value}
use Rattle.sail_syntax.specs.declared.definitions.Def.{Def}
use Rattle.sail_syntax.specs.declared.definitions.FunctionClause.{FunctionClause}
use Rattle.sail_signatures.specs.declared.signature.Signature.{Signature}
use Rattle.sail_core.specs.declared.tree.Core.{Core}
use Rattle.sail_core.specs.Run.{Run}
use Rattle.core_numbers.specs.Numbers.{numbered}
use Rattle.sail_meaning.specs.Text.{Function, Measure}
use Rattle.sail_names.specs.Known as Tables
use Rattle.shape_rules.specs.Scopes.{Setting, answering}
use Rattle.shape_rules.specs.Calls.{param_shapes}
use Rattle.shape_models.specs.Models.{Tabled}
use Rattle.shape_clauses.specs.Clauses.{clauses_core, clauses_faults}
use Rattle.shape_clauses.specs.Functions as Found
use Rattle.shape_clauses.specs.Functions.{function_clauses, function_in, measure_core, measure_of, measure_tree, signed_clauses}
use Rattle.shape_meanings.specs.Counted.{all_counted}
use Rattle.shape_meanings.specs.Naming.{AreKnown}
use Rattle.shape_meanings.specs.Models.{FunctionIs}
use Rattle.body_meanings.specs.Bodies.{ClausesAreNamed, MeasureIs}
use Rattle.body_meanings.specs.Calls.{IsFunction}
use Rattle.body_meanings.specs.Standing.{IsDefined, MeasureIsFaultless, as_written}
use Rattle.body_meanings.proofs.Clauses.{functions_right, measures_right}
use Rattle.body_meanings.proofs.Numbers.{numbers_mean_nothing}

body_numbered : (setting : Setting) (params : List Shape) (answer : Shape) (body : Core) (n : ℕ) (f : Function) → FunctionIs setting params answer body f
    → FunctionIs setting params answer (numbered body n).it f
body_numbered setting params answer body n f is registers c wc ws d vs arguments fit now good =
    let a = is registers c wc ws d vs arguments fit now good in
    (ap (λ (r : Run Value Value). r now) (numbers_mean_nothing wc body n) ∙ a.0, a.1)

measure_numbered : (setting : Setting) (params : List Shape) (tree : Core) (n : ℕ) (m : Measure) → MeasureIs setting params (Some tree) (Some m)
    → MeasureIs setting params (Some (numbered tree n).it) (Some m)
measure_numbered setting params tree n m is registers c wc ws d vs arguments fit now good =
    let a = is registers c wc ws d vs arguments fit now good in
    (ap (λ (r : Run Value Value). r now) (numbers_mean_nothing wc tree n) ∙ a.0, a.1)

measure_stands : (setting : Setting) (names : Tables.Setting) (params : List Shape) (m : Option Found.Measure) (n : ℕ)
    → all_counted setting.types params ≡ true → MeasureIsFaultless names setting params m
    → MeasureIs setting params (measure_core setting params m n).it (option_map as_written m)
measure_stands setting names params None n counts right = tt
measure_stands setting names params (Some m) n counts right =
    measure_numbered setting params (measure_tree setting params m) n (as_written m)
    (measures_right setting names params m.place (as_written m) right.0 counts right.1 right.2 right.3 right.4)

pub functions_stand : (tabled : Tabled) (text : List Def) (setting : Setting) (names measure_names : Tables.Setting) (place : Place) (name : List ℕ)
    (clauses : List FunctionClause) (s : Signature) (cycle : Option ℕ) (f : Function)
    → IsDefined f place clauses s (measure_of name text) cycle
    → AreKnown (answering (Some (shape s.to)) setting) names → all_counted setting.types (param_shapes s.from) ≡ true
    → ClausesAreNamed names clauses → clauses_faults (signed_clauses setting s clauses) ≡ []
    → MeasureIsFaultless measure_names setting (param_shapes s.from) (measure_of name text)
    → IsFunction setting (param_shapes s.from) (shape s.to) (function_in tabled text setting place name clauses s cycle) f
functions_stand tabled text setting names measure_names place name clauses s cycle f is known counts named e right =
    let params : List Shape = param_shapes s.from in
    let answer : Shape = shape s.to in
    let body : Core = clauses_core place (signed_clauses setting s clauses) in
    let next : ℕ = (numbered body 0).next in
    record {
      place = sym is.place;
      variables = sym is.variables;
      parameters = sym is.parameters;
      cycle = sym is.cycle;
      body = body_numbered setting params answer body 0 f
          (subst (λ (cs : List FunctionClause). FunctionIs setting params answer (clauses_core place (function_clauses setting params answer cs)) f) is.clauses
          (functions_right setting names params answer place f known counts (subst (ClausesAreNamed names) (sym is.clauses) named)
          (subst (λ (cs : List FunctionClause). clauses_faults (function_clauses setting params answer cs) ≡ []) (sym is.clauses) e)));
      measure = subst (MeasureIs setting params (measure_core setting params (measure_of name text) next).it) (sym is.measure)
          (measure_stands setting measure_names params (measure_of name text) next counts right);
    }
