-- Functions and their measures: failures of their clauses, and their cores (Sail language manual, "Functions", "Termination").
use Rattle.std.specs.Prelude.{ℕ, suc, bytes_eq, List, [], ◌∷◌, map, Option, Some, None, if◌then◌else◌}
use Rattle.std.specs.Option.{option_or}
use Rattle.sail_base.specs.declared.place.Place.{Place}
use Rattle.sail_syntax.specs.declared.expressions.Exp.{Exp}
use Rattle.sail_syntax.specs.declared.patterns.Pat.{Pat}
use Rattle.sail_syntax.specs.declared.definitions.Def.{Def}
use Rattle.sail_syntax.specs.declared.definitions.Def.TheVariants as D
use Rattle.sail_syntax.specs.declared.definitions.FunctionClause.{FunctionClause}
use Rattle.sail_types.specs.Shapes.{shape}
use Rattle.sail_types.specs.declared.shapes.Shape.{Shape}
use Rattle.sail_types.specs.declared.shapes.Shape.TheVariants as V
use Rattle.sail_kinds.specs.declared.scope.Variable.{Variable}
use Rattle.sail_signatures.specs.declared.signature.Signature.{Signature}
use Rattle.known_names.specs.Meanings.{known_in}
use Rattle.sail_tables.specs.Tabled.{cycle_named}
use Rattle.sail_tables.specs.declared.model_tables.Tables.{Tables}
use Rattle.sail_core.specs.declared.tree.Core.{Core}
use Rattle.sail_core.specs.declared.model.Function.{Function}
use Rattle.core_numbers.specs.Numbers.{Numbered, Numbering, same, then_made, numbered}
use Rattle.shape_rules.specs.declared.error.ShapeError.{ShapeError}
use Rattle.shape_rules.specs.Scopes.{Setting, plainly, answering}
use Rattle.shape_rules.specs.Calls.{parameters_of, param_shapes}
use Rattle.shape_rules.specs.Expressions.{part}
use Rattle.shape_models.specs.Models.{Tabled}
use Rattle.shape_declarations.specs.Signatures.{number_parameters, type_names, is_declared, signature_numbers}
use Rattle.shape_clauses.specs.Clauses.{Claused, clause_read, clauses_core, clauses_faults}

-- ---- clauses

-- a clause of a function with parameters and a result of these shapes: a `return` in it gives such a result
abbrev pub function_clause : Setting → List Shape → Shape → FunctionClause → Claused
function_clause setting params answer clause =
    clause_read (answering (Some answer) setting) clause.place params clause.parameters (part clause.body) clause.result answer

abbrev pub function_clauses : Setting → List Shape → Shape → List FunctionClause → List Claused
function_clauses setting params answer clauses = map (function_clause setting params answer) clauses

-- those of a function with this signature
abbrev pub signed_clauses : Setting → Signature → List FunctionClause → List Claused
signed_clauses setting s clauses = function_clauses setting (param_shapes s.from) (shape s.to) clauses

-- a measure: a plain integer over the same parameters
abbrev pub measure_clause : Setting → Place → List Shape → List Pat → Exp → Claused
measure_clause setting place params parameters value = clause_read (plainly setting) place params parameters (part value) None V.Int

-- ---- failures

-- the tables give each function a signature; without one nothing is looked at
abbrev pub function_faults : (List Variable → Setting) → Option Signature → List FunctionClause → List ShapeError
function_faults setting None clauses = []
function_faults setting (Some s) clauses = clauses_faults (signed_clauses (setting s.variables) s clauses)

abbrev pub measure_faults : (List Variable → Setting) → Option Signature → Place → List Pat → Exp → List ShapeError
measure_faults setting None place parameters value = []
measure_faults setting (Some s) place parameters value =
    (measure_clause (setting s.variables) place (param_shapes s.from) parameters value).faults

-- those of a function or measure, by the setting under some type variables
abbrev pub called_faults : Tabled → (List Variable → Setting) → Def → List ShapeError
called_faults tabled setting (D.Function place extent name clauses) = function_faults setting (tabled.signature name.text) clauses
called_faults tabled setting (D.Measure place name parameters value) =
    measure_faults setting (tabled.signature name.text) place parameters value
called_faults tabled setting d = []

-- ---- the measure of a function

-- as it is written
pub record Measure : Type 0 where
  pub place : Place
  pub parameters : List Pat
  pub value : Exp

abbrev pub measure_in : List ℕ → Def → Option Measure
measure_in name (D.Measure place own parameters value) =
    if bytes_eq own.text name then Some (record { place = place; parameters = parameters; value = value }) else None
measure_in name d = None

-- the first of a name
abbrev pub measure_of : List ℕ → List Def → Option Measure
measure_of name [] = None
measure_of name (d ∷ text) = option_or (measure_in name d) (measure_of name text)

-- over parameters of these shapes, without numbers yet
abbrev pub measure_tree : Setting → List Shape → Measure → Core
measure_tree setting params m = clauses_core m.place (measure_clause setting m.place params m.parameters m.value ∷ [])

-- with its numbers
abbrev pub measure_core : Setting → List Shape → Option Measure → Numbering (Option Core)
measure_core setting params None n = same None n
measure_core setting params (Some m) n = then_made Some (numbered (measure_tree setting params m) n)

-- ---- the core of a function

-- its body is numbered first, then its measure, then where arguments come in, then where the result is made
abbrev pub function_with : Tabled → List Def → Place → List ℕ → List FunctionClause → Signature → Option ℕ → Core → Numbered (Option Core) → Function
function_with tabled text place name clauses s cycle body measure = record {
  place = place;
  name = name;
  variables = number_parameters s.variables;
  type_variables = type_names s.variables;
  constraint = s.constraint;
  parameters = parameters_of s.from;
  result = s.to;
  is_declared = is_declared text name;
  numbers = signature_numbers tabled text name clauses;
  cycle = cycle;
  measure = measure.it;
  body = body;
  entry = measure.next;
  last = suc measure.next;
}

abbrev pub function_behind : Tabled → List Def → Setting → Place → List ℕ → List FunctionClause → Signature → Option ℕ → Numbered Core → Function
function_behind tabled text setting place name clauses s cycle body =
    function_with tabled text place name clauses s cycle body.it (measure_core setting (param_shapes s.from) (measure_of name text) body.next)

abbrev pub function_in : Tabled → List Def → Setting → Place → List ℕ → List FunctionClause → Signature → Option ℕ → Function
function_in tabled text setting place name clauses s cycle =
    function_behind tabled text setting place name clauses s cycle (numbered (clauses_core place (signed_clauses setting s clauses)) 0)

abbrev pub functions_if : Tabled → List Def → (List Variable → Setting) → Place → List ℕ → List FunctionClause → Option Signature → Option ℕ
    → List Function
functions_if tabled text setting place name clauses None cycle = []
functions_if tabled text setting place name clauses (Some s) cycle = function_in tabled text (setting s.variables) place name clauses s cycle ∷ []

-- the function that a definition is, by the setting under some type variables and the cycle of calls that each function is in
abbrev pub functions_of : Tabled → List Def → (List Variable → Setting) → (List ℕ → Option ℕ) → Def → List Function
functions_of tabled text setting cycle (D.Function place extent name clauses) =
    functions_if tabled text setting place name.text clauses (tabled.signature name.text) (cycle name.text)
functions_of tabled text setting cycle d = []

-- what the tables of a text say of the cycle that a function is in
abbrev pub cycle_in : Tables → List Def → List ℕ → Option ℕ
cycle_in tables text name = cycle_named tables.calls (known_in text) name
