-- What the contracts of private functions say.
use Rattle.std.specs.Prelude.{◌≡◌, ℕ, List, [], ◌++◌, length, map, Option}
use Rattle.sail_syntax.specs.declared.definitions.Def.{Def}
use Rattle.sail_types.specs.declared.table.Types.{Types}
use Rattle.sail_kinds.specs.declared.scope.Variable.{Variable}
use Rattle.sail_kinds.specs.Scopes.{type_named, variables_of}
use Rattle.type_definitions.specs.declared.defined.Defined.{Defined}
use Rattle.sail_signatures.specs.Signatures.{signature_of}
use Rattle.sail_core.specs.declared.model.Function.{Function}
use Rattle.sail_core.specs.declared.model.Direction.{Direction}
use Rattle.sail_core.specs.declared.model.Opening.{Opening}
use Rattle.sail_core.specs.declared.model.CoreModel.{CoreModel}
use Rattle.shape_rules.specs.declared.error.ShapeError.{ShapeError}
use Rattle.shape_rules.specs.declared.locals.Local.{Local}
use Rattle.shape_rules.specs.declared.meanings.Meanings.{Meanings}
use Rattle.shape_rules.specs.Findings.{first_failure}
use Rattle.shape_rules.specs.Written.{joined}
use Rattle.shape_rules.specs.Scopes.{Setting}
use Rattle.shape_models.specs.Models.{Tabled, Own, setting_of}
use Rattle.shape_models.specs.Sources.{IsSound, AreMeanings}
use Rattle.shape_clauses.specs.Functions.{functions_of}
use Rattle.shape_clauses.specs.Mappings.{directions_of}
use Rattle.shapes.specs.declared.top.Top.{Top}
use Rattle.shapes.specs.declared.state.State.{State}
use Rattle.shapes.specs.declared.resolving.Read.{Read}
use Rattle.shapes.specs.Failures.{own_in, all_lets, lets_behind, lets_faults, others_faults}
use Rattle.shapes.specs.Resolved.{lets_openings, register_of, register_text_of, initials_openings}

-- no type variable can be named at the top level
pub record IsTop (top : Top) : Type 0 where
  pub source : IsSound top.source
  pub variables : variables_of top.variables.now ≡ []

-- of a text's definitions these are left to be read, behind lets that bind so many names
pub record AreRead (tabled : Tabled) (own : Own) (text left : List Def) (bound : ℕ) (before : List Opening)
    (kept found : Option ShapeError) (held : Meanings) : Type 0 where
  pub lets : List Local
  pub count : bound ≡ length lets
  pub meanings : AreMeanings tabled own text lets held
  pub behind : lets_behind tabled own text lets left ≡ lets_behind tabled own text [] text
  pub openings : before ++ lets_openings tabled own text lets left ≡ lets_openings tabled own text [] text
  pub failures : first_failure found (lets_faults tabled own text lets left) ≡ first_failure kept (lets_faults tabled own text [] text)

-- ---- under the names that all top-level lets bind

abbrev pub setting_in : Tabled → List Def → List Variable → Setting
setting_in tabled text = setting_of tabled (own_in tabled text) text (all_lets tabled text)

abbrev pub AreAllMeanings : Tabled → List Def → Meanings → Type 0
AreAllMeanings tabled text meanings = AreMeanings tabled (own_in tabled text) text (all_lets tabled text) meanings

abbrev pub functions_in : Tabled → (List ℕ → Option ℕ) → List Def → List Function
functions_in tabled cycle text = joined (map (functions_of tabled text (setting_in tabled text) cycle) text)

abbrev pub directions_in : Tabled → List Def → List Direction
directions_in tabled text = joined (map (directions_of tabled (setting_in tabled text [])) text)

abbrev pub all_others_faults : Tabled → List Def → List ShapeError
all_others_faults tabled text = others_faults tabled (own_in tabled text) text (all_lets tabled text)

-- the registers of a text, how each is written, and their initial values
pub record IsState (setting : Setting) (text : List Def) (state : State) : Type 0 where
  pub registers : state.registers ≡ joined (map (register_of setting) text)
  pub texts : state.texts ≡ joined (map (register_text_of setting) text)
  pub initials : state.initials ≡ initials_openings setting 0 text

-- a core of these types
abbrev pub core_of : Types → Read → CoreModel
core_of types read = record {
  types = types;
  exception = read.exception;
  registers = read.registers;
  register_texts = read.register_texts;
  functions = read.functions;
  directions = read.directions;
  openings = read.openings;
  reset = read.reset;
  step = read.step;
}

-- what the tables of a text say, by the names that its definitions define and its table
abbrev pub tabled_from : Defined → Types → List Def → Tabled
tabled_from defined types text = record {
  named = type_named defined.names;
  types = types;
  signature = signature_of (type_named defined.names) text;
}
