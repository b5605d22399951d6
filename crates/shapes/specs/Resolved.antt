-- The core of a text that nothing is refused for.
use Rattle.std.specs.Prelude.{ℕ, suc, bytes_eq, codes, List, [], ◌∷◌, ◌++◌, map, filter_map, take, drop, Option, Some, None, if◌then◌else◌}
use Rattle.sail_base.specs.declared.place.Place.{Place}
use Rattle.sail_syntax.specs.declared.types.TyExp.{TyExp}
use Rattle.sail_syntax.specs.declared.expressions.Exp.{Exp}
use Rattle.sail_syntax.specs.declared.definitions.Def.{Def}
use Rattle.sail_syntax.specs.declared.definitions.Def.TheVariants as D
use Rattle.sail_types.specs.declared.types.Typ.{Typ}
use Rattle.model_state.specs.declared.state.Register.{Register}
use Rattle.sail_core.specs.declared.tree.Core.{Core}
use Rattle.sail_core.specs.declared.model.Opening.{Opening}
use Rattle.sail_core.specs.declared.model.OpeningKind.{OpeningKind}
use Rattle.sail_core.specs.declared.model.OpeningKind.TheVariants as Opens
use Rattle.sail_core.specs.declared.model.RegisterText.{RegisterText}
use Rattle.sail_core.specs.declared.model.CoreModel.{CoreModel}
use Rattle.core_numbers.specs.Numbers.{numbered}
use Rattle.shape_rules.specs.declared.locals.Local.{Local}
use Rattle.shape_rules.specs.Written.{numbers_in, joined, typ_in, shape_in}
use Rattle.shape_rules.specs.Scopes.{Setting}
use Rattle.shape_rules.specs.Statements.{Binding}
use Rattle.shape_models.specs.Models.{Tabled, Own, exception_in, setting_of}
use Rattle.shape_clauses.specs.Functions.{functions_of}
use Rattle.shape_clauses.specs.Mappings.{directions_of}
use Rattle.shapes.specs.Failures.{let_under, lets_with, initial_found, own_in, all_lets}

-- ---- registers

abbrev pub register_named : List ℕ → Typ → Register
register_named name t = record { name = name; typ = t }

abbrev pub register_if : List ℕ → Option Typ → List Register
register_if name None = []
register_if name (Some t) = register_named name t ∷ []

abbrev pub register_of : Setting → Def → List Register
register_of setting (D.Register place name typ initial) = register_if name.text (typ_in setting.within typ)
register_of setting d = []

abbrev pub register_text : Setting → Place → TyExp → RegisterText
register_text setting place typ = record { place = place; numbers = numbers_in setting.within typ }

abbrev pub register_text_of : Setting → Def → List RegisterText
register_text_of setting (D.Register place name typ initial) = register_text setting place typ ∷ []
register_text_of setting d = []

-- how many registers there are with one more definition
abbrev pub registers_with : ℕ → Def → ℕ
registers_with count (D.Register place name typ initial) = suc count
registers_with count d = count

-- ---- openings: what is worked out once, each tree with numbers of its own

abbrev pub opening : Place → OpeningKind → Core → Opening
opening place kind core = record { place = place; kind = kind; value = (numbered core 0).it }

abbrev pub binding_opening : Place → Binding → Opening
binding_opening place b = opening place (Opens.Let b.arm) b.part

-- those of top-level lets, each of which sees the lets before it
abbrev pub let_openings : Tabled → Own → List Def → List Local → Def → List Opening
let_openings tabled own text lets (D.Let place p value) = binding_opening place (let_under tabled own text lets place p value) ∷ []
let_openings tabled own text lets d = []

abbrev pub lets_openings : Tabled → Own → List Def → List Local → List Def → List Opening
lets_openings tabled own text lets [] = []
lets_openings tabled own text lets (d ∷ more) =
    let_openings tabled own text lets d ++ lets_openings tabled own text (lets_with tabled own text lets d) more

-- the initial value of the register of this place among registers, where it has one
abbrev pub register_opening : Setting → ℕ → Place → TyExp → Exp → Opening
register_opening setting r place typ value = opening place (Opens.Register r) (initial_found setting (shape_in setting.within typ) value).core

abbrev pub register_openings : Setting → ℕ → Place → TyExp → Option Exp → List Opening
register_openings setting r place typ None = []
register_openings setting r place typ (Some value) = register_opening setting r place typ value ∷ []

-- those of initial values, each of which sees all lets
abbrev pub initial_openings : Setting → ℕ → Def → List Opening
initial_openings setting r (D.Register place name typ initial) = register_openings setting r place typ initial
initial_openings setting r d = []

abbrev pub initials_openings : Setting → ℕ → List Def → List Opening
initials_openings setting r [] = []
initials_openings setting r (d ∷ more) = initial_openings setting r d ++ initials_openings setting (registers_with r d) more

-- both in text order: each definition that has one takes the first that is left of its kind
abbrev pub took : Def → List Opening → List Opening → List Opening
took (D.Let place p value) os ps = take 1 os
took (D.Register place name typ (Some value)) os ps = take 1 ps
took d os ps = []

abbrev pub lets_left : Def → List Opening → List Opening
lets_left (D.Let place p value) os = drop 1 os
lets_left d os = os

abbrev pub initials_left : Def → List Opening → List Opening
initials_left (D.Register place name typ (Some value)) ps = drop 1 ps
initials_left d ps = ps

abbrev pub in_text_order : List Def → List Opening → List Opening → List Opening
in_text_order [] os ps = []
in_text_order (d ∷ more) os ps = took d os ps ++ in_text_order more (lets_left d os) (initials_left d ps)

abbrev pub all_openings : Tabled → Own → List Def → List Local → List Opening
all_openings tabled own text lets =
    in_text_order text (lets_openings tabled own text [] text) (initials_openings (setting_of tabled own text lets []) 0 text)

-- ---- the model

-- the how-manieth function has this name
abbrev pub function_names : Def → Option (List ℕ)
function_names (D.Function place extent name clauses) = Some name.text
function_names d = None

abbrev pub place_among : List ℕ → List (List ℕ) → ℕ
place_among name [] = 0
place_among name (other ∷ names) = if bytes_eq other name then 0 else suc (place_among name names)

abbrev pub function_place : List Def → List ℕ → ℕ
function_place text name = place_among name (filter_map function_names text)

-- types, `exception`, `reset` and `step` are told by the tables; all else is found under the names that all lets bind
abbrev pub core_with : Tabled → (List ℕ → Option ℕ) → List Def → Own → List Local → CoreModel
core_with tabled cycle text own lets = record {
  types = tabled.types;
  exception = exception_in tabled;
  registers = joined (map (register_of (setting_of tabled own text lets [])) text);
  register_texts = joined (map (register_text_of (setting_of tabled own text lets [])) text);
  functions = joined (map (functions_of tabled text (setting_of tabled own text lets) cycle) text);
  directions = joined (map (directions_of tabled (setting_of tabled own text lets [])) text);
  openings = all_openings tabled own text lets;
  reset = function_place text (codes "reset");
  step = function_place text (codes "step");
}

-- the core of a text, by the cycle of calls that each function is in
abbrev pub resolved : Tabled → (List ℕ → Option ℕ) → List Def → CoreModel
resolved tabled cycle text = core_with tabled cycle text (own_in tabled text) (all_lets tabled text)
