-- Functions of a text by their names: the core has each at its place among the functions.
use Rattle.std.specs.Prelude.{◌≡◌, ℕ, true, List, [], Option, Some}
use Rattle.sail_types.specs.declared.shapes.Shape.{Shape}
use Rattle.sail_syntax.specs.declared.definitions.Def.{Def}
use Rattle.shape_rules.specs.declared.callees.Candidate.{Candidate}
use Rattle.shape_rules.specs.declared.callees.Meant.TheVariants as M
use Rattle.shape_rules.specs.declared.locals.Local.{Local}
use Rattle.shape_models.specs.Models.{Tabled, setting_of}
use Rattle.shape_meanings.specs.Naming.{is_function}
use Rattle.shapes.specs.Failures.{own_in}
use Rattle.shapes.specs.Resolved.{function_place}
use Rattle.model_meanings.specs.Events.{IsEntered}
use Rattle.known_texts.specs.Definitions.{DefinitionsAre}

-- a name is that of a function which takes parameters of these shapes
abbrev pub IsFunctionNamed : Tabled → List Def → List ℕ → List Shape → Type 0
IsFunctionNamed tabled text name params =
    (f : Candidate) × (own_in tabled text name ≡ Some (M.Callee f)) × (is_function f.doing ≡ true) × (f.params ≡ params)

abbrev pub FunctionsAreEntered : Type 0
FunctionsAreEntered =
    (tabled : Tabled) (cycle : List ℕ → Option ℕ) (text : List Def) (lets : List Local)
    → DefinitionsAre tabled text (setting_of tabled (own_in tabled text) text lets) cycle
    → (name : List ℕ) (params : List Shape) → IsFunctionNamed tabled text name params
    → IsEntered (setting_of tabled (own_in tabled text) text lets []) name (function_place text name) params
