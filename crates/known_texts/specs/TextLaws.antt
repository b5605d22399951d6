-- Where each definition is known, names mean the same on both sides in calls, and overloads have the same members.
use Rattle.std.specs.Prelude.{◌≡◌, ℕ, List, [], length, map, Option}
use Rattle.sail_base.specs.declared.operators.Operator.{Operator}
use Rattle.sail_types.specs.declared.values.Value.{Value}
use Rattle.sail_syntax.specs.declared.definitions.Def.{Def}
use Rattle.sail_meaning.specs.World.{Bindings}
use Rattle.shape_rules.specs.declared.locals.Local.{Local}
use Rattle.shape_rules.specs.Written.{joined}
use Rattle.shape_models.specs.Models.{Tabled, added_to_name, candidates, setting_of}
use Rattle.shape_clauses.specs.Functions.{functions_of}
use Rattle.shape_clauses.specs.Mappings.{directions_of}
use Rattle.shape_meanings.specs.Worlds.{Distinct}
use Rattle.shapes.specs.Failures.{own_in}
use Rattle.model_meanings.specs.Callees.{CandidatesStand, Model}
use Rattle.model_meanings.specs.Models.{NameStands}
use Rattle.known_texts.specs.Definitions.{DefinitionsAre}
use Rattle.known_texts.specs.Texts.{directions_count, text_of}

-- the model of a text on one hart, under these lets
abbrev pub model_in : Tabled → (List ℕ → Option ℕ) → List Def → List Local → ℕ → List Value → Bindings → Model
model_in tabled cycle text lets hart values names = record {
  functions = joined (map (functions_of tabled text (setting_of tabled (own_in tabled text) text lets) cycle) text);
  directions = joined (map (directions_of tabled (setting_of tabled (own_in tabled text) text lets [])) text);
  lets = values;
  source = record { text = text_of tabled cycle text; hart = hart; lets = names };
}

-- overloads of names have no two members that clash
abbrev pub NamesAreApart : Tabled → List Def → Type 0
NamesAreApart tabled text = (name : List ℕ) → Distinct (candidates (added_to_name tabled.types (own_in tabled text) text name))

abbrev pub NamesStand : Type 0
NamesStand =
    (tabled : Tabled) (cycle : List ℕ → Option ℕ) (text : List Def) (lets : List Local) (hart : ℕ) (values : List Value) (bindings : Bindings)
    → DefinitionsAre tabled text (setting_of tabled (own_in tabled text) text lets) cycle → NamesAreApart tabled text
    → (name : List ℕ)
    → NameStands (setting_of tabled (own_in tabled text) text lets []) (model_in tabled cycle text lets hart values bindings) name
    ((setting_of tabled (own_in tabled text) text lets []).value name)

abbrev pub AddedStand : Type 0
AddedStand =
    (tabled : Tabled) (cycle : List ℕ → Option ℕ) (text : List Def) (lets : List Local) (hart : ℕ) (values : List Value) (bindings : Bindings)
    → DefinitionsAre tabled text (setting_of tabled (own_in tabled text) text lets) cycle
    → (operator : Operator)
    → CandidatesStand (setting_of tabled (own_in tabled text) text lets []) (model_in tabled cycle text lets hart values bindings)
    ((setting_of tabled (own_in tabled text) text lets []).added operator) ((text_of tabled cycle text).added operator)

-- the text has as many directions as its core
abbrev pub DirectionsAreCounted : Type 0
DirectionsAreCounted =
    (tabled : Tabled) (cycle : List ℕ → Option ℕ) (text : List Def) (lets : List Local)
    → DefinitionsAre tabled text (setting_of tabled (own_in tabled text) text lets) cycle
    → directions_count text ≡ length (joined (map (directions_of tabled (setting_of tabled (own_in tabled text) text lets [])) text))
