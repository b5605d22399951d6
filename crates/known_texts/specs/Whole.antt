-- The core of a whole text does what the text does, from the start through every event, where the tables know its definitions, no shape of it fails,
-- and its openings do.
use Rattle.std.specs.Prelude.{◌≡◌, ℕ, true, codes, List, [], ◌∷◌, Option, Some, None}
use Rattle.sail_types.specs.Named.{fields}
use Rattle.sail_types.specs.declared.shapes.Shape.{Shape}
use Rattle.sail_types.specs.declared.shapes.Shape.TheVariants as V
use Rattle.sail_syntax.specs.declared.definitions.Def.{Def}
use Rattle.sail_kinds.specs.declared.scope.Variable.{Variable}
use Rattle.sail_core.specs.Program.{plain as plain_sizing}
use Rattle.sail_core.specs.Start as CoreStart
use Rattle.sail_meaning.specs.Start as SourceStart
use Rattle.shape_rules.specs.Scopes.{Setting}
use Rattle.shape_rules.specs.Values.{variables_of_type}
use Rattle.shape_models.specs.Models.{Tabled, setting_of}
use Rattle.shape_meanings.specs.Whole.{all_below}
use Rattle.shape_meanings.specs.Models.{CoreMeansText, register_shapes}
use Rattle.shape_meanings.specs.Worlds.{FieldsBelow, IsStruct}
use Rattle.shapes.specs.Failures.{all_lets, own_in, refusal}
use Rattle.shapes.specs.Resolved.{resolved}
use Rattle.model_meanings.specs.Events.{OpeningsAreAlike}
use Rattle.known_texts.specs.Functions.{IsFunctionNamed}
use Rattle.known_texts.specs.Known.{DefinitionsKnown}
use Rattle.known_texts.specs.Texts.{text_of}
use Rattle.known_texts.specs.Values.{LetsAre, NamesAreOnce, RegistersTyped}

-- types of registers, of `exception` and of fields leave nothing open, and no two definitions have one name
pub record TypesKnown (setting : Setting) (registers : List Shape) : Type 0 where
  pub closed_registers : all_below 0 registers ≡ true
  pub closed_thrown : (i : ℕ) → setting.exception ≡ Some i → variables_of_type setting i ≡ 0
  pub fields_below : (i : ℕ) → FieldsBelow setting i (fields setting.types i)
  pub structs : (name : List ℕ) → IsStruct setting.types name (setting.struct_named name)

-- behind the openings of both sides lets have the same values
abbrev pub LetsAreAlike : Tabled → (List ℕ → Option ℕ) → List Def → Type 0
LetsAreAlike tabled cycle text =
    LetsAre tabled.types (all_lets tabled text) (CoreStart.lets_of plain_sizing (resolved tabled cycle text)) (SourceStart.lets_of (text_of tabled cycle text))

-- shapes of a text stand under these type variables
abbrev pub setting_in : Tabled → List Def → List Variable → Setting
setting_in tabled text = setting_of tabled (own_in tabled text) text (all_lets tabled text)

abbrev pub TextsMeanText : Type 0
TextsMeanText =
    (tabled : Tabled) (cycle : List ℕ → Option ℕ) (text : List Def)
    → refusal tabled text ≡ None → DefinitionsKnown tabled text (setting_in tabled text)
    → TypesKnown (setting_in tabled text []) (register_shapes (text_of tabled cycle text).registers)
    → RegistersTyped tabled text → NamesAreOnce tabled text (all_lets tabled text) → LetsAreAlike tabled cycle text
    → IsFunctionNamed tabled text (codes "step") (V.Unit ∷ []) → IsFunctionNamed tabled text (codes "reset") (V.Int ∷ V.Bits ∷ [])
    → OpeningsAreAlike (text_of tabled cycle text) (resolved tabled cycle text)
    → CoreMeansText (text_of tabled cycle text) (resolved tabled cycle text)
