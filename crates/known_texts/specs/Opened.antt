-- Texts with openings: the core's top-level lets and initial values do, in text order, what those of the text do.
use Rattle.std.specs.Prelude.{◌≡◌, ℕ, true, false, List, [], ◌∷◌, codes, Option, Some, None}
use Rattle.sail_syntax.specs.declared.definitions.Def.{Def}
use Rattle.sail_syntax.specs.declared.definitions.Def.TheVariants as D
use Rattle.sail_syntax.specs.declared.expressions.Exp.{Exp}
use Rattle.sail_syntax.specs.declared.patterns.Pat.{Pat}
use Rattle.sail_types.specs.declared.shapes.Shape.TheVariants as V
use Rattle.sail_names.specs.Known as Tables
use Rattle.sail_names.specs.Known.{is_any}
use Rattle.sail_names.specs.Patterns.{pattern_failures}
use Rattle.sail_names.specs.Uses.{expression_failures}
use Rattle.shape_rules.specs.declared.locals.Local.{Local}
use Rattle.shape_rules.specs.Scopes.{Setting, plainly}
use Rattle.shape_models.specs.Models.{Tabled, setting_of}
use Rattle.shape_meanings.specs.Models.{CoreMeansText, register_shapes}
use Rattle.shape_meanings.specs.Naming.{AreKnown}
use Rattle.shape_meanings.specs.Trees.{pattern_written, written}
use Rattle.shapes.specs.Failures.{all_lets, lets_with, own_in, refusal}
use Rattle.shapes.specs.Resolved.{resolved}
use Rattle.model_meanings.specs.Events.{OpeningsAreAlike}
use Rattle.known_texts.specs.Functions.{IsFunctionNamed}
use Rattle.known_texts.specs.Known.{DefinitionsKnown}
use Rattle.known_texts.specs.Texts.{text_of}
use Rattle.known_texts.specs.Values.{NamesAreOnce, RegistersTyped}
use Rattle.known_texts.specs.Whole.{LetsAreAlike, TypesKnown, setting_in}

-- ---- what the tables know of openings, which are plain expressions

-- an expression is as the grammar has it, names in it mean to shapes what they mean to the tables, and the tables find no failure of them
pub record PlainKnown (setting : Setting) (e : Exp) : Type 0 where
  pub names : Tables.Setting
  pub plain : is_any names.allowed ≡ false
  pub known : AreKnown (plainly setting) names
  pub as_written : written e ≡ true
  pub named : expression_failures e names [] ≡ []

-- a let under the names that lets before it bind: its pattern likewise
pub record LetKnown (setting : Setting) (p : Pat) (e : Exp) : Type 0 where
  pub value : PlainKnown setting e
  pub as_written : pattern_written p ≡ true
  pub named : pattern_failures value.names p ≡ []

-- an initial value sees the names of all lets
abbrev pub OpeningKnown : Tabled → List Def → List Local → Def → Type 0
OpeningKnown tabled text lets (D.Let place p value) = LetKnown (setting_of tabled (own_in tabled text) text lets []) p value
OpeningKnown tabled text lets (D.Register place name typ (Some value)) = PlainKnown (setting_in tabled text []) value
OpeningKnown tabled text lets d = Unit {0}

-- behind lets that bind these names
abbrev pub OpeningsKnownFrom : Tabled → List Def → List Local → List Def → Type 0
OpeningsKnownFrom tabled text lets [] = Unit {0}
OpeningsKnownFrom tabled text lets (d ∷ more) =
    OpeningKnown tabled text lets d × OpeningsKnownFrom tabled text (lets_with tabled (own_in tabled text) text lets d) more

abbrev pub OpeningsKnown : Tabled → List Def → Type 0
OpeningsKnown tabled text = OpeningsKnownFrom tabled text [] text

-- ---- what follows

-- openings are alike and leave values of the registers' shapes; and lets have the same values on both sides, or none where openings don't come to them
abbrev pub TextsOpenAlike : Type 0
TextsOpenAlike =
    (tabled : Tabled) (cycle : List ℕ → Option ℕ) (text : List Def)
    → refusal tabled text ≡ None → DefinitionsKnown tabled text (setting_in tabled text)
    → TypesKnown (setting_in tabled text []) (register_shapes (text_of tabled cycle text).registers)
    → RegistersTyped tabled text → NamesAreOnce tabled text (all_lets tabled text) → OpeningsKnown tabled text
    → OpeningsAreAlike (text_of tabled cycle text) (resolved tabled cycle text) × LetsAreAlike tabled cycle text

-- the core of a text does what the text does, from the start through every event, where the tables know its definitions and its openings, and no shape
-- of it fails
abbrev pub WholeTextsMeanText : Type 0
WholeTextsMeanText =
    (tabled : Tabled) (cycle : List ℕ → Option ℕ) (text : List Def)
    → refusal tabled text ≡ None → DefinitionsKnown tabled text (setting_in tabled text)
    → TypesKnown (setting_in tabled text []) (register_shapes (text_of tabled cycle text).registers)
    → RegistersTyped tabled text → NamesAreOnce tabled text (all_lets tabled text) → OpeningsKnown tabled text
    → IsFunctionNamed tabled text (codes "step") (V.Unit ∷ []) → IsFunctionNamed tabled text (codes "reset") (V.Int ∷ V.Bits ∷ [])
    → CoreMeansText (text_of tabled cycle text) (resolved tabled cycle text)
