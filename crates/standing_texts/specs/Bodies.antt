-- Bodies and measures of the functions of an accepted text: each node passes the tests of its kind, where patterns pass theirs.
use Rattle.std.specs.Prelude.{◌≡◌, ℕ, Bool, true, List, [], map, Option, Some, None, slice_get}
use Rattle.std.specs.List.{list_all}
use Rattle.sail_base.specs.declared.place.Place.{Place}
use Rattle.sail_types.specs.Shapes.{shape}
use Rattle.sail_types.specs.declared.numbers.Index.{Index}
use Rattle.sail_types.specs.declared.types.Typ.{Typ}
use Rattle.sail_syntax.specs.declared.definitions.Def.{Def}
use Rattle.sail_syntax.specs.declared.patterns.Pat.{Pat}
use Rattle.sail_core.specs.declared.model.Direction.{Direction}
use Rattle.sail_core.specs.declared.model.Function.{Function}
use Rattle.sail_core.specs.declared.patterns.Arm.{Arm}
use Rattle.sail_core.specs.declared.patterns.Pattern.{Pattern}
use Rattle.sail_core.specs.declared.tree.Core.{Core, out-Core}
use Rattle.sail_core.specs.declared.tree.Kind.TheVariants as K
use Rattle.sail_names.specs.Known as Tables
use Rattle.sail_names.specs.Known.{in_measure}
use Rattle.sail_names.specs.Patterns.{uses_failures}
use Rattle.sail_names.specs.declared.around.Allowed.TheVariants.{Any, Plain}
use Rattle.sail_signatures.specs.Signatures.{variables_in}
use Rattle.sail_signatures.specs.declared.signature.Signature.{Signature}
use Rattle.sail_bodies.specs.Bodies.{setting as names_setting}
use Rattle.sail_tables.specs.Refused.{IsAccepted, signature_in}
use Rattle.type_definitions.specs.Defined.{types_of}
use Rattle.known_names.specs.Meanings.{known_in}
use Rattle.pattern_leaves.specs.Settings.{Around}
use Rattle.call_fits.specs.Calls.{own_variables}
use Rattle.shape_declarations.specs.Signatures.{number_parameters}
use Rattle.shape_rules.specs.Patterns.{look}
use Rattle.shape_rules.specs.Scopes.{Setting, answering, plainly}
use Rattle.shape_rules.specs.Sides.{gives, width_given}
use Rattle.shape_meanings.specs.Naming.{AreKnown}
use Rattle.shape_meanings.specs.Trees.{pattern_written}
use Rattle.shapes.specs.Failures.{refusal}
use Rattle.shapes.specs.Tabled.{tabled_of}
use Rattle.known_texts.specs.Whole.{setting_in}
use Rattle.known_texts.specs.Written.{IsWritten}
use Rattle.standing_models.specs.Reads.{text_reads}
use Rattle.standing_models.specs.Tests.{PatternsFit, arms_tested, passes, unit_pattern}
use Rattle.text_progress.specs.GivenTypes.{typ_given}
use Rattle.text_progress.specs.Laws.{core_of}

-- clauses whose patterns pass the test of patterns, and whose bodies pass
pub record BodyPasses (around : Around) (numbers : List Index) (fits : Pattern → Bool) (core : Core) : Type 0 where
  pub arms : List Arm
  pub kind : (out-Core core).kind ≡ K.Clauses arms
  pub stand : arms_tested fits arms ≡ true
  pub bodies : list_all (λ b. b) (map (passes around numbers fits) (out-Core core).parts) ≡ true

-- a direction of a mapping, which has no variables
abbrev pub DirectionPasses : Around → (List Index → Pattern → Bool) → Direction → Type 0
DirectionPasses around fits d = BodyPasses around [] (fits []) d.body

-- over the function's own variables
abbrev pub FunctionPasses : Around → (List Index → Pattern → Bool) → Function → Type 0
FunctionPasses around fits f =
    BodyPasses around (own_variables 0 f.variables) (fits (own_variables 0 f.variables)) f.body
    × ((core : Core) → f.measure ≡ Some core → BodyPasses around (own_variables 0 f.variables) (fits (own_variables 0 f.variables)) core)

-- patterns in which no failure is found pass their test, in a loop's measure too
abbrev pub PatternsPass : (Pattern → Bool) → Setting → Tables.Setting → Type 0
PatternsPass fits setting names = PatternsFit fits setting names × PatternsFit fits (plainly setting) (in_measure names)

-- a side of a mapping passes whatever widths the other side gives, whose type has no variables
abbrev pub SidesPass : (Pattern → Bool) → Setting → Tables.Setting → Type 0
SidesPass fits setting names =
    (from to : Pat) (from_typ to_typ : Typ) → typ_given [] to_typ ≡ true → uses_failures names from ≡ [] → uses_failures names to ≡ []
    → pattern_written from ≡ true → pattern_written to ≡ true → (look from setting (width_given (gives to setting (Some to_typ))) (shape from_typ)).faults ≡ []
    → fits (look from setting (width_given (gives to setting (Some to_typ))) (shape from_typ)).pattern ≡ true

-- those in each body, in each measure and in mappings
pub record TextPatterns (text : List Def) (fits : List Index → Pattern → Bool) : Type 0 where
  pub unit : (numbers : List Index) (place : Place) → fits numbers (unit_pattern place) ≡ true
  pub bodies : (name : List ℕ) (s : Signature) → signature_in text name ≡ Some s → (at : ℕ)
      → PatternsPass (fits (own_variables 0 (number_parameters s.variables))) (answering (Some (shape s.to)) (setting_in (tabled_of text) text s.variables))
      (names_setting (known_in text) (types_of text) Any (variables_in text name) at)
  pub measures : (name : List ℕ) (s : Signature) → signature_in text name ≡ Some s → (at : ℕ)
      → PatternsPass (fits (own_variables 0 (number_parameters s.variables))) (plainly (setting_in (tabled_of text) text s.variables))
      (names_setting (known_in text) (types_of text) Plain (variables_in text name) at)
  pub mappings : (names : Tables.Setting) → AreKnown (setting_in (tabled_of text) text []) names
      → PatternsPass (fits []) (answering None (setting_in (tabled_of text) text [])) names
  pub sides : (names : Tables.Setting) → AreKnown (setting_in (tabled_of text) text []) names → SidesPass (fits []) (setting_in (tabled_of text) text []) names

abbrev pub FunctionsPass : Type 0
FunctionsPass =
    (text : List Def) (end : Place) (cycle : List ℕ → Option ℕ) → IsAccepted text end → refusal (tabled_of text) text ≡ None → IsWritten text
    → (fits : List Index → Pattern → Bool) → TextPatterns text fits
    → (around : Around) → around.types ≡ (core_of text cycle).types → around.functions ≡ (core_of text cycle).functions
    → (i : ℕ) (f : Function) → slice_get (core_of text cycle).functions i ≡ Some f → FunctionPasses around fits f

abbrev pub DirectionsPass : Type 0
DirectionsPass =
    (text : List Def) (end : Place) (cycle : List ℕ → Option ℕ) → IsAccepted text end → refusal (tabled_of text) text ≡ None → IsWritten text
    → (fits : List Index → Pattern → Bool) → TextPatterns text fits
    → (around : Around) → around.types ≡ (core_of text cycle).types → around.functions ≡ (core_of text cycle).functions
    → (i : ℕ) (d : Direction) → slice_get (core_of text cycle).directions i ≡ Some d → DirectionPasses around fits d

-- the types that are written in it read
abbrev pub TextsRead : Type 0
TextsRead =
    (text : List Def) (end : Place) → IsAccepted text end → refusal (tabled_of text) text ≡ None → IsWritten text → text_reads (tabled_of text) text ≡ true
