-- What follows of a text in which the tables find no failure: names mean to shapes what the tables know of them, and each definition is known.
use Rattle.std.specs.Prelude.{◌≡◌, ℕ, true, List, [], ◌∷◌, Option, Some, None}
use Rattle.sail_base.specs.declared.place.Place.{Place}
use Rattle.sail_syntax.specs.declared.definitions.Def.{Def}
use Rattle.sail_syntax.specs.declared.definitions.Def.TheVariants as D
use Rattle.sail_types.specs.Shapes.{shape}
use Rattle.sail_types.specs.declared.shapes.Shape.{Shape}
use Rattle.sail_types.specs.declared.table.Types.{Types}
use Rattle.sail_kinds.specs.declared.scope.Variable.{Variable}
use Rattle.sail_signatures.specs.declared.signature.Signature.{Signature}
use Rattle.sail_names.specs.Known as Tables
use Rattle.known_names.specs.Meanings.{known_in}
use Rattle.sail_tables.specs.Refused.{IsAccepted, signature_in}
use Rattle.shape_models.specs.Models.{Tabled, params_variables, place_in_table, type_variables, within_variables}
use Rattle.shape_rules.specs.Calls.{param_shapes}
use Rattle.shape_rules.specs.Scopes.{answering, plainly}
use Rattle.shape_meanings.specs.Counted.{all_counted, counted}
use Rattle.shape_meanings.specs.Naming.{AreKnown}
use Rattle.shape_meanings.specs.Whole.{all_below, below}
use Rattle.shape_meanings.specs.Models.{CoreMeansText}
use Rattle.shapes.specs.Failures.{refusal}
use Rattle.shapes.specs.Resolved.{resolved}
use Rattle.shapes.specs.Tabled.{tabled_of}
use Rattle.known_texts.specs.Definitions.{UnionIs}
use Rattle.known_texts.specs.Known.{DefinitionsKnown}
use Rattle.known_texts.specs.Opened.{OpeningsKnown}
use Rattle.known_texts.specs.Texts.{text_of}
use Rattle.known_texts.specs.Whole.{setting_in}
use Rattle.known_texts.specs.Signed.{EachSigned}
use Rattle.known_texts.specs.Written.{IsWritten}

-- each function and mapping has a signature
abbrev pub DefinitionsAreSigned : Type 0
DefinitionsAreSigned = (text : List Def) (end : Place) → IsAccepted text end → IsWritten text → EachSigned text text

-- a signature, in any text, leaves nothing open, and each named type in it has its arguments
pub record IsWhole (types : Types) (s : Signature) : Type 0 where
  pub takes : all_below (type_variables s.variables) (param_shapes s.from) ≡ true
  pub gives : below (type_variables s.variables) (shape s.to) ≡ true
  pub counts : all_counted types (param_shapes s.from) ≡ true
  pub from_counts : counted types (shape s.from) ≡ true
  pub to_counts : counted types (shape s.to) ≡ true

abbrev pub SignaturesAreWhole : Type 0
SignaturesAreWhole = (text : List Def) (name : List ℕ) (s : Signature) → signature_in text name ≡ Some s → IsWhole (tabled_of text).types s

-- each constructor is found by its name at its place in the table, and its payload leaves nothing open
abbrev pub UnionKnown : Tabled → Def → Type 0
UnionKnown tabled (D.Union place name variables cs) =
    UnionIs tabled.types (type_variables (params_variables variables)) (place_in_table tabled name.text)
UnionKnown tabled d = Unit {0}

abbrev pub EachUnionKnown : Tabled → List Def → Type 0
EachUnionKnown tabled [] = Unit {0}
EachUnionKnown tabled (d ∷ more) = UnionKnown tabled d × EachUnionKnown tabled more

abbrev pub UnionsAreKnown : Type 0
UnionsAreKnown =
    (text : List Def) (end : Place) → IsAccepted text end → IsWritten text
    → UnionIs (tabled_of text).types 1 (Some 0) × EachUnionKnown (tabled_of text) text

-- names mean to the shapes of an expression what the tables know of them, wherever it stands, in a plain expression too
abbrev pub NamesAreKnown : Type 0
NamesAreKnown =
    (text : List Def) (end : Place) → IsAccepted text end → IsWritten text
    → (variables : List Variable) (names : Tables.Setting) → names.known ≡ known_in text → names.types ≡ within_variables (tabled_of text) variables
    → ((answer : Option Shape) → ((s : Shape) → answer ≡ Some s → (n : ℕ) × (below n s ≡ true))
    → AreKnown (answering answer (setting_in (tabled_of text) text variables)) names)
    × AreKnown (plainly (setting_in (tabled_of text) text variables)) names

-- so each definition is known as the meaning of texts asks
abbrev pub DefinitionsAreKnown : Type 0
DefinitionsAreKnown =
    (text : List Def) (end : Place) → IsAccepted text end → refusal (tabled_of text) text ≡ None → IsWritten text
    → DefinitionsKnown (tabled_of text) text (setting_in (tabled_of text) text)

-- each top-level let and each initial value is a plain expression whose names have no failure, over the lets before it
abbrev pub OpeningsAreKnown : Type 0
OpeningsAreKnown = (text : List Def) (end : Place) → IsAccepted text end → IsWritten text → OpeningsKnown (tabled_of text) text

-- so the core of a text that the tables accept, and that nothing is refused for in shapes, does what the text does
abbrev pub AcceptedTextsMeanText : Type 0
AcceptedTextsMeanText =
    (text : List Def) (end : Place) (cycle : List ℕ → Option ℕ) → IsAccepted text end → refusal (tabled_of text) text ≡ None → IsWritten text
    → CoreMeansText (text_of (tabled_of text) cycle text) (resolved (tabled_of text) cycle text)
