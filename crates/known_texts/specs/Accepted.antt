-- What the tables know of a text in which they find no failure.
use Rattle.std.specs.Prelude.{◌≡◌, ℕ, true, List, [], ◌∷◌, ◌++◌, codes, Option, Some, None}
use Rattle.sail_base.specs.declared.place.Place.{Place}
use Rattle.sail_types.specs.declared.shapes.Shape.{Shape}
use Rattle.sail_types.specs.declared.shapes.Shape.TheVariants as V
use Rattle.sail_types.specs.declared.table.Types.{Types}
use Rattle.sail_syntax.specs.declared.definitions.Def.{Def}
use Rattle.sail_syntax.specs.declared.definitions.Def.TheVariants as D
use Rattle.sail_globals.specs.declared.naming.Called.TheVariants.{Function}
use Rattle.sail_globals.specs.Clashes.{clashes}
use Rattle.sail_globals.specs.Globals.{has_body}
use Rattle.sail_globals.specs.Namings.{all_namings}
use Rattle.sail_declared.specs.Wanting.{all_wanting}
use Rattle.type_definitions.specs.Defined.{all_type_failures, types_of}
use Rattle.normal_forms.specs.Refusals.{AreKnown}
use Rattle.sail_signatures.specs.declared.signature.Signature.{Signature}
use Rattle.sail_signatures.specs.Signatures.{Named, val_signature}
use Rattle.known_names.specs.Meanings.{known_in}
use Rattle.sail_bodies.specs.Bodies.{all_body_failures}
use Rattle.sail_tables.specs.Refused.{IsAccepted, has_reset, has_step, signature_in}
use Rattle.sail_meaning.specs.Named.{constructor_named}
use Rattle.shape_rules.specs.Calls.{param_shapes}
use Rattle.shape_meanings.specs.Models.{register_shapes}
use Rattle.shapes.specs.Failures.{all_lets}
use Rattle.shapes.specs.Tabled.{tabled_of}
use Rattle.known_texts.specs.Functions.{IsFunctionNamed}
use Rattle.known_texts.specs.Texts.{text_of}
use Rattle.known_texts.specs.Values.{NamesAreOnce, RegistersTyped}
use Rattle.known_texts.specs.Whole.{TypesKnown, setting_in}

-- no name is taken twice, nothing is wanting, no type and no body fails, and the entry points are there with their signatures
pub record NothingFails (text : List Def) : Type 0 where
  pub names : clashes (all_namings text) ≡ []
  pub parts : all_wanting (all_namings text) text ≡ []
  pub types : all_type_failures text ≡ []
  pub bodies : all_body_failures text (known_in text) (types_of text) ≡ []
  pub reset : has_reset text ≡ true
  pub step : has_step text ≡ true

abbrev pub NothingOfItFails : Type 0
NothingOfItFails = (text : List Def) (end : Place) → IsAccepted text end → NothingFails text

-- no name is that of a type whose definition has failed
abbrev pub TypesAreKnown : Type 0
TypesAreKnown = (text : List Def) (end : Place) → IsAccepted text end → AreKnown (types_of text).named

abbrev pub RegistersAreTyped : Type 0
RegistersAreTyped = (text : List Def) (end : Place) → IsAccepted text end → RegistersTyped (tabled_of text) text

-- there is a body of a function of this name, and it has a signature, under no type variable, that takes these shapes
pub record IsTyped (text : List Def) (name : List ℕ) (params : List Shape) : Type 0 where
  pub body : has_body (all_namings text) Function name ≡ true
  pub signature : Signature
  pub found : signature_in text name ≡ Some signature
  pub plain : signature.variables ≡ []
  pub takes : param_shapes signature.from ≡ params

-- `unit` for `step`, a hart and an address for `reset`
abbrev pub EntryPointsAreTyped : Type 0
EntryPointsAreTyped =
    (text : List Def) (end : Place) → IsAccepted text end
    → IsTyped text (codes "step") (V.Unit ∷ []) × IsTyped text (codes "reset") (V.Int ∷ V.Bits ∷ [])

-- and they are what shapes find by these names
abbrev pub EntryPointsAreNamed : Type 0
EntryPointsAreNamed =
    (text : List Def) (end : Place) → IsAccepted text end
    → IsFunctionNamed (tabled_of text) text (codes "step") (V.Unit ∷ [])
    × IsFunctionNamed (tabled_of text) text (codes "reset") (V.Int ∷ V.Bits ∷ [])

-- the types and the constraint of each `val` stand for some
abbrev pub ValsAreSigned : Named → List Def → Type 0
ValsAreSigned named [] = Unit {0}
ValsAreSigned named ((D.Val place name quantifier from arrow to) ∷ text) =
    ((s : Signature) × (val_signature named quantifier from to ≡ Some s)) × ValsAreSigned named text
ValsAreSigned named (d ∷ text) = ValsAreSigned named text

abbrev pub ValsGiveSignatures : Type 0
ValsGiveSignatures = (text : List Def) (end : Place) → IsAccepted text end → ValsAreSigned (types_of text).named text

-- no function, no mapping and no direction of one has a constructor's name
abbrev pub IsApart : Types → Def → Type 0
IsApart types (D.Function place extent name clauses) = constructor_named types name.text ≡ None
IsApart types (D.Mapping place name sides clauses) =
    (constructor_named types name.text ≡ None) × (constructor_named types (name.text ++ codes "_forwards") ≡ None)
    × (constructor_named types (name.text ++ codes "_backwards") ≡ None)
IsApart types d = Unit {0}

abbrev pub EachApart : Types → List Def → Type 0
EachApart types [] = Unit {0}
EachApart types (d ∷ more) = IsApart types d × EachApart types more

abbrev pub CallablesAreApart : Type 0
CallablesAreApart = (text : List Def) (end : Place) → IsAccepted text end → EachApart (tabled_of text).types text

-- types of registers, of `exception` and of fields leave nothing open, and a struct's name is that of no other type
abbrev pub TypesAreClosed : Type 0
TypesAreClosed =
    (text : List Def) (end : Place) (cycle : List ℕ → Option ℕ) → IsAccepted text end
    → TypesKnown (setting_in (tabled_of text) text []) (register_shapes (text_of (tabled_of text) cycle text).registers)

-- a name of a value that means a member of an enum means the one that the table has, and no top-level let hides a register
abbrev pub NamesStandOnce : Type 0
NamesStandOnce = (text : List Def) (end : Place) → IsAccepted text end → NamesAreOnce (tabled_of text) text (all_lets (tabled_of text) text)
