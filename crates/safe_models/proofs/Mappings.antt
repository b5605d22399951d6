-- Types of mappings: no variable is around them.
use Rattle.std.proofs.Common.{◌≡◌, ℕ, zero, suc, ◌+◌, List, [], ◌∷◌, ◌++◌, map, ap, ◌∙◌, refl, subst, Bool, true, false}
use Rattle.std.specs.Prelude.{is_some, slice_get, Option, Some, None}
use Rattle.sail_base.specs.declared.place.Place.{Place}
use Rattle.sail_syntax.specs.declared.definitions.Def.{Def}
use Rattle.sail_syntax.specs.declared.definitions.Def.TheVariants as D
use Rattle.sail_syntax.specs.declared.definitions.MappingClause.{MappingClause}
use Rattle.sail_types.specs.declared.table.Types.{Types}
use Rattle.sail_kinds.specs.declared.scope.Variable.{Variable}
use Rattle.sail_globals.specs.declared.naming.Alone.TheVariants as One
use Rattle.sail_globals.specs.declared.naming.Called.TheVariants.{Direction, Mapping}
use Rattle.sail_globals.specs.declared.naming.Naming.{Naming}
use Rattle.sail_globals.specs.declared.naming.Role.TheVariants.{Defined, Whole}
use Rattle.sail_globals.specs.Bound.{is_among, members}
use Rattle.sail_globals.specs.Globals.{is_body}
use Rattle.sail_globals.specs.Namings.{all_namings, backwards_of, body_namings, forwards_of, namings, namings_from, value_naming}
use Rattle.normal_forms.specs.Refusals as Refusals
use Rattle.type_definitions.specs.Defined.{types_of, variables_of}
use Rattle.sail_signatures.specs.declared.signature.Signature.{Signature}
use Rattle.sail_tables.specs.Refused.{signature_in}
use Rattle.sail_core.specs.declared.model.Direction.{Direction as CoreDirection}
use Rattle.call_arguments.specs.Callees.{is_closed}
use Rattle.shape_joins.proofs.JoinsLeast.{none, some_same}
use Rattle.shape_rules.specs.Scopes.{Setting}
use Rattle.shape_rules.specs.Written.{joined}
use Rattle.shape_models.specs.Models.{type_variables}
use Rattle.shape_clauses.specs.Mappings.{directions_if, directions_of}
use Rattle.shape_meanings.proofs.StructNames.{bytes_same}
use Rattle.shapes.specs.Failures.{refusal}
use Rattle.shapes.specs.Tabled.{tabled_of}
use Rattle.known_texts.specs.Whole.{setting_in}
use Rattle.known_texts.specs.Accepted.{NothingFails}
use Rattle.known_texts.proofs.Failures.{nothing_fails}
use Rattle.known_texts.proofs.Roles.{Covers, IsTaken, covers_left, covers_right, taken_first}
use Rattle.known_texts.proofs.Types.{types_known}
use Rattle.known_texts.proofs.Vals.{vals_signed}
use Rattle.known_texts.proofs.WellFormed.{formed}
use Rattle.known_texts.specs.Written.{IsWritten}
use Rattle.known_texts.proofs.Facts.{each_has}
use Rattle.known_texts.proofs.Formed.{signature_formed}
use Rattle.known_texts.proofs.Quantified.{mapping_plain}
use Rattle.known_texts.proofs.Signed.{each_signed, variables_are}
use Rattle.known_texts.proofs.Tables.{rows_are}
use Rattle.known_texts.proofs.There.{EachHas}
use Rattle.text_progress.proofs.Given.{stand_ins}
use Rattle.text_progress.proofs.KindedTypes.{typ_kinded}
use Rattle.text_progress.proofs.Told.{signed_kinded}
use Rattle.safe_models.specs.Types.{MappingsAreClosed}
use Rattle.safe_models.proofs.Closed.{closed_so}

abbrev IsClosed : CoreDirection → Type 0
IsClosed d = (is_closed d.parameter ≡ true) × (is_closed d.result ≡ true)

abbrev AllClosed : List CoreDirection → Type 0
AllClosed [] = Unit {0}
AllClosed (d ∷ ds) = IsClosed d × AllClosed ds

closed_at : (ds : List CoreDirection) → AllClosed ds → (i : ℕ) (d : CoreDirection) → slice_get ds i ≡ Some d → IsClosed d
closed_at [] h i d e = none e
closed_at (x ∷ ds) h zero d e = subst IsClosed (some_same x d e) h.0
closed_at (x ∷ ds) h (suc i) d e = closed_at ds h.1 i d e

abbrev SignedClosed : Signature → Type 0
SignedClosed s = (is_closed s.from ≡ true) × (is_closed s.to ≡ true)

both_more : (setting : Setting) (place : Place) (name : List ℕ) (cs : List MappingClause) (o : Option Signature) (ds : List CoreDirection)
    → ((s : Signature) → o ≡ Some s → SignedClosed s) → AllClosed ds → AllClosed (directions_if setting place name cs o ++ ds)
both_more setting place name cs None ds own h = h
both_more setting place name cs (Some s) ds own h = let it = own s refl in ((it.0, it.1), ((it.1, it.0), h))

-- a signature under no variables
signed_closed : (text : List Def) (name : List ℕ) (s : Signature) → signature_in text name ≡ Some s → s.variables ≡ [] → SignedClosed s
signed_closed text name s e plain =
    let types : Types = (tabled_of text).types in
    let f = signature_formed text name s e in
    let k = signed_kinded (types_of text).named text name s e in (
      closed_so types s.from (subst (λ (vs : List Variable). formed types (type_variables vs) s.from ≡ true) plain f.0)
          (subst (λ (vs : List Variable). typ_kinded (stand_ins vs) s.from ≡ true) plain k.0),
      closed_so types s.to (subst (λ (vs : List Variable). formed types (type_variables vs) s.to ≡ true) plain f.1)
          (subst (λ (vs : List Variable). typ_kinded (stand_ins vs) s.to ≡ true) plain k.1),
    )

module _ (text : List Def) (clear : NothingFails text) (kept : refusal (tabled_of text) text ≡ None) (is_written : IsWritten text) where
  named : Refusals.AreKnown (types_of text).named
  named = types_known text clear.types

  has_all : EachHas (tabled_of text) text
  has_all = each_has text text (rows_are text clear named) (each_signed text clear named (vals_signed text named 0 text clear.bodies) is_written)

  abbrev all : List Naming
  all = all_namings text

  abbrev is_enum : List ℕ → Bool
  is_enum = is_among (members text)

  abbrev setting : Setting
  setting = setting_in (tabled_of text) text []

  body_taken : (at : ℕ) (place : Place) (name : List ℕ) (b : Bool) → Covers all (body_namings at place name b) → IsTaken all name (is_body Mapping)
  body_taken at place name true c =
      c name (is_body Mapping) (taken_first (is_body Mapping) name (value_naming at (Whole One.Mapping) place name)
      (value_naming at (Whole One.Direction) place (forwards_of name) ∷ value_naming at (Whole One.Direction) place (backwards_of name) ∷ [])
      (bytes_same name) refl)
  body_taken at place name false c =
      c name (is_body Mapping) (taken_first (is_body Mapping) name (value_naming at (Defined Mapping) place name)
      (value_naming at (Defined Direction) place (forwards_of name) ∷ value_naming at (Defined Direction) place (backwards_of name) ∷ [])
      (bytes_same name) refl)

  all_closed : (at : ℕ) (rest : List Def) → Covers all (namings_from is_enum at rest)
      → AllClosed (joined (map (directions_of (tabled_of text) setting) rest))
  all_closed at [] c = tt
  all_closed at ((D.Mapping place name sides cs) ∷ rest) c =
      let own : List Naming = namings is_enum at (D.Mapping place name sides cs) in
      let more : List Naming = namings_from is_enum (at + 1) rest in
      let taken : IsTaken all name.text (is_body Mapping) = body_taken at place name.text (is_some sides) (covers_left all own more c) in
      let nothing = mapping_plain text kept clear has_all name.text taken in
      both_more setting place name.text cs (signature_in text name.text) (joined (map (directions_of (tabled_of text) setting) rest))
      (λ s e. signed_closed text name.text s e (variables_are (types_of text).named text name.text s e ∙ ap variables_of nothing))
      (all_closed (at + 1) rest (covers_right all own more c))
  all_closed at (d ∷ rest) c = all_closed (at + 1) rest (covers_right all (namings is_enum at d) (namings_from is_enum (at + 1) rest) c)

pub mappings_closed : MappingsAreClosed
mappings_closed text end cycle accepted kept is_written d m e =
    closed_at (joined (map (directions_of (tabled_of text) (setting_in (tabled_of text) text [])) text))
    (all_closed text (nothing_fails text end accepted) kept is_written 0 text (λ n test h. h)) d m e
