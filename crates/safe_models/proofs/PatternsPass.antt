-- Patterns of an accepted text stand.
use Rattle.std.proofs.Common.{◌≡◌, ℕ, List, [], ◌∷◌, ap, sym, refl, subst, Bool, true, Some, None}
use Rattle.sail_base.specs.declared.place.Place.{Place}
use Rattle.sail_types.specs.Shapes.{shape}
use Rattle.sail_types.specs.declared.numbers.Index.{Index}
use Rattle.sail_types.specs.declared.shapes.Shape.{Shape}
use Rattle.sail_types.specs.declared.table.Types.{Types}
use Rattle.sail_syntax.specs.declared.patterns.Pat.{Pat}
use Rattle.sail_kinds.specs.declared.scope.Variable.{Variable}
use Rattle.sail_core.specs.declared.patterns.Form.TheVariants as F
use Rattle.sail_core.specs.declared.patterns.Head.TheVariants as H
use Rattle.sail_core.specs.declared.patterns.Literal.TheVariants as L
use Rattle.sail_core.specs.declared.patterns.Pattern.{fold-roll-Pattern}
use Rattle.sail_names.specs.Known as Tables
use Rattle.sail_names.specs.Known.{in_measure}
use Rattle.sail_names.specs.Patterns.{uses_failures}
use Rattle.sail_names.specs.declared.around.Allowed.TheVariants.{Any}
use Rattle.sail_signatures.specs.Signatures.{variables_in}
use Rattle.sail_signatures.specs.declared.signature.Signature.{Signature}
use Rattle.sail_bodies.specs.Bodies.{setting as names_setting}
use Rattle.sail_tables.specs.Refused.{signature_in}
use Rattle.type_definitions.specs.Defined.{types_of}
use Rattle.known_names.specs.Meanings.{known_in}
use Rattle.call_fits.specs.Calls as Fits
use Rattle.shape_joins.proofs.JoinsLeast.{none, some_same}
use Rattle.shape_rules.specs.Patterns.{Widths, look, no_widths}
use Rattle.shape_rules.specs.Scopes.{Setting, answering, plainly}
use Rattle.shape_models.specs.Models.{type_variables, within_variables}
use Rattle.shape_declarations.specs.Signatures.{number_parameters}
use Rattle.shape_meanings.proofs.Ready.{plain_ready}
use Rattle.shape_meanings.specs.Naming.{AreKnown}
use Rattle.shape_meanings.specs.Whole.{below}
use Rattle.shapes.specs.Tabled.{tabled_of}
use Rattle.known_texts.specs.Accepted.{NothingFails}
use Rattle.known_texts.specs.Whole.{setting_in}
use Rattle.known_texts.proofs.Assembled.{known_here, known_plainly}
use Rattle.known_texts.proofs.Failures.{nothing_fails}
use Rattle.known_texts.proofs.Formed.{signature_whole}
use Rattle.known_texts.proofs.Named.{plain_at}
use Rattle.known_texts.proofs.Parts.{tuples_have_parts}
use Rattle.known_texts.proofs.Signed.{variables_are}
use Rattle.known_texts.proofs.Tuples.{TuplesHaveParts}
use Rattle.pattern_laws.specs.Standing.{form_stands, stands}
use Rattle.found_patterns.specs.Meant.{WidthsStand}
use Rattle.found_patterns.proofs.Patterns.{found_patterns_stand}
use Rattle.safe_models.specs.Patterns.{PatternNames, PatternsMeant}
use Rattle.safe_models.proofs.PatternNames.{patterns_meant}
use Rattle.standing_texts.specs.Bodies.{PatternsPass}
use Rattle.standing_models.specs.Tests.{unit_pattern}
use Rattle.safe_models.specs.Accepted.{PatternsOfTextsPass}

-- ---- one pattern

pattern_passes : (numbers : List Index) (setting : Setting) (names : Tables.Setting) → AreKnown setting names → PatternsMeant numbers setting names
    → (widths : Widths) → WidthsStand numbers widths → (p : Pat) (subject : Shape) → uses_failures names p ≡ []
    → (look p setting widths subject).faults ≡ [] → stands setting.types numbers (look p setting widths subject).pattern ≡ true
pattern_passes numbers setting names are meant widths own p subject u f =
    found_patterns_stand setting.types numbers p setting names are u meant.0 meant.1 widths own subject f

-- in loops' measures too, which are plain
pub plain_known : (setting : Setting) (names : Tables.Setting) → AreKnown setting names → AreKnown (plainly setting) (in_measure names)
plain_known setting names known =
    (plain_ready setting names [] [] (record { known = known; are = λ name. tt; settled = λ name l is var. none is; counted = tt })).known

plain_meant : (numbers : List Index) (setting : Setting) (names : Tables.Setting) → PatternsMeant numbers setting names
    → PatternsMeant numbers (plainly setting) names
plain_meant numbers setting names h = (
  record { members = h.0.members; constructors = h.0.constructors },
  record { heads = λ name n is e. h.1.heads name n is e; typs = h.1.typs },
)

pub all_pass : (numbers : List Index) (setting : Setting) (names : Tables.Setting) → AreKnown setting names → PatternsMeant numbers setting names
    → PatternsMeant numbers setting (in_measure names) → PatternsPass (stands setting.types numbers) setting names
all_pass numbers setting names are meant measured = (
  λ p subject u q f. pattern_passes numbers setting names are meant no_widths (λ name n e. none e) p subject u f,
  λ p subject u q f.
      pattern_passes numbers (plainly setting) (in_measure names) (plain_known setting names are) (plain_meant numbers setting (in_measure names) measured)
      no_widths (λ name n e. none e) p subject u f,
)

-- what is matched where a function has no parameter
pub unit_passes : (types : Types) (numbers : List Index) (place : Place) → stands types numbers (unit_pattern place) ≡ true
unit_passes types numbers place =
    fold-roll-Pattern Bool (λ p. form_stands types numbers p.form p.parts) (record { place = place; form = F.Opens (H.Is L.Unit); parts = [] })

pub patterns_pass : PatternsOfTextsPass
patterns_pass text end cycle accepted kept is_written =
    let clear : NothingFails text = nothing_fails text end accepted in
    let tuples : TuplesHaveParts text = tuples_have_parts text is_written in
    let it : PatternNames text = patterns_meant text end accepted kept is_written in
    let types : Types = (tabled_of text).types in
    let within : List Variable → Setting = setting_in (tabled_of text) text in
    let own : List Variable → List Index = λ variables. Fits.own_variables 0 (number_parameters variables) in
    let signed_types : (name : List ℕ) (s : Signature) → signature_in text name ≡ Some s
    → (names_setting (known_in text) (types_of text) Any (variables_in text name) 0).types ≡ within_variables (tabled_of text) s.variables =
    λ name s e. ap (within_variables (tabled_of text)) (sym (variables_are (types_of text).named text name s e)) in record {
      unit = λ numbers place. unit_passes types numbers place;
      bodies = λ name s signed at.
          let names : Tables.Setting = names_setting (known_in text) (types_of text) Any (variables_in text name) at in
          let setting : Setting = answering (Some (shape s.to)) (within s.variables) in
          all_pass (own s.variables) setting names
          (known_here text clear is_written tuples s.variables (Some (shape s.to)) names refl (signed_types name s signed)
          (λ a h. (
            type_variables s.variables,
            subst (λ x. below (type_variables s.variables) x ≡ true) (some_same (shape s.to) a h) (signature_whole text name s signed).gives,
          )))
          (it.bodies s.variables (Some (shape s.to)) names (λ n. true))
          (it.bodies s.variables (Some (shape s.to)) (in_measure names) (λ n. true));
      measures = λ name s signed at.
          let names : Tables.Setting = plain_at text at name in
          let setting : Setting = plainly (within s.variables) in
          all_pass (own s.variables) setting names
          (known_plainly text clear is_written tuples s.variables names refl (signed_types name s signed))
          (it.plain s.variables names)
          (it.plain s.variables (in_measure names));
      mappings = λ names are.
          all_pass [] (answering None (within [])) names are (it.bodies [] None names (λ n. true)) (it.bodies [] None (in_measure names) (λ n. true));
      sides = λ names are from to from_typ to_typ given u v q k f.
          pattern_passes [] (within []) names are (it.bodies [] None names (λ n. true)) _ (it.sides None names (λ n. true) to v to_typ given) from
          (shape from_typ) u f;
    }
