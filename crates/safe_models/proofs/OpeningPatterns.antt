-- Patterns of openings of an accepted text stand.
use Rattle.std.proofs.Common.{◌≡◌, ◌∙◌, sym, refl, true, false, List, [], Option, Some}
use Rattle.std.specs.Prelude.{ℕ, None}
use Rattle.sail_base.specs.declared.place.Place.{Place}
use Rattle.sail_syntax.specs.declared.definitions.Def.{Def}
use Rattle.sail_types.specs.declared.table.Types.{Types}
use Rattle.sail_names.specs.Known as Tables
use Rattle.sail_names.specs.Known.{in_measure, is_any, is_global_construction, is_let_seen}
use Rattle.sail_names.specs.Patterns.{type_failures}
use Rattle.sail_names.specs.declared.around.Allowed.{Allowed}
use Rattle.sail_names.specs.declared.around.Allowed.TheVariants.{Any, LoopMeasure, Plain}
use Rattle.sail_names.specs.declared.names.Global.{Global}
use Rattle.sail_names.specs.declared.names.Global.TheVariants as G
use Rattle.sail_tables.specs.Refused.{IsAccepted}
use Rattle.shape_joins.proofs.Order.{no}
use Rattle.shape_rules.specs.declared.callees.Meant.{Meant}
use Rattle.shape_rules.specs.declared.locals.Local.{Local}
use Rattle.shape_rules.specs.Scopes.{Setting}
use Rattle.shape_meanings.specs.Naming.{AreKnown, MeantAs}
use Rattle.shapes.specs.Failures.{refusal}
use Rattle.shapes.specs.Tabled.{tabled_of}
use Rattle.known_texts.specs.Written.{IsWritten}
use Rattle.text_progress.specs.Positions.{in_let}
use Rattle.pattern_laws.specs.Standing.{stands}
use Rattle.safe_models.specs.Patterns.{PatternNames, PatternsMeant}
use Rattle.safe_models.proofs.PatternNames.{patterns_meant}
use Rattle.standing_texts.specs.Openings.{OpeningPatterns}
use Rattle.safe_models.proofs.PatternsPass.{all_pass, plain_known, unit_passes}

-- ---- what a plain expression can name, a loop's measure can too

abbrev plain_names : Tables.Setting → Tables.Setting
plain_names names = record names { allowed = Plain }

seen_too : (a : Allowed) (n number : ℕ) → is_let_seen Plain n number ≡ true → is_let_seen a n number ≡ true
seen_too Any n number h = refl
seen_too Plain n number h = h
seen_too LoopMeasure n number h = h

meant_too : (names : Tables.Setting) (o : Option Global) (meant : Option Meant) → MeantAs names o meant → MeantAs (plain_names names) o meant
meant_too names (Some G.Register) meant h = h
meant_too names (Some (G.Let n)) meant h = λ seen. h (seen_too names.allowed n names.number seen)
meant_too names (Some G.Member) meant h = h
meant_too names (Some (G.Function n)) meant h = λ any. no any
meant_too names (Some (G.Direction n)) meant h = λ any. no any
meant_too names (Some G.Constructor) meant h = h
meant_too names (Some (G.Mapping n)) meant h = λ any. no any
meant_too names (Some (G.Overload ns)) meant h = λ any. no any
meant_too names (Some G.Builtin) meant h = h
meant_too names (Some G.StateBuiltin) meant h = h
meant_too names None meant h = tt

plain_too : (setting : Setting) (names : Tables.Setting) → AreKnown setting names → AreKnown setting (plain_names names)
unfolding type_failures
plain_too setting names k = record {
  within = k.within;
  values = λ name. meant_too names (names.known.value name) (setting.value name) (k.values name);
  called = k.called;
  members = k.members;
  exception = k.exception;
  typs = k.typs;
  counted_typs = k.counted_typs;
  counts = k.counts;
  numbers = k.numbers;
  constraints = k.constraints;
  answer = k.answer;
  structs = k.structs;
}

constructs_too : (a : Allowed) (o : Option Global) → is_any a ≡ false → is_global_construction a o ≡ true → is_global_construction Plain o ≡ true
constructs_too a (Some G.Constructor) plain h = refl
constructs_too a (Some (G.Mapping n)) plain h = no (sym plain ∙ h)
constructs_too a (Some (G.Direction n)) plain h = no (sym plain ∙ h)
constructs_too a o plain h = no h

-- ---- behind lets that bind these names

module _ (text : List Def) (it : PatternNames text) (lets : List Local) where
  meant : (names : Tables.Setting) → is_any names.allowed ≡ false → AreKnown (in_let text lets names).setting names
      → PatternsMeant [] (in_let text lets names).setting names
  unfolding type_failures
  meant names plain are =
      let h : PatternsMeant [] (in_let text lets names).setting (plain_names names) =
      it.lets lets (plain_names names) (plain_too (in_let text lets names).setting names are) refl in (
        record {
          members = h.0.members;
          constructors = λ name f u k constructs. h.0.constructors name f u k (constructs_too names.allowed (names.known.value name) plain constructs);
        },
        record {
          heads = λ name n constructs. h.1.heads name n (constructs_too names.allowed (names.known.value name) plain constructs);
          typs = h.1.typs;
        },
      )

pub patterns_pass : (text : List Def) (end : Place) (cycle : List ℕ → Option ℕ) → IsAccepted text end → refusal (tabled_of text) text ≡ None → IsWritten text
    → OpeningPatterns text (stands (tabled_of text).types [])
patterns_pass text end cycle accepted kept is_written =
    let types : Types = (tabled_of text).types in
    let it : PatternNames text = patterns_meant text end accepted kept is_written in record {
      unit = λ place. unit_passes types [] place;
      values = λ lets names plain are.
          let setting : Setting = (in_let text lets names).setting in
          all_pass [] setting names are (meant text it lets names plain are)
          (meant text it lets (in_measure names) refl (plain_known setting names are));
    }
