-- Openings of a text without failures: each is a plain expression whose names have no failure, over the lets before it.
use Rattle.std.proofs.Common.{◌≡◌, ℕ, ◌+◌, List, [], ◌∷◌, ◌++◌, map, refl, sym, ◌∙◌, Bool, true, Some, None, append_assoc}
use Rattle.std.proofs.lemmas.Bool.{and_parts}
use Rattle.sail_base.specs.declared.kind.Kind.TheVariants as K
use Rattle.sail_syntax.specs.declared.definitions.Def.{Def}
use Rattle.sail_syntax.specs.declared.definitions.Def.TheVariants as D
use Rattle.sail_syntax.specs.declared.expressions.Exp.{Exp}
use Rattle.sail_kinds.specs.declared.error.TableError.{TableError}
use Rattle.sail_kinds.specs.Normal.{reading_as}
use Rattle.sail_kinds.specs.Scopes.{Within}
use Rattle.sail_globals.specs.declared.naming.Naming.{Naming}
use Rattle.sail_globals.specs.Bound.{is_among, members}
use Rattle.sail_globals.specs.Namings.{all_namings, namings, namings_from}
use Rattle.sail_names.specs.Known as Tables
use Rattle.sail_names.specs.Patterns.{pattern_failures}
use Rattle.sail_names.specs.Uses.{expression_failures}
use Rattle.type_definitions.specs.Defined.{types_of, under}
use Rattle.sail_signatures.specs.Signatures.{typ_read}
use Rattle.known_names.specs.Meanings.{known_in}
use Rattle.sail_bodies.specs.Bodies.{body_failures, body_failures_from}
use Rattle.sail_bodies.specs.Voids.{register_void}
use Rattle.shape_joins.proofs.Order.{no}
use Rattle.shape_rules.specs.declared.locals.Local.{Local}
use Rattle.shape_meanings.specs.Trees.{pattern_written, written}
use Rattle.shape_meanings.specs.Whole.{all_of}
use Rattle.shapes.specs.Failures.{lets_with, own_in}
use Rattle.shapes.specs.Tabled.{tabled_of}
use Rattle.known_texts.specs.Opened.{OpeningKnown, OpeningsKnown, OpeningsKnownFrom, PlainKnown}
use Rattle.known_texts.specs.Whole.{setting_in}
use Rattle.known_texts.specs.Accepted.{NothingFails}
use Rattle.known_texts.proofs.Failures.{apart}
use Rattle.known_texts.proofs.Tuples.{TuplesHaveParts}
use Rattle.known_texts.specs.Written.{IsWritten, definition_written, type_written}
use Rattle.known_texts.proofs.Assembled.{known_at, known_plainly, same_members}
use Rattle.known_texts.proofs.Lets.{Behind, plain_names, seen_behind, step_known}

module _ (text : List Def) (clear : NothingFails text) (is_written : IsWritten text) (parts : TuplesHaveParts text) where
  abbrev all : List Naming
  all = all_namings text

  abbrev is_enum : List ℕ → Bool
  is_enum = is_among (members text)

  abbrev fails_at : ℕ → Def → List TableError
  fails_at at d = body_failures text (known_in text) (types_of text) at d

  abbrev fail_from : ℕ → List Def → List TableError
  fail_from at rest = body_failures_from text (known_in text) (types_of text) at rest

  abbrev names_at : ℕ → Tables.Setting
  names_at at = plain_names text clear (same_members text clear is_written parts) at

  abbrev Before : List Local → List Naming → Type 0
  Before lets earlier = Behind text clear (same_members text clear is_written parts) lets earlier

  initial_known : (at : ℕ) (value : Exp) → written value ≡ true → expression_failures value (names_at at) [] ≡ []
      → PlainKnown (setting_in (tabled_of text) text []) value
  initial_known at value w e = record {
    names = names_at at;
    plain = refl;
    known = known_plainly text clear is_written parts [] (names_at at) refl refl;
    as_written = w;
    named = e;
  }

  def_known : (at : ℕ) (lets : List Local) (earlier : List Naming) (d : Def) (rest : List Def) → all ≡ earlier ++ namings_from is_enum at (d ∷ rest)
      → Before lets earlier → fails_at at d ≡ [] → definition_written d ≡ true → OpeningKnown (tabled_of text) text lets d
  def_known at lets earlier (D.Let place p value) rest split before e w =
      let k = apart (pattern_failures (names_at at) p) (expression_failures value (names_at at) []) e in
      let both = and_parts (pattern_written p) (written value) w in
      let seen =
      seen_behind text clear (same_members text clear is_written parts) lets at earlier (D.Let place p value ∷ rest) split before in record {
        value = record {
          names = names_at at;
          plain = refl;
          known = known_at text clear is_written parts lets at seen before.counts;
          as_written = both.1;
          named = k.1;
        };
        as_written = both.0;
        named = k.0;
      }
  def_known at lets earlier (D.Register place name typ None) rest split before e w = tt
  def_known at lets earlier (D.Register place name typ (Some value)) rest split before e w =
      let within : Within = under (types_of text).named [] in
      let read : List TableError = (reading_as K.Type typ within).failures in
      let void : List TableError = register_void (types_of text).table typ (typ_read within typ) in
      initial_known at value (and_parts (type_written typ) (written value) w).1 (apart (read ++ void) (expression_failures value (names_at at) []) e).1
  def_known at lets earlier d rest split before e w = tt

  openings_from : (at : ℕ) (lets : List Local) (earlier : List Naming) (rest : List Def) → all ≡ earlier ++ namings_from is_enum at rest
      → Before lets earlier → fail_from at rest ≡ [] → all_of (map definition_written rest) ≡ true
      → OpeningsKnownFrom (tabled_of text) text lets rest
  openings_from at lets earlier [] split before e w = tt
  openings_from at lets earlier (d ∷ rest) split before e w =
      let k = apart (fails_at at d) (fail_from (at + 1) rest) e in
      let l = and_parts (definition_written d) (all_of (map definition_written rest)) w in
      let mine : List Naming = namings is_enum at d in
      let later : List Naming = namings_from is_enum (at + 1) rest in (
        def_known at lets earlier d rest split before k.0 l.0,
        openings_from (at + 1) (lets_with (tabled_of text) (own_in (tabled_of text) text) text lets d) (earlier ++ mine) rest
            (split ∙ sym (append_assoc earlier mine later))
            (step_known text clear (same_members text clear is_written parts) (known_at text clear is_written parts) at lets earlier d rest split before
            k.0) k.1 l.1,
      )

  pub openings_known : OpeningsKnown (tabled_of text) text
  openings_known =
      openings_from 0 [] [] text refl (record { bounds = tt; taken_so = λ name h. no h; counts = tt }) clear.bodies is_written
