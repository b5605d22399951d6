-- The types of registers stand for some, where no body fails.
use Rattle.std.proofs.Common.{◌≡◌, ℕ, ◌+◌, List, [], ◌∷◌, ◌++◌}
use Rattle.std.specs.Prelude.{option_map}
use Rattle.sail_base.specs.declared.kind.Kind.TheVariants as K
use Rattle.sail_syntax.specs.declared.definitions.Def.{Def}
use Rattle.sail_syntax.specs.declared.definitions.Def.TheVariants as D
use Rattle.sail_kinds.specs.declared.error.TableError.{TableError}
use Rattle.sail_kinds.specs.Normal.{reading_as}
use Rattle.sail_kinds.specs.Scopes.{Within}
use Rattle.sail_names.specs.declared.around.Allowed.TheVariants.{Plain}
use Rattle.sail_names.specs.Known.{Setting}
use Rattle.sail_names.specs.Uses.{expression_failures, maybe}
use Rattle.normal_forms.specs.Refusals.{AreKnown}
use Rattle.type_definitions.specs.Defined.{types_of, under}
use Rattle.sail_signatures.specs.Signatures.{typ_read}
use Rattle.known_names.specs.Meanings.{known_in}
use Rattle.sail_bodies.specs.Bodies.{body_failures, body_failures_from, setting}
use Rattle.sail_bodies.specs.Voids.{register_void}
use Rattle.shapes.specs.Tabled.{tabled_of}
use Rattle.known_texts.specs.Values.{RegistersTyped}
use Rattle.known_texts.proofs.Failures.{apart}
use Rattle.known_texts.proofs.Types.{typ_whole}

module _ (text : List Def) (known : AreKnown (types_of text).named) where
  abbrev fails_at : ℕ → Def → List TableError
  fails_at at d = body_failures text (known_in text) (types_of text) at d

  abbrev fail_from : ℕ → List Def → List TableError
  fail_from at rest = body_failures_from text (known_in text) (types_of text) at rest

  pub registers_typed : (at : ℕ) (rest : List Def) → fail_from at rest ≡ [] → RegistersTyped (tabled_of text) rest
  registers_typed at [] h = tt
  registers_typed at ((D.Register place name typ initial) ∷ rest) h =
      let k = apart (fails_at at (D.Register place name typ initial)) (fail_from (at + 1) rest) h in
      let w : Within = under (types_of text).named [] in
      let s : Setting = setting (known_in text) (types_of text) Plain [] at in
      let read : List TableError = (reading_as K.Type typ w).failures in
      let void : List TableError = register_void (types_of text).table typ (typ_read w typ) in
      let own = apart (read ++ void) (maybe (option_map expression_failures initial) s []) k.0 in
      let typed = apart read void own.0 in
      (typ_whole typ w known typed.0, registers_typed (at + 1) rest k.1)
  registers_typed at (d ∷ rest) h =
      let k = apart (fails_at at d) (fail_from (at + 1) rest) h in
      registers_typed (at + 1) rest k.1
