-- Each `val` gives a signature, where no body fails.
use Rattle.std.proofs.Common.{◌≡◌, ℕ, ◌+◌, List, [], ◌∷◌, ◌++◌, refl, ap, ◌∙◌, true, Option, Some, None}
use Rattle.sail_base.specs.declared.kind.Kind.TheVariants as K
use Rattle.sail_syntax.specs.declared.definitions.Def.{Def}
use Rattle.sail_syntax.specs.declared.definitions.Def.TheVariants as D
use Rattle.sail_syntax.specs.declared.definitions.Quantifier.{Quantifier}
use Rattle.sail_syntax.specs.declared.types.TyExp.{TyExp}
use Rattle.sail_types.specs.Sums.{and_then}
use Rattle.sail_types.specs.declared.numbers.Con.TheVariants as C
use Rattle.type_arguments.specs.Taken.{constraint_of, typ_of}
use Rattle.type_arguments.specs.declared.normal.Normal.{Normal}
use Rattle.type_arguments.specs.declared.normal.Normal.TheVariants as N
use Rattle.sail_kinds.specs.declared.error.TableError.{TableError}
use Rattle.sail_kinds.specs.Normal.{is_of, reading_as}
use Rattle.sail_kinds.specs.Repeated.{clashes}
use Rattle.sail_kinds.specs.Scopes.{Within}
use Rattle.normal_forms.specs.Refusals.{AreKnown}
use Rattle.normal_forms.proofs.Readings.{Stands}
use Rattle.type_definitions.specs.Defined.{names_of, typ_if, types_of, under, variables_of}
use Rattle.sail_signatures.specs.declared.signature.Signature.{Signature}
use Rattle.sail_signatures.specs.Signatures.{constraint_failures, constraint_if, constraint_read, part_failures, signature_if, typ_read, val_signature}
use Rattle.known_names.specs.Meanings.{known_in}
use Rattle.sail_bodies.specs.Bodies.{body_failures, body_failures_from}
use Rattle.shape_joins.proofs.Order.{no}
use Rattle.known_texts.specs.Accepted.{ValsAreSigned}
use Rattle.known_texts.proofs.Failures.{apart}
use Rattle.known_texts.proofs.Types.{kind_whole, typ_whole}

pub constraint_there : (n : Normal) → is_of K.Bool n ≡ true → Stands (constraint_of n)
constraint_there (N.Number n) h = no h
constraint_there (N.Constraint c) h = (c, refl)
constraint_there (N.Typ t) h = no h

constraint_stands : (w : Within) → AreKnown w.types → (c : Option TyExp) → constraint_failures w c ≡ [] → Stands (constraint_read w c)
constraint_stands w known None h = (C.Truth true, refl)
constraint_stands w known (Some text) h =
    let n = kind_whole K.Bool text w known h in
    let x = constraint_there n.0 n.2 in
    (x.0, ap constraint_if n.1 ∙ x.1)

same_typ : (o : Option Normal) → typ_if o ≡ and_then o typ_of
same_typ None = refl
same_typ (Some n) = refl

typ_stands : (w : Within) → AreKnown w.types → (text : TyExp) → (reading_as K.Type text w).failures ≡ [] → Stands (typ_read w text)
typ_stands w known text h =
    let t = typ_whole text w known h in
    (t.0, same_typ (reading_as K.Type text w).normal ∙ t.1)

module _ (text : List Def) (known : AreKnown (types_of text).named) where
  signed : (quantifier : Quantifier) (from to : TyExp) → part_failures (under (types_of text).named quantifier.variables) quantifier from to ≡ []
      → (s : Signature) × (val_signature (types_of text).named quantifier from to ≡ Some s)
  signed quantifier from to h =
      let w : Within = under (types_of text).named quantifier.variables in
      let bound : List TableError = constraint_failures w quantifier.constraint in
      let takes : List TableError = (reading_as K.Type from w).failures in
      let k = apart (bound ++ takes) (reading_as K.Type to w).failures h in
      let l = apart bound takes k.0 in
      let c = constraint_stands w known quantifier.constraint l.0 in
      let f = typ_stands w known from l.1 in
      let t = typ_stands w known to k.1 in (
        record { variables = variables_of quantifier.variables; constraint = c.0; from = f.0; to = t.0 },
        λ i. signature_if (variables_of quantifier.variables) (c.1 i) (f.1 i) (t.1 i),
      )

  abbrev fails_at : ℕ → Def → List TableError
  fails_at at d = body_failures text (known_in text) (types_of text) at d

  abbrev fail_from : ℕ → List Def → List TableError
  fail_from at rest = body_failures_from text (known_in text) (types_of text) at rest

  pub vals_signed : (at : ℕ) (rest : List Def) → fail_from at rest ≡ [] → ValsAreSigned (types_of text).named rest
  vals_signed at [] h = tt
  vals_signed at ((D.Val place name quantifier from arrow to) ∷ rest) h =
      let k = apart (fails_at at (D.Val place name quantifier from arrow to)) (fail_from (at + 1) rest) h in
      let own =
      apart (clashes (names_of quantifier.variables)) (part_failures (under (types_of text).named quantifier.variables) quantifier from to) k.0 in
      (signed quantifier from to own.1, vals_signed (at + 1) rest k.1)
  vals_signed at (d ∷ rest) h =
      let k = apart (fails_at at d) (fail_from (at + 1) rest) h in
      vals_signed (at + 1) rest k.1
