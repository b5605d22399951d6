-- Where no definition of a type fails, each stands for something; and then a text of a kind stands for something of that kind.
use Rattle.std.proofs.Common.{◌≡◌, ℕ, List, [], ◌∷◌, ◌++◌, refl, ap, ◌∙◌, subst, Bool, true, false, if◌then◌else◌, Option, Some, None, cond, codes, bytes_eq}
use Rattle.std.specs.Prelude.{is_some}
use Rattle.std.specs.Option.{option_or}
use Rattle.sail_base.specs.declared.kind.Kind.{Kind}
use Rattle.sail_base.specs.declared.kind.Kind.TheVariants as K
use Rattle.sail_base.specs.declared.place.Place.{Place}
use Rattle.sail_syntax.specs.declared.definitions.Def.{Def}
use Rattle.sail_syntax.specs.declared.definitions.Def.TheVariants as D
use Rattle.sail_syntax.specs.declared.definitions.Param.{Param}
use Rattle.sail_syntax.specs.declared.types.TyExp.{TyExp}
use Rattle.sail_types.specs.Sums.{and_then}
use Rattle.sail_types.specs.declared.table.Form.{Form}
use Rattle.type_arguments.specs.Taken.{typ_of}
use Rattle.type_arguments.specs.declared.normal.Normal.{Normal}
use Rattle.type_arguments.specs.declared.normal.Normal.TheVariants as N
use Rattle.sail_kinds.specs.declared.error.TableError.{TableError}
use Rattle.sail_kinds.specs.declared.error.TableError.TheVariants as error
use Rattle.sail_kinds.specs.declared.error.Mismatch.TheVariants as Found
use Rattle.sail_kinds.specs.declared.scope.NamedType.{NamedType}
use Rattle.sail_kinds.specs.Normal.{as_kind, fails, is_of, kind_of, made_of, part, reading_as, stands_for}
use Rattle.sail_kinds.specs.Repeated.{clashes}
use Rattle.sail_kinds.specs.Scopes.{Within}
use Rattle.normal_forms.specs.Refusals.{AreKnown, is_unknown}
use Rattle.normal_forms.proofs.Readings.{Stands, part_whole}
use Rattle.type_definitions.specs.Defined as Text
use Rattle.type_definitions.specs.Defined.{alias_of, alias_read, alias_type, builtin_types, enum_form, names_of, next_type, option_type}
use Rattle.type_definitions.specs.Defined.{right_side, struct_form, type_failures, type_failures_behind, types_behind, types_of, types_with}
use Rattle.type_definitions.specs.Defined.{under, union_form, with_form, with_name}
use Rattle.shape_joins.proofs.JoinsLeast.{none}
use Rattle.shape_joins.proofs.Order.{no}
use Rattle.known_texts.proofs.Failures.{apart}

-- ---- a text of a kind

-- what stands for something of a kind
abbrev OfKind : Kind → Option Normal → Type 0
OfKind kind o = (n : Normal) × (o ≡ Some n) × (is_of kind n ≡ true)

picked : (b : Bool) (n : Normal) (e : TableError) → (cond b (stands_for n) (fails e)).failures ≡ []
    → ((cond b (stands_for n) (fails e)).normal ≡ Some n) × (b ≡ true)
picked true n e h = (refl, refl)
picked false n e h = absurd (cc)

kind_made : (kind : Kind) (place : Place) (o : Option Normal) → Stands o → (made_of (as_kind kind place) o).failures ≡ []
    → OfKind kind (made_of (as_kind kind place) o).normal
kind_made kind place None n h = none n.1
kind_made kind place (Some n) m h =
    let k = picked (is_of kind n) n (error.IllKinded place (Some (Found.Kinds kind (kind_of n)))) h in (n, k.0, k.1)

pub kind_whole : (kind : Kind) (t : TyExp) (w : Within) → AreKnown w.types → (reading_as kind t w).failures ≡ [] → OfKind kind (reading_as kind t w).normal
kind_whole kind t w known h =
    let r = (part t).read w in
    let k = apart r.failures (made_of (as_kind kind (part t).place) r.normal).failures h in
    kind_made kind (part t).place r.normal (part_whole t w known k.0) k.1

typ_there : (n : Normal) → is_of K.Type n ≡ true → Stands (typ_of n)
typ_there (N.Number n) h = no h
typ_there (N.Constraint c) h = no h
typ_there (N.Typ t) h = (t, refl)

-- a type that is written
pub typ_whole : (t : TyExp) (w : Within) → AreKnown w.types → (reading_as K.Type t w).failures ≡ [] → Stands (and_then (reading_as K.Type t w).normal typ_of)
typ_whole t w known h =
    let n = kind_whole K.Type t w known h in
    let x = typ_there n.0 n.2 in
    (x.0, ap (λ o. and_then o typ_of) n.1 ∙ x.1)

-- ---- definitions of types

named_known : (b : Bool) (old : Option NamedType) (typ : NamedType) → is_unknown typ.meaning ≡ false
    → ((t : NamedType) → old ≡ Some t → is_unknown t.meaning ≡ false)
    → (t : NamedType) → (if b then option_or old (Some typ) else old) ≡ Some t → is_unknown t.meaning ≡ false
named_known true None typ own known t e = subst (λ (u : NamedType). is_unknown u.meaning ≡ false) (same e) own
  where
    same : Some typ ≡ Some t → typ ≡ t
    same h = cc
named_known true (Some u) typ own known t e = known t e
named_known false old typ own known t e = known t e

with_known : (name : List ℕ) (typ : NamedType) (named : List ℕ → Option NamedType) → is_unknown typ.meaning ≡ false → AreKnown named
    → AreKnown (with_name name typ named)
with_known name typ named own known other t e = named_known (bytes_eq name other) (named other) typ own (known other) t e

none_known : AreKnown (λ name. None)
none_known name t e = none e

builtin_known : AreKnown builtin_types.named
builtin_known = with_known (codes "option") option_type (λ name. None) refl none_known

form_if : (b : Bool) (types more : Text.Types) → AreKnown types.named → AreKnown more.named → AreKnown (if b then types else more).named
form_if true types more known new = known
form_if false types more known new = new

form_known : (name : List ℕ) (parameters : List Param) (form : Form) (types : Text.Types) → AreKnown types.named
    → AreKnown (with_form name parameters form types).named
form_known name parameters form types known =
    let more : Text.Types = record {
      named = with_name name (next_type parameters types) types.named;
      table = types.table ++ Text.table_row name parameters form ∷ [];
    } in
    form_if (is_some (types.named name)) types more known (with_known name (next_type parameters types) types.named refl known)

stands_known : (o : Option Normal) → Stands o → is_unknown (alias_of o) ≡ false
stands_known None s = none s.1
stands_known (Some n) s = refl

side_whole : (kind : Option Kind) (typ : TyExp) (w : Within) → AreKnown w.types → (right_side kind typ w).failures ≡ [] → Stands (right_side kind typ w).normal
side_whole None typ w known h = part_whole typ w known h
side_whole (Some kind) typ w known h = let n = kind_whole kind typ w known h in (n.0, n.1)

-- one definition more
step_known : (types : Text.Types) (d : Def) → AreKnown types.named → type_failures types d ≡ [] → AreKnown (types_with types d).named
step_known types (D.Alias place name parameters kind typ) known h =
    let read = alias_read types parameters kind typ in
    let k = apart (clashes (names_of parameters)) read.failures h in
    with_known name.text (alias_type types parameters kind typ) types.named
    (stands_known read.normal (side_whole kind typ (under types.named parameters) known k.1)) known
step_known types (D.Enum place name ms) known h = form_known name.text [] (enum_form ms) types known
step_known types (D.Struct place name parameters fs) known h = form_known name.text parameters (struct_form types parameters fs) types known
step_known types (D.Union place name parameters cs) known h = form_known name.text parameters (union_form types name.text parameters cs) types known
step_known types d known h = known

behind_known : (types : Text.Types) (text : List Def) → AreKnown types.named → type_failures_behind types text ≡ [] → AreKnown (types_behind types text).named
behind_known types [] known h = known
behind_known types (d ∷ text) known h =
    let k = apart (type_failures types d) (type_failures_behind (types_with types d) text) h in
    behind_known (types_with types d) text (step_known types d known k.0) k.1

pub types_known : (text : List Def) → type_failures_behind builtin_types text ≡ [] → AreKnown (types_of text).named
types_known text h = behind_known builtin_types text builtin_known h
