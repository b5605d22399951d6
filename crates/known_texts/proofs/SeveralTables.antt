-- Where the tuples that are written in a text have several parts, so has each tuple that a name of a type stands for or that a constructor holds.
use Rattle.std.proofs.Common.{◌≡◌, ℕ, zero, suc, List, [], ◌∷◌, ◌++◌, map, ap, sym, ◌∙◌, refl, subst, Bool, true, false, if◌then◌else◌, bytes_eq, codes}
use Rattle.std.specs.Prelude.{Option, Some, None, is_some, slice_get}
use Rattle.std.specs.Option.{option_or}
use Rattle.std.proofs.lemmas.Bool.{and_parts}
use Rattle.sail_base.specs.declared.kind.Kind.{Kind}
use Rattle.sail_base.specs.declared.kind.Kind.TheVariants as K
use Rattle.sail_syntax.specs.declared.definitions.Def.{Def}
use Rattle.sail_syntax.specs.declared.definitions.Def.TheVariants as D
use Rattle.sail_syntax.specs.declared.definitions.Member.{Member}
use Rattle.sail_syntax.specs.declared.definitions.Param.{Param}
use Rattle.sail_syntax.specs.declared.types.TyExp.{TyExp}
use Rattle.sail_types.specs.Named.{constructors, form_constructors, in_form}
use Rattle.sail_types.specs.declared.table.Definition.{Definition}
use Rattle.sail_types.specs.declared.table.Field.{Field}
use Rattle.sail_types.specs.declared.table.Form.{Form}
use Rattle.sail_types.specs.declared.table.Form.TheVariants as F
use Rattle.sail_types.specs.declared.types.Typ.{Typ, Typ-F, out-Typ}
use Rattle.sail_types.specs.declared.types.Typ.TheOpen as T
use Rattle.sail_types.specs.declared.types.Typ.TheVariants as W
use Rattle.sail_types.specs.declared.types.Typ.TheViews.{out-roll-Typ, roll-out-Typ}
use Rattle.type_arguments.specs.declared.normal.Normal.{Normal}
use Rattle.sail_kinds.specs.declared.scope.NamedType.{NamedType}
use Rattle.sail_kinds.specs.Scopes.{Within}
use Rattle.type_definitions.specs.Defined as Text
use Rattle.type_definitions.specs.Defined.{alias_of, alias_read, alias_type, builtin_types, enum_form, field_if, fields_of, list_of, member_read}
use Rattle.type_definitions.specs.Defined.{next_type, option_type, right_side, struct_form, table_row, typ_if}
use Rattle.type_definitions.specs.Defined.{types_behind, types_of, types_with, under, union_form, with_form, with_name, within_union}
use Rattle.shape_joins.proofs.JoinsLeast.{none, some_same}
use Rattle.shape_joins.proofs.Order.{no}
use Rattle.shape_rules.specs.Calls.{parameters_form, parameters_of}
use Rattle.shape_meanings.specs.Whole.{all_of}
use Rattle.shape_meanings.specs.Worlds.{is_payload, is_payload_form}
use Rattle.shapes.specs.Tabled.{tabled_of}
use Rattle.known_texts.proofs.Tuples.{AllPayloads}
use Rattle.known_texts.specs.Written.{IsWritten, definition_written, is_some_name, type_written}
use Rattle.known_texts.proofs.Several.{MeaningSeveral, NamesSeveral, Stands, kind_several, opened_typ, part_several, several, several_at, typ_taken}

-- ---- what is taken and held

opened_of : (t : Typ) → several t ≡ true → opened_typ (out-Typ t) ≡ true
opened_of t h = sym (several_at (out-Typ t)) ∙ ap several (roll-out-Typ t) ∙ h

form_payload : (x : Typ-F Typ) → opened_typ x ≡ true → is_payload_form x ≡ true
form_payload (T.Tuple []) h = no h
form_payload (T.Tuple (t ∷ [])) h = no h
form_payload x h = refl

payload_of : (t : Typ) → several t ≡ true → is_payload t ≡ true
payload_of t h = form_payload (out-Typ t) (opened_of t h)

form_takes : (t : Typ) (x : Typ-F Typ) → opened_typ x ≡ true → is_some_name (parameters_form t x) ≡ true
form_takes t (T.Tuple []) h = no h
form_takes t x h = refl

-- what such a type takes as parameters isn't nothing
pub takes_some : (t : Typ) → several t ≡ true → is_some_name (parameters_of t) ≡ true
takes_some t h = form_takes t (out-Typ t) (opened_of t h)

-- ---- definitions

abbrev FormSeveral : Form → Type 0
FormSeveral (F.Union fs) = AllPayloads fs
FormSeveral (F.Struct fs) = Unit {0}
FormSeveral (F.Enum ms) = Unit {0}

abbrev RowsSeveral : List Definition → Type 0
RowsSeveral [] = Unit {0}
RowsSeveral (row ∷ rows) = FormSeveral row.form × RowsSeveral rows

record SoFar (so_far : Text.Types) : Type 0 where
  names : NamesSeveral so_far.named
  rows : RowsSeveral so_far.table

rows_more : (rows : List Definition) (row : Definition) → RowsSeveral rows → FormSeveral row.form → RowsSeveral (rows ++ row ∷ [])
rows_more [] row h own = (own, tt)
rows_more (r ∷ rows) row h own = (h.0, rows_more rows row h.1 own)

named_if : (b : Bool) (old : Option NamedType) (typ : NamedType) → MeaningSeveral typ.meaning
    → ((t : NamedType) → old ≡ Some t → MeaningSeveral t.meaning)
    → (t : NamedType) → (if b then option_or old (Some typ) else old) ≡ Some t → MeaningSeveral t.meaning
named_if true None typ own known t e = subst (λ (u : NamedType). MeaningSeveral u.meaning) (some_same typ t e) own
named_if true (Some u) typ own known t e = known t e
named_if false old typ own known t e = known t e

names_with : (name : List ℕ) (typ : NamedType) (named : List ℕ → Option NamedType) → MeaningSeveral typ.meaning → NamesSeveral named
    → NamesSeveral (with_name name typ named)
names_with name typ named own known other t e = named_if (bytes_eq name other) (named other) typ own (known other) t e

field_more : (m : Member) (o : Option Typ) (fs : List Field) → ((t : Typ) → o ≡ Some t → several t ≡ true) → AllPayloads fs
    → AllPayloads (list_of (field_if m o) ++ fs)
field_more m None fs own h = h
field_more m (Some t) fs own h = (payload_of t (own t refl), h)

typ_there : (o : Option Normal) → Stands o → (t : Typ) → typ_if o ≡ Some t → several t ≡ true
typ_there None h t e = none e
typ_there (Some n) h t e = typ_taken n t (h n refl) e

fields_several : (w : Within) → NamesSeveral w.types → (ms : List Member) → all_of (map (λ (m : Member). type_written m.typ) ms) ≡ true
    → AllPayloads (fields_of w ms)
fields_several w names [] h = tt
fields_several w names (m ∷ ms) h =
    let own = and_parts (type_written m.typ) (all_of (map (λ (m : Member). type_written m.typ) ms)) h in
    field_more m (typ_if (member_read w m).normal) (fields_of w ms)
    (typ_there (member_read w m).normal (kind_several K.Type m.typ own.0 w names)) (fields_several w names ms own.1)

side_several : (kind : Option Kind) (typ : TyExp) (w : Within) → type_written typ ≡ true → NamesSeveral w.types → Stands (right_side kind typ w).normal
side_several None typ w written names = part_several typ written w names
side_several (Some kind) typ w written names = kind_several kind typ written w names

alias_several : (o : Option Normal) → Stands o → MeaningSeveral (alias_of o)
alias_several None h = tt
alias_several (Some n) h = h n refl

so_far_if : (b : Bool) (so_far more : Text.Types) → SoFar so_far → SoFar more → SoFar (if b then so_far else more)
so_far_if true so_far more old new = old
so_far_if false so_far more old new = new

form_so_far : (name : List ℕ) (parameters : List Param) (form : Form) (so_far : Text.Types) → SoFar so_far → FormSeveral form
    → SoFar (with_form name parameters form so_far)
form_so_far name parameters form so_far old own =
    let row : Definition = table_row name parameters form in
    so_far_if (is_some (so_far.named name)) so_far
    (record { named = with_name name (next_type parameters so_far) so_far.named; table = so_far.table ++ row ∷ [] }) old
    (record { names = names_with name (next_type parameters so_far) so_far.named tt old.names; rows = rows_more so_far.table row old.rows own })

step_so_far : (so_far : Text.Types) (d : Def) → definition_written d ≡ true → SoFar so_far → SoFar (types_with so_far d)
step_so_far so_far (D.Alias place name parameters kind typ) h old = record {
  names = names_with name.text (alias_type so_far parameters kind typ) so_far.named
      (alias_several (alias_read so_far parameters kind typ).normal (side_several kind typ (under so_far.named parameters) h old.names)) old.names;
  rows = old.rows;
}
step_so_far so_far (D.Enum place name ms) h old = form_so_far name.text [] (enum_form ms) so_far old tt
step_so_far so_far (D.Struct place name parameters fs) h old = form_so_far name.text parameters (struct_form so_far parameters fs) so_far old tt
step_so_far so_far (D.Union place name parameters cs) h old =
    form_so_far name.text parameters (union_form so_far name.text parameters cs) so_far old
    (fields_several (within_union so_far name.text parameters) (names_with name.text (next_type parameters so_far) so_far.named tt old.names) cs h)
step_so_far so_far d h old = record { names = old.names; rows = old.rows }

behind_so_far : (so_far : Text.Types) (text : List Def) → all_of (map definition_written text) ≡ true → SoFar so_far → SoFar (types_behind so_far text)
behind_so_far so_far [] h old = old
behind_so_far so_far (d ∷ text) h old =
    let k = and_parts (definition_written d) (all_of (map definition_written text)) h in
    behind_so_far (types_with so_far d) text k.1 (step_so_far so_far d k.0 old)

none_named : NamesSeveral (λ name. None)
none_named name t e = none e

builtin_so_far : SoFar builtin_types
builtin_so_far = record {
  names = names_with (codes "option") option_type (λ name. None) tt none_named;
  rows = ((payload_variable, (payload_unit, tt)), tt);
}
  where
    payload_variable : is_payload (W.Variable 0) ≡ true
    payload_variable = ap is_payload_form (ap out-Typ (sym (W.rolls-Variable 0)) ∙ out-roll-Typ (T.Variable 0))

    payload_unit : is_payload W.Unit ≡ true
    payload_unit = ap is_payload_form (ap out-Typ (sym W.rolls-Unit) ∙ out-roll-Typ T.Unit)

pub names_several : (text : List Def) → IsWritten text → NamesSeveral (types_of text).named
names_several text h = (behind_so_far builtin_types text h builtin_so_far).names

rows_at : (rows : List Definition) → RowsSeveral rows → (i : ℕ) → AllPayloads (in_form [] form_constructors (slice_get rows i))
rows_at [] h i = tt
rows_at (row ∷ rows) h zero = own row.form h.0
  where
    own : (form : Form) → FormSeveral form → AllPayloads (form_constructors form)
    own (F.Union fs) k = k
    own (F.Struct fs) k = tt
    own (F.Enum ms) k = tt
rows_at (row ∷ rows) h (suc i) = rows_at rows h.1 i

pub payloads_several : (text : List Def) → IsWritten text → (u : ℕ) → AllPayloads (constructors (tabled_of text).types u)
payloads_several text h u = rows_at (types_of text).table (behind_so_far builtin_types text h builtin_so_far).rows u
