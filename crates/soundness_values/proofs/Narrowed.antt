-- What the test of the table of named types says of fields and payloads.
use Rattle.std.proofs.Common.{◌≡◌, ℕ, zero, suc, nat_eq, Bool, true, false, not, List, [], ◌∷◌, length, slice_get, Option, Some, None, refl, sym, ap, ◌∙◌, subst}
use Rattle.std.specs.List.{list_all}
use Rattle.std.proofs.lemmas.Bool.{and_parts}
use Rattle.sail_types.proofs.SumNumbers.{some_same}
use Rattle.sail_types.specs.Named.{field_types, fields, form_constructors, form_fields, in_form, payload, typ_of}
use Rattle.sail_types.specs.declared.table.Definition.{Definition}
use Rattle.sail_types.specs.declared.table.Field.{Field}
use Rattle.sail_types.specs.declared.table.Form.{Form}
use Rattle.sail_types.specs.declared.table.Form.TheVariants as F
use Rattle.sail_types.specs.declared.table.Types.{Types}
use Rattle.sail_types.specs.declared.types.Typ.{Typ, out-Typ}
use Rattle.sail_types.specs.declared.types.Typ.TheOpen as T
use Rattle.wide_types.specs.Widening.{parameters_of}
use Rattle.call_arguments.specs.Callees.{type_parameters}
use Rattle.value_laws.proofs.Basics.{no}
use Rattle.soundness_values.specs.Named.{TypesNarrow, definition_stands, form_stands, is_apart, payload_stands}
use Rattle.soundness_values.specs.Narrow.{is_narrow}

abbrev pub AllNarrow : ℕ → List Typ → Type 0
AllNarrow count [] = Unit {0}
AllNarrow count (t ∷ ts) = (is_narrow count t ≡ true) × AllNarrow count ts

-- no tuple has one part
abbrev pub NoneAlone : Typ → Type 0
NoneAlone t = (ts : List Typ) → out-Typ t ≡ T.Tuple ts → nat_eq 1 (length ts) ≡ false

-- how many Type variables the named type of this place has
abbrev pub variables_of : Types → ℕ → ℕ
variables_of types u = type_parameters (parameters_of (slice_get types.definitions u))

pub record Narrowed (types : Types) : Type 0 where
  pub of_fields : (u : ℕ) (fs : List Field) → fields types u ≡ Some fs → AllNarrow (variables_of types u) (field_types fs)
  pub of_payloads : (u c : ℕ) (t : Typ) → payload types u c ≡ Some t → is_narrow (variables_of types u) t ≡ true
  pub none_alone : (u c : ℕ) (t : Typ) → payload types u c ≡ Some t → NoneAlone t

-- ---- a definition

abbrev Stands : Option Definition → Type 0
Stands None = Unit {0}
Stands (Some d) = definition_stands d ≡ true

stands_at : (ds : List Definition) (u : ℕ) → list_all definition_stands ds ≡ true → Stands (slice_get ds u)
stands_at [] u h = tt
stands_at (d ∷ ds) zero h = (and_parts (definition_stands d) (list_all definition_stands ds) h).0
stands_at (d ∷ ds) (suc u) h = stands_at ds u (and_parts (definition_stands d) (list_all definition_stands ds) h).1

abbrev count_of : Option Definition → ℕ
count_of o = type_parameters (parameters_of o)

-- ---- fields

each_narrow : (count : ℕ) (fs : List Field) → list_all (λ f. is_narrow count f.typ) fs ≡ true → AllNarrow count (field_types fs)
each_narrow count [] h = tt
each_narrow count (f ∷ fs) h =
    let both = and_parts (is_narrow count f.typ) (list_all (λ (g : Field). is_narrow count g.typ) fs) h in (both.0, each_narrow count fs both.1)

form_narrow : (count : ℕ) (form : Form) → form_stands count form ≡ true → (fs : List Field) → form_fields form ≡ Some fs → AllNarrow count (field_types fs)
form_narrow count (F.Struct gs) h fs e = subst (λ us. AllNarrow count (field_types us)) (some_same gs fs e) (each_narrow count gs h)
form_narrow count form h fs e = absurd (cc)

fields_narrow : (o : Option Definition) → Stands o → (fs : List Field) → in_form None form_fields o ≡ Some fs → AllNarrow (count_of o) (field_types fs)
fields_narrow None h fs e = absurd (cc)
fields_narrow (Some d) h fs e = form_narrow (type_parameters d.parameters) d.form h fs e

-- ---- payloads

one_stands : (count : ℕ) (fs : List Field) (c : ℕ) (t : Typ) → list_all (λ f. payload_stands count f.typ) fs ≡ true → typ_of (slice_get fs c) ≡ Some t
    → payload_stands count t ≡ true
one_stands count [] c t h e = absurd (cc)
one_stands count (f ∷ fs) zero t h e =
    let both = and_parts (payload_stands count f.typ) (list_all (λ (g : Field). payload_stands count g.typ) fs) h in
    subst (λ u. payload_stands count u ≡ true) (some_same f.typ t e) both.0
one_stands count (f ∷ fs) (suc c) t h e =
    one_stands count fs c t (and_parts (payload_stands count f.typ) (list_all (λ (g : Field). payload_stands count g.typ) fs) h).1 e

union_stands : (count : ℕ) (form : Form) → form_stands count form ≡ true → (c : ℕ) (t : Typ) → typ_of (slice_get (form_constructors form) c) ≡ Some t
    → payload_stands count t ≡ true
union_stands count (F.Union fs) h c t e = one_stands count fs c t h e
union_stands count form h c t e = absurd (cc)

payloads_stand : (o : Option Definition) → Stands o → (c : ℕ) (t : Typ) → typ_of (slice_get (in_form [] form_constructors o) c) ≡ Some t
    → payload_stands (count_of o) t ≡ true
payloads_stand None h c t e = absurd (cc)
payloads_stand (Some d) h c t e = union_stands (type_parameters d.parameters) d.form h c t e

not_so : (b : Bool) → not b ≡ true → b ≡ false
not_so true h = no h
not_so false h = refl

-- ---- the table

pub narrowed : (types : Types) → TypesNarrow types → Narrowed types
narrowed types h = record {
  of_fields = λ u fs e. fields_narrow (slice_get types.definitions u) (stands_at types.definitions u h) fs e;
  of_payloads = λ u c t e. (and_parts (is_narrow (variables_of types u) t) (is_apart (out-Typ t))
      (payloads_stand (slice_get types.definitions u) (stands_at types.definitions u h) c t e)).0;
  none_alone = λ u c t e ts tuple.
      not_so (nat_eq 1 (length ts)) (ap is_apart (sym tuple) ∙ (and_parts (is_narrow (variables_of types u) t) (is_apart (out-Typ t))
      (payloads_stand (slice_get types.definitions u) (stands_at types.definitions u h) c t e)).1);
}
