-- Fields of a struct.
use Rattle.std.proofs.Common.{◌≡◌, ℕ, zero, suc, ◌<◌, Bool, true, false, if◌then◌else◌, List, [], ◌∷◌, ◌++◌, length, map, nat_eq, nat_lt}
use Rattle.std.proofs.Common.{slice_get, slice_set, Option, Some, None, option_map, refl, sym, ap, ◌∙◌, subst, arith}
use Rattle.std.proofs.lemmas.Bool.{and_parts}
use Rattle.std.proofs.lemmas.Bool.Decides.{nat_tests}
use Rattle.sail_types.specs.Belongs.{Reading as Closed, Readings as Closeds, assigned, belongs, each_belongs, fields_belong, payload_belongs}
use Rattle.sail_types.specs.Belongs.{reading}
use Rattle.sail_types.specs.Named.{constructors, field_types, fields, form_constructors, form_fields, form_members, in_form, members, payload, typ_of}
use Rattle.sail_types.specs.Numbers.{Assignment}
use Rattle.sail_types.specs.declared.numbers.Index.{Index}
use Rattle.sail_types.specs.declared.table.Definition.{Definition}
use Rattle.sail_types.specs.declared.table.Field.{Field}
use Rattle.sail_types.specs.declared.table.Form.{Form}
use Rattle.sail_types.specs.declared.table.Form.TheVariants as F
use Rattle.sail_types.specs.declared.table.Types.{Types}
use Rattle.sail_types.specs.declared.types.Typ.{Typ}
use Rattle.sail_types.specs.declared.values.Value.{Value, Value-F, out-Value}
use Rattle.sail_types.specs.declared.values.Value.TheOpen as V
use Rattle.sail_types.specs.declared.values.Value.TheVariants as Val
use Rattle.sail_types.specs.declared.values.Value.TheViews.{out-roll-Value}
use Rattle.sail_types.proofs.SumNumbers.{some_same}
use Rattle.sail_core.specs.Values.{field, field_way, set_at, with_field}
use Rattle.value_indices.specs.declared.indices.Indices.TheOpen as W
use Rattle.value_indices.specs.declared.indices.Indices.TheVariants as I
use Rattle.value_indices.specs.declared.indices.Reading.{Reading}
use Rattle.value_indices.specs.declared.indices.Reading.TheVariants as R
use Rattle.pattern_leaves.specs.Settings.{Around}
use Rattle.expression_forms.specs.Ways.{field_reached, fields_at, fields_of, into_field, is_struct, one_typ}
use Rattle.expression_forms.specs.declared.ways.Reached.{Reached}
use Rattle.value_laws.specs.Belonging.{asked, closed, closeds, form_holds, has}
use Rattle.value_laws.proofs.Basics.{no, two}
use Rattle.value_laws.proofs.Values.{has_form}
use Rattle.way_laws.specs.Laws.{Closes, FieldsAreThere, HasPart}

none : {A B : Type 0} {x : B} → None ≡ Some x → A
none h = absurd (cc)

below : (a b : ℕ) → a < b → nat_lt a b ≡ true
below a b h = grind (arith, nat_tests)

same : (a b : ℕ) → nat_eq a b ≡ true → a ≡ b
same a b h = grind (arith, nat_tests)

itself : (a : ℕ) → nat_eq a a ≡ true
itself a = grind (arith, nat_tests)

none_below : (k : ℕ) → nat_lt k 0 ≡ false
none_below k = grind (arith, nat_tests)

out_struct : (u : ℕ) (vs : List Value) → out-Value (Val.Struct u vs) ≡ V.Struct u vs
out_struct u vs = ap out-Value (sym (Val.rolls-Struct u vs)) ∙ out-roll-Value (V.Struct u vs)

-- ---- values of the types of fields, in order

module _ (types : Types) (mu nu : Assignment) (own : List Closed) (rs : Closeds) where
  abbrev all_typed : List Value → List Field → Bool
  all_typed vs fs = each_belongs (asked types mu own vs) nu rs (field_types fs)

  one_typed : (vs : List Value) (fs : List Field) (k : ℕ) (f : Field) → all_typed vs fs ≡ true → slice_get fs k ≡ Some f
      → (w : Value) × (slice_get vs k ≡ Some w) × (k < length vs) × (belongs types w (reading f.typ nu rs) ≡ true)
  one_typed [] [] k f h is = none is
  one_typed [] (g ∷ fs) k f h is = no h
  one_typed (w ∷ vs) [] k f h is = no h
  one_typed (w ∷ vs) (g ∷ fs) zero f h is =
      let first = (and_parts (belongs types w (reading g.typ nu rs)) (all_typed vs fs) h).0 in
      (w, refl, omega arith, ap (λ (e : Field). belongs types w (reading e.typ nu rs)) (sym (some_same g f is)) ∙ first)
  one_typed (w ∷ vs) (g ∷ fs) (suc k) f h is =
      let more = one_typed vs fs k f (and_parts (belongs types w (reading g.typ nu rs)) (all_typed vs fs) h).1 is in
      (more.0, more.1, omega (arith, more.2), more.3)

  other_typed : (vs : List Value) (fs : List Field) (k : ℕ) (f : Field) (new : Value) → all_typed vs fs ≡ true → slice_get fs k ≡ Some f
      → belongs types new (reading f.typ nu rs) ≡ true → all_typed (slice_set vs k new) fs ≡ true
  other_typed [] [] k f new h is typed = none is
  other_typed [] (g ∷ fs) k f new h is typed = no h
  other_typed (w ∷ vs) [] k f new h is typed = no h
  other_typed (w ∷ vs) (g ∷ fs) zero f new h is typed =
      two (belongs types new (reading g.typ nu rs)) (all_typed vs fs)
      (ap (λ (e : Field). belongs types new (reading e.typ nu rs)) (some_same g f is) ∙ typed)
      (and_parts (belongs types w (reading g.typ nu rs)) (all_typed vs fs) h).1
  other_typed (w ∷ vs) (g ∷ fs) (suc k) f new h is typed =
      let l = and_parts (belongs types w (reading g.typ nu rs)) (all_typed vs fs) h in
      two (belongs types w (reading g.typ nu rs)) (all_typed (slice_set vs k new) fs) l.0 (other_typed vs fs k f new l.1 is typed)

-- ---- what stands in the table at the place of a struct is no enum and no union

form_is : (f : Form) (fs : List Field) → form_fields f ≡ Some fs → (form_members f ≡ []) × (form_constructors f ≡ [])
form_is (F.Struct gs) fs h = (refl, refl)
form_is f fs h = none h

struct_is : (o : Option Definition) (fs : List Field) → in_form None form_fields o ≡ Some fs
    → (in_form [] form_members o ≡ []) × (in_form [] form_constructors o ≡ [])
struct_is None fs h = none h
struct_is (Some d) fs h = form_is d.form fs h

-- ---- a value of a struct

module _ (types : Types) (mu : Assignment) (own : List Closed) (u : ℕ) (is : List Index) (qs : List Reading) where
  abbrev rs : Closeds
  rs = closeds (map (closed types mu own) qs)

  abbrev holds : Value-F Value → Bool
  holds w = form_holds types mu own (W.Named u is (map (closed types mu own) qs)) w

  module _ (fs : List Field) (defined : fields types u ≡ Some fs) where
    no_members : members types u ≡ []
    no_members = (struct_is (slice_get types.definitions u) fs defined).0

    no_constructors : constructors types u ≡ []
    no_constructors = (struct_is (slice_get types.definitions u) fs defined).1

    no_member : (k : ℕ) → nat_lt k (length (members types u)) ≡ true → false ≡ true
    no_member k h = sym (none_below k) ∙ (ap (λ (ms : List (List ℕ)). nat_lt k (length ms)) (sym no_members) ∙ h)

    no_payload : (k : ℕ) (v : Value) → payload_belongs (belongs types v) (assigned mu is) rs (payload types u k) ≡ true → false ≡ true
    no_payload k v h =
        (λ j. payload_belongs (belongs types v) (assigned mu is) rs (typ_of (slice_get (sym no_constructors j) k))) ∙ h

    abbrev typed : List Value → Bool
    typed vs = all_typed types mu (assigned mu is) own rs vs fs

    struct_in : (w : Value-F Value) → holds w ≡ true → (vs : List Value) × (w ≡ V.Struct u vs) × (typed vs ≡ true)
    struct_in (V.Struct s vs) h =
        let l = and_parts (nat_eq s u) (fields_belong (asked types mu own vs) (assigned mu is) rs (fields types s)) h in
        let at : s ≡ u = same s u l.0 in (
          vs,
          ap (λ x. V.Struct x vs) at,
          sym (λ j. fields_belong (asked types mu own vs) (assigned mu is) rs ((ap (fields types) at ∙ defined) j)) ∙ l.1,
        )
    struct_in (V.Member s k) h =
        let l = and_parts (nat_eq s u) (nat_lt k (length (members types s))) h in
        no (no_member k (ap (λ x. nat_lt k (length (members types x))) (sym (same s u l.0)) ∙ l.1))
    struct_in (V.Union s k v) h =
        let l = and_parts (nat_eq s u) (payload_belongs (belongs types v) (assigned mu is) rs (payload types s k)) h in
        no (no_payload k v (ap (λ x. payload_belongs (belongs types v) (assigned mu is) rs (payload types x k)) (sym (same s u l.0)) ∙ l.1))
    struct_in w h = let l : false ≡ true = h in no l

    struct_has : (vs : List Value) → typed vs ≡ true → has types mu own (I.Named u is qs) (Val.Struct u vs) ≡ true
    struct_has vs h =
        has_form types mu own (I.Named u is qs) (W.Named u is qs) (Val.Struct u vs) (I.rolls-Named u is qs)
        ∙ (ap holds (out_struct u vs)
        ∙ two (nat_eq u u) (fields_belong (asked types mu own vs) (assigned mu is) rs (fields types u)) (itself u)
        (ap (fields_belong (asked types mu own vs) (assigned mu is) rs) defined ∙ h))

    taken : (k : ℕ) (vs : List Value) → field u k (V.Struct u vs) ≡ slice_get vs k
    taken k vs = ap (λ t. if t then slice_get vs k else None) (itself u)

    put : (k : ℕ) (vs : List Value) (new : Value) → k < length vs → with_field u k (V.Struct u vs) new ≡ Some (Val.Struct u (slice_set vs k new))
    put k vs new within =
        ap (λ t. if t then option_map (Val.Struct u) (set_at vs k new) else None) (itself u)
        ∙ ap (λ t. option_map (Val.Struct u) (if t then Some (slice_set vs k new) else None)) (below k (length vs) within)

    pub field_there : (k : ℕ) (f : Field) (v : Value) → slice_get fs k ≡ Some f → Closes types mu own f.typ is qs
        → has types mu own (I.Named u is qs) v ≡ true → HasPart types mu own (I.Named u is qs) v (R.Of f.typ is qs) (field_way u k)
    field_there k f v stands reads h =
        let held = struct_in (out-Value v) (sym (has_form types mu own (I.Named u is qs) (W.Named u is qs) v (I.rolls-Named u is qs)) ∙ h) in
        let vs = held.0 in
        let found = one_typed types mu (assigned mu is) own rs vs fs k f held.2 stands in record {
          part = found.0;
          is_there = ap (field u k) held.1 ∙ (taken k vs ∙ found.1);
          is_typed = reads found.0 ∙ found.3;
          replaced = λ new is_typed. record {
            whole = Val.Struct u (slice_set vs k new);
            is_there = ap (λ w. with_field u k w new) held.1 ∙ put k vs new found.2;
            is_so = struct_has (slice_set vs k new)
                (other_typed types mu (assigned mu is) own rs vs fs k f new held.2 stands (sym (reads new) ∙ is_typed));
          };
        }

-- ---- by what the table has

module _ (around : Around) (mu : Assignment) (own : List Closed) (u k : ℕ) (is : List Index) (qs : List Reading) (v : Value) (x : Reached)
    (h : has around.types mu own (I.Named u is qs) v ≡ true)
    (reads : (t : Typ) → x.typ ≡ R.Of t is qs → Closes around.types mu own t is qs) where
  abbrev There : Type 0
  There = HasPart around.types mu own (I.Named u is qs) v x.typ (field_way u k)

  by_field : (fs : List Field) (o : Option Field) → fields around.types u ≡ Some fs → slice_get fs k ≡ o
      → field_reached (one_typ o ++ []) is qs ≡ Some x → There
  by_field fs None defined stands some = none some
  by_field fs (Some f) defined stands some =
      let y : Reached = record { conditions = []; numbers = []; typ = R.Of f.typ is qs } in
      let at : R.Of f.typ is qs ≡ x.typ = ap (λ (z : Reached). z.typ) (some_same y x some) in
      subst (λ (r : Reading). HasPart around.types mu own (I.Named u is qs) v r (field_way u k)) at
      (field_there around.types mu own u is qs fs defined k f v stands (reads f.typ (sym at)) h)

  by_fields : (o : Option (List Field)) → fields around.types u ≡ o → field_reached (fields_at (k ∷ []) o) is qs ≡ Some x → There
  by_fields None defined some = none some
  by_fields (Some fs) defined some = by_field fs (slice_get fs k) defined refl some

  own_struct : (same_struct : Bool) (o : Option Reached) → (if same_struct then o else None) ≡ Some x → o ≡ Some x
  own_struct true o some = some
  own_struct false o some = none some

  pub fields_there : into_field around u k (W.Named u is qs) ≡ Some x → There
  fields_there some =
      by_fields (fields around.types u) refl (own_struct (is_struct around u u qs) (field_reached (fields_of around u (k ∷ [])) is qs) some)

pub fields_are_there : FieldsAreThere
fields_are_there around mu own u k is qs v x h some reads = fields_there around mu own u k is qs v x h reads some
