-- What a union's type notes suffices for the sizes in its payloads.
use Rattle.std.proofs.Common.{◌≡◌, ℕ, zero, suc, ◌+◌, ◌<◌, nat_eq, nat_lt, ℤ, Bool, true, false, ◌||◌, List, [], ◌∷◌, length, map, slice_get, Option, Some}
use Rattle.std.proofs.Common.{None, refl, sym, ap, ◌∙◌, subst, arith}
use Rattle.std.specs.List.{list_all}
use Rattle.std.proofs.lemmas.Bool.{and_parts, or_left, or_right}
use Rattle.std.proofs.lemmas.Bool.Decides.{Decides-eqb}
use Rattle.sail_types.specs.Named.{form_constructors, in_form, payload as payload_type, typ_of}
use Rattle.sail_types.specs.Zero.{deepest}
use Rattle.sail_types.proofs.SumNumbers.{some_same}
use Rattle.sail_types.specs.declared.numbers.Index.{Index}
use Rattle.sail_types.specs.declared.numbers.Index.TheVariants as I
use Rattle.sail_types.specs.declared.numbers.Num.{Num}
use Rattle.sail_types.specs.declared.table.Definition.{Definition}
use Rattle.sail_types.specs.declared.table.Field.{Field}
use Rattle.sail_types.specs.declared.table.Form.{Form}
use Rattle.sail_types.specs.declared.table.Form.TheVariants as F
use Rattle.sail_types.specs.declared.table.Types.{Types}
use Rattle.sail_types.specs.declared.types.Typ.{Typ}
use Rattle.value_indices.specs.declared.indices.Reading.{Reading}
use Rattle.size_values.specs.declared.constants.Constant.{Constant}
use Rattle.size_values.specs.declared.constants.Constant.TheVariants as C
use Rattle.size_values.specs.declared.sized.Sized.{Sized}
use Rattle.size_values.specs.Numbers.{argument_of, constant_under, first_free, index_under, unless_free, value_of}
use Rattle.size_values.specs.Hanging.{Marks, fields_open, open_under, settled, typ_open}
use Rattle.size_values.specs.Sizes.{fields_of, form_fields, only_open}
use Rattle.size_values.specs.Sized.{hangs_on, integer_of, named_numbers, number_where, numbers_from, reading_sized, typ_sized}
use Rattle.checked_meaning.specs.Items.{constant_of}
use Rattle.size_laws.specs.Known.{all_numbers}
use Rattle.size_laws.specs.Settled.{constants, stood}
use Rattle.wide_types.specs.Widening.{parameters_of}
use Rattle.call_arguments.specs.Callees.{is_typeless, type_parameters}
use Rattle.value_laws.specs.Belonging.{Integers}
use Rattle.value_laws.proofs.Basics.{no}
use Rattle.pattern_laws.specs.Typing.{AsMany}
use Rattle.hanging_sizes.specs.Hanging.{is_alone, payloads_alone}
use Rattle.hanging_sizes.specs.Laws.{PayloadsDo}
use Rattle.hanging_sizes.proofs.Counts.{open_itself}
use Rattle.hanging_sizes.proofs.Free.{among}
use Rattle.hanging_sizes.proofs.Marked.{typ_shown}
use Rattle.hanging_sizes.proofs.Numbers.{AllSame, free_there}
use Rattle.hanging_sizes.proofs.Types.{typ_same, typeless_same}
use Rattle.hanging_sizes.proofs.Variables.{hanging}

-- ---- arguments are constants

abbrev AllNumbers : List Constant → Type 0
AllNumbers [] = Unit {0}
AllNumbers (c ∷ cs) = ((z : ℤ) × (c ≡ C.Number z)) × AllNumbers cs

module _ (g : Integers) where
  size_number : (t : Num) → (z : ℤ) × (constant_under (all_numbers g) t ≡ C.Number z)
  size_number t = by (first_free (all_numbers g) t) refl
    where
      by : (o : Option ℕ) → first_free (all_numbers g) t ≡ o → (z : ℤ) × (unless_free (all_numbers g) o (value_of (all_numbers g) t) ≡ C.Number z)
      by None e = (_, refl)
      by (Some j) e = no (free_there (all_numbers g) t j e)

  all_numbers_there : (is : List Index) → AllNumbers (map (index_under (all_numbers g)) is)
  all_numbers_there [] = tt
  all_numbers_there (I.Number t ∷ is) = (size_number t, all_numbers_there is)
  all_numbers_there (I.Truth c ∷ is) = ((_, refl), all_numbers_there is)

-- ---- what is noted of them, where a size hangs on it

module _ (types : Types) (u : ℕ) where
  noted : (m k : ℕ) (cs : List Constant) → AllNumbers cs → (i : ℕ) → (i < length cs → hangs_on types u m (k + i) ≡ true)
      → argument_of (map constant_of (numbers_from types u m k cs)) i ≡ argument_of cs i
  noted m k [] all i h = refl
  noted m k (c ∷ cs) all zero h =
      let e : hangs_on types u m k ≡ true = subst (λ j. hangs_on types u m j ≡ true) (omega arith) (h (omega arith)) in
      ap (λ b. constant_of (number_where b c)) e ∙ ap (λ d. C.Number (integer_of d)) all.0.1 ∙ sym all.0.1
  noted m k (c ∷ cs) all (suc i) h =
      noted m (suc k) cs all.1 i (λ l. subst (λ j. hangs_on types u m j ≡ true) (omega arith) (h (omega (arith, l))))

  all_noted : (cs : List Constant) → AllNumbers cs → (is : List ℕ) → ((i : ℕ) → i < length cs → among i is ≡ true → hangs_on types u (length cs) i ≡ true)
      → AllSame (argument_of (map constant_of (named_numbers types u cs))) (argument_of cs) is
  all_noted cs all [] h = tt
  all_noted cs all (i ∷ is) h = (
    noted (length cs) 0 cs all i (λ l. subst (λ j. hangs_on types u (length cs) j ≡ true) (omega arith)
        (h i l (or_left (nat_eq i i) (among i is) ((Decides-eqb i i).1 refl)))),
    all_noted cs all is (λ j l m. h j l (or_right (nat_eq j i) (among j is) m)),
  )

-- ---- a payload is one of those that were tested

module _ (test : Typ → Bool) where
  in_fields : (fs : List Field) (c : ℕ) (t : Typ) → list_all (λ f. test f.typ) fs ≡ true → typ_of (slice_get fs c) ≡ Some t → test t ≡ true
  in_fields [] c t h e = absurd (cc)
  in_fields (f ∷ fs) zero t h e =
      subst (λ x. test x ≡ true) (some_same f.typ t e) (and_parts (test f.typ) (list_all (λ x. test x.typ) fs) h).0
  in_fields (f ∷ fs) (suc c) t h e = in_fields fs c t (and_parts (test f.typ) (list_all (λ x. test x.typ) fs) h).1 e

-- of a definition in the table
found_payload : (ds : List Definition) (u c : ℕ) (t : Typ) → typ_of (slice_get (in_form [] form_constructors (slice_get ds u)) c) ≡ Some t
    → (d : Definition) × (slice_get ds u ≡ Some d) × (typ_of (slice_get (form_constructors d.form) c) ≡ Some t)
found_payload ds u c t e = by (slice_get ds u) e
  where
    by : (o : Option Definition) → typ_of (slice_get (in_form [] form_constructors o) c) ≡ Some t
        → (d : Definition) × (o ≡ Some d) × (typ_of (slice_get (form_constructors d.form) c) ≡ Some t)
    by None k = absurd (cc)
    by (Some d) k = (d, refl, k)

-- a constructor's payload is one of the types in its union
union_fields : (form : Form) (c : ℕ) (t : Typ) → typ_of (slice_get (form_constructors form) c) ≡ Some t → typ_of (slice_get (form_fields form) c) ≡ Some t
union_fields (F.Union fs) c t e = e
union_fields (F.Struct fs) c t e = absurd (cc)
union_fields (F.Enum ms) c t e = absurd (cc)

field_open : (marks : Marks) (fs : List Field) (c : ℕ) (t : Typ) (cs : List Constant) → typ_of (slice_get fs c) ≡ Some t → typ_open marks t cs ≡ true
    → fields_open marks fs cs ≡ true
field_open marks [] c t cs e h = absurd (cc)
field_open marks (f ∷ fs) zero t cs e h =
    or_left (typ_open marks f.typ cs) (fields_open marks fs cs) (subst (λ x. typ_open marks x cs ≡ true) (sym (some_same f.typ t e)) h)
field_open marks (f ∷ fs) (suc c) t cs e h = or_right (typ_open marks f.typ cs) (fields_open marks fs cs) (field_open marks fs c t cs e h)

-- so a named type notes each argument on which a size in a type of a field, or in a payload, hangs
pub type_hangs : (types : Types) (u c : ℕ) (t : Typ) → typ_of (slice_get (fields_of types u) c) ≡ Some t → (n i : ℕ) → i < n
    → among i (hanging types t) ≡ true → hangs_on types u n i ≡ true
type_hangs types u c t e n i l h = by (settled types.definitions deepest []) refl
  where
    by : (o : Option Marks) → settled types.definitions deepest [] ≡ o → open_under o (fields_of types u) (only_open i n) ≡ true
    by None k = refl
    by (Some marks) k =
        field_open marks (fields_of types u) c t (only_open i n) e (typ_shown types marks k t (only_open i n) i (open_itself i n l) h)

alone_there : (ds : List Definition) (u : ℕ) (d : Definition) → list_all is_alone ds ≡ true → slice_get ds u ≡ Some d → is_alone d ≡ true
alone_there [] u d h e = absurd (cc)
alone_there (x ∷ ds) zero d h e = subst (λ y. is_alone y ≡ true) (some_same x d e) (and_parts (is_alone x) (list_all is_alone ds) h).0
alone_there (x ∷ ds) (suc u) d h e = alone_there ds u d (and_parts (is_alone x) (list_all is_alone ds) h).1 e

module _ (types : Types) (own : List Sized) where
  -- ---- what the Type variables of the union stand for

  none_named : (d : Definition) → is_alone d ≡ true → 0 ≡ type_parameters d.parameters → list_all (λ f. is_typeless f.typ) (form_constructors d.form) ≡ true
  none_named d h e =
      let none : nat_lt 0 (type_parameters d.parameters) ≡ false = subst (λ n. nat_lt 0 n ≡ false) e refl in
      sym (ap (λ b. b || list_all (λ f. is_typeless f.typ) (form_constructors d.form)) none) ∙ h

  stood_same : payloads_alone types ≡ true → (g : Integers) (u c : ℕ) (rs : List Reading) (t : Typ) (cs : List Constant) → payload_type types u c ≡ Some t
      → AsMany types u rs
      → typ_sized types (map (reading_sized types own (all_numbers g)) rs) t cs ≡ typ_sized types (stood types own (all_numbers g) rs) t cs
  stood_same alone g u c (r ∷ rs) t cs e many = refl
  stood_same alone g u c [] t cs e many =
      let d = found_payload types.definitions u c t e in
      let none : 0 ≡ type_parameters d.0.parameters = many ∙ ap (λ o. type_parameters (parameters_of o)) d.1 in
      typeless_same types [] own t
      (in_fields is_typeless (form_constructors d.0.form) c t (none_named d.0 (alone_there types.definitions u d.0 alone d.1) none) d.2) cs

  pub hang : payloads_alone types ≡ true → (g : Integers) (u c : ℕ) (is : List Index) (rs : List Reading) (t : Typ)
      → payload_type types u c ≡ Some t → AsMany types u rs
      → typ_sized types (map (reading_sized types own (all_numbers g)) rs) t
      (map constant_of (named_numbers types u (constants types own (all_numbers g) is)))
      ≡ typ_sized types (stood types own (all_numbers g) rs) t (constants types own (all_numbers g) is)
  hang alone g u c is rs t e many =
      let cs = constants types own (all_numbers g) is in
      let d = found_payload types.definitions u c t e in
      let there : typ_of (slice_get (fields_of types u) c) ≡ Some t =
      subst (λ o. typ_of (slice_get (in_form [] form_fields o) c) ≡ Some t) (sym d.1) (union_fields d.0.form c t d.2) in
      typ_same types (map (reading_sized types own (all_numbers g)) rs) t (map constant_of (named_numbers types u cs)) cs
      (all_noted types u cs (all_numbers_there g is) (hanging types t) (type_hangs types u c t there (length cs)))
      ∙ stood_same alone g u c rs t cs e many

pub payloads_hang : PayloadsDo
payloads_hang types own alone = hang types own alone
