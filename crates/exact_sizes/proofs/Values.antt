-- A value that belongs to a type whose sizes are constants for certain has those sizes.
use Rattle.std.proofs.Common.{◌≡◌, ◌∙◌, ap, sym, refl, subst, ℕ, zero, suc, ◌+◌, ◌≤◌, ℤ, pos, nat_eq, Bool, true, false, ◌&&◌, ◌||◌, List, [], ◌∷◌}
use Rattle.std.proofs.Common.{map, length, slice_get, arith}
use Rattle.std.specs.Prelude.{int_le, Option, Some, None}
use Rattle.std.specs.List.{list_all}
use Rattle.std.specs.Ordering.{int_eq}
use Rattle.std.proofs.lemmas.Bool.{and_parts}
use Rattle.std.proofs.lemmas.Bool.Decides.{Decides-eqb}
use Rattle.std.proofs.lemmas.List.{length-map}
use Rattle.sail_types.specs.Belongs.{Reading as Closed, Readings as Closeds, reading, assigned, under, read_each, each_belongs, all_belong}
use Rattle.sail_types.specs.Belongs.{fields_belong, payload_belongs, given_belongs, inner_types, belongs, Asked, Inner}
use Rattle.sail_types.specs.Limits.{is_length, is_small, is_width}
use Rattle.sail_types.specs.Named.{field_types, fields, form_constructors, in_form, payload, typ_of}
use Rattle.sail_types.specs.Named as Named
use Rattle.sail_types.specs.Numbers.{Assignment, number, true_in}
use Rattle.sail_types.specs.Places.{Given, an_int, a_bool, placed}
use Rattle.sail_types.specs.Sums.{number_at}
use Rattle.sail_types.specs.declared.numbers.Con.{Con}
use Rattle.sail_types.specs.declared.numbers.Index.{Index}
use Rattle.sail_types.specs.declared.numbers.Index.TheVariants as N
use Rattle.sail_types.specs.declared.numbers.Num.{Num}
use Rattle.sail_types.specs.declared.table.Definition.{Definition}
use Rattle.sail_types.specs.declared.table.Field.{Field}
use Rattle.sail_types.specs.declared.table.Form.{Form}
use Rattle.sail_types.specs.declared.table.Form.TheVariants as F
use Rattle.sail_types.specs.declared.table.Types.{Types}
use Rattle.sail_types.specs.declared.types.Typ.{Typ, Typ-F, out-Typ}
use Rattle.sail_types.specs.declared.types.Typ.TheOpen as T
use Rattle.sail_types.specs.declared.types.Typ.TheViews.{roll-out-Typ}
use Rattle.sail_types.specs.declared.values.Value.{Value, Value-F, out-Value, roll-Value}
use Rattle.sail_types.specs.declared.values.Value.TheFolds.{fold-roll-Value, map-Value}
use Rattle.sail_types.specs.declared.values.Value.TheOpen as V
use Rattle.sail_types.specs.declared.values.Value.TheViews.{roll-out-Value}
use Rattle.sail_types.proofs.Substituted.{number_constant}
use Rattle.value_laws.proofs.Alike.{asks, form_size, size, size_is, sizes, total}
use Rattle.value_laws.proofs.Basics.{fronts, no, two}
use Rattle.value_laws.proofs.Values.{answer, belongs_form, belongs_out, form_asked, inner, inner_is, questions}
use Rattle.size_values.specs.declared.constants.Constant.{Constant}
use Rattle.size_values.specs.declared.constants.Constant.TheVariants as C
use Rattle.size_values.specs.declared.sized.Sized.{Sized, Sized-F, roll-Sized}
use Rattle.size_values.specs.declared.sized.Sized.TheOpen as Z
use Rattle.size_values.specs.declared.sized.Sized.TheVariants as S
use Rattle.size_values.specs.Numbers.{argument_of, constant_under, index_under, number_in}
use Rattle.size_values.specs.Sizes.{fields_of}
use Rattle.size_values.specs.Sizes as Sizes
use Rattle.size_values.specs.Sized.{each_sized, form_sized, hangs_on, integer_of, named_numbers, number_where, numbers_eq, numbers_from, sized_at}
use Rattle.size_values.specs.Sized.{typ_sized}
use Rattle.checked_meaning.specs.Items.{constant_of, payload_of}
use Rattle.size_laws.proofs.Parts.{out_is}
use Rattle.checked_meaning.specs.Fits.{Fits, all_fit, each_fits, fields_fit, fits_step, form_fits, has_sizes}
use Rattle.told_sizes.specs.declared.applied.Applied.{Applied}
use Rattle.told_sizes.specs.Exact.{Test, all_pass, applied_at, are_exact, constants_in, fields_pass, form_passes, is_applied, is_exact}
use Rattle.told_sizes.specs.Exact.{field_constants, is_exact_index, is_one_of, named_passes, only_if, open_of, typ_passes, was_seen}
use Rattle.exact_sizes.proofs.Equal.{numbers_same}
use Rattle.exact_sizes.specs.Laws.{Stands}
use Rattle.exact_sizes.proofs.Known.{exact_value, none, number_constant_is, number_stands}
use Rattle.exact_sizes.proofs.Alike.{open_grows, sized_form, sized_in, typ_same}

-- ---- fields and payloads of a named type

struct_fields : (o : Option Definition) (fs : List Field) → in_form None Named.form_fields o ≡ Some fs → in_form [] Sizes.form_fields o ≡ fs
struct_fields None fs h = none h
struct_fields (Some d) fs h = by d.form h
  where
    by : (x : Form) → Named.form_fields x ≡ Some fs → Sizes.form_fields x ≡ fs
    by (F.Struct gs) e = cc e
    by x e = none e

one_passes : (test : Typ → Bool) (fs : List Field) (k : ℕ) (t : Typ) → list_all test (field_types fs) ≡ true → typ_of (slice_get fs k) ≡ Some t → test t ≡ true
one_passes test [] k t h e = none e
one_passes test (f ∷ fs) zero t h e =
    let same : f.typ ≡ t = cc e in
    subst (λ (s : Typ). test s ≡ true) same (and_parts (test f.typ) (list_all test (field_types fs)) h).0
one_passes test (f ∷ fs) (suc k) t h e = one_passes test fs k t (and_parts (test f.typ) (list_all test (field_types fs)) h).1 e

payload_passes : (test : Typ → Bool) (o : Option Definition) (k : ℕ) (t : Typ) → list_all test (field_types (in_form [] Sizes.form_fields o)) ≡ true
    → typ_of (slice_get (in_form [] form_constructors o) k) ≡ Some t → test t ≡ true
payload_passes test None k t h e = none e
payload_passes test (Some d) k t h e = by d.form h e
  where
    by : (x : Form) → list_all test (field_types (Sizes.form_fields x)) ≡ true → typ_of (slice_get (form_constructors x) k) ≡ Some t → test t ≡ true
    by (F.Union constructors) g i = one_passes test constructors k t g i
    by x g i = none i

module _ (types : Types) where
  abbrev pub fitting : Value-F Value → Value-F Fits
  fitting w = map-Value Value Fits (has_sizes types) w

  -- a value of a form has the sizes of a form
  pub fits_as : (v : Value) (s : Sized) (z : Sized-F Sized) → roll-Sized z ≡ s → form_fits types (fitting (out-Value v)) z ≡ true → has_sizes types v s ≡ true
  fits_as v s z e h =
      ap (λ u. has_sizes types u s) (sym (roll-out-Value v))
      ∙ ap (λ (f : Fits). f s) (fold-roll-Value Fits (fits_step types) (out-Value v))
      ∙ ap (form_fits types (fitting (out-Value v))) (out_is s z e) ∙ h

  -- ---- forms without types inside

  pub bits_fit : (y z : ℤ) → y ≡ z → (bits : List Bool) → (int_eq (pos (length bits)) y && is_width (length bits)) ≡ true
      → form_fits types (V.Bits bits) (Z.Bits z) ≡ true
  bits_fit y z e bits h = subst (λ k. int_eq (pos (length bits)) k ≡ true) e (and_parts (int_eq (pos (length bits)) y) (is_width (length bits)) h).0

  -- ---- lists

  pub items_fit : (test : Value → Bool) (s : Sized) → ((v : Value) → test v ≡ true → has_sizes types v s ≡ true) → (vs : List Value)
      → list_all test vs ≡ true → all_fit (map (has_sizes types) vs) s ≡ true
  items_fit test s fit [] h = refl
  items_fit test s fit (v ∷ vs) h =
      let p = and_parts (test v) (list_all test vs) h in
      two (has_sizes types v s) (all_fit (map (has_sizes types) vs) s) (fit v p.0) (items_fit test s fit vs p.1)

  -- where none is larger than d
  asked_fit : (d : ℕ) (r : Closed) (s : Sized) → ((v : Value) → size v ≤ d → belongs types v r ≡ true → has_sizes types v s ≡ true) → (vs : List Value)
      → total (map size vs) ≤ d → all_belong (asks types vs) r ≡ true → all_fit (map (has_sizes types) vs) s ≡ true
  asked_fit d r s fit [] le h = refl
  asked_fit d r s fit (v ∷ vs) le h =
      let l : size v + total (map size vs) ≤ d = le in
      let p = and_parts (belongs types v r) (all_belong (asks types vs) r) h in
      two (has_sizes types v s) (all_fit (map (has_sizes types) vs) s) (fit v (omega arith) p.0) (asked_fit d r s fit vs (omega arith) p.1)

  many : {A : Type 0} (f : Value → A) (vs : List Value) (y z : ℤ) → y ≡ z → int_eq (pos (length vs)) y ≡ true → int_eq (pos (length (map f vs))) z ≡ true
  many f vs y z e h =
      ap (λ n. int_eq (pos n) z) (length-map vs f) ∙ subst (λ k. int_eq (pos (length vs)) k ≡ true) e h

  pub vector_fits : (vs : List Value) (s : Sized) (y z : ℤ) → y ≡ z → int_eq (pos (length vs)) y ≡ true
      → all_fit (map (has_sizes types) vs) s ≡ true → form_fits types (fitting (V.Vector vs)) (Z.Vector z s) ≡ true
  vector_fits vs s y z e h k =
      two (int_eq (pos (length (map (has_sizes types) vs))) z) (all_fit (map (has_sizes types) vs) s) (many (has_sizes types) vs y z e h) k

  -- ---- named types, where a value of a field's type fits that isn't larger than d

  module _ (d u : ℕ) (zs : List (Option ℤ)) (ss : List Sized) (nu : Assignment) (rs : Closeds) (test : Typ → Bool)
      (fit : (t : Typ) → test t ≡ true → (v : Value) → size v ≤ d → belongs types v (reading t nu rs) ≡ true
      → has_sizes types v (typ_sized types ss t (map constant_of zs)) ≡ true)
      (pass : list_all test (field_types (fields_of types u)) ≡ true) where
    abbrev sized_field : Typ → Sized
    sized_field t = typ_sized types ss t (map constant_of zs)

    each_field : (ts : List Typ) → list_all test ts ≡ true → (vs : List Value) → total (map size vs) ≤ d → each_belongs (asks types vs) nu rs ts ≡ true
        → each_fits (map (has_sizes types) vs) (map sized_field ts) ≡ true
    each_field [] p [] le h = refl
    each_field [] p (v ∷ vs) le h = no h
    each_field (t ∷ ts) p [] le h = no h
    each_field (t ∷ ts) p (v ∷ vs) le h =
        let l : size v + total (map size vs) ≤ d = le in
        let q = and_parts (test t) (list_all test ts) p in
        let k = and_parts (belongs types v (reading t nu rs)) (each_belongs (asks types vs) nu rs ts) h in
        two (has_sizes types v (sized_field t)) (each_fits (map (has_sizes types) vs) (map sized_field ts)) (fit t q.0 v (omega arith) k.0)
        (each_field ts q.1 vs (omega arith) k.1)

    struct_fields_fit : (o : Option (List Field)) → fields types u ≡ o → (vs : List Value) → total (map size vs) ≤ d
        → fields_belong (asks types vs) nu rs o ≡ true → fields_fit types zs ss (map (has_sizes types) vs) o ≡ true
    struct_fields_fit None e vs le h = no h
    struct_fields_fit (Some fs) e vs le h =
        each_field (field_types fs)
        (subst (λ (l : List Field). list_all test (field_types l) ≡ true) (struct_fields (slice_get types.definitions u) fs e) pass) vs le h

    payload_fits : (o : Option Typ) (k : ℕ) → payload types u k ≡ o → (v : Value) → size v ≤ d → payload_belongs (belongs types v) nu rs o ≡ true
        → has_sizes types v (payload_of types zs ss o) ≡ true
    payload_fits None k e v le h = no h
    payload_fits (Some t) k e v le h = fit t (payload_passes test (slice_get types.definitions u) k t pass e) v le h

    pub struct_fits : (i : ℕ) (vs : List Value) → total (map size vs) ≤ d → (nat_eq i u && fields_belong (asks types vs) nu rs (fields types i)) ≡ true
        → form_fits types (fitting (V.Struct i vs)) (Z.Named u zs ss) ≡ true
    struct_fits i vs le h =
        let p = and_parts (nat_eq i u) (fields_belong (asks types vs) nu rs (fields types i)) h in
        let same : i ≡ u = (Decides-eqb i u).0 p.0 in
        two (nat_eq i u) (fields_fit types zs ss (map (has_sizes types) vs) (fields types i)) p.0
        (ap (λ n. fields_fit types zs ss (map (has_sizes types) vs) (fields types n)) same
        ∙ struct_fields_fit (fields types u) refl vs le (subst (λ n. fields_belong (asks types vs) nu rs (fields types n) ≡ true) same p.1))

    pub union_fits : (i k : ℕ) (v : Value) → size v ≤ d → (nat_eq i u && payload_belongs (belongs types v) nu rs (payload types i k)) ≡ true
        → form_fits types (fitting (V.Union i k v)) (Z.Named u zs ss) ≡ true
    union_fits i k v le h =
        let p = and_parts (nat_eq i u) (payload_belongs (belongs types v) nu rs (payload types i k)) h in
        let same : i ≡ u = (Decides-eqb i u).0 p.0 in
        two (nat_eq i u) (has_sizes types v (payload_of types zs ss (payload types i k))) p.0
        (ap (λ n. has_sizes types v (payload_of types zs ss (payload types n k))) same
        ∙ payload_fits (payload types u k) k refl v le (subst (λ n. payload_belongs (belongs types v) nu rs (payload types n k) ≡ true) same p.1))

-- ---- the numbers of a named type's arguments are those of its variables

module _ (types : Types) (of : ℕ → Constant) (nu : Assignment) (stands : Stands of nu.int) (u n : ℕ) where
  argument_stands : (a : Index) (args : List Index) (z : ℤ) → is_exact_index of a ≡ true → integer_of (index_under of a) ≡ z
      → number nu (number_at (a ∷ args) 0) ≡ z
  argument_stands (N.Number t) args z h e =
      let k = exact_value of t h in
      number_stands of nu stands t k.0 k.1 ∙ sym (ap integer_of (number_constant_is of t k.0 k.1)) ∙ e
  argument_stands (N.Truth c) args z h e = no h

  one_stands : (b : Bool) (a : Index) (args : List Index) (z : ℤ) → only_if b (is_exact_index of a) ≡ true
      → number_in (open_of (number_where b (index_under of a))) ≡ Some z → number nu (number_at (a ∷ args) 0) ≡ z
  one_stands true a args z h e = argument_stands a args z h (cc e)
  one_stands false a args z h e = none e

  numbers_stand : (k : ℕ) (args : List Index) → are_exact types of u n k args ≡ true → (i : ℕ) (z : ℤ)
      → number_in (argument_of (map open_of (numbers_from types u n k (map (index_under of) args))) i) ≡ Some z → number nu (number_at args i) ≡ z
  numbers_stand k [] h i z e = number_constant nu (pos 0) ∙ cc e
  numbers_stand k (a ∷ args) h zero z e =
      one_stands (hangs_on types u n k) a args z
      (and_parts (only_if (hangs_on types u n k) (is_exact_index of a)) (are_exact types of u n (suc k) args) h).0 e
  numbers_stand k (a ∷ args) h (suc i) z e =
      numbers_stand (suc k) args (and_parts (only_if (hangs_on types u n k) (is_exact_index of a)) (are_exact types of u n (suc k) args) h).1 i z e

pub fields_stand : (types : Types) (of : ℕ → Constant) (nu : Assignment) → Stands of nu.int → (u : ℕ) (args : List Index)
    → are_exact types of u (length args) 0 args ≡ true → Stands (argument_of (field_constants types of u args)) (assigned nu args).int
fields_stand types of nu stands u args h i z e =
    numbers_stand types of nu stands u (length args) 0 args h i z
    (subst (λ n. number_in (argument_of (map open_of (numbers_from types u n 0 (map (index_under of) args))) i) ≡ Some z)
    (length-map args (index_under of)) e)

-- ---- named types that are read

-- the same one
applied_same : (a b : Applied) → is_applied a b ≡ true → a ≡ b
applied_same a b h =
    let p = and_parts (nat_eq a.place b.place) (nat_eq a.count b.count && numbers_eq a.numbers b.numbers) h in
    let q = and_parts (nat_eq a.count b.count) (numbers_eq a.numbers b.numbers) p.1 in
    let place : a.place ≡ b.place = (Decides-eqb a.place b.place).0 p.0 in
    let count : a.count ≡ b.count = (Decides-eqb a.count b.count).0 q.0 in
    let numbers : a.numbers ≡ b.numbers = numbers_same a.numbers b.numbers q.1 in
    λ j. record { place = place j; count = count j; numbers = numbers j }

module _ (types : Types) where
  -- the fields and payloads of one pass where it and these before it are read
  pub record FieldsPass (a : Applied) (seen : List Applied) : Type 0 where
    pub depth : ℕ
    pub pass : all_pass (typ_passes types depth) (field_types (fields_of types a.place)) (a ∷ seen) a.count (constants_in a) ≡ true

  abbrev pub AreRead : List Applied → Type 0
  AreRead [] = Unit {0}
  AreRead (a ∷ seen) = FieldsPass a seen × AreRead seen

  pub record IsRead (a : Applied) : Type 0 where
    pub before : List Applied
    pub fields : FieldsPass a before
    pub are_read : AreRead before

  seen_read : (a : Applied) (seen : List Applied) → was_seen a seen ≡ true → AreRead seen → IsRead a
  seen_read a [] h r = no h
  seen_read a (b ∷ seen) h r = by (is_applied a b) refl h (λ g. seen_read a seen g r.1)
    where
      by : (q : Bool) → is_applied a b ≡ q → (q || was_seen a seen) ≡ true → (was_seen a seen ≡ true → IsRead a) → IsRead a
      by true e g more = subst (λ (c : Applied). IsRead c) (sym (applied_same a b e)) (record { before = seen; fields = r.0; are_read = r.1 })
      by false e g more = more g

  -- one that is met is read, or read before
  pub met_read : (depth : ℕ) (a : Applied) (seen : List Applied) → AreRead seen → fields_pass types (typ_passes types depth) a seen ≡ true → IsRead a
  met_read depth a seen r h = by (was_seen a seen) refl h
    where
      by : (q : Bool) → was_seen a seen ≡ q
          → (q || all_pass (typ_passes types depth) (field_types (fields_of types a.place)) (a ∷ seen) a.count (constants_in a)) ≡ true → IsRead a
      by true e g = seen_read a seen e r
      by false e g = record { before = seen; fields = record { depth = depth; pass = g }; are_read = r }

-- ---- types

-- a value counts itself
one_at_least : (w : Value-F Value) → 1 ≤ form_size (sizes w)
one_at_least V.Unit = omega arith
one_at_least (V.Integer z) = omega arith
one_at_least (V.Truth b) = omega arith
one_at_least (V.Bit b) = omega arith
one_at_least (V.Bits bits) = omega arith
one_at_least (V.String text) = omega arith
one_at_least (V.Member u k) = omega arith
one_at_least (V.Tuple vs) = omega arith
one_at_least (V.List vs) = omega arith
one_at_least (V.Vector vs) = omega arith
one_at_least (V.Struct u vs) = omega arith
one_at_least (V.Union u k v) = omega arith

module _ (types : Types) where
  -- what Type variables stand for; by values that aren't larger than d
  abbrev pub Answers : ℕ → Closeds → List Sized → Type 0
  Answers n rs ss = (i : ℕ) → is_one_of i n ≡ true → (v : Value) → answer types v rs i ≡ true → has_sizes types v (sized_at ss i) ≡ true

  abbrev pub Few : ℕ → ℕ → Closeds → List Sized → Type 0
  Few d n rs ss = (i : ℕ) → is_one_of i n ≡ true → (v : Value) → size v ≤ d → answer types v rs i ≡ true → has_sizes types v (sized_at ss i) ≡ true

  fewer : (d n : ℕ) (rs : Closeds) (ss : List Sized) → Few (suc d) n rs ss → Few d n rs ss
  fewer d n rs ss few i o v le h = few i o v (omega arith) h

  abbrev pub TypFits : ℕ → (Typ → Test) → Type 0
  TypFits d test = (t : Typ) (seen : List Applied) (n : ℕ) (cs : List Constant) (ss : List Sized) (nu : Assignment) (rs : Closeds) → AreRead types seen
      → test t seen n cs ≡ true → Stands (argument_of cs) nu.int → Few d n rs ss → (v : Value) → size v ≤ d → belongs types v (reading t nu rs) ≡ true
      → has_sizes types v (typ_sized types ss t cs) ≡ true

  under_stands : (name : List ℕ) (cs : List Constant) (nu : Assignment) (z : ℤ) → Stands (argument_of cs) nu.int
      → Stands (argument_of (C.Bound name ∷ cs)) (under z nu).int
  under_stands name cs nu z stands zero y h = none h
  under_stands name cs nu z stands (suc i) y h = stands i y h

  inside_exists : (given : Option Given) (nu : Assignment) (c : Con) (t : Inner) → given_belongs given nu c t ≡ true → (z : ℤ) × (t (under z nu) ≡ true)
  inside_exists (Some (an_int z)) nu c t h = (z, (and_parts (true_in (under z nu) c) (t (under z nu)) h).1)
  inside_exists (Some (a_bool b)) nu c t h = no h
  inside_exists None nu c t h = no h

  -- the constants under which the fields of a named type pass, and its Type arguments
  module _ (d depth : ℕ) (fits : TypFits d (typ_passes types depth)) where
    pub field_fits : (of : ℕ → Constant) (nu : Assignment) → Stands of nu.int → (u : ℕ) (args : List Index) (n : ℕ) (ss : List Sized) (rs : Closeds)
        → are_exact types of u (length args) 0 args ≡ true → Few d n rs ss → (seen : List Applied) → AreRead types seen → (t : Typ)
        → typ_passes types depth t seen n (constants_in (applied_at types of u args n)) ≡ true → (v : Value) → size v ≤ d
        → belongs types v (reading t (assigned nu args) rs) ≡ true
        → has_sizes types v (typ_sized types ss t (map constant_of (named_numbers types u (map (index_under of) args)))) ≡ true
    field_fits of nu stands u args n ss rs exact few seen read t pass v le h =
        let zs = named_numbers types u (map (index_under of) args) in
        subst (λ (s : Sized). has_sizes types v s ≡ true)
        (typ_same types ss depth t seen n (map open_of zs) (map constant_of zs) (open_grows zs) pass)
        (fits t seen n (map open_of zs) ss (assigned nu args) rs read pass (fields_stand types of nu stands u args exact) few v le h)

  module _ (d : ℕ) (test : Typ → Test) (fits : TypFits d test) (seen : List Applied) (read : AreRead types seen) (n : ℕ) (cs : List Constant)
      (ss : List Sized) (nu : Assignment) (rs : Closeds) (stands : Stands (argument_of cs) nu.int) (few : Few d n rs ss) where
    abbrev sized : Typ → Sized
    sized t = typ_sized types ss t cs

    abbrev part : Value-F Value → Typ → Inner
    part w t = inner types w rs t

    size_is_number : (t : Num) → is_exact (argument_of cs) t ≡ true → number nu t ≡ integer_of (constant_under (argument_of cs) t)
    size_is_number t h =
        let k = exact_value (argument_of cs) t h in
        number_stands (argument_of cs) nu stands t k.0 k.1 ∙ sym (ap integer_of (number_constant_is (argument_of cs) t k.0 k.1))

    each_fit : (w : Value-F Value) (ts : List Typ) → all_pass test ts seen n cs ≡ true → (vs : List Value) → total (map size vs) ≤ d
        → each_belongs (asks types vs) nu rs (inner_types (map (λ t. (t, part w t)) ts)) ≡ true
        → each_fits (map (has_sizes types) vs) (each_sized (map (typ_sized types ss) ts) cs) ≡ true
    each_fit w [] p [] le h = refl
    each_fit w [] p (v ∷ vs) le h = no h
    each_fit w (t ∷ ts) p [] le h = no h
    each_fit w (t ∷ ts) p (v ∷ vs) le h =
        let l : size v + total (map size vs) ≤ d = le in
        let q = and_parts (test t seen n cs) (all_pass test ts seen n cs) p in
        let k = and_parts (belongs types v (reading t nu rs)) (each_belongs (asks types vs) nu rs (inner_types (map (λ t. (t, part w t)) ts))) h in
        two (has_sizes types v (sized t)) (each_fits (map (has_sizes types) vs) (each_sized (map (typ_sized types ss) ts) cs))
        (fits t seen n cs ss nu rs read q.0 stands few v (omega arith) k.0) (each_fit w ts q.1 vs (omega arith) k.1)

    each_answers : (ts : List Typ) → all_pass test ts seen n cs ≡ true → Few d (length ts) (read_each nu rs ts) (each_sized (map (typ_sized types ss) ts) cs)
    each_answers [] p i h v le a = no h
    each_answers (t ∷ ts) p zero h v le a =
        fits t seen n cs ss nu rs read (and_parts (test t seen n cs) (all_pass test ts seen n cs) p).0 stands few v le
        (belongs_out types v (reading t nu rs) ∙ a)
    each_answers (t ∷ ts) p (suc i) h v le a = each_answers ts (and_parts (test t seen n cs) (all_pass test ts seen n cs) p).1 i h v le a

    -- ---- forms of values that aren't larger than d but for one more

    unit_form : (w : Value-F Value) → form_asked types w T.Unit nu rs ≡ true → form_fits types (fitting types w) Z.Unit ≡ true
    unit_form V.Unit h = refl
    unit_form w h = no h

    bool_form : (w : Value-F Value) → form_asked types w T.Bool nu rs ≡ true → form_fits types (fitting types w) Z.Bool ≡ true
    bool_form (V.Truth b) h = refl
    bool_form w h = no h

    truth_form : (c : Con) (w : Value-F Value) → form_asked types w (T.Truth c) nu rs ≡ true → form_fits types (fitting types w) Z.Bool ≡ true
    truth_form c (V.Truth b) h = refl
    truth_form c w h = no h

    bit_form : (w : Value-F Value) → form_asked types w T.Bit nu rs ≡ true → form_fits types (fitting types w) Z.Bit ≡ true
    bit_form (V.Bit b) h = refl
    bit_form w h = no h

    bits_form : (t : Num) → is_exact (argument_of cs) t ≡ true → (w : Value-F Value) → form_asked types w (T.Bits t) nu rs ≡ true
        → form_fits types (fitting types w) (Z.Bits (integer_of (constant_under (argument_of cs) t))) ≡ true
    bits_form t p (V.Bits bits) h = bits_fit types (number nu t) (integer_of (constant_under (argument_of cs) t)) (size_is_number t p) bits h
    bits_form t p w h = no h

    int_form : (t : Num) (w : Value-F Value) → form_asked types w (T.Int t) nu rs ≡ true → form_fits types (fitting types w) Z.Int ≡ true
    int_form t (V.Integer z) h = (and_parts (int_eq z (number nu t)) (is_small z) h).1
    int_form t w h = no h

    range_form : (t u : Num) (w : Value-F Value) → form_asked types w (T.Range t u) nu rs ≡ true → form_fits types (fitting types w) Z.Int ≡ true
    range_form t u (V.Integer z) h = (and_parts (int_le (number nu t) z && int_le z (number nu u)) (is_small z) h).1
    range_form t u w h = no h

    string_form : (w : Value-F Value) → form_asked types w T.String nu rs ≡ true → form_fits types (fitting types w) Z.String ≡ true
    string_form (V.String text) h = refl
    string_form w h = no h

    list_form : (t : Typ) → test t seen n cs ≡ true → (w : Value-F Value) → form_size (sizes w) ≤ suc d → form_asked types w (T.List t) nu rs ≡ true
        → form_fits types (fitting types w) (Z.List (sized t)) ≡ true
    list_form t p (V.List vs) le h =
        let l : suc (total (map size vs)) ≤ suc d = le in
        asked_fit types d (reading t nu rs) (sized t) (λ v small k. fits t seen n cs ss nu rs read p stands few v small k) vs (omega arith) h
    list_form t p w le h = no h

    vector_form : (m : Num) (t : Typ) → is_exact (argument_of cs) m ≡ true → test t seen n cs ≡ true → (w : Value-F Value)
        → form_size (sizes w) ≤ suc d → form_asked types w (T.Vector m t) nu rs ≡ true
        → form_fits types (fitting types w) (Z.Vector (integer_of (constant_under (argument_of cs) m)) (sized t)) ≡ true
    vector_form m t e p (V.Vector vs) le h =
        let all : suc (total (map size vs)) ≤ suc d = le in
        let k = and_parts (int_eq (pos (length (asks types vs))) (number nu m) && is_length (length (asks types vs))) _ h in
        let l = and_parts (int_eq (pos (length (asks types vs))) (number nu m)) (is_length (length (asks types vs))) k.0 in
        vector_fits types vs (sized t) (number nu m) (integer_of (constant_under (argument_of cs) m)) (size_is_number m e)
        (subst (λ c. int_eq (pos c) (number nu m) ≡ true) (length-map vs (λ v. (v, belongs types v))) l.0)
        (asked_fit types d (reading t nu rs) (sized t) (λ v small a. fits t seen n cs ss nu rs read p stands few v small a) vs (omega arith) k.1)
    vector_form m t e p w le h = no h

    tuple_form : (ts : List Typ) → all_pass test ts seen n cs ≡ true → (w : Value-F Value) → form_size (sizes w) ≤ suc d
        → form_asked types w (T.Tuple ts) nu rs ≡ true
        → form_fits types (fitting types w) (Z.Tuple (each_sized (map (typ_sized types ss) ts) cs)) ≡ true
    tuple_form ts p (V.Tuple vs) le h =
        let l : suc (total (map size vs)) ≤ suc d = le in
        each_fit (V.Tuple vs) ts p vs (omega arith) h
    tuple_form ts p w le h = no h

  -- ---- named types

  module _ (d : ℕ) (all_fits : (depth : ℕ) → TypFits d (typ_passes types depth)) (depth : ℕ) (seen : List Applied) (read : AreRead types seen) (n : ℕ)
      (cs : List Constant) (ss : List Sized) (nu : Assignment) (rs : Closeds) (stands : Stands (argument_of cs) nu.int) (few : Few d n rs ss) (u : ℕ)
      (args : List Index) (ts : List Typ) (passed : all_pass (typ_passes types depth) ts seen n cs ≡ true)
      (exact : are_exact types (argument_of cs) u (length args) 0 args ≡ true)
      (it : IsRead types (applied_at types (argument_of cs) u args (length ts))) where
    abbrev zs : List (Option ℤ)
    zs = named_numbers types u (map (index_under (argument_of cs)) args)

    abbrev qs : List Sized
    qs = each_sized (map (typ_sized types ss) ts) cs

    abbrev applied : Applied
    applied = applied_at types (argument_of cs) u args (length ts)

    abbrev around : List Applied
    around = applied ∷ it.before

    abbrev passes : Typ → Bool
    passes t = typ_passes types it.fields.depth t around (length ts) (constants_in applied)

    one_fits : (t : Typ) → passes t ≡ true → (v : Value) → size v ≤ d → belongs types v (reading t (assigned nu args) (read_each nu rs ts)) ≡ true
        → has_sizes types v (typ_sized types qs t (map constant_of zs)) ≡ true
    one_fits t k v le b =
        field_fits d it.fields.depth (all_fits it.fields.depth) (argument_of cs) nu stands u args (length ts) qs (read_each nu rs ts) exact
        (each_answers d (typ_passes types depth) (all_fits depth) seen read n cs ss nu rs stands few ts passed) around (it.fields, it.are_read) t k v le b

    named_form : (w : Value-F Value) → form_size (sizes w) ≤ suc d → form_asked types w (T.Named u args ts) nu rs ≡ true
        → form_fits types (fitting types w) (Z.Named u zs qs) ≡ true
    named_form (V.Member i k) le h = h
    named_form (V.Struct i vs) le h =
        let l : suc (total (map size vs)) ≤ suc d = le in
        struct_fits types d u zs qs (assigned nu args) (read_each nu rs ts) passes one_fits it.fields.pass i vs (omega arith)
        (subst (λ (us : List Typ). (nat_eq i u && fields_belong (asks types vs) (assigned nu args) (read_each nu rs us) (fields types i)) ≡ true)
        (fronts (inner types (V.Struct i vs) rs) ts) h)
    named_form (V.Union i k v) le h =
        let l : suc (size v) ≤ suc d = le in
        union_fits types d u zs qs (assigned nu args) (read_each nu rs ts) passes one_fits it.fields.pass i k v (omega arith)
        (subst (λ (us : List Typ). (nat_eq i u && payload_belongs (belongs types v) (assigned nu args) (read_each nu rs us) (payload types i k)) ≡ true)
        (fronts (inner types (V.Union i k v) rs) ts) h)
    named_form w le h = no h

  -- ---- all of them, of one more

  module _ (d : ℕ) (all_fits : (depth : ℕ) → TypFits d (typ_passes types depth)) (depth : ℕ) (same : TypFits (suc d) (typ_passes types depth))
      (seen : List Applied) (read : AreRead types seen) (n : ℕ) (cs : List Constant) (ss : List Sized) (nu : Assignment) (rs : Closeds)
      (stands : Stands (argument_of cs) nu.int) (few : Few (suc d) n rs ss) where
    less : Few d n rs ss
    less = fewer d n rs ss few

    form_fit : (x : Typ-F Typ) → form_passes types (typ_passes types depth) x seen n cs ≡ true → (v : Value) → size v ≤ suc d
        → form_size (sizes (out-Value v)) ≤ suc d → form_asked types (out-Value v) x nu rs ≡ true
        → has_sizes types v (form_sized types ss (sized_in types ss x) cs) ≡ true
    form_fit T.Unit p v le small h =
        fits_as types v S.Unit Z.Unit S.rolls-Unit (unit_form d (typ_passes types depth) (all_fits depth) seen read n cs ss nu rs stands less (out-Value v) h)
    form_fit T.Bool p v le small h =
        fits_as types v S.Bool Z.Bool S.rolls-Bool (bool_form d (typ_passes types depth) (all_fits depth) seen read n cs ss nu rs stands less (out-Value v) h)
    form_fit (T.Truth c) p v le small h =
        fits_as types v S.Bool Z.Bool S.rolls-Bool
        (truth_form d (typ_passes types depth) (all_fits depth) seen read n cs ss nu rs stands less c (out-Value v) h)
    form_fit T.Bit p v le small h =
        fits_as types v S.Bit Z.Bit S.rolls-Bit (bit_form d (typ_passes types depth) (all_fits depth) seen read n cs ss nu rs stands less (out-Value v) h)
    form_fit (T.Bits t) p v le small h =
        let z = integer_of (constant_under (argument_of cs) t) in
        fits_as types v (S.Bits z) (Z.Bits z) (S.rolls-Bits z)
        (bits_form d (typ_passes types depth) (all_fits depth) seen read n cs ss nu rs stands less t p (out-Value v) h)
    form_fit (T.Int t) p v le small h =
        fits_as types v S.Int Z.Int S.rolls-Int (int_form d (typ_passes types depth) (all_fits depth) seen read n cs ss nu rs stands less t (out-Value v) h)
    form_fit (T.Range t u) p v le small h =
        fits_as types v S.Int Z.Int S.rolls-Int (range_form d (typ_passes types depth) (all_fits depth) seen read n cs ss nu rs stands less t u (out-Value v) h)
    form_fit T.String p v le small h =
        fits_as types v S.String Z.String S.rolls-String
        (string_form d (typ_passes types depth) (all_fits depth) seen read n cs ss nu rs stands less (out-Value v) h)
    form_fit (T.List t) p v le small h =
        let s = typ_sized types ss t cs in
        fits_as types v (S.List s) (Z.List s) (S.rolls-List s)
        (list_form d (typ_passes types depth) (all_fits depth) seen read n cs ss nu rs stands less t p (out-Value v) small h)
    form_fit (T.Vector m t) p v le small h =
        let s = typ_sized types ss t cs in
        let z = integer_of (constant_under (argument_of cs) m) in
        let k = and_parts (is_exact (argument_of cs) m) (typ_passes types depth t seen n cs) p in
        fits_as types v (S.Vector z s) (Z.Vector z s) (S.rolls-Vector z s)
        (vector_form d (typ_passes types depth) (all_fits depth) seen read n cs ss nu rs stands less m t k.0 k.1 (out-Value v) small h)
    form_fit (T.Tuple ts) p v le small h =
        let qs = each_sized (map (typ_sized types ss) ts) cs in
        fits_as types v (S.Tuple qs) (Z.Tuple qs) (S.rolls-Tuple qs)
        (tuple_form d (typ_passes types depth) (all_fits depth) seen read n cs ss nu rs stands less ts p (out-Value v) small h)
    form_fit (T.Named u args ts) p v le small h =
        let ms = named_numbers types u (map (index_under (argument_of cs)) args) in
        let ps = each_sized (map (typ_sized types ss) ts) cs in
        let it = applied_at types (argument_of cs) u args (length ts) in
        let k = and_parts (all_pass (typ_passes types depth) ts seen n cs)
        (named_passes types (typ_passes types depth) (argument_of cs) u args (length ts) seen) p in
        let l = and_parts (are_exact types (argument_of cs) u (length args) 0 args) (fields_pass types (typ_passes types depth) it seen) k.1 in
        fits_as types v (S.Named u ms ps) (Z.Named u ms ps) (S.rolls-Named u ms ps)
        (named_form d all_fits depth seen read n cs ss nu rs stands less u args ts k.0 l.0 (met_read types depth it seen read l.1) (out-Value v) small h)
    form_fit (T.Variable i) p v le small h = few i p v le h
    form_fit (T.Exists name c t) p v le small h =
        let given = placed t 0 (roll-Value (map-Value (Value × Asked) Value (λ p. p.0) (questions types (out-Value v)))) in
        let k = inside_exists given nu c (inner types (out-Value v) rs t) h in
        same t seen n (C.Bound name ∷ cs) ss (under k.0 nu) rs read p (under_stands name cs nu k.0 stands) few v le
        (sym (inner_is types v t (under k.0 nu) rs) ∙ k.1)

  one_more : (d : ℕ) → ((depth : ℕ) → TypFits d (typ_passes types depth)) → (depth : ℕ) → TypFits (suc d) (typ_passes types depth)
  one_more d all_fits zero t seen n cs ss nu rs read p stands few v le h = no p
  one_more d all_fits (suc depth) t seen n cs ss nu rs read p stands few v le h =
      ap (has_sizes types v) (sized_form types ss t cs)
      ∙ form_fit d all_fits depth (one_more d all_fits depth) seen read n cs ss nu rs stands few (out-Typ t) p v le
      (subst (λ (k : ℕ). k ≤ suc d) (size_is v) le) (sym (belongs_form types v (out-Typ t) t nu rs (roll-out-Typ t)) ∙ h)

  none_left : (v : Value) → size v ≤ 0 → ⊥
  none_left v le =
      let some : 1 ≤ form_size (sizes (out-Value v)) = one_at_least (out-Value v) in
      let same : size v ≡ form_size (sizes (out-Value v)) = size_is v in
      omega (arith, le, some, same)

  pub few_fit : (d depth : ℕ) → TypFits d (typ_passes types depth)
  few_fit zero depth t seen n cs ss nu rs read p stands few v le h = absurd (none_left v le)
  few_fit (suc d) depth t seen n cs ss nu rs read p stands few v le h =
      one_more d (few_fit d) depth t seen n cs ss nu rs read p stands few v le h

  -- whatever the value
  pub typ_fits : (depth : ℕ) (t : Typ) (seen : List Applied) (n : ℕ) (cs : List Constant) (ss : List Sized) (nu : Assignment) (rs : Closeds)
      → AreRead types seen → typ_passes types depth t seen n cs ≡ true → Stands (argument_of cs) nu.int → Answers n rs ss → (v : Value)
      → belongs types v (reading t nu rs) ≡ true → has_sizes types v (typ_sized types ss t cs) ≡ true
  typ_fits depth t seen n cs ss nu rs read p stands answers v h =
      few_fit (size v) depth t seen n cs ss nu rs read p stands (λ i o w le a. answers i o w a) v (omega arith) h
