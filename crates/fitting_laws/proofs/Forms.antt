-- Where what `fits` asks is true, a value that has the indices belongs to the type: form by form.
use Rattle.std.proofs.Common.{◌≡◌, ℕ, zero, suc, ◌≤◌, ◌<◌, nat_eq, nat_lt, int_le, Bool, true, false, List, [], ◌∷◌, map, length, slice_get}
use Rattle.std.proofs.Common.{Option, Some, None, option_map, if◌then◌else◌, refl, sym, ap, ◌∙◌, subst, arith}
use Rattle.std.proofs.lemmas.Bool.{and_parts, ltb-true}
use Rattle.std.proofs.lemmas.Bool.Decides.{Decides-eqb}
use Rattle.sail_types.specs.Belongs.{Reading as Closed, Readings as Closeds, reading, assigned, under, each_belongs, fields_belong}
use Rattle.sail_types.specs.Belongs.{given_belongs, payload_belongs, belongs}
use Rattle.sail_types.specs.Named.{fields, field_types, members, payload, in_form, form_fields, form_members, form_constructors, constructors, typ_of}
use Rattle.sail_types.specs.Numbers.{Assignment, Positive, number, true_in}
use Rattle.sail_types.specs.Places.{an_int}
use Rattle.sail_types.specs.Places as Of
use Rattle.sail_types.specs.Readings.{read_con, read_indices}
use Rattle.sail_types.specs.Sums.{read}
use Rattle.sail_types.specs.declared.numbers.Con.{Con}
use Rattle.sail_types.specs.declared.numbers.Index.{Index}
use Rattle.sail_types.specs.declared.numbers.Index.TheVariants as N
use Rattle.sail_types.specs.declared.table.Definition.{Definition}
use Rattle.sail_types.specs.declared.table.Field.{Field}
use Rattle.sail_types.specs.declared.table.Form.{Form}
use Rattle.sail_types.specs.declared.table.Form.TheVariants as K
use Rattle.sail_types.specs.declared.table.Types.{Types}
use Rattle.sail_types.specs.declared.types.Typ.{Typ, Typ-F, roll-Typ}
use Rattle.sail_types.specs.declared.types.Typ.TheFolds.{map-Typ}
use Rattle.sail_types.specs.declared.types.Typ.TheOpen as T
use Rattle.sail_types.specs.declared.values.Value.{Value, Value-F, out-Value}
use Rattle.sail_types.specs.declared.values.Value.TheOpen as V
use Rattle.value_indices.specs.declared.indices.Indices.{Indices, out-Indices}
use Rattle.value_indices.specs.declared.indices.Indices.TheOpen as W
use Rattle.value_indices.specs.declared.indices.Indices.TheOpen.{Indices-F, Reading-F}
use Rattle.value_indices.specs.declared.indices.Naming.TheVariants as M
use Rattle.value_indices.specs.declared.indices.Reading.{Reading, out-Reading}
use Rattle.value_indices.specs.declared.indices.Reading.TheVariants as R
use Rattle.value_indices.specs.Opening.{opened}
use Rattle.value_fits.specs.Fitting.{Fit, says, also, never, each_pair, number_fits, truth_fits, in_range, item_fits, argument_fits, arguments_fit}
use Rattle.value_fits.specs.Fitting.{indices_fit, field_fits, fields_fit, types_of_fields, named_fits, same_named, bound_fits, own_variable}
use Rattle.value_fits.specs.Fitting.{variable_fits, each_under, typed_fits, form_fits, named_form, typ_fits}
use Rattle.value_fits.specs.Fitting as In
use Rattle.call_arguments.specs.Holes.{has_hole}
use Rattle.value_laws.specs.Belonging.{Integers, standing, closeds, or_no_value, Meant, types_or_own, form_holds, meant, closed, is_of}
use Rattle.value_laws.specs.Known.{Point, Agree, Later}
use Rattle.value_laws.proofs.Alike.{asks}
use Rattle.value_laws.proofs.Arguments.{under_these, assigned_as}
use Rattle.value_laws.proofs.Basics.{fronts, no, two}
use Rattle.value_laws.proofs.Numbers.{beyond_past, number_read, truth_read}
use Rattle.value_laws.proofs.Opening.{stood, stood_same, closed_of, closeds_of, cons_same, found_answer, free_answer, opening_sound}
use Rattle.value_laws.proofs.Steps.{same, agree_on, later_on}
use Rattle.value_laws.proofs.Values.{inner, form_asked, belongs_out, belongs_form, inner_is, answer}
use Rattle.fitting_laws.specs.Fitting.{Suffices}
use Rattle.fitting_laws.proofs.Counted.{FitCounts, item_counts}
use Rattle.fitting_laws.proofs.Holes.{Full, each_full, first_full, full_at, none, of_full}
use Rattle.fitting_laws.proofs.Joining.{also_suffice, known_then, never_suffices, premise_ends, premise_suffices, says_so, suffice_as}
use Rattle.fitting_laws.proofs.Joining.{true_both}
use Rattle.fitting_laws.proofs.Leaves.{bit_into, bits_into, bool_into, bound_said, con_said, indices_said, integer_into, list_into, named_into}
use Rattle.fitting_laws.proofs.Leaves.{number_said, range_into, string_into, truth_into, truth_said, unit_into, vector_into}
use Rattle.fitting_laws.proofs.Places.{EachPlaced, PlacedAs, among_same, bits_placed, given_there, index_placed, integer_placed, truth_placed, value_placed}
use Rattle.fitting_laws.proofs.Places.{vector_placed}
use Rattle.fitting_laws.proofs.Standing.{Always, ArgumentsStay, EachHad, Had, HadForm, Stays, StaysUnder, arguments_later, arguments_under, back, each_had}
use Rattle.fitting_laws.proofs.Standing.{each_later, had_form, had_later, list_stays, named_stays, number_stays, of_stays, out_of, read_assigned, read_stays}
use Rattle.fitting_laws.proofs.Standing.{stays_later, tuple_stays, under_number, vector_stays, wide_at}
use Rattle.fitting_laws.proofs.Within.{AllWithin, belongs_within}

-- ---- a struct has no members and no constructors

form_struct : (form : Form) (fs : List Field) → form_fields form ≡ Some fs → (form_members form ≡ []) × (form_constructors form ≡ [])
form_struct (K.Struct gs) fs e = (refl, refl)
form_struct (K.Union gs) fs e = none e
form_struct (K.Enum ms) fs e = none e

in_struct : (o : Option Definition) (fs : List Field) → in_form None form_fields o ≡ Some fs
    → (in_form [] form_members o ≡ []) × (in_form [] form_constructors o ≡ [])
in_struct None fs e = none e
in_struct (Some definition) fs e = form_struct definition.form fs e

struct_alone : (types : Types) (u : ℕ) (fs : List Field) → fields types u ≡ Some fs → (members types u ≡ []) × (constructors types u ≡ [])
struct_alone types u fs e = in_struct (slice_get types.definitions u) fs e

no_less : {A : Type 0} (k : ℕ) → nat_lt k 0 ≡ true → A
no_less k h = absurd (let l : k < 0 = ltb-true k 0 h in omega arith)

module _ (types : Types) (past : Positive) (own : List Closed) where
  abbrev there : Integers → Assignment
  there g = standing past g

  abbrev pub type_of : Integers → Reading → Closed
  type_of g r = closed types (there g) own r

  abbrev pub types_of : Integers → List Reading → List Closed
  types_of g rs = map (closed types (there g) own) rs

  abbrev stand : Integers → List Reading → Closeds
  stand g rs = stood types past own rs g

  -- the number that indices give to a bound variable is the one that the value gives
  abbrev pub ReadPlaced : Integers → Reading-F Indices Reading → Indices → Value → Type 0
  ReadPlaced g (W.Of t is rs) i v = PlacedAs (there g) t i v
  ReadPlaced g r i v = Unit {0}

  abbrev pub Fits : Reading → Indices → Value → Integers → Type 0
  Fits r i v g = (is_of types (there g) own r v ≡ true) × ReadPlaced g (out-Reading r) i v

  abbrev pub FitGoes : Fit → Type 0
  FitGoes fit = (i : Indices) (r : Reading) (n : ℕ) (f : Point n) (v : Value) → has_hole r ≡ false → Had types past own f i v
      → Stays types past own f r → Suffices past n f (fit i r n) (Fits r i v)

  -- ---- values of Type variables

  -- each value of the one is a value of the other
  abbrev pub Within : Integers → Reading → Reading → Type 0
  Within g r q = (x : Value) → is_of types (there g) own r x ≡ true → is_of types (there g) own q x ≡ true

  abbrev pub EachWithin : Integers → List Reading → List Reading → Type 0
  EachWithin g [] [] = Unit {0}
  EachWithin g (r ∷ rs) (q ∷ qs) = Within g r q × EachWithin g rs qs
  EachWithin g rs qs = ⊥

  pub each_answer : (g : Integers) (rs qs : List Reading) → EachWithin g rs qs → AllWithin types (closeds (types_of g rs)) (closeds (types_of g qs))
  each_answer g [] [] h i w b = b
  each_answer g [] (q ∷ qs) h i w b = absurd h
  each_answer g (r ∷ rs) [] h i w b = absurd h
  each_answer g (r ∷ rs) (q ∷ qs) h zero w b = sym (belongs_out types w (type_of g q)) ∙ h.0 w (belongs_out types w (type_of g r) ∙ b)
  each_answer g (r ∷ rs) (q ∷ qs) h (suc i) w b = each_answer g rs qs h.1 i w b

  -- the Type variables behind these
  pub own_answer : (cs ds : List Closed) → AllWithin types (closeds cs) (closeds (types_or_own cs ds))
  own_answer [] ds i w b = no b
  own_answer (c ∷ cs) [] i w b = b
  own_answer (c ∷ cs) (d ∷ ds) zero w b = b
  own_answer (c ∷ cs) (d ∷ ds) (suc i) w b = own_answer cs ds i w b

  module _ (fit : Fit) (go : FitGoes fit) (counts : FitCounts fit) where
    -- ---- items

    pub item_suffices : (n : ℕ) (f : Point n) (value wanted : Reading) → has_hole wanted ≡ false → Stays types past own f value
        → Stays types past own f wanted → Suffices past n f (item_fits fit value wanted n) (λ g. Within g value wanted)
    unfolding opened
    item_suffices n f value wanted full value_stays wanted_stays =
        let made = opened value [] n in
        let le : n ≤ (fit made.value wanted made.next).next = item_counts types fit counts value wanted n in
        let each : Suffices past n f (item_fits fit value wanted n) (λ g. Within f.integers value wanted) =
        premise_suffices made.facts (fit made.value wanted made.next) le (λ x h.
        let o = opening_sound types past own value false M.Unnamed n f [] x value_stays h in
        let known = o.2.goes in
        let s = go made.value wanted made.next known.point x full
        (λ g a. (
          ap (λ (m : Meant). m.holds x) (known.holds g a) ∙ o.1,
          ap (λ (m : Meant). m.wide) (known.holds g a) ∙ sym (ap (λ (m : Meant). m.wide) (known.holds known.point.integers (same known.point))),
        )) (stays_later types past own f known.point wanted known.later wanted_stays) in
        record {
          point = s.point;
          later = later_on known.later s.later;
          true_there = λ g a.
              true_both (there g) made.facts (fit made.value wanted made.next).facts (known.true_there g (agree_on s.later a) tt) (s.true_there g a);
          suffices = λ p l said.
              ap (belongs types x) (sym (wanted_stays p.integers (agree_on (later_on known.later s.later) (agree_on l (same p)))))
              ∙ (s.suffices p l said p.integers (same p)).0;
        }) in
        suffice_as each (λ g a h x b. ap (belongs types x) (wanted_stays g a) ∙ h x (ap (belongs types x) (sym (value_stays g a)) ∙ b))

    -- the wanted type's, in the value's: nothing is said of it
    other_way : (n : ℕ) (f : Point n) (value wanted : Reading) → Suffices past n f (item_fits fit wanted value n) (λ g. Unit {0})
    other_way n f value wanted =
        let made = opened wanted [] n in premise_ends made.facts (fit made.value value made.next) (item_counts types fit counts wanted value n)

    -- ---- Type arguments

    first_stays : {n : ℕ} (f : Point n) (r : Reading) (rs : List Reading) → Always types past own f (λ g. types_of g (r ∷ rs) ≡ types_of f.integers (r ∷ rs))
        → (g : Integers) → Agree f g → (type_of g r ≡ type_of f.integers r) × (types_of g rs ≡ types_of f.integers rs)
    first_stays f r rs h g a = cons_same types past own (type_of g r) (type_of f.integers r) (types_of g rs) (types_of f.integers rs) (h g a)

    list_later : {n m : ℕ} (f : Point n) (g : Point m) (rs : List Reading) → Later f g
        → Always types past own f (λ k. types_of k rs ≡ types_of f.integers rs) → Always types past own g (λ k. types_of k rs ≡ types_of g.integers rs)
    list_later f g rs a s k b = s k (agree_on a b) ∙ sym (s g.integers (agree_on a (same g)))

    arguments_suffice : (rs qs : List Reading) (n : ℕ) (f : Point n) → Full qs
        → Always types past own f (λ g. types_of g rs ≡ types_of f.integers rs)
        → Always types past own f (λ g. types_of g qs ≡ types_of f.integers qs)
        → Suffices past n f (arguments_fit fit rs qs n) (λ g. EachWithin g rs qs)
    arguments_suffice [] [] n f full s t = says_so [] (λ g a said. tt)
    arguments_suffice [] (q ∷ qs) n f full s t = never_suffices n f (λ g. EachWithin g [] (q ∷ qs))
    arguments_suffice (r ∷ rs) [] n f full s t = never_suffices n f (λ g. EachWithin g (r ∷ rs) [])
    arguments_suffice (r ∷ rs) (q ∷ qs) n f full s t =
        let value = first_stays f r rs s in
        let wanted = first_stays f q qs t in
        let holes = first_full q qs full in
        also_suffice (arguments_fit fit rs qs)
        (suffice_as (also_suffice (item_fits fit q r) (item_suffices n f r q holes.0 (λ g a. (value g a).0) (λ g a. (wanted g a).0))
        (λ g l. other_way (item_fits fit r q n).next g r q)) (λ g a h. h.0))
        (λ g l. arguments_suffice rs qs (argument_fits fit r q n).next g holes.1 (list_later f g rs l (λ k a. (value k a).1))
        (list_later f g qs l (λ k a. (wanted k a).1)))

    -- ---- fields, each opened

    field_suffices : (n : ℕ) (f : Point n) (value wanted : Reading) (v : Value) → has_hole wanted ≡ false → Stays types past own f value
        → Stays types past own f wanted → is_of types (there f.integers) own value v ≡ true
        → Suffices past n f (field_fits fit value wanted n) (λ g. Unit {0})
    unfolding opened
    field_suffices n f value wanted v full value_stays wanted_stays h =
        let made = opened value [] n in
        let o = opening_sound types past own value false M.Unnamed n f [] v value_stays h in
        let known = o.2.goes in
        suffice_as
        (known_then (fit made.value wanted) known (go made.value wanted made.next known.point v full
        (λ g a. (
          ap (λ (m : Meant). m.holds v) (known.holds g a) ∙ o.1,
          ap (λ (m : Meant). m.wide) (known.holds g a) ∙ sym (ap (λ (m : Meant). m.wide) (known.holds known.point.integers (same known.point))),
        )) (stays_later types past own f known.point wanted known.later wanted_stays)))
        (λ g a q. tt)

    fields_suffice : (ts : List Typ) (vs : List Value) (is : List Index) (rs : List Reading) (js : List Index) (qs : List Reading) (n : ℕ) (f : Point n)
        → Full qs → ArgumentsStay types past own f is rs → ArgumentsStay types past own f js qs
        → Always types past own f (λ g. each_belongs (asks types vs) (assigned (there g) is) (closeds (types_of g rs)) ts ≡ true)
        → Suffices past n f (fields_fit fit ts is rs js qs n) (λ g. Unit {0})
    fields_suffice [] vs is rs js qs n f full s t h = says_so [] (λ g a said. tt)
    fields_suffice (u ∷ ts) [] is rs js qs n f full s t h = no (h f.integers (same f))
    fields_suffice (u ∷ ts) (v ∷ vs) is rs js qs n f full s t h =
        let parts : (g : Integers) → Agree f g → (belongs types v (reading u (assigned (there g) is) (closeds (types_of g rs))) ≡ true)
        × (each_belongs (asks types vs) (assigned (there g) is) (closeds (types_of g rs)) ts ≡ true) =
        λ g a. and_parts (belongs types v (reading u (assigned (there g) is) (closeds (types_of g rs)))) _ (h g a) in
        suffice_as (also_suffice (fields_fit fit ts is rs js qs)
        (field_suffices n f (R.Of u is rs) (R.Of u js qs) v (of_full u js qs full)
        (of_stays types past own f is rs u (arguments_under types past own f is rs s))
        (of_stays types past own f js qs u (arguments_under types past own f js qs t))
        (ap (belongs types v) (closed_of types past own rs f.integers u is)
        ∙ belongs_within types v u (assigned (there f.integers) is) (closeds (types_of f.integers rs)) (stand f.integers rs)
        (own_answer (types_of f.integers rs) own) (parts f.integers (same f)).0))
        (λ g l. fields_suffice ts vs is rs js qs (field_fits fit (R.Of u is rs) (R.Of u js qs) n).next g full (arguments_later types past own f g is rs l s)
        (arguments_later types past own f g js qs l t) (λ k a. (parts k (agree_on l a)).1)))
        (λ g a q. tt)

    -- of a struct, where the type in the table is one
    struct_suffices : (u k : ℕ) (o : Option (List Field)) → fields types u ≡ o → u ≡ k → (w : Value-F Value) (is : List Index) (rs : List Reading)
        (js : List Index) (qs : List Reading) (n : ℕ) (f : Point n) → Full qs → ArgumentsStay types past own f is rs → ArgumentsStay types past own f js qs
        → Always types past own f (λ g. form_holds types (there g) own (W.Named k is (types_of g rs)) w ≡ true)
        → Suffices past n f (fields_fit fit (types_of_fields o) is rs js qs n) (λ g. Unit {0})
    struct_suffices u k None e p w is rs js qs n f full s t h = says_so [] (λ g a said. tt)
    struct_suffices u k (Some fs) e p (V.Struct i vs) is rs js qs n f full s t h =
        fields_suffice (field_types fs) vs is rs js qs n f full s t (λ g a.
        let q = and_parts (nat_eq i k) (fields_belong (asks types vs) (assigned (there g) is) (closeds (types_of g rs)) (fields types i)) (h g a) in
        let found : fields types i ≡ Some fs = ap (fields types) ((Decides-eqb i k).0 q.0 ∙ sym p) ∙ e in
        ap (fields_belong (asks types vs) (assigned (there g) is) (closeds (types_of g rs))) (sym found) ∙ q.1)
    struct_suffices u k (Some fs) e p (V.Member i m) is rs js qs n f full s t h =
        let q = and_parts (nat_eq i k) (nat_lt m (length (members types i))) (h f.integers (same f)) in
        let found : fields types i ≡ Some fs = ap (fields types) ((Decides-eqb i k).0 q.0 ∙ sym p) ∙ e in
        no_less m (ap (λ (ms : List (List ℕ)). nat_lt m (length ms)) (sym (struct_alone types i fs found).0) ∙ q.1)
    struct_suffices u k (Some fs) e p (V.Union i m x) is rs js qs n f full s t h =
        let of : Option Typ → Bool = payload_belongs (belongs types x) (assigned (there f.integers) is) (closeds (types_of f.integers rs)) in
        let q = and_parts (nat_eq i k) (of (payload types i m)) (h f.integers (same f)) in
        let found : fields types i ≡ Some fs = ap (fields types) ((Decides-eqb i k).0 q.0 ∙ sym p) ∙ e in
        no (ap (λ (cs : List Field). of (typ_of (slice_get cs m))) (sym (struct_alone types i fs found).1) ∙ q.1)
    struct_suffices u k (Some fs) e p w is rs js qs n f full s t h = no (h f.integers (same f))

    -- ---- named types

    -- the same type of the table, of the same arguments, and of Type arguments with no fewer values
    abbrev pub Matches : ℕ → ℕ → List Index → List Reading → List Index → List Reading → Integers → Type 0
    Matches u k is rs js qs g =
        (u ≡ k) × (assigned (there g) is ≡ assigned (there g) js) × AllWithin types (closeds (types_of g rs)) (closeds (types_of g qs))

    pub named_suffices : (u k : ℕ) (w : Value-F Value) (is : List Index) (rs : List Reading) (js : List Index) (qs : List Reading) (n : ℕ) (f : Point n)
        → Full qs → ArgumentsStay types past own f is rs → ArgumentsStay types past own f js qs
        → Always types past own f (λ g. form_holds types (there g) own (W.Named k is (types_of g rs)) w ≡ true)
        → Suffices past n f (same_named types fit u k is rs js qs n) (Matches u k is rs js qs)
    named_suffices u k w is rs js qs n f full s t h = by (nat_eq u k) refl
      where
        by : (b : Bool) → nat_eq u k ≡ b
            → Suffices past n f (if b then named_fits types fit u is rs js qs n else never n) (Matches u k is rs js qs)
        by false e = never_suffices n f (Matches u k is rs js qs)
        by true e =
            let p : u ≡ k = (Decides-eqb u k).0 e in
            suffice_as (also_suffice (λ m. also (says (indices_fit is js) m) (arguments_fit fit rs qs))
            (struct_suffices u k (fields types u) refl p w is rs js qs n f full s t h)
            (λ g l. also_suffice (arguments_fit fit rs qs) (says_so (indices_fit is js) (λ m a said. said))
            (λ g2 l2. arguments_suffice rs qs (fields_fit fit (types_of_fields (fields types u)) is rs js qs n).next g2 full
            (list_later f g2 rs (later_on l l2) (λ m a. (s m a).1)) (list_later f g2 qs (later_on l l2) (λ m a. (t m a).1)))))
            (λ g a q. (
              p,
              assigned_as (there g) (there g) (λ x y. beyond_past past g x ∙ sym (beyond_past past g y)) js is (indices_said (there g) is js q.1.0),
              each_answer g rs qs q.1.1,
            ))

    -- ---- several, one behind the other

    module _ {B : Type 0} (typed : B → Reading) where
      abbrev pub Wanted : {n : ℕ} → Point n → List B → Type 0
      Wanted f [] = Unit {0}
      Wanted f (b ∷ bs) = ((has_hole (typed b) ≡ false) × Stays types past own f (typed b)) × Wanted f bs

      wanted_later : {n m : ℕ} (f : Point n) (g : Point m) (bs : List B) → Later f g → Wanted f bs → Wanted g bs
      wanted_later f g [] a h = tt
      wanted_later f g (b ∷ bs) a h = ((h.0.0, stays_later types past own f g (typed b) a h.0.1), wanted_later f g bs a h.1)

      abbrev pub EachFits : Integers → List Indices → List B → List Value → Type 0
      EachFits g [] [] [] = Unit {0}
      EachFits g (i ∷ is) (b ∷ bs) (v ∷ vs) = Fits (typed b) i v g × EachFits g is bs vs
      EachFits g is bs vs = ⊥

      pub pairs_suffice : (is : List Indices) (bs : List B) (vs : List Value) (n : ℕ) (f : Point n) → EachHad types past own f is vs → Wanted f bs
          → Suffices past n f (each_pair (λ i b. fit i (typed b)) is bs n) (λ g. EachFits g is bs vs)
      pairs_suffice [] [] [] n f had wanted = says_so [] (λ g a said. tt)
      pairs_suffice [] (b ∷ bs) [] n f had wanted = never_suffices n f (λ g. EachFits g [] (b ∷ bs) [])
      pairs_suffice [] bs (v ∷ vs) n f had wanted = absurd had
      pairs_suffice (i ∷ is) bs [] n f had wanted = absurd had
      pairs_suffice (i ∷ is) [] (v ∷ vs) n f had wanted = never_suffices n f (λ g. EachFits g (i ∷ is) [] (v ∷ vs))
      pairs_suffice (i ∷ is) (b ∷ bs) (v ∷ vs) n f had wanted =
          also_suffice (each_pair (λ j c. fit j (typed c)) is bs) (go i (typed b) n f v wanted.0.0 had.0 wanted.0.1)
          (λ g l. pairs_suffice is bs vs (fit i (typed b) n).next g (each_later types past own f g is vs l had.1) (wanted_later f g bs l wanted.1))

    -- ---- types, under what their variables stand for

    module _ (is : List Index) (rs : List Reading) (full : Full rs) where
      abbrev under_at : Integers → Assignment
      under_at g = under_these past g is

      -- of the form of a type, with the number that is given to a variable
      abbrev FormFits : Typ-F Typ → Indices-F Indices Reading → Value → Integers → Type 0
      FormFits x y v g =
          (form_asked types (out-Value v) x (under_at g) (stand g rs) ≡ true)
          × ((j : ℕ) → option_map (given_there (there g)) (In.form_place (map-Typ Typ In.Placed In.placed x) j y)
          ≡ Of.form_place (map-Typ Typ Of.Placed Of.placed x) j (out-Value v))

      each_belong : (g : Integers) (parts : List Indices) (ts : List Typ) (vs : List Value) → EachFits (λ t. R.Of t is rs) g parts ts vs
          → each_belongs (asks types vs) (under_at g) (stand g rs) ts ≡ true
      each_belong g [] [] [] h = refl
      each_belong g [] [] (v ∷ vs) h = absurd h
      each_belong g [] (t ∷ ts) vs h = absurd h
      each_belong g (i ∷ parts) [] vs h = absurd h
      each_belong g (i ∷ parts) (t ∷ ts) [] h = absurd h
      each_belong g (i ∷ parts) (t ∷ ts) (v ∷ vs) h =
          two (belongs types v (reading t (under_at g) (stand g rs))) (each_belongs (asks types vs) (under_at g) (stand g rs) ts)
          (ap (belongs types v) (sym (closed_of types past own rs g t is)) ∙ h.0.0) (each_belong g parts ts vs h.1)

      each_placed : (g : Integers) (parts : List Indices) (ts : List Typ) (vs : List Value) → EachFits (λ t. R.Of t is rs) g parts ts vs
          → EachPlaced (there g) ts parts vs
      each_placed g [] [] [] h = tt
      each_placed g [] [] (v ∷ vs) h = absurd h
      each_placed g [] (t ∷ ts) vs h = absurd h
      each_placed g (i ∷ parts) [] vs h = absurd h
      each_placed g (i ∷ parts) (t ∷ ts) [] h = absurd h
      each_placed g (i ∷ parts) (t ∷ ts) (v ∷ vs) h =
          (subst (λ x. ReadPlaced g x i v) (out_of t is rs) h.0.1, each_placed g parts ts vs h.1)

      types_wanted : {n : ℕ} (f : Point n) (ts : List Typ) → StaysUnder types past own f is rs → Wanted (λ t. R.Of t is rs) f ts
      types_wanted f [] s = tt
      types_wanted f (t ∷ ts) s = ((of_full t is rs full, of_stays types past own f is rs t s), types_wanted f ts s)

      tuple_suffices : (ts : List Typ) (parts : List Indices) (w : Value-F Value) (n : ℕ) (f : Point n) → StaysUnder types past own f is rs
          → Always types past own f (λ g. (form_holds types (there g) own (W.Tuple (map (meant types (there g) own) parts)) w ≡ true)
          × (wide_at types past own g (W.Tuple parts) ≡ wide_at types past own f.integers (W.Tuple parts)))
          → Suffices past n f (each_pair (typed_fits fit is rs) parts ts n) (λ g.
          (form_asked types w (T.Tuple ts) (under_at g) (stand g rs) ≡ true)
          × ((j : ℕ) → option_map (given_there (there g)) (In.among (map In.placed ts) j parts) ≡ Of.form_place (T.Tuple (map Of.placed ts)) j w))
      tuple_suffices ts parts (V.Tuple vs) n f s h =
          suffice_as (pairs_suffice (λ t. R.Of t is rs) parts ts vs n f
          (each_had types past own f parts vs (λ g a. ((h g a).0, tuple_stays types past own g f.integers parts (h g a).1))) (types_wanted f ts s))
          (λ g a q. (
            ap (each_belongs (asks types vs) (under_at g) (stand g rs)) (fronts (inner types (V.Tuple vs) (stand g rs)) ts) ∙ each_belong g parts ts vs q,
            among_same (there g) ts parts vs (each_placed g parts ts vs q),
          ))
      tuple_suffices ts parts w n f s h = no (h f.integers (same f)).0

      form_suffices : (x : Typ-F Typ) (y : Indices-F Indices Reading) (v : Value) (n : ℕ) (f : Point n) → StaysUnder types past own f is rs
          → HadForm types past own f y v → Suffices past n f (form_fits types fit x is rs y n) (FormFits x y v)
      form_suffices T.Unit W.Unit v n f s h =
          says_so [] (λ g a said. (unit_into types own (there g) (under_at g) (stand g rs) (out-Value v) (h g a).0, λ j. refl))
      form_suffices T.Bool (W.Truth d) v n f s h =
          says_so [] (λ g a said. (bool_into types own (there g) (under_at g) (stand g rs) d (out-Value v) (h g a).0, λ j. refl))
      form_suffices (T.Truth c) (W.Truth d) v n f s h =
          says_so (truth_fits d (read_con is c)) (λ g a said.
          let q = truth_said (there g) d (read_con is c) said in (
            truth_into types own (there g) (under_at g) (stand g rs) d c (q.2 ∙ truth_read past g is c q.0 q.1) (out-Value v) (h g a).0,
            λ j. truth_placed types own (there g) d c j (out-Value v) (h g a).0,
          ))
      form_suffices T.Bit W.Bit v n f s h =
          says_so [] (λ g a said. (bit_into types own (there g) (under_at g) (stand g rs) (out-Value v) (h g a).0, λ j. refl))
      form_suffices (T.Bits t) (W.Bits w) v n f s h =
          says_so (number_fits w (read is t)) (λ g a said.
          let q = number_said (there g) w (read is t) said in (
            bits_into types own (there g) (under_at g) (stand g rs) w t (q.2 ∙ number_read past g is t q.0 q.1) (out-Value v) (h g a).0,
            λ j. bits_placed types own (there g) w t j (out-Value v) (h g a).0,
          ))
      form_suffices (T.Int t) (W.Integer i) v n f s h =
          says_so (number_fits i (read is t)) (λ g a said.
          let q = number_said (there g) i (read is t) said in (
            integer_into types own (there g) (under_at g) (stand g rs) i t (q.2 ∙ number_read past g is t q.0 q.1) (out-Value v) (h g a).0,
            λ j. integer_placed types own (there g) i t j (out-Value v) (h g a).0,
          ))
      form_suffices (T.Range t u) (W.Integer i) v n f s h =
          says_so (in_range i (read is t) (read is u)) (λ g a said.
          let q = bound_said (there g) i (read is t) (read is u) said in (
            range_into types own (there g) (under_at g) (stand g rs) i t u
                (ap (λ z. int_le z (number (there g) i)) (sym (number_read past g is t q.0 q.1.1)) ∙ q.1.3)
                (ap (int_le (number (there g) i)) (sym (number_read past g is u q.1.0 q.1.2)) ∙ q.1.4) (out-Value v) (h g a).0,
            λ j. refl,
          ))
      form_suffices T.String W.String v n f s h =
          says_so [] (λ g a said. (string_into types own (there g) (under_at g) (stand g rs) (out-Value v) (h g a).0, λ j. refl))
      form_suffices (T.List t) (W.List r) v n f s h =
          suffice_as (item_suffices n f r (R.Of t is rs) (of_full t is rs full) (list_stays types past own f r (λ g a. (h g a).1))
          (of_stays types past own f is rs t s))
          (λ g a q. (
            list_into types own (there g) (under_at g) (stand g rs) (type_of g r) t
                (λ x b. ap (belongs types x) (sym (closed_of types past own rs g t is)) ∙ q x b) (out-Value v) (h g a).0,
            λ j. refl,
          ))
      form_suffices (T.Vector l t) (W.Vector k r) v n f s h =
          suffice_as (also_suffice (item_fits fit r (R.Of t is rs)) (says_so (number_fits k (read is l)) (λ g a said. said))
          (λ g b. item_suffices n g r (R.Of t is rs) (of_full t is rs full)
          (stays_later types past own f g r b (vector_stays types past own f k r (λ m a. (h m a).1)))
          (stays_later types past own f g (R.Of t is rs) b (of_stays types past own f is rs t s))))
          (λ g a q.
          let e = number_said (there g) k (read is l) q.0 in (
            vector_into types own (there g) (under_at g) (stand g rs) k l (e.2 ∙ number_read past g is l e.0 e.1) (type_of g r) t
                (λ x b. ap (belongs types x) (sym (closed_of types past own rs g t is)) ∙ q.1 x b) (out-Value v) (h g a).0,
            λ j. vector_placed types own (there g) k l (type_of g r) (Of.placed t) j (out-Value v) (h g a).0,
          ))
      form_suffices (T.Tuple ts) (W.Tuple parts) v n f s h = tuple_suffices ts parts (out-Value v) n f s h
      form_suffices x y v n f s h = never_suffices n f (FormFits x y v)

      -- ---- named types, Type variables, `{'n, C. T}`

      named_typ_suffices : (u : ℕ) (args : List Index) (ts : List Typ) (o : Option (List Index)) → read_indices is args ≡ o
          → (y : Indices-F Indices Reading) (v : Value) (n : ℕ) (f : Point n) → StaysUnder types past own f is rs → HadForm types past own f y v
          → Suffices past n f (named_form types fit u o (each_under is rs ts) y n)
          (λ g. form_asked types (out-Value v) (T.Named u args ts) (under_at g) (stand g rs) ≡ true)
      named_typ_suffices u args ts (Some js) e (W.Named k xs qs) v n f s h =
          suffice_as (named_suffices u k (out-Value v) xs qs js (each_under is rs ts) n f (each_full is rs ts full)
          (named_stays types past own f k xs qs (λ g a. (h g a).1)) (read_stays types past own f is rs args js ts e s) (λ g a. (h g a).0))
          (λ g a q.
          named_into types own (there g) (under_at g) (stand g rs) u k q.0 xs args (types_of g qs) ts (q.1 ∙ read_assigned past g is args js e)
          (subst (AllWithin types (closeds (types_of g qs))) (closeds_of types past own rs g is ts) q.2) (out-Value v) (h g a).0)
      named_typ_suffices u args ts o e y v n f s h =
          never_suffices n f (λ g. form_asked types (out-Value v) (T.Named u args ts) (under_at g) (stand g rs) ≡ true)

      -- one of the function at work
      abbrev Answered : ℕ → Value → Integers → Type 0
      Answered k v g = answer types v (stand g rs) k ≡ true

      own_suffices : (k : ℕ) → slice_get rs k ≡ None → (y : Indices-F Indices Reading) (v : Value) (n : ℕ) (f : Point n) → HadForm types past own f y v
          → Suffices past n f (own_variable k y n) (Answered k v)
      own_suffices k e (W.Variable j) v n f h = by (nat_eq k j) refl
        where
          by : (b : Bool) → nat_eq k j ≡ b → Suffices past n f (if b then says [] n else never n) (Answered k v)
          by false d = never_suffices n f (Answered k v)
          by true d =
              let p : k ≡ j = (Decides-eqb k j).0 d in
              says_so [] (λ g a said.
              free_answer types past own rs g k v e ∙ ap (λ m. belongs types v (or_no_value (there g) (slice_get own m))) p ∙ (h g a).0)
      own_suffices k e y v n f h = never_suffices n f (Answered k v)

      variable_suffices : (k : ℕ) (o : Option Reading) → slice_get rs k ≡ o → (i : Indices) (v : Value) (n : ℕ) (f : Point n)
          → StaysUnder types past own f is rs → Had types past own f i v → Suffices past n f (variable_fits fit i k o n) (Answered k v)
      variable_suffices k None e i v n f s h = own_suffices k e (out-Indices i) v n f (had_form types past own f i v h)
      variable_suffices k (Some r) e i v n f s h =
          suffice_as (go i r n f v (full_at rs k r e full) h (λ g a. stood_same types past own g f.integers rs k r (s g a).1 e))
          (λ g a q. found_answer types past own rs g k r v e ∙ q.0)

      abbrev BoundFits : Con → Typ → Indices → Value → Integers → Type 0
      BoundFits c t i v g =
          (given_belongs (Of.placed t 0 v) (under_at g) c (inner types (out-Value v) (stand g rs) t) ≡ true) × PlacedAs (there g) t i v

      bound_suffices : (c : Con) (t : Typ) (o : Option Index) (i : Indices) (v : Value) (n : ℕ) (f : Point n) → In.placed t 0 i ≡ o
          → StaysUnder types past own f is rs → Had types past own f i v → Suffices past n f (bound_fits fit i c t is rs o n) (BoundFits c t i v)
      bound_suffices c t None i v n f e s h = never_suffices n f (BoundFits c t i v)
      bound_suffices c t (Some (N.Truth d)) i v n f e s h = never_suffices n f (BoundFits c t i v)
      bound_suffices c t (Some (N.Number m)) i v n f e s h =
          let js : List Index = N.Number m ∷ is in
          let z = number (there f.integers) m in
          let same_number = number_stays types past own f t i v m h e in
          let still : StaysUnder types past own f js rs =
          λ g a. (
            sym (under_number past g z is m (same_number g a)) ∙ ap (under z) (s g a).0 ∙ under_number past f.integers z is m refl,
            (s g a).1,
          ) in
          suffice_as (also_suffice (fit i (R.Of t js rs)) (says_so (read_con js c ∷ []) (λ g a said. said))
          (λ g l. go i (R.Of t js rs) n g v (of_full t js rs full) (had_later types past own f g i v l h)
          (stays_later types past own f g (R.Of t js rs) l (of_stays types past own f js rs t still))))
          (λ g a q.
          let y = number (there g) m in
          let nu = under y (under_at g) in
          let inside : nu ≡ under_these past g js = under_number past g y is m refl in
          let placed : PlacedAs (there g) t i v = subst (λ x. ReadPlaced g x i v) (out_of t js rs) q.1.1 in
          let given : Of.placed t 0 v ≡ Some (an_int y) = sym (placed 0) ∙ ap (option_map (given_there (there g))) e in
          let d = con_said (there g) (read_con js c) q.0 in (
            ap (λ o. given_belongs o (under_at g) c (inner types (out-Value v) (stand g rs) t)) given
                ∙ two (true_in nu c) (inner types (out-Value v) (stand g rs) t nu)
                (ap (λ mu. true_in mu c) inside ∙ sym (truth_read past g js c d.0 d.1) ∙ d.2)
                (inner_is types v t nu (stand g rs) ∙ ap (λ mu. belongs types v (reading t mu (stand g rs))) inside
                ∙ ap (belongs types v) (sym (closed_of types past own rs g t js)) ∙ q.1.0),
            placed,
          ))

      -- ---- a type

      abbrev TypFits : Typ → Indices → Value → Integers → Type 0
      TypFits t i v g = (belongs types v (reading t (under_at g) (stand g rs)) ≡ true) × PlacedAs (there g) t i v

      pub typ_suffices : (x : Typ-F Typ) (t : Typ) → roll-Typ x ≡ t → (i : Indices) (v : Value) (n : ℕ) (f : Point n)
          → StaysUnder types past own f is rs → Had types past own f i v → Suffices past n f (typ_fits types fit x is rs i n) (TypFits t i v)
      typ_suffices (T.Variable k) t e i v n f s h =
          suffice_as (variable_suffices k (slice_get rs k) refl i v n f s h) (λ g a q. (
            belongs_form types v (T.Variable k) t (under_at g) (stand g rs) e ∙ q,
            λ j. ap (option_map (given_there (there g))) (index_placed (T.Variable k) t j i e) ∙ sym (value_placed (T.Variable k) t j v e),
          ))
      typ_suffices (T.Exists name c u) t e i v n f s h =
          suffice_as (bound_suffices c u (In.placed u 0 i) i v n f refl s h) (λ g a q. (
            belongs_form types v (T.Exists name c u) t (under_at g) (stand g rs) e
                ∙ ap (λ x. given_belongs (Of.placed u 0 x) (under_at g) c (inner types (out-Value v) (stand g rs) u)) (back types v) ∙ q.0,
            λ j. ap (option_map (given_there (there g))) (index_placed (T.Exists name c u) t j i e) ∙ q.1 (suc j)
                ∙ sym (value_placed (T.Exists name c u) t j v e),
          ))
      typ_suffices (T.Named u args ts) t e i v n f s h =
          suffice_as (named_typ_suffices u args ts (read_indices is args) refl (out-Indices i) v n f s (had_form types past own f i v h)) (λ g a q. (
            belongs_form types v (T.Named u args ts) t (under_at g) (stand g rs) e ∙ q,
            λ j. ap (option_map (given_there (there g))) (index_placed (T.Named u args ts) t j i e) ∙ sym (value_placed (T.Named u args ts) t j v e),
          ))
      typ_suffices x t e i v n f s h =
          suffice_as (form_suffices x (out-Indices i) v n f s (had_form types past own f i v h)) (λ g a q. (
            belongs_form types v x t (under_at g) (stand g rs) e ∙ q.0,
            λ j. ap (option_map (given_there (there g))) (index_placed x t j i e) ∙ q.1 j ∙ sym (value_placed x t j v e),
          ))
