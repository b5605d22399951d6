-- What is known of a value of a type holds, form by form, and of each other value with the same indices too that it belongs to the type.
use Rattle.std.proofs.Common.{◌≡◌, ℕ, suc, ◌≤◌, ◌^◌, ℤ, pos, int_le, Bool, true, ◌&&◌, List, [], ◌∷◌, map, length, slice_get, nat_eq, Option, Some}
use Rattle.std.proofs.Common.{None, option_map, refl, sym, ap, ◌∙◌, subst, arith}
use Rattle.std.specs.Ordering.{int_eq}
use Rattle.std.proofs.lemmas.Bool.{and_parts, leb-true, le-leb}
use Rattle.std.proofs.lemmas.Bool.Decides.{Decides-int_eq}
use Rattle.std.proofs.lemmas.List.{length-map}
use Rattle.std.proofs.lemmas.Option.{slice_get-map}
use Rattle.value_laws.proofs.Basics.{no, two, fronts}
use Rattle.sail_types.specs.Belongs.{Reading as Closed, Readings as Closeds, reading, assigned, under, read_each, each_belongs, all_belong}
use Rattle.sail_types.specs.Belongs.{fields_belong, payload_belongs, given_belongs, belongs}
use Rattle.sail_types.specs.Limits.{largest, is_small, is_width, is_length}
use Rattle.sail_types.specs.Named.{fields, payload}
use Rattle.sail_types.specs.Numbers.{Assignment, Positive, number, true_in}
use Rattle.sail_types.specs.Places.{Given, Placed, a_bool, among, an_int, first, form_place, is_variable, only, placed, placed_form}
use Rattle.sail_types.specs.Readings.{read_con}
use Rattle.sail_types.specs.Sums.{constant, read, variable}
use Rattle.sail_types.specs.declared.numbers.Con.{Con}
use Rattle.sail_types.specs.declared.numbers.Index.{Index}
use Rattle.sail_types.specs.declared.numbers.Index.TheVariants as N
use Rattle.sail_types.specs.declared.numbers.Num.{Num}
use Rattle.sail_types.specs.declared.table.Types.{Types}
use Rattle.sail_types.specs.declared.types.Typ.{Typ, Typ-F, roll-Typ}
use Rattle.sail_types.specs.declared.types.Typ.TheFolds.{para-roll-Typ, map-Typ, ind-Typ}
use Rattle.sail_types.specs.declared.types.Typ.TheOpen as T
use Rattle.sail_types.specs.declared.values.Value.{Value, Value-F, out-Value}
use Rattle.sail_types.specs.declared.values.Value.TheOpen as V
use Rattle.value_indices.specs.declared.indices.Indices.{Indices}
use Rattle.value_indices.specs.declared.indices.Indices.TheOpen as W
use Rattle.value_indices.specs.declared.indices.Indices.TheOpen.{Indices-F}
use Rattle.value_indices.specs.declared.indices.Indices.TheVariants as I
use Rattle.value_indices.specs.declared.indices.Naming.{Naming}
use Rattle.value_indices.specs.declared.indices.Naming.TheVariants as M
use Rattle.value_indices.specs.declared.indices.Reading.{Reading}
use Rattle.value_indices.specs.declared.indices.Reading.TheVariants as R
use Rattle.value_indices.specs.declared.notes.Fact.{Fact}
use Rattle.value_indices.specs.Steps.{Walk, bind, give}
use Rattle.value_indices.specs.Opening.{any_truth, truth_opened, bits_opened, integer_opened, range_opened, vector_opened, named_opened}
use Rattle.value_indices.specs.Opening.{bound_inside, variable_opened, parts_opened, namings_of, form_opened, typ_opened, opening, with_openings}
use Rattle.value_indices.specs.Opening.{Opening, Inner as Inside}
use Rattle.value_laws.specs.Belonging.{Integers, standing, index_there, Meant, closed, each_holds, is_of, form_holds}
use Rattle.value_laws.specs.Known.{Point, Agree, Later, Goes}
use Rattle.value_laws.proofs.Numbers.{number_read, truth_read, under_is}
use Rattle.value_laws.proofs.Steps.{same, agree_on, gives, goes_then, assumes_if, fresh_called}
use Rattle.value_laws.proofs.Values.{inner, form_asked, belongs_form, inner_is, answer, meant_is}
use Rattle.value_laws.proofs.Arguments.{under_these, Still, still_later, arguments_go, assigned_under, indices_there}
use Rattle.value_laws.proofs.Meanings.{bit_same, lists_same, named_same, strings_same, units_same, variable_same}
use Rattle.value_laws.proofs.Alike.{asks}
use Rattle.value_laws.proofs.Knowing.{AllOpenedAs, OpenedAs, any_truth_kept, between_kept, bits_kept, both_kept, form_meant, integer_kept, kept_as}
use Rattle.value_laws.proofs.Knowing.{number_goes, opens_kept, truth_goes, truth_holds, truth_meant, truth_means, tuple_kept, vector_kept}
use Rattle.value_laws.proofs.Keeping.{all_of, bare, bit_alone, bits_alone, bits_asked, integer_alone, list_asked, one_form, placed_by}
use Rattle.value_laws.proofs.Keeping.{string_alone, truth_alone, truth_same, tuple_alone, unit_alone, vector_alone, vector_asked}
use Rattle.value_laws.proofs.Stood as Under

-- a count of bits or items is an integer within the limit
small_count : (n : ℕ) → n ≤ 4096 → is_small (pos n) ≡ true
unfolding largest
small_count n le = le-leb n (2 ^ 126) (omega arith)

module _ (types : Types) (past : Positive) (own : List Closed) where
  abbrev there : Integers → Assignment
  there g = standing past g

  abbrev zeros : Integers
  zeros i = pos 0

  -- a walk that gives indices that a value has, whatever variables stand for that aren't fixed; and this is so of what they mean
  abbrev Opens : (Meant → Type 0) → Value → (n : ℕ) → Point n → List Fact → Walk Indices → Type 0
  Opens P v n f facts walk = OpenedAs types past own P v n f facts walk

  abbrev AllOpen : (List Meant → Type 0) → List Value → (n : ℕ) → Point n → List Fact → Walk (List Indices) → Type 0
  AllOpen P vs n f facts walk = AllOpenedAs types past own P vs n f facts walk

  abbrev meant_by : Indices-F Meant Closed → Meant
  meant_by x = form_meant types past own x

  -- for all integers of variables that aren't fixed
  abbrev Always : {n : ℕ} → Point n → (Integers → Type 0) → Type 0
  Always f P = (g : Integers) → Agree f g → P g

  -- a value with this meaning is of the type's form, and gives its variables the numbers that the value in hand gives them
  abbrev pub Keeps : Typ-F Typ → Assignment → Closeds → Value → Meant → Type 0
  Keeps x mu rs v m = (w : Value) → m.holds w ≡ true → (form_asked types (out-Value w) x mu rs ≡ true)
      × ((j : ℕ) → placed_form (map-Typ Typ Placed placed x) j w ≡ placed_form (map-Typ Typ Placed placed x) j v)

  -- ---- forms that are known as they stand

  pub unit_holds : (mu : Assignment) (rs : Closeds) (g : Integers) (w : Value-F Value) → form_asked types w T.Unit mu rs ≡ true
      → form_holds types (there g) own W.Unit w ≡ true
  unit_holds mu rs g V.Unit h = refl
  unit_holds mu rs g w h = no h

  pub bit_holds : (mu : Assignment) (rs : Closeds) (g : Integers) (w : Value-F Value) → form_asked types w T.Bit mu rs ≡ true
      → form_holds types (there g) own W.Bit w ≡ true
  bit_holds mu rs g (V.Bit b) h = refl
  bit_holds mu rs g w h = no h

  pub string_holds : (mu : Assignment) (rs : Closeds) (g : Integers) (w : Value-F Value) → form_asked types w T.String mu rs ≡ true
      → form_holds types (there g) own W.String w ≡ true
  string_holds mu rs g (V.String text) h = refl
  string_holds mu rs g w h = no h

  pub list_holds : (mu : Assignment) (rs : Closeds) (g : Integers) (t : Typ) (q : Closed)
      → ((x : Value) → belongs types x (reading t mu rs) ≡ belongs types x q)
      → (w : Value-F Value) → form_asked types w (T.List t) mu rs ≡ true → form_holds types (there g) own (W.List q) w ≡ true
  list_holds mu rs g t q e (V.List vs) h = all_of types vs (reading t mu rs) q e h
  list_holds mu rs g t q e w h = no h

  pub bool_known : {n : ℕ} {f : Point n} {facts : List Fact} (P : Meant → Type 0) (name : Naming) (mu : Integers → Assignment) (rs : Integers → Closeds)
      (v : Value) (w : Value-F Value) → out-Value v ≡ w → Always f (λ g. form_asked types w T.Bool (mu g) (rs g) ≡ true)
      → ((b : Bool) → P (truth_meant types past own b)) → Opens P v n f facts (any_truth name)
  bool_known P name mu rs v (V.Truth b) e h p = any_truth_kept types past own P name b v e (p b)
  bool_known {n} {f} P name mu rs v w e h p = no (h f.integers (same f))

  -- a value whose meaning one value alone has, by its form
  alone : (x : Typ-F Typ) (mu : Assignment) (rs : Closeds) (v : Value) (u : Value-F Value) → out-Value v ≡ u → form_asked types u x mu rs ≡ true
      → (m : Meant) → ((w : Value) → m.holds w ≡ true → out-Value w ≡ u) → Keeps x mu rs v m
  alone x mu rs v u e h m only w k = (
    ap (λ y. form_asked types y x mu rs) (only w k) ∙ h,
    λ j. ap (placed_form (map-Typ Typ Placed placed x) j) (one_form w v (only w k ∙ sym e)),
  )

  -- a type of the walk, where the value in hand belongs to it
  unfoldable pub ReadingGoes : Reading → Type 0
  ReadingGoes r = (tells : Bool) (name : Naming) (n : ℕ) (f : Point n) (facts : List Fact) (v : Value) → Under.Steady types past own f r
      → Always f (λ g. is_of types (there g) own r v ≡ true)
      → Opens (λ m. (w : Value) → m.holds w ≡ true → is_of types (there f.integers) own r w ≡ true) v n f facts (opening r tells name)

  module _ (rs : List Reading) where
    abbrev stood : Integers → Closeds
    stood g = Under.stood types past own rs g

    abbrev Stand : {n : ℕ} → Point n → Type 0
    Stand f = Under.Stand types past own rs f

    -- a type, where the value in hand belongs to it
    abbrev KeepsTyp : {n : ℕ} → Point n → List Index → Typ → Value → Meant → Type 0
    KeepsTyp f is t v m = (w : Value) → m.holds w ≡ true
        → (belongs types w (reading t (under_these past f.integers is) (stood f.integers)) ≡ true) × ((j : ℕ) → placed t j w ≡ placed t j v)

    unfoldable pub TypGoes : List Index → Typ → Type 0
    TypGoes is t = (tells : Bool) (name : Naming) (n : ℕ) (f : Point n) (facts : List Fact) (v : Value) → Still past f is → Stand f
        → Always f (λ g. belongs types v (reading t (under_these past g is) (stood g)) ≡ true)
        → Opens (KeepsTyp f is t v) v n f facts (typ_opened (with_openings rs) t is tells name)

    abbrev KeepsForm : {n : ℕ} → Point n → List Index → Typ-F Typ → Value → Meant → Type 0
    KeepsForm f is x v m = Keeps x (under_these past f.integers is) (stood f.integers) v m

    abbrev Asks : {n : ℕ} → Point n → List Index → Value-F Value → Typ-F Typ → Type 0
    Asks f is w x = Always f (λ g. form_asked types w x (under_these past g is) (stood g) ≡ true)

    module _ {n : ℕ} {f : Point n} {facts : List Fact} (is : List Index) (v : Value) where
      truth_known : (c : Con) (w : Value-F Value) → out-Value v ≡ w → Asks f is w (T.Truth c)
          → Opens (KeepsForm f is (T.Truth c) v) v n f facts (truth_opened is c)
      unfolding truth_opened
      truth_known c (V.Truth b) e h =
          opens_kept types past own (KeepsForm f is (T.Truth c) v) v
          (truth_goes types past own (read_con is c) b (λ d k g a. truth_read past g is c d k ∙ truth_same b (true_in (under_these past g is) c) (h g a)))
          (λ m g fs d a q. (
            truth_meant types past own b,
            truth_holds types past own b v e,
            alone (T.Truth c) (under_these past f.integers is) (stood f.integers) v (V.Truth b) e (h f.integers (same f)) (truth_meant types past own b)
                (λ w k. truth_alone types past own b (out-Value w) k),
            gives (I.Truth d) (λ k l. truth_means types past own d b k (q k l)),
          ))
      truth_known c w e h = no (h f.integers (same f))

      bits_typ_known : (t : Num) (w : Value-F Value) → out-Value v ≡ w → Asks f is w (T.Bits t)
          → Opens (KeepsForm f is (T.Bits t) v) v n f facts (bits_opened is t)
      unfolding bits_opened
      bits_typ_known t (V.Bits bits) e h =
          let z : ℤ = pos (length bits) in
          let width : is_width (length bits) ≡ true = (and_parts (int_eq z (number (under_these past f.integers is) t)) _ (h f.integers (same f))).1 in
          let few : length bits ≤ 128 = leb-true (length bits) 128 width in
          let many : Always f (λ g. number (under_these past g is) t ≡ z) =
          λ g a. sym ((Decides-int_eq z (number (under_these past g is) t)).0
          (and_parts (int_eq z (number (under_these past g is) t)) (is_width (length bits)) (h g a)).0) in
          opens_kept types past own (KeepsForm f is (T.Bits t) v) v
          (number_goes types past own (read is t) z (small_count (length bits) (omega arith)) (λ u k g a. number_read past g is t u k ∙ many g a))
          (λ m g fs u a q. bits_kept types past own (KeepsForm f is (T.Bits t) v) u v bits e width q (λ w k.
          let s = bits_alone types past own z (out-Value w) k in (
            bits_asked types past own (under_these past f.integers is) (stood f.integers) z t (many f.integers (same f)) (out-Value w) k,
            λ j. ap (form_place (T.Bits t) j) s.1 ∙ ap (λ y. only (is_variable j t) (an_int y)) s.2 ∙ sym (ap (form_place (T.Bits t) j) e),
          )))
      bits_typ_known t w e h = no (h f.integers (same f))

      integer_typ_known : (tells : Bool) (t : Num) (w : Value-F Value) → out-Value v ≡ w → Asks f is w (T.Int t)
          → Opens (KeepsForm f is (T.Int t) v) v n f facts (integer_opened is tells t)
      unfolding integer_opened
      integer_typ_known tells t (V.Integer z) e h =
          let small : is_small z ≡ true = (and_parts (int_eq z (number (under_these past f.integers is) t)) (is_small z) (h f.integers (same f))).1 in
          opens_kept types past own (KeepsForm f is (T.Int t) v) v
          (number_goes types past own (read is t) z small (λ u k g a. number_read past g is t u k
          ∙ sym ((Decides-int_eq z (number (under_these past g is) t)).0 (and_parts (int_eq z (number (under_these past g is) t)) (is_small z) (h g a)).0)))
          (λ m g fs u a q. integer_kept types past own (KeepsForm f is (T.Int t) v) tells u z v e small q
          (alone (T.Int t) (under_these past f.integers is) (stood f.integers) v (V.Integer z) e (h f.integers (same f)) (meant_by (W.Integer (constant z)))
          (λ w k. integer_alone types past own z (out-Value w) k)))
      integer_typ_known tells t w e h = no (h f.integers (same f))

      range_known : (name : Naming) (t u : Num) (w : Value-F Value) → out-Value v ≡ w → Asks f is w (T.Range t u)
          → Opens (KeepsForm f is (T.Range t u) v) v n f facts (range_opened is name t u)
      unfolding range_opened
      range_known name t u (V.Integer z) e h =
          let parts : (g : Integers) → Agree f g
          → (int_le (number (under_these past g is) t) z ≡ true) × (int_le z (number (under_these past g is) u) ≡ true) × (is_small z ≡ true) =
          λ g a.
          let k = and_parts (int_le (number (under_these past g is) t) z && int_le z (number (under_these past g is) u)) (is_small z) (h g a) in
          let l = and_parts (int_le (number (under_these past g is) t) z) (int_le z (number (under_these past g is) u)) k.0 in (l.0, l.1, k.1) in
          between_kept types past own (KeepsForm f is (T.Range t u) v) name (read is t) (read is u) z v e (parts f.integers (same f)).2
          (λ d k g a. ap (λ y. int_le y z) (number_read past g is t d k) ∙ (parts g a).0)
          (λ d k g a. ap (int_le z) (number_read past g is u d k) ∙ (parts g a).1)
          (alone (T.Range t u) (under_these past f.integers is) (stood f.integers) v (V.Integer z) e (h f.integers (same f)) (meant_by (W.Integer (constant z)))
          (λ w k. integer_alone types past own z (out-Value w) k))
      range_known name t u w e h = no (h f.integers (same f))

      vector_typ_known : Still past f is → Stand f → (l : Num) (t : Typ) (w : Value-F Value) → out-Value v ≡ w → Asks f is w (T.Vector l t)
          → Opens (KeepsForm f is (T.Vector l t) v) v n f facts (vector_opened is rs l t)
      unfolding vector_opened
      vector_typ_known still stand l t (V.Vector vs) e h =
          let z : ℤ = pos (length vs) in
          let same_length : length (asks types vs) ≡ length vs = length-map vs (λ x. (x, belongs types x)) in
          let parts : (g : Integers) → Agree f g
          → (number (under_these past g is) l ≡ z) × (is_length (length vs) ≡ true)
          × (all_belong (asks types vs) (reading t (under_these past g is) (stood g)) ≡ true) =
          λ g a.
          let k = and_parts (int_eq (pos (length (asks types vs))) (number (under_these past g is) l) && is_length (length (asks types vs))) _ (h g a) in
          let m = and_parts (int_eq z (number (under_these past g is) l)) (is_length (length vs))
          (subst (λ c. (int_eq (pos c) (number (under_these past g is) l) && is_length c) ≡ true) same_length k.0) in
          (sym ((Decides-int_eq z (number (under_these past g is) l)).0 m.0), m.1, k.1) in
          let few : length vs ≤ 4096 = leb-true (length vs) 4096 (parts f.integers (same f)).1 in
          let c : Closed = closed types (there f.integers) own (R.Of t is rs) in
          let item : (x : Value) → belongs types x (reading t (under_these past f.integers is) (stood f.integers)) ≡ belongs types x c =
          λ x. ap (belongs types x) (sym (Under.closed_of types past own rs f.integers t is)) in
          opens_kept types past own (KeepsForm f is (T.Vector l t) v) v
          (number_goes types past own (read is l) z (small_count (length vs) few) (λ u k g a. number_read past g is l u k ∙ (parts g a).0))
          (λ m g fs u a q. vector_kept types past own (KeepsForm f is (T.Vector l t) v) u (R.Of t is rs) c v vs e (parts f.integers (same f)).1 q
          (λ k b. Under.of_steady types past own rs f is t still stand k (agree_on a b))
          (all_of types vs (reading t (under_these past f.integers is) (stood f.integers)) c item (parts f.integers (same f)).2) (λ w k.
          let s = vector_alone types past own z c (out-Value w) k in (
            vector_asked types past own (under_these past f.integers is) (stood f.integers) z c l t (parts f.integers (same f)).0 item (out-Value w) k,
            λ j. ap (form_place (T.Vector l (placed t)) j) s.1 ∙ ap (λ y. only (is_variable j l) (an_int y)) s.2
                ∙ sym (ap (form_place (T.Vector l (placed t)) j) e),
          )))
      vector_typ_known still stand l t w e h = no (h f.integers (same f))

    -- ---- named types

    named_asked : (g o : Integers) (is : List Index) (u : ℕ) (args xs : List Index) (ts : List Typ)
        → assigned (there o) xs ≡ assigned (under_these past g is) args → (w : Value-F Value)
        → form_holds types (there o) own (W.Named u xs (map (closed types (there g) own) (map (λ t. R.Of t is rs) ts))) w
        ≡ form_asked types w (T.Named u args ts) (under_these past g is) (stood g)
    named_asked g o is u args xs ts same_assigned (V.Struct i vs) =
        let of : Assignment → Closeds → Bool = λ nu ps. nat_eq i u && fields_belong (asks types vs) nu ps (fields types i) in
        (λ j. of (same_assigned j) (Under.closeds_of types past own rs g is ts j))
        ∙ ap (λ us. of (assigned (under_these past g is) args) (read_each (under_these past g is) (stood g) us))
        (sym (fronts (inner types (V.Struct i vs) (stood g)) ts))
    named_asked g o is u args xs ts same_assigned (V.Union i k v) =
        let of : Assignment → Closeds → Bool = λ nu ps. nat_eq i u && payload_belongs (belongs types v) nu ps (payload types i k) in
        (λ j. of (same_assigned j) (Under.closeds_of types past own rs g is ts j))
        ∙ ap (λ us. of (assigned (under_these past g is) args) (read_each (under_these past g is) (stood g) us))
        (sym (fronts (inner types (V.Union i k v) (stood g)) ts))
    named_asked g o is u args xs ts same_assigned w = refl

    -- the types that the Type parameters stand for
    arguments_of : (is : List Index) (ts : List Typ)
        → map (λ (t : Typ × Inside). R.Of t.0 is rs) (map (λ t. (t, typ_opened (with_openings rs) t)) ts) ≡ map (λ t. R.Of t is rs) ts
    arguments_of is [] = refl
    arguments_of is (t ∷ ts) = ap (λ qs. R.Of t is rs ∷ qs) (arguments_of is ts)

    named_known : {n : ℕ} {f : Point n} {facts : List Fact} (is : List Index) (v : Value) (u : ℕ) (args : List Index) (ts : List Typ) → Still past f is
        → Stand f → Always f (λ g. form_asked types (out-Value v) (T.Named u args ts) (under_these past g is) (stood g) ≡ true)
        → Opens (KeepsForm f is (T.Named u args ts) v) v n f facts (named_opened is u args (map (λ t. R.Of t is rs) ts))
    unfolding named_opened
    named_known {f} is v u args ts still stand h =
        let qs : List Reading = map (λ t. R.Of t is rs) ts in
        let js : List Index = map (index_there (under_these past f.integers is)) args in
        let cs : List Closed = map (closed types (there f.integers) own) qs in
        let as_asked = named_asked f.integers zeros is u args js ts (assigned_under past f.integers is args) in (
          meant_by (W.Named u js cs),
          as_asked (out-Value v) ∙ h f.integers (same f),
          λ w k. (sym (as_asked (out-Value w)) ∙ k, λ j. refl),
          goes_then (arguments_go past is still args) (λ m g fs xs a q. gives (I.Named u xs qs) (λ k b.
              let c = agree_on a b in
              meant_is types (there k) own (I.Named u xs qs) (W.Named u xs qs) (I.rolls-Named u xs qs)
              ∙ named_same types past own k zeros u xs js (map (closed types (there k) own) qs) cs
              ((q k b).0 ∙ ap (λ mu. assigned mu args) (still k c) ∙ sym (assigned_under past f.integers is args))
              ((q k b).1 ∙ ap (λ mu. map (index_there mu) args) (still k c) ∙ sym (indices_there past (under_these past f.integers is) args))
              (Under.ofs_steady types past own rs f is ts still stand k c))),
        )

    -- ---- `{'n, C. T}`

    -- what is bound inside, where the value gives its number
    abbrev Bound : ℤ → List Index → Integers → List Index → Type 0
    Bound z is g js = under z (under_these past g is) ≡ under_these past g js

    bound_goes : {n : ℕ} {f : Point n} {facts : List Fact} (name : List ℕ) (c : Con) (is : List Index) (z : ℤ)
        → Always f (λ g. true_in (under z (under_these past g is)) c ≡ true) → Goes past n f facts (bound_inside name c is) (Bound z is)
    unfolding bound_inside
    bound_goes name c is z h =
        goes_then (fresh_called name z) (λ m g fs i a q. goes_then
        (assumes_if (read_con (N.Number (variable i) ∷ is) c) (λ d k l b.
        truth_read past l (N.Number (variable i) ∷ is) c d k ∙ ap (λ mu. true_in mu c) (sym (under_is past l z is i (q l b))) ∙ h l (agree_on a b)))
        (λ m2 g2 fs2 x a2 q2. gives (N.Number (variable i) ∷ is) (λ l b.
        under_is past l z is i (q l (agree_on a2 b)))))

    -- the type inside, at a later point, as it was
    inside_is : {n m : ℕ} (f : Point n) (g : Point m) (is js : List Index) (z : ℤ) (t : Typ) (w : Value) → Later f g → Still past f is → Stand f
        → Bound z is g.integers js → belongs types w (reading t (under_these past g.integers js) (stood g.integers))
        ≡ belongs types w (reading t (under z (under_these past f.integers is)) (stood f.integers))
    inside_is f g is js z t w a still stand q =
        let b : Agree f g.integers = agree_on a (same g) in
        λ j. belongs types w (reading t ((sym q ∙ ap (under z) (still g.integers b)) j) (Under.stood_steady types past own rs f stand g.integers b j))

    exists_goes : {n : ℕ} {f : Point n} {facts : List Fact} (is : List Index) (v : Value) (name : List ℕ) (c : Con) (t : Typ) (naming : Naming)
        → ((js : List Index) → TypGoes js t) → Still past f is → Stand f → (given : Option Given) → placed t 0 v ≡ given
        → Always f (λ g. given_belongs given (under_these past g is) c (inner types (out-Value v) (stood g) t) ≡ true)
        → Opens (KeepsForm f is (T.Exists name c t) v) v n f facts
        (bind (bound_inside name c is) (λ js. typ_opened (with_openings rs) t js true naming))
    unfolding TypGoes
    exists_goes {n} {f} {facts} is v name c t naming go still stand (Some (an_int z)) e h =
        let parts : (g : Integers) → Agree f g
        → (true_in (under z (under_these past g is)) c ≡ true) × (inner types (out-Value v) (stood g) t (under z (under_these past g is)) ≡ true) =
        λ g a. and_parts (true_in (under z (under_these past g is)) c) (inner types (out-Value v) (stood g) t (under z (under_these past g is))) (h g a) in
        opens_kept types past own (KeepsForm f is (T.Exists name c t) v) v (bound_goes name c is z (λ g a. (parts g a).0)) (λ m g fs js a q.
        kept_as types past own (KeepsTyp g js t v) (KeepsForm f is (T.Exists name c t) v) v
        (λ b keeps w k.
        let mu = under_these past f.integers is in
        let s = keeps w k in (
          ap (λ o. given_belongs o mu c (inner types (out-Value w) (stood f.integers) t)) (ap (placed t 0) (bare types w) ∙ s.1 0 ∙ e)
              ∙ two (true_in (under z mu) c) (inner types (out-Value w) (stood f.integers) t (under z mu)) (parts f.integers (same f)).0
              (inner_is types w t (under z mu) (stood f.integers) ∙ sym (inside_is f g is js z t w a still stand (q g.integers (same g))) ∙ s.0),
          λ j. s.1 (suc j),
        ))
        (go js true naming m g fs v
        (λ k b. sym (q k b) ∙ ap (under z) (still_later past f g is a still k b) ∙ q g.integers (same g))
        (Under.stand_later types past own rs f g a stand)
        (λ k b.
        sym (inner_is types v t (under_these past k js) (stood k)) ∙ ap (inner types (out-Value v) (stood k) t) (sym (q k b)) ∙ (parts k (agree_on a b)).1)))
    exists_goes {n} {f} is v name c t naming go still stand (Some (a_bool b)) e h = no (h f.integers (same f))
    exists_goes {n} {f} is v name c t naming go still stand None e h = no (h f.integers (same f))

    -- ---- a Type variable: what it stands for, or one of the function at work

    variable_goes : {n : ℕ} {f : Point n} {facts : List Fact} → ((i : ℕ) (r : Reading) → slice_get rs i ≡ Some r → ReadingGoes r) → Stand f
        → (is : List Index) (i : ℕ) (tells : Bool) (name : Naming) (v : Value) (o : Option Reading) → slice_get rs i ≡ o
        → Always f (λ g. answer types v (stood g) i ≡ true)
        → Opens (KeepsForm f is (T.Variable i) v) v n f facts (variable_opened i (option_map (λ r. (r, opening r)) o) tells name)
    unfolding ReadingGoes
    variable_goes {n} {f} {facts} go stand is i tells name v (Some r) e h =
        kept_as types past own (λ m. (w : Value) → m.holds w ≡ true → is_of types (there f.integers) own r w ≡ true) (KeepsForm f is (T.Variable i) v) v
        (λ m keeps w k. (Under.found_answer types past own rs f.integers i r w e ∙ keeps w k, λ j. refl))
        (go i r e tells name n f facts v (stand i r e) (λ g a. sym (Under.found_answer types past own rs g i r v e) ∙ h g a))
    variable_goes {n} {f} go stand is i tells name v None e h =
        let as_held : (w : Value) → (meant_by (W.Variable i)).holds w ≡ answer types w (stood f.integers) i =
        λ w. sym (ap (λ (m : Meant). m.holds w) (variable_same types past own f.integers zeros i))
        ∙ sym (Under.free_answer types past own rs f.integers i w e) in (
          meant_by (W.Variable i),
          as_held v ∙ h f.integers (same f),
          λ w k. (sym (as_held w) ∙ k, λ j. refl),
          gives (I.Variable i) (λ g a.
              meant_is types (there g) own (I.Variable i) (W.Variable i) (I.rolls-Variable i) ∙ variable_same types past own g zeros i),
        )

    -- ---- types

    abbrev SuchTyp : Type 0
    SuchTyp = (t : Typ) × ((is : List Index) → TypGoes is t)

    abbrev typ_form : Typ-F SuchTyp → Typ-F Typ
    typ_form y = map-Typ SuchTyp Typ (λ p. p.0) y

    abbrev types_in : List SuchTyp → List Typ
    types_in ys = map (λ (y : SuchTyp). y.0) ys

    -- the form of a type, opened
    abbrev opened_form : Typ-F Typ → List Index → Bool → Naming → Walk Indices
    opened_form x is tells name =
        form_opened (with_openings rs) rs (map-Typ Typ (Typ × Inside) (λ t. (t, typ_opened (with_openings rs) t)) x) is tells name

    opens_form : (x : Typ-F Typ) (is : List Index) (tells : Bool) (name : Naming)
        → typ_opened (with_openings rs) (roll-Typ x) is tells name ≡ opened_form x is tells name
    unfolding typ_opened
    opens_form x is tells name =
        ap (λ f. f is tells name) (para-roll-Typ Inside (form_opened (with_openings rs) (map (λ (r : Reading × Opening). r.0) (with_openings rs))) x)
        ∙ ap (λ qs. form_opened (with_openings rs) qs (map-Typ Typ (Typ × Inside) (λ t. (t, typ_opened (with_openings rs) t)) x) is tells name)
        (fronts opening rs)

    -- parts of a tuple
    abbrev KeepsTyps : {n : ℕ} → Point n → List Index → List Typ → List Value → List Meant → Type 0
    KeepsTyps f is ts vs ms = (ws : List Value) → each_holds ms ws ≡ true
        → (each_belongs (asks types ws) (under_these past f.integers is) (stood f.integers) ts ≡ true)
        × ((j : ℕ) → among (map placed ts) j ws ≡ among (map placed ts) j vs)

    no_part : {n : ℕ} (f : Point n) (is : List Index) → KeepsTyps f is [] [] []
    no_part f is [] h = (refl, λ j. refl)
    no_part f is (w ∷ ws) h = no h

    one_more : {n m : ℕ} (f : Point n) (g : Point m) (is : List Index) → Later f g → Still past f is → Stand f → (t : Typ) (ts : List Typ) (v : Value)
        (vs : List Value) (m : Meant) (ms : List Meant) → KeepsTyp f is t v m → KeepsTyps g is ts vs ms → KeepsTyps f is (t ∷ ts) (v ∷ vs) (m ∷ ms)
    one_more f g is a still stand t ts v vs m ms one rest [] h = no h
    one_more f g is a still stand t ts v vs m ms one rest (w ∷ ws) h =
        let k = and_parts (m.holds w) (each_holds ms ws) h in
        let first_one = one w k.0 in
        let others = rest ws k.1 in
        let b : Agree f g.integers = agree_on a (same g) in (
          two (belongs types w (reading t (under_these past f.integers is) (stood f.integers)))
              (each_belongs (asks types ws) (under_these past f.integers is) (stood f.integers) ts) first_one.0
              ((λ j. each_belongs (asks types ws) (sym (still g.integers b) j) (sym (Under.stood_steady types past own rs f stand g.integers b) j) ts)
              ∙ others.0),
          λ j. λ x. first (first_one.1 j x) (others.1 j x),
        )

    abbrev AllBelong : {n : ℕ} → Point n → List Index → List SuchTyp → List Value → Type 0
    AllBelong f is ys vs = Always f (λ g. each_belongs (asks types vs) (under_these past g is) (stood g) (types_in ys) ≡ true)

    abbrev typ_parts : Bool → List Index → List SuchTyp → List Naming → Walk (List Indices)
    typ_parts tells is ys ns = parts_opened tells (map (λ (t : Typ × Inside). t.1 is) (map (λ t. (t, typ_opened (with_openings rs) t)) (types_in ys))) ns

    -- the first of them, and those behind it
    typs_on : {n : ℕ} {f : Point n} {facts : List Fact} (y : SuchTyp) (ys : List SuchTyp) (is : List Index) → Still past f is → Stand f → (tells : Bool)
        (name : Naming) (ns : List Naming) (v : Value) (vs : List Value) → AllBelong f is (y ∷ ys) (v ∷ vs)
        → ((m : ℕ) (g : Point m) (fs : List Fact) → Later f g → AllBelong g is ys vs
        → AllOpen (KeepsTyps g is (types_in ys) vs) vs m g fs (typ_parts tells is ys ns))
        → AllOpen (KeepsTyps f is (types_in (y ∷ ys)) (v ∷ vs)) (v ∷ vs) n f facts
        (bind (typ_opened (with_openings rs) y.0 is tells name) (λ i. bind (typ_parts tells is ys ns) (λ is. give (i ∷ is))))
    unfolding TypGoes
    typs_on {n} {f} {facts} y ys is still stand tells name ns v vs h rest =
        let ts : List Typ = types_in ys in
        let parts : (g : Integers) → Agree f g → (belongs types v (reading y.0 (under_these past g is) (stood g)) ≡ true)
        × (each_belongs (asks types vs) (under_these past g is) (stood g) ts ≡ true) =
        λ g a. and_parts (belongs types v (reading y.0 (under_these past g is) (stood g))) _ (h g a) in
        both_kept types past own (KeepsTyp f is y.0 v) (λ ms. (m : Meant) → KeepsTyp f is y.0 v m → KeepsTyps f is (y.0 ∷ ts) (v ∷ vs) (m ∷ ms))
        (KeepsTyps f is (y.0 ∷ ts) (v ∷ vs)) v vs (λ m ms one join. join m one)
        (y.1 is tells name n f facts v still stand (λ g a. (parts g a).0)) (λ m g fs a.
        let s = rest m g fs a (λ k b. (parts k (agree_on a b)).1) in
        (s.0, s.1, λ b one. one_more f g is a still stand y.0 ts v vs b s.0 one s.2, s.3))

    typs_go : {n : ℕ} {f : Point n} {facts : List Fact} (ys : List SuchTyp) (is : List Index) → Still past f is → Stand f → (tells : Bool)
        (ns : List Naming) (vs : List Value) → AllBelong f is ys vs → AllOpen (KeepsTyps f is (types_in ys) vs) vs n f facts (typ_parts tells is ys ns)
    typs_go {f} [] is still stand tells ns [] h = ([], refl, no_part f is, gives [] (λ g a. refl))
    typs_go {f} [] is still stand tells ns (v ∷ vs) h = no (h f.integers (same f))
    typs_go {f} (y ∷ ys) is still stand tells ns [] h = no (h f.integers (same f))
    typs_go {n} {f} {facts} (y ∷ ys) is still stand tells [] (v ∷ vs) h =
        typs_on y ys is still stand tells M.Unnamed [] v vs h (λ m g fs a k.
        typs_go ys is (still_later past f g is a still) (Under.stand_later types past own rs f g a stand) tells [] vs k)
    typs_go {n} {f} {facts} (y ∷ ys) is still stand tells (name ∷ ns) (v ∷ vs) h =
        typs_on y ys is still stand tells name ns v vs h (λ m g fs a k.
        typs_go ys is (still_later past f g is a still) (Under.stand_later types past own rs f g a stand) tells ns vs k)

    tuple_goes : {n : ℕ} {f : Point n} {facts : List Fact} (ys : List SuchTyp) (is : List Index) → Still past f is → Stand f → (tells : Bool)
        (name : Naming) (v : Value) (w : Value-F Value) → out-Value v ≡ w
        → Always f (λ g. form_asked types w (T.Tuple (types_in ys)) (under_these past g is) (stood g) ≡ true)
        → Opens (KeepsForm f is (T.Tuple (types_in ys)) v) v n f facts (opened_form (T.Tuple (types_in ys)) is tells name)
    tuple_goes {f} ys is still stand tells name v (V.Tuple vs) e h =
        let ts : List Typ = types_in ys in
        let mu : Assignment = under_these past f.integers is in
        let all : Closeds = stood f.integers in
        tuple_kept types past own (KeepsForm f is (T.Tuple ts) v) (KeepsTyps f is ts vs) v vs e
        (λ ms keeps w k.
        let s = tuple_alone types past own ms (out-Value w) k in
        let r = keeps s.0 s.2 in (
          ap (λ y. form_asked types y (T.Tuple ts) mu all) s.1 ∙ ap (each_belongs (asks types s.0) mu all) (fronts (inner types (V.Tuple s.0) all) ts) ∙ r.0,
          λ j. ap (form_place (T.Tuple (map placed ts)) j) s.1 ∙ r.1 j ∙ sym (ap (form_place (T.Tuple (map placed ts)) j) e),
        ))
        (typs_go ys is still stand tells (namings_of name) vs (λ g a.
        ap (each_belongs (asks types vs) (under_these past g is) (stood g)) (sym (fronts (inner types (V.Tuple vs) (stood g)) (types_in ys))) ∙ h g a))
    tuple_goes {f} ys is still stand tells name v w e h = no (h f.integers (same f))

    module _ (go : (i : ℕ) (r : Reading) → slice_get rs i ≡ Some r → ReadingGoes r) where
      form_goes : (y : Typ-F SuchTyp) (is : List Index) (tells : Bool) (name : Naming) (n : ℕ) (f : Point n) (facts : List Fact) (v : Value) → Still past f is
          → Stand f → Always f (λ g. form_asked types (out-Value v) (typ_form y) (under_these past g is) (stood g) ≡ true)
          → Opens (KeepsForm f is (typ_form y) v) v n f facts (opened_form (typ_form y) is tells name)
      form_goes T.Unit is tells name n f facts v still stand h = (
        meant_by W.Unit,
        unit_holds (under_these past f.integers is) (stood f.integers) zeros (out-Value v) (h f.integers (same f)),
        λ w k. (ap (λ y. form_asked types y T.Unit (under_these past f.integers is) (stood f.integers)) (unit_alone types past own (out-Value w) k), λ j. refl),
        gives I.Unit (λ g a. meant_is types (there g) own I.Unit W.Unit I.rolls-Unit ∙ units_same types past own g zeros),
      )
      form_goes T.Bool is tells name n f facts v still stand h =
          bool_known (KeepsForm f is T.Bool v) name (λ g. under_these past g is) stood v (out-Value v) refl h (λ b w k.
          (ap (λ y. form_asked types y T.Bool (under_these past f.integers is) (stood f.integers)) (truth_alone types past own b (out-Value w) k), λ j. refl))
      form_goes (T.Truth c) is tells name n f facts v still stand h = truth_known is v c (out-Value v) refl h
      form_goes T.Bit is tells name n f facts v still stand h = (
        meant_by W.Bit,
        bit_holds (under_these past f.integers is) (stood f.integers) zeros (out-Value v) (h f.integers (same f)),
        λ w k. (
          ap (λ y. form_asked types y T.Bit (under_these past f.integers is) (stood f.integers)) (bit_alone types past own (out-Value w) k).1,
          λ j. refl,
        ),
        gives I.Bit (λ g a. meant_is types (there g) own I.Bit W.Bit I.rolls-Bit ∙ bit_same types past own g zeros),
      )
      form_goes (T.Bits t) is tells name n f facts v still stand h = bits_typ_known is v t (out-Value v) refl h
      form_goes (T.Int t) is tells name n f facts v still stand h = integer_typ_known is v tells t (out-Value v) refl h
      form_goes (T.Range t u) is tells name n f facts v still stand h = range_known is v name t u (out-Value v) refl h
      form_goes T.String is tells name n f facts v still stand h = (
        meant_by W.String,
        string_holds (under_these past f.integers is) (stood f.integers) zeros (out-Value v) (h f.integers (same f)),
        λ w k. (string_alone types past own (out-Value w) (under_these past f.integers is) (stood f.integers) k, λ j. refl),
        gives I.String (λ g a. meant_is types (there g) own I.String W.String I.rolls-String ∙ strings_same types past own g zeros),
      )
      form_goes (T.List y) is tells name n f facts v still stand h =
          let r : Reading = R.Of y.0 is rs in
          let c : Closed = closed types (there f.integers) own r in
          let item : (x : Value) → belongs types x (reading y.0 (under_these past f.integers is) (stood f.integers)) ≡ belongs types x c =
          λ x. ap (belongs types x) (sym (Under.closed_of types past own rs f.integers y.0 is)) in (
            meant_by (W.List c),
            list_holds (under_these past f.integers is) (stood f.integers) zeros y.0 c item (out-Value v) (h f.integers (same f)),
            λ w k. (list_asked types past own (under_these past f.integers is) (stood f.integers) c y.0 item (out-Value w) k, λ j. refl),
            gives (I.List r) (λ g a.
                meant_is types (there g) own (I.List r) (W.List r) (I.rolls-List r)
                ∙ lists_same types past own g zeros (closed types (there g) own r) c (Under.of_steady types past own rs f is y.0 still stand g a)),
          )
      form_goes (T.Vector l y) is tells name n f facts v still stand h = vector_typ_known is v still stand l y.0 (out-Value v) refl h
      form_goes (T.Tuple ys) is tells name n f facts v still stand h = tuple_goes ys is still stand tells name v (out-Value v) refl h
      form_goes (T.Named u args ys) is tells name n f facts v still stand h =
          subst (λ qs. Opens (KeepsForm f is (T.Named u args (types_in ys)) v) v n f facts (named_opened is u args qs)) (sym (arguments_of is (types_in ys)))
          (named_known is v u args (types_in ys) still stand h)
      form_goes (T.Variable i) is tells name n f facts v still stand h =
          subst (λ o. Opens (KeepsForm f is (T.Variable i) v) v n f facts (variable_opened i o tells name)) (sym (slice_get-map (λ r. (r, opening r)) rs i))
          (variable_goes go stand is i tells name v (slice_get rs i) refl h)
      form_goes (T.Exists own_name c y) is tells name n f facts v still stand h =
          exists_goes is v own_name c y.0 name y.1 still stand (placed y.0 0 v) refl (λ g a.
          ap (λ o. given_belongs o (under_these past g is) c (inner types (out-Value v) (stood g) y.0)) (ap (placed y.0 0) (sym (bare types v))) ∙ h g a)

      typ_step : (y : Typ-F SuchTyp) (is : List Index) → TypGoes is (roll-Typ (typ_form y))
      unfolding TypGoes
      typ_step y is tells name n f facts v still stand h =
          let x : Typ-F Typ = typ_form y in
          subst (λ w. Opens (KeepsTyp f is (roll-Typ x) v) v n f facts w) (sym (opens_form x is tells name))
          (kept_as types past own (KeepsForm f is x v) (KeepsTyp f is (roll-Typ x) v) v
          (λ m keeps w k.
          let s = keeps w k in (
            belongs_form types w x (roll-Typ x) (under_these past f.integers is) (stood f.integers) refl ∙ s.0,
            λ j. placed_by x j w ∙ s.1 j ∙ sym (placed_by x j v),
          ))
          (form_goes y is tells name n f facts v still stand (λ g a.
          sym (belongs_form types v x (roll-Typ x) (under_these past g is) (stood g) refl) ∙ h g a)))

      pub typ_goes : (t : Typ) (is : List Index) → TypGoes is t
      typ_goes = ind-Typ (λ t. (is : List Index) → TypGoes is t)
          (λ e y same_form. subst (λ d. (is : List Index) → TypGoes is (roll-Typ d)) same_form (typ_step y))
