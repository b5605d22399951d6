-- Values that have indices, and types that hang on fixed variables alone.
use Rattle.std.proofs.Common.{◌≡◌, ℕ, zero, suc, ℤ, pos, true, false, List, [], ◌∷◌, map, Option, Some, None, option_map}
use Rattle.std.proofs.Common.{refl, sym, ap, ◌∙◌, subst}
use Rattle.std.proofs.lemmas.Bool.{and_parts}
use Rattle.value_laws.proofs.Basics.{fronts, no}
use Rattle.sail_types.specs.Belongs.{Reading as Closed, Readings as Closeds, reading, assigned, under, number_under, read_each, Asked, belongs}
use Rattle.sail_types.specs.Numbers.{Assignment, Positive, number}
use Rattle.sail_types.specs.Places.{Given, an_int}
use Rattle.sail_types.specs.Places as Of
use Rattle.sail_types.specs.Readings.{more, read_index, read_indices}
use Rattle.sail_types.specs.Sums.{read, substituted}
use Rattle.sail_types.specs.declared.numbers.Index.{Index}
use Rattle.sail_types.specs.declared.numbers.Index.TheVariants as N
use Rattle.sail_types.specs.declared.numbers.Num.{Num}
use Rattle.sail_types.specs.declared.table.Types.{Types}
use Rattle.sail_types.specs.declared.types.Typ.{Typ, Typ-F, roll-Typ}
use Rattle.sail_types.specs.declared.types.Typ.TheFolds.{ind-Typ, map-Typ}
use Rattle.sail_types.specs.declared.types.Typ.TheOpen as T
use Rattle.sail_types.specs.declared.values.Value.{Value, Value-F, out-Value, roll-Value}
use Rattle.sail_types.specs.declared.values.Value.TheFolds.{map-Value}
use Rattle.sail_types.specs.declared.values.Value.TheOpen as V
use Rattle.sail_types.specs.declared.values.Value.TheViews.{roll-out-Value}
use Rattle.sail_types.proofs.SumNumbers.{some_same}
use Rattle.value_indices.specs.declared.indices.Indices.{Indices, out-Indices}
use Rattle.value_indices.specs.declared.indices.Indices.TheOpen as W
use Rattle.value_indices.specs.declared.indices.Indices.TheOpen.{Indices-F}
use Rattle.value_indices.specs.declared.indices.Indices.TheViews.{out-roll-Reading, roll-out-Indices}
use Rattle.value_indices.specs.declared.indices.Reading.{Reading, out-Reading}
use Rattle.value_indices.specs.declared.indices.Reading.TheVariants as R
use Rattle.value_fits.specs.Fitting.{each_under}
use Rattle.value_fits.specs.Fitting as In
use Rattle.value_laws.specs.Belonging.{Integers, standing, closeds, index_there, Meant, wides, each_holds, form_holds, indices_hold, wide_of, meant}
use Rattle.value_laws.specs.Belonging.{closed, has}
use Rattle.value_laws.specs.Belonging.{types_or_own, type_variables}
use Rattle.value_laws.specs.Known.{Point, Agree, Later}
use Rattle.value_laws.proofs.Arguments.{AreAs, under_these, assigned_as, assigned_there, nil}
use Rattle.value_laws.proofs.Numbers.{mapped, truth_is, beyond_past, beyond_read, index_number, index_read, index_truth}
use Rattle.value_laws.proofs.Opening.{Steady, steady_later, stood, closed_of, closeds_of, cons_same, same_lists, args_same}
use Rattle.value_laws.proofs.Opening.{item_steady}
use Rattle.value_laws.proofs.Steps.{same, agree_on}
use Rattle.value_laws.proofs.Values.{questions, meanings, meant_is, has_form}
use Rattle.fitting_laws.proofs.Holes.{none}
use Rattle.fitting_laws.proofs.Places.{given_there, index_placed, first_same, bits_placed, integer_placed, truth_placed, vector_placed}

-- ---- the form of what was made

pub out_of : (t : Typ) (is : List Index) (rs : List Reading) → out-Reading (R.Of t is rs) ≡ W.Of t is rs
out_of t is rs = ap out-Reading (sym (R.rolls-Of t is rs)) ∙ out-roll-Reading (W.Of t is rs)

-- ---- parts of types

abbrev pub typ_part : Closed → Typ
typ_part (reading t mu rs) = t

abbrev pub assignment_part : Closed → Assignment
assignment_part (reading t mu rs) = mu

abbrev pub readings_part : Closed → Closeds
readings_part (reading t mu rs) = rs

-- the value that was asked
module _ (types : Types) where
  bare_is : (w : Value-F Value) → map-Value (Value × Asked) Value (λ p. p.0) (questions types w) ≡ w
  bare_is V.Unit = refl
  bare_is (V.Integer z) = refl
  bare_is (V.Truth b) = refl
  bare_is (V.Bit b) = refl
  bare_is (V.Bits bits) = refl
  bare_is (V.String text) = refl
  bare_is (V.Member i k) = refl
  bare_is (V.List vs) = ap V.List (fronts (belongs types) vs)
  bare_is (V.Vector vs) = ap V.Vector (fronts (belongs types) vs)
  bare_is (V.Tuple vs) = ap V.Tuple (fronts (belongs types) vs)
  bare_is (V.Struct i vs) = ap (V.Struct i) (fronts (belongs types) vs)
  bare_is (V.Union i k v) = refl

  pub back : (v : Value) → roll-Value (map-Value (Value × Asked) Value (λ p. p.0) (questions types (out-Value v))) ≡ v
  back v = ap roll-Value (bare_is (out-Value v)) ∙ roll-out-Value v

-- ---- numbers in the place of variables

module _ (past : Positive) (g : Integers) where
  abbrev there : Assignment
  there = standing past g

  -- one binder further in, where this number stands for what is bound
  module _ (z : ℤ) (is : List Index) (m : Num) (same_number : number there m ≡ z) where
    abbrev inside : List Index
    inside = N.Number m ∷ is

    ints_inside : (k : ℕ) → (under z (assigned there is)).int k ≡ (assigned there inside).int k
    ints_inside zero = sym same_number
    ints_inside (suc k) = refl

    bools_inside : (k : ℕ) → (under z (assigned there is)).bool k ≡ (assigned there inside).bool k
    bools_inside zero = sym (truth_is there false)
    bools_inside (suc k) = refl

    beyond_inside : (t : Num) → (under z (assigned there is)).beyond t ≡ (assigned there inside).beyond t
    beyond_inside t = beyond_read past g is (substituted (number_under z) t) ∙ sym (beyond_past past g (read inside t))

    pub under_number : under z (assigned there is) ≡ assigned there inside
    under_number = λ j. record { int = λ k. ints_inside k j; bool = λ k. bools_inside k j; beyond = λ t. beyond_inside t j }

  -- arguments that were read
  read_first : (is : List Index) (a : Index) (args js : List Index)
      → ((ks : List Index) → read_indices is args ≡ Some ks → AreAs there (under_these past g is) args ks) → (o : Option Index) → read_index is a ≡ o
      → more o (read_indices is args) ≡ Some js → AreAs there (under_these past g is) (a ∷ args) js
  read_first is a args js rest None h k = none k
  read_first is a args js rest (Some x) h k =
      let q = mapped (λ ys. x ∷ ys) (read_indices is args) js k in
      subst (AreAs there (under_these past g is) (a ∷ args)) q.2 (
        record { numbers = index_number past g is a x h; truths = index_truth past g is a x h; as_there = index_read past g is a x h },
        rest q.0 q.1,
      )

  read_as : (is args js : List Index) → read_indices is args ≡ Some js → AreAs there (under_these past g is) args js
  read_as is [] js e = subst (AreAs there (under_these past g is) []) (some_same [] js e) tt
  read_as is (a ∷ args) js e = read_first is a args js (λ ks k. read_as is args ks k) (read_index is a) refl e

  pub read_assigned : (is args js : List Index) → read_indices is args ≡ Some js → assigned there js ≡ assigned (under_these past g is) args
  read_assigned is args js e =
      assigned_as there (under_these past g is) (λ o p. beyond_past past g o ∙ sym (beyond_read past g is p)) args js (read_as is args js e)

module _ (types : Types) (past : Positive) (own : List Closed) where
  abbrev at : Integers → Assignment
  at g = standing past g

  -- for all integers of variables that aren't fixed
  abbrev pub Always : {n : ℕ} → Point n → (Integers → Type 0) → Type 0
  Always f P = (g : Integers) → Agree f g → P g

  -- ---- values

  -- the value has the indices, and what they widen to hangs on fixed variables alone
  abbrev pub Had : {n : ℕ} → Point n → Indices → Value → Type 0
  Had f i v = Always f (λ g. (has types (at g) own i v ≡ true) × ((meant types (at g) own i).wide ≡ (meant types (at f.integers) own i).wide))

  pub had_later : {n m : ℕ} (f : Point n) (g : Point m) (i : Indices) (v : Value) → Later f g → Had f i v → Had g i v
  had_later f g i v a h k b = ((h k (agree_on a b)).0, (h k (agree_on a b)).1 ∙ sym (h g.integers (agree_on a (same g))).1)

  -- what indices of this form widen to
  abbrev pub wide_at : Integers → Indices-F Indices Reading → Closed
  wide_at g y = wide_of types (at g) own (meanings types (at g) own y)

  -- by their form
  abbrev pub HadForm : {n : ℕ} → Point n → Indices-F Indices Reading → Value → Type 0
  HadForm f y v = Always f (λ g. (indices_hold types (at g) own (meanings types (at g) own y) v ≡ true) × (wide_at g y ≡ wide_at f.integers y))

  pub wide_is : (g : Integers) (i : Indices) → (meant types (at g) own i).wide ≡ wide_at g (out-Indices i)
  wide_is g i = ap (λ (m : Meant). m.wide) (meant_is types (at g) own i (out-Indices i) (roll-out-Indices i))

  pub had_form : {n : ℕ} (f : Point n) (i : Indices) (v : Value) → Had f i v → HadForm f (out-Indices i) v
  had_form f i v h g a = (
    sym (has_form types (at g) own i (out-Indices i) v (roll-out-Indices i)) ∙ (h g a).0,
    sym (wide_is g i) ∙ (h g a).1 ∙ wide_is f.integers i,
  )

  -- parts of a tuple
  abbrev pub EachHad : {n : ℕ} → Point n → List Indices → List Value → Type 0
  EachHad f [] [] = Unit {0}
  EachHad f (i ∷ is) (v ∷ vs) = Had f i v × EachHad f is vs
  EachHad f is vs = ⊥

  pub each_later : {n m : ℕ} (f : Point n) (g : Point m) (is : List Indices) (vs : List Value) → Later f g → EachHad f is vs → EachHad g is vs
  each_later f g [] [] a h = tt
  each_later f g [] (v ∷ vs) a h = absurd h
  each_later f g (i ∷ is) [] a h = absurd h
  each_later f g (i ∷ is) (v ∷ vs) a h = (had_later f g i v a h.0, each_later f g is vs a h.1)

  abbrev pub wides_at : Integers → List Indices → List Closed
  wides_at g is = wides (map (meant types (at g) own) is)

  pub each_had : {n : ℕ} (f : Point n) (is : List Indices) (vs : List Value)
      → Always f (λ g. (each_holds (map (meant types (at g) own) is) vs ≡ true) × (wides_at g is ≡ wides_at f.integers is)) → EachHad f is vs
  each_had f [] [] h = tt
  each_had f [] (v ∷ vs) h = no (h f.integers (same f)).0
  each_had f (i ∷ is) [] h = no (h f.integers (same f)).0
  each_had f (i ∷ is) (v ∷ vs) h =
      let held : (g : Integers) → Agree f g → (has types (at g) own i v ≡ true) × (each_holds (map (meant types (at g) own) is) vs ≡ true) =
      λ g a. and_parts (has types (at g) own i v) (each_holds (map (meant types (at g) own) is) vs) (h g a).0 in
      let apart : (g : Integers) → Agree f g
      → ((meant types (at g) own i).wide ≡ (meant types (at f.integers) own i).wide) × (wides_at g is ≡ wides_at f.integers is) =
      λ g a. cons_same types past own (meant types (at g) own i).wide (meant types (at f.integers) own i).wide (wides_at g is) (wides_at f.integers is)
      (h g a).1 in
      (λ g a. ((held g a).0, (apart g a).0), each_had f is vs (λ g a. ((held g a).1, (apart g a).1)))

  -- ---- types

  abbrev pub Stays : {n : ℕ} → Point n → Reading → Type 0
  Stays f r = Steady types past own f r

  pub stays_later : {n m : ℕ} (f : Point n) (g : Point m) (r : Reading) → Later f g → Stays f r → Stays g r
  stays_later f g r a s = steady_later types past own f g r a s

  -- what the variables of a type stand for
  abbrev pub StaysUnder : {n : ℕ} → Point n → List Index → List Reading → Type 0
  StaysUnder f is rs =
      Always f (λ g. (under_these past g is ≡ under_these past f.integers is) × (stood types past own rs g ≡ stood types past own rs f.integers))

  pub under_later : {n m : ℕ} (f : Point n) (g : Point m) (is : List Index) (rs : List Reading) → Later f g → StaysUnder f is rs → StaysUnder g is rs
  under_later f g is rs a s k b =
      let x = s k (agree_on a b) in let y = s g.integers (agree_on a (same g)) in (x.0 ∙ sym y.0, x.1 ∙ sym y.1)

  pub of_stays : {n : ℕ} (f : Point n) (is : List Index) (rs : List Reading) (t : Typ) → StaysUnder f is rs → Stays f (R.Of t is rs)
  of_stays f is rs t s g a =
      closed_of types past own rs g t is ∙ (λ j. reading t ((s g a).0 j) ((s g a).1 j)) ∙ sym (closed_of types past own rs f.integers t is)

  pub under_stays : {n : ℕ} (f : Point n) (is : List Index) (rs : List Reading) (t : Typ) → Stays f (R.Of t is rs) → StaysUnder f is rs
  under_stays f is rs t s g a =
      let e = sym (closed_of types past own rs g t is) ∙ s g a ∙ closed_of types past own rs f.integers t is in
      (ap assignment_part e, ap readings_part e)

  -- the arguments of a named type
  abbrev pub ArgumentsStay : {n : ℕ} → Point n → List Index → List Reading → Type 0
  ArgumentsStay f is rs =
      Always f (λ g. (assigned (at g) is ≡ assigned (at f.integers) is)
      × (map (closed types (at g) own) rs ≡ map (closed types (at f.integers) own) rs))

  pub arguments_later : {n m : ℕ} (f : Point n) (g : Point m) (is : List Index) (rs : List Reading) → Later f g → ArgumentsStay f is rs
      → ArgumentsStay g is rs
  arguments_later f g is rs a s k b =
      let x = s k (agree_on a b) in let y = s g.integers (agree_on a (same g)) in (x.0 ∙ sym y.0, x.1 ∙ sym y.1)

  -- as what they stand for
  pub arguments_under : {n : ℕ} (f : Point n) (is : List Index) (rs : List Reading) → ArgumentsStay f is rs → StaysUnder f is rs
  arguments_under f is rs s g a = ((s g a).0, ap (λ cs. closeds (types_or_own cs own)) (s g a).1)

  pub named_stays : {n : ℕ} (f : Point n) (u : ℕ) (is : List Index) (rs : List Reading)
      → Always f (λ g. wide_at g (W.Named u is rs) ≡ wide_at f.integers (W.Named u is rs)) → ArgumentsStay f is rs
  named_stays f u is rs s g a =
      let cs : List Closed = map (closed types (at g) own) rs in
      let ds : List Closed = map (closed types (at f.integers) own) rs in
      let args : map (index_there (at g)) is ≡ map (index_there (at f.integers)) is =
      args_same types past own u (map (index_there (at g)) is) (map (index_there (at f.integers)) is) (type_variables 0 cs) (type_variables 0 ds)
      (ap typ_part (s g a)) in (
        sym (assigned_there past g is) ∙ ap (assigned (nil past)) args ∙ assigned_there past f.integers is,
        same_lists types past own cs ds (ap readings_part (s g a)),
      )

  -- as they are read under what the variables of a type stand for
  pub read_stays : {n : ℕ} (f : Point n) (is : List Index) (rs : List Reading) (args js : List Index) (ts : List Typ) → read_indices is args ≡ Some js
      → StaysUnder f is rs → ArgumentsStay f js (each_under is rs ts)
  read_stays f is rs args js ts e s g a = (
    read_assigned past g is args js e ∙ ap (λ mu. assigned mu args) (s g a).0 ∙ sym (read_assigned past f.integers is args js e),
    same_lists types past own (map (closed types (at g) own) (each_under is rs ts)) (map (closed types (at f.integers) own) (each_under is rs ts))
        (closeds_of types past own rs g is ts ∙ (λ j. read_each ((s g a).0 j) ((s g a).1 j) ts) ∙ sym (closeds_of types past own rs f.integers is ts)),
  )

  -- the type of items
  pub list_stays : {n : ℕ} (f : Point n) (r : Reading) → Always f (λ g. wide_at g (W.List r) ≡ wide_at f.integers (W.List r)) → Stays f r
  list_stays f r s g a = item_steady types past own g f.integers r (ap readings_part (s g a))

  pub vector_stays : {n : ℕ} (f : Point n) (l : Num) (r : Reading)
      → Always f (λ g. wide_at g (W.Vector l r) ≡ wide_at f.integers (W.Vector l r)) → Stays f r
  vector_stays f l r s g a = item_steady types past own g f.integers r (ap readings_part (s g a))

  pub tuple_stays : (g k : Integers) (is : List Indices) → wide_at g (W.Tuple is) ≡ wide_at k (W.Tuple is) → wides_at g is ≡ wides_at k is
  tuple_stays g k is e = same_lists types past own (wides_at g is) (wides_at k is) (ap readings_part e)

  -- ---- the number that the indices of a value give to a variable hangs on fixed variables alone

  abbrev pub given_at : Integers → Option Index → Option Given
  given_at g o = option_map (given_there (at g)) o

  abbrev pub GivenStays : {n : ℕ} → Point n → Option Index → Type 0
  GivenStays f o = Always f (λ g. given_at g o ≡ given_at f.integers o)

  PlacedStays : Typ → Type 0
  PlacedStays t = (j : ℕ) (i : Indices) (v : Value) (n : ℕ) (f : Point n) → Had f i v → GivenStays f (In.placed t j i)

  abbrev SuchTyp : Type 0
  SuchTyp = (t : Typ) × PlacedStays t

  abbrev types_in : List SuchTyp → List Typ
  types_in ys = map (λ (y : SuchTyp). y.0) ys

  among_stays : {n : ℕ} (f : Point n) (ys : List SuchTyp) (j : ℕ) (is : List Indices) (vs : List Value) → EachHad f is vs
      → GivenStays f (In.among (map In.placed (types_in ys)) j is)
  unfolding PlacedStays
  among_stays f [] j is vs h g a = refl
  among_stays f (y ∷ ys) j [] vs h g a = refl
  among_stays f (y ∷ ys) j (i ∷ is) [] h g a = absurd h
  among_stays {n} f (y ∷ ys) j (i ∷ is) (v ∷ vs) h g a =
      first_same (at g) (In.placed y.0 j i) (In.among (map In.placed (types_in ys)) j is) (given_at f.integers (In.placed y.0 j i))
      (given_at f.integers (In.among (map In.placed (types_in ys)) j is)) (y.1 j i v n f h.0 g a) (among_stays f ys j is vs h.1 g a)
      ∙ sym (first_same (at f.integers) (In.placed y.0 j i) (In.among (map In.placed (types_in ys)) j is) (given_at f.integers (In.placed y.0 j i))
      (given_at f.integers (In.among (map In.placed (types_in ys)) j is)) refl refl)

  tuple_placed_stays : {n : ℕ} (f : Point n) (ys : List SuchTyp) (j : ℕ) (is : List Indices) (w : Value-F Value)
      → Always f (λ g. (form_holds types (at g) own (W.Tuple (map (meant types (at g) own) is)) w ≡ true)
      × (wide_at g (W.Tuple is) ≡ wide_at f.integers (W.Tuple is)))
      → GivenStays f (In.among (map In.placed (types_in ys)) j is)
  tuple_placed_stays f ys j is (V.Tuple vs) h =
      among_stays f ys j is vs (each_had f is vs (λ g a. ((h g a).0, tuple_stays g f.integers is (h g a).1)))
  tuple_placed_stays f ys j is w h = no (h f.integers (same f)).0

  form_placed_stays : (y : Typ-F SuchTyp) (j : ℕ) (x : Indices-F Indices Reading) (v : Value) (n : ℕ) (f : Point n)
      → HadForm f x v → GivenStays f (In.form_place (map-Typ Typ In.Placed In.placed (map-Typ SuchTyp Typ (λ p. p.0) y)) j x)
  form_placed_stays (T.Int t) j (W.Integer m) v n f h g a =
      integer_placed types own (at g) m t j (out-Value v) (h g a).0
      ∙ sym (integer_placed types own (at f.integers) m t j (out-Value v) (h f.integers (same f)).0)
  form_placed_stays (T.Truth c) j (W.Truth d) v n f h g a =
      truth_placed types own (at g) d c j (out-Value v) (h g a).0
      ∙ sym (truth_placed types own (at f.integers) d c j (out-Value v) (h f.integers (same f)).0)
  form_placed_stays (T.Bits t) j (W.Bits m) v n f h g a =
      bits_placed types own (at g) m t j (out-Value v) (h g a).0
      ∙ sym (bits_placed types own (at f.integers) m t j (out-Value v) (h f.integers (same f)).0)
  form_placed_stays (T.Vector l y) j (W.Vector m r) v n f h g a =
      vector_placed types own (at g) m l (closed types (at g) own r) (Of.placed y.0) j (out-Value v) (h g a).0
      ∙ sym (vector_placed types own (at f.integers) m l (closed types (at f.integers) own r) (Of.placed y.0) j (out-Value v) (h f.integers (same f)).0)
  form_placed_stays (T.Tuple ys) j (W.Tuple is) v n f h g a = tuple_placed_stays f ys j is (out-Value v) h g a
  form_placed_stays y j x v n f h g a = refl

  placed_step : (y : Typ-F SuchTyp) → PlacedStays (roll-Typ (map-Typ SuchTyp Typ (λ p. p.0) y))
  unfolding PlacedStays
  placed_step (T.Exists name c y) j i v n f h g a =
      let e = index_placed (T.Exists name c y.0) (roll-Typ (T.Exists name c y.0)) j i refl in
      ap (given_at g) e ∙ y.1 (suc j) i v n f h g a ∙ sym (ap (given_at f.integers) e)
  placed_step y j i v n f h g a =
      let x = map-Typ SuchTyp Typ (λ p. p.0) y in
      let e = index_placed x (roll-Typ x) j i refl in
      ap (given_at g) e ∙ form_placed_stays y j (out-Indices i) v n f (had_form f i v h) g a ∙ sym (ap (given_at f.integers) e)

  placed_stays : (t : Typ) → PlacedStays t
  placed_stays = ind-Typ PlacedStays (λ e y same_form. subst (λ d. PlacedStays (roll-Typ d)) same_form (placed_step y))

  -- so do those of several values
  pub among_given_stays : {n : ℕ} (f : Point n) (ts : List Typ) (j : ℕ) (is : List Indices) (vs : List Value) → EachHad f is vs
      → GivenStays f (In.among (map In.placed ts) j is)
  unfolding PlacedStays
  among_given_stays f [] j is vs h g a = refl
  among_given_stays f (t ∷ ts) j [] vs h g a = refl
  among_given_stays f (t ∷ ts) j (i ∷ is) [] h g a = absurd h
  among_given_stays {n} f (t ∷ ts) j (i ∷ is) (v ∷ vs) h g a =
      first_same (at g) (In.placed t j i) (In.among (map In.placed ts) j is) (given_at f.integers (In.placed t j i))
      (given_at f.integers (In.among (map In.placed ts) j is)) (placed_stays t j i v n f h.0 g a) (among_given_stays f ts j is vs h.1 g a)
      ∙ sym (first_same (at f.integers) (In.placed t j i) (In.among (map In.placed ts) j is) (given_at f.integers (In.placed t j i))
      (given_at f.integers (In.among (map In.placed ts) j is)) refl refl)

  -- the number that is given
  abbrev number_of : Option Given → ℤ
  number_of (Some (an_int z)) = z
  number_of o = pos 0

  pub number_stays : {n : ℕ} (f : Point n) (t : Typ) (i : Indices) (v : Value) (m : Num) → Had f i v → In.placed t 0 i ≡ Some (N.Number m)
      → Always f (λ g. number (at g) m ≡ number (at f.integers) m)
  unfolding PlacedStays
  number_stays {n} f t i v m h e g a =
      ap number_of (ap (given_at g) (sym e) ∙ placed_stays t 0 i v n f h g a ∙ ap (given_at f.integers) e)
