-- What is known of a value of a widened type holds, and each other value with the same indices is of that type too.
use Rattle.std.proofs.Common.{◌≡◌, ℕ, suc, ◌+◌, ℤ, pos, int_le, Bool, true, false, ◌&&◌, List, [], ◌∷◌, map, length, slice_get, nat_eq, Some, refl}
use Rattle.std.proofs.Common.{sym, ap, ◌∙◌, subst, arith}
use Rattle.std.specs.Ordering.{int_eq}
use Rattle.std.proofs.lemmas.Bool.{and_parts}
use Rattle.std.proofs.lemmas.Bool.Decides.{Decides-int_eq}
use Rattle.std.proofs.lemmas.List.{length-map}
use Rattle.value_laws.proofs.Basics.{no, two, fronts}
use Rattle.sail_types.proofs.SumNumbers.{some_same}
use Rattle.sail_types.proofs.Substituted.{number_constant}
use Rattle.sail_types.specs.Belongs.{Reading as Closed, Readings as Closeds, reading, no_readings, assigned, read_each, each_belongs}
use Rattle.sail_types.specs.Belongs.{all_belong, fields_belong, payload_belongs, belongs}
use Rattle.sail_types.specs.Limits.{is_small, is_width, is_length}
use Rattle.sail_types.specs.Named.{fields, payload}
use Rattle.sail_types.specs.Numbers.{Assignment, Positive, number}
use Rattle.sail_types.specs.Sums.{constant}
use Rattle.sail_types.specs.declared.numbers.Index.{Index}
use Rattle.sail_types.specs.declared.numbers.Num.{Num}
use Rattle.sail_types.specs.declared.table.Types.{Types}
use Rattle.sail_types.specs.declared.types.Typ.{Typ, Typ-F, roll-Typ}
use Rattle.sail_types.specs.declared.types.Typ.TheOpen as T
use Rattle.sail_types.specs.declared.types.Typ.TheVariants as U
use Rattle.sail_types.specs.declared.values.Value.{Value, Value-F, out-Value}
use Rattle.sail_types.specs.declared.values.Value.TheOpen as V
use Rattle.row_types.specs.Formulas.{least, most}
use Rattle.value_indices.specs.declared.indices.Indices.{Indices, roll-Indices}
use Rattle.value_indices.specs.declared.indices.Indices.TheFolds.{para-roll-Indices, map-Indices}
use Rattle.value_indices.specs.declared.indices.Indices.TheOpen as W
use Rattle.value_indices.specs.declared.indices.Indices.TheOpen.{Indices-F}
use Rattle.value_indices.specs.declared.indices.Indices.TheVariants as I
use Rattle.value_indices.specs.declared.indices.Naming.{Naming}
use Rattle.value_indices.specs.declared.indices.Naming.TheVariants as M
use Rattle.value_indices.specs.declared.indices.Reading.{Reading}
use Rattle.value_indices.specs.declared.notes.Fact.{Fact}
use Rattle.value_indices.specs.Steps.{Walk, bind, give}
use Rattle.value_indices.specs.Opening.{least_num, largest_num, any_integer, bits_of, vector_of, parts_opened, namings_of, widened_opened}
use Rattle.value_indices.specs.Opening.{reading_opened, opening, wide_opening, Opening}
use Rattle.value_laws.specs.Belonging.{Integers, standing, nowhere, closeds, or_no_value, type_variables, number_there, index_there, Meant, meant}
use Rattle.value_laws.specs.Belonging.{closed, each_holds, form_holds, wides, wide_of}
use Rattle.value_laws.specs.Known.{Point, Agree}
use Rattle.value_laws.proofs.Numbers.{above_least, below_most}
use Rattle.value_laws.proofs.Steps.{same, agree_on, gives}
use Rattle.value_laws.proofs.Values.{inner, form_asked, belongs_out, belongs_form, answer, variable_belongs, nothing_belongs, meanings, meant_is}
use Rattle.value_laws.proofs.Arguments.{assigned_there, indices_there}
use Rattle.value_laws.proofs.Meanings.{bit_same, lists_same, named_same, strings_same, units_same, variable_same}
use Rattle.value_laws.proofs.Alike.{asks, fields_alike, payload_alike, variables_same}
use Rattle.value_laws.proofs.Knowing.{AllOpenedAs, OpenedAs, between_kept, bits_kept, both_kept, form_meant, kept_as, tuple_kept, vector_kept}
use Rattle.value_laws.proofs.Keeping.{all_of, bit_alone, bits_asked, integer_alone, list_asked, string_alone, truth_alone, tuple_alone, unit_alone}
use Rattle.value_laws.proofs.Keeping.{vector_asked}
use Rattle.value_laws.proofs.Stood as Under
use Rattle.value_laws.proofs.OpenedTypes.{ReadingGoes, bit_holds, bool_known, list_holds, string_holds, unit_holds}

module _ (types : Types) (past : Positive) (own : List Closed) where
  abbrev there : Integers → Assignment
  there g = standing past g

  abbrev zeros : Integers
  zeros i = pos 0

  abbrev Opens : (Meant → Type 0) → Value → (n : ℕ) → Point n → List Fact → Walk Indices → Type 0
  Opens P v n f facts walk = OpenedAs types past own P v n f facts walk

  abbrev AllOpen : (List Meant → Type 0) → List Value → (n : ℕ) → Point n → List Fact → Walk (List Indices) → Type 0
  AllOpen P vs n f facts walk = AllOpenedAs types past own P vs n f facts walk

  abbrev meant_by : Indices-F Meant Closed → Meant
  meant_by x = form_meant types past own x

  -- for all integers of variables that aren't fixed
  abbrev Always : {n : ℕ} → Point n → (Integers → Type 0) → Type 0
  Always f P = (g : Integers) → Agree f g → P g

  abbrev Steady : {n : ℕ} → Point n → Reading → Type 0
  Steady f r = Under.Steady types past own f r

  -- ---- several types as what Type variables stand for

  abbrev pub AllIn : List Value → List Closed → Type 0
  AllIn [] [] = Unit {0}
  AllIn (v ∷ vs) (c ∷ cs) = (belongs types v c ≡ true) × AllIn vs cs
  AllIn vs cs = ⊥

  each_in : (mu : Assignment) (all : Closeds) (k : ℕ) (cs : List Closed) (vs : List Value)
      → ((i : ℕ) (w : Value) → answer types w all (k + i) ≡ answer types w (closeds cs) i)
      → each_belongs (asks types vs) mu all (type_variables k cs) ≡ true → AllIn vs cs
  each_in mu all k [] [] same h = tt
  each_in mu all k [] (v ∷ vs) same h = no h
  each_in mu all k (c ∷ cs) [] same h = no h
  each_in mu all k (c ∷ cs) (v ∷ vs) same h =
      let p = and_parts (belongs types v (reading (U.Variable k) mu all)) (each_belongs (asks types vs) mu all (type_variables (suc k) cs)) h in (
        belongs_out types v c
            ∙ sym (subst (λ n. answer types v all n ≡ answer types v (closeds (c ∷ cs)) 0) (omega arith) (same 0 v))
            ∙ sym (variable_belongs types v k mu all) ∙ p.0,
        each_in mu all (suc k) cs vs (λ i w. subst (λ n. answer types w all n ≡ answer types w (closeds cs) i) (omega arith) (same (suc i) w)) p.1,
      )

  -- a tuple of them
  pub tuple_in : (mu : Assignment) (cs : List Closed) (vs : List Value)
      → form_asked types (V.Tuple vs) (T.Tuple (type_variables 0 cs)) mu (closeds cs) ≡ true → AllIn vs cs
  tuple_in mu cs vs h =
      each_in mu (closeds cs) 0 cs vs (λ i w. subst (λ n. answer types w (closeds cs) n ≡ answer types w (closeds cs) i) (omega arith) refl)
      (ap (each_belongs (asks types vs) mu (closeds cs)) (sym (fronts (inner types (V.Tuple vs) (closeds cs)) (type_variables 0 cs))) ∙ h)

  -- the other way round
  in_each : (mu : Assignment) (all : Closeds) (k : ℕ) (cs : List Closed) (vs : List Value)
      → ((i : ℕ) (w : Value) → answer types w all (k + i) ≡ answer types w (closeds cs) i) → AllIn vs cs
      → each_belongs (asks types vs) mu all (type_variables k cs) ≡ true
  in_each mu all k [] [] same h = refl
  in_each mu all k [] (v ∷ vs) same h = absurd h
  in_each mu all k (c ∷ cs) [] same h = absurd h
  in_each mu all k (c ∷ cs) (v ∷ vs) same h =
      two (belongs types v (reading (U.Variable k) mu all)) (each_belongs (asks types vs) mu all (type_variables (suc k) cs))
      (variable_belongs types v k mu all
      ∙ subst (λ n. answer types v all n ≡ answer types v (closeds (c ∷ cs)) 0) (omega arith) (same 0 v)
      ∙ sym (belongs_out types v c) ∙ h.0)
      (in_each mu all (suc k) cs vs (λ i w. subst (λ n. answer types w all n ≡ answer types w (closeds cs) i) (omega arith) (same (suc i) w)) h.1)

  pub in_tuple : (mu : Assignment) (cs : List Closed) (vs : List Value) → AllIn vs cs
      → form_asked types (V.Tuple vs) (T.Tuple (type_variables 0 cs)) mu (closeds cs) ≡ true
  in_tuple mu cs vs h =
      ap (each_belongs (asks types vs) mu (closeds cs)) (fronts (inner types (V.Tuple vs) (closeds cs)) (type_variables 0 cs))
      ∙ in_each mu (closeds cs) 0 cs vs (λ i w. subst (λ n. answer types w (closeds cs) n ≡ answer types w (closeds cs) i) (omega arith) refl) h

  pub item_same : (g : Integers) (q : Closed) (x : Value) → belongs types x (reading (U.Variable 0) (nowhere (there g)) (closeds (q ∷ []))) ≡ belongs types x q
  item_same g q x = variable_belongs types x 0 (nowhere (there g)) (closeds (q ∷ [])) ∙ sym (belongs_out types x q)

  -- ---- widened types

  -- values with this meaning are of that type
  abbrev pub KeepsType : Closed → Meant → Type 0
  KeepsType c m = (w : Value) → m.holds w ≡ true → belongs types w c ≡ true

  unfoldable pub WideGoes : Indices → Type 0
  WideGoes i = (name : Naming) (n : ℕ) (f : Point n) (facts : List Fact) (v : Value)
      → Always f (λ g. (meant types (there g) own i).wide ≡ (meant types (there f.integers) own i).wide)
      → Always f (λ g. belongs types v (meant types (there g) own i).wide ≡ true)
      → Opens (KeepsType (meant types (there f.integers) own i).wide) v n f facts (wide_opening i false name)

  abbrev pub Wide : Type 0
  Wide = (i : Indices) × WideGoes i

  abbrev pub Known : Type 0
  Known = (r : Reading) × ReadingGoes types past own r

  abbrev indices_of : Indices-F Wide Known → Indices-F Indices Reading
  indices_of y = map-Indices Wide Known Indices Reading (λ p. p.0) (λ p. p.0) y

  abbrev wide_form : Indices-F Indices Reading → Naming → Walk Indices
  wide_form x name =
      widened_opened (map-Indices Indices Reading (Indices × Opening) (Reading × Opening) (λ i. (i, wide_opening i)) (λ r. (r, opening r)) x) false name

  widens_form : (x : Indices-F Indices Reading) (name : Naming) → wide_opening (roll-Indices x) false name ≡ wide_form x name
  unfolding wide_opening opening
  widens_form x name = ap (λ o. o false name) (para-roll-Indices Opening Opening widened_opened reading_opened x)

  -- what is asked of the value
  abbrev pub AsksWide : Value-F Value → Integers → Typ-F Typ → List Closed → Type 0
  AsksWide w g x cs = form_asked types w x (nowhere (there g)) (closeds cs) ≡ true

  -- values with this meaning are of the type's form
  abbrev pub KeepsWide : Integers → Typ-F Typ → List Closed → Meant → Type 0
  KeepsWide g x cs m = (w : Value) → m.holds w ≡ true → AsksWide (out-Value w) g x cs

  -- and so of the type
  pub kept_wide : {n : ℕ} {f : Point n} {facts : List Fact} {walk : Walk Indices} (v : Value) (x : Typ-F Typ) (t : Typ) (cs : List Closed) → roll-Typ x ≡ t
      → Opens (KeepsWide f.integers x cs) v n f facts walk → Opens (KeepsType (reading t (nowhere (there f.integers)) (closeds cs))) v n f facts walk
  kept_wide {f} v x t cs e s =
      kept_as types past own (KeepsWide f.integers x cs) (KeepsType (reading t (nowhere (there f.integers)) (closeds cs))) v
      (λ m keeps w k. belongs_form types w x t (nowhere (there f.integers)) (closeds cs) e ∙ keeps w k) s

  wide_bits_known : {n : ℕ} {f : Point n} {facts : List Fact} (t : Num) (v : Value) (w : Value-F Value) → out-Value v ≡ w
      → Always f (λ g. AsksWide w g (T.Bits (number_there (there g) t)) [])
      → Opens (KeepsWide f.integers (T.Bits (number_there (there f.integers) t)) []) v n f facts (bits_of t)
  wide_bits_known {n} {f} t v (V.Bits bits) e h =
      let z : ℤ = pos (length bits) in
      let at : Integers → ℤ = λ g. number (nowhere (there g)) (number_there (there g) t) in
      let parts : (g : Integers) → Agree f g → (int_eq z (at g) ≡ true) × (is_width (length bits) ≡ true) =
      λ g a. and_parts (int_eq z (at g)) (is_width (length bits)) (h g a) in
      bits_kept types past own (KeepsWide f.integers (T.Bits (number_there (there f.integers) t)) []) t v bits e (parts f.integers (same f)).1 (λ g a.
      sym (number_constant (nowhere (there g)) (number (there g) t)) ∙ sym ((Decides-int_eq z (at g)).0 (parts g a).0)) (λ w k.
      bits_asked types past own (nowhere (there f.integers)) no_readings z (number_there (there f.integers) t)
      (sym ((Decides-int_eq z (at f.integers)).0 (parts f.integers (same f)).0)) (out-Value w) k)
  wide_bits_known {n} {f} t v w e h = no (h f.integers (same f))

  abbrev any_range : Typ-F Typ
  any_range = T.Range (constant least) (constant most)

  wide_integer_known : {n : ℕ} {f : Point n} {facts : List Fact} (name : Naming) (v : Value) (w : Value-F Value) → out-Value v ≡ w
      → Always f (λ g. AsksWide w g any_range []) → Opens (KeepsWide f.integers any_range []) v n f facts (any_integer name)
  unfolding any_integer
  wide_integer_known {n} {f} name v (V.Integer z) e h =
      let small : is_small z ≡ true = (and_parts _ (is_small z) (h f.integers (same f))).1 in
      between_kept types past own (KeepsWide f.integers any_range []) name (Some least_num) (Some largest_num) z v e small
      (λ t is g a. ap (λ u. int_le (number (there g) u) z) (sym (some_same least_num t is))
      ∙ ap (λ y. int_le y z) (number_constant (there g) least) ∙ above_least z small)
      (λ t is g a. ap (λ u. int_le z (number (there g) u)) (sym (some_same largest_num t is))
      ∙ ap (int_le z) (number_constant (there g) most) ∙ below_most z small)
      (λ w k. ap (λ y. form_asked types y any_range (nowhere (there f.integers)) no_readings) (integer_alone types past own z (out-Value w) k)
      ∙ h f.integers (same f))
  wide_integer_known {n} {f} name v w e h = no (h f.integers (same f))

  wide_vector_known : {n : ℕ} {f : Point n} {facts : List Fact} (t : Num) (r : Reading) (v : Value) (w : Value-F Value) → out-Value v ≡ w
      → Steady f r → Always f (λ g. AsksWide w g (T.Vector (number_there (there g) t) (U.Variable 0)) (closed types (there g) own r ∷ []))
      → Opens (KeepsWide f.integers (T.Vector (number_there (there f.integers) t) (U.Variable 0)) (closed types (there f.integers) own r ∷ [])) v n f facts
      (vector_of r t)
  wide_vector_known {f} t r v (V.Vector vs) e steady h =
      let z : ℤ = pos (length vs) in
      let at : Integers → ℤ = λ g. number (nowhere (there g)) (number_there (there g) t) in
      let same_length : length (asks types vs) ≡ length vs = length-map vs (λ x. (x, belongs types x)) in
      let parts : (g : Integers) → Agree f g → (int_eq z (at g) ≡ true) × (is_length (length vs) ≡ true)
      × (all_belong (asks types vs) (reading (U.Variable 0) (nowhere (there g)) (closeds (closed types (there g) own r ∷ []))) ≡ true) =
      λ g a.
      let k = and_parts (int_eq (pos (length (asks types vs))) (at g) && is_length (length (asks types vs))) _ (h g a) in
      let m = and_parts (int_eq z (at g)) (is_length (length vs))
      (subst (λ c. (int_eq (pos c) (at g) && is_length c) ≡ true) same_length k.0) in (m.0, m.1, k.1) in
      let c : Closed = closed types (there f.integers) own r in
      vector_kept types past own (KeepsWide f.integers (T.Vector (number_there (there f.integers) t) (U.Variable 0)) (c ∷ [])) t r c v vs e
      (parts f.integers (same f)).1
      (λ g a. sym (number_constant (nowhere (there g)) (number (there g) t)) ∙ sym ((Decides-int_eq z (at g)).0 (parts g a).0)) steady
      (all_of types vs (reading (U.Variable 0) (nowhere (there f.integers)) (closeds (c ∷ []))) c (item_same f.integers c) (parts f.integers (same f)).2)
      (λ w k. vector_asked types past own (nowhere (there f.integers)) (closeds (c ∷ [])) z c (number_there (there f.integers) t) (U.Variable 0)
      (sym ((Decides-int_eq z (at f.integers)).0 (parts f.integers (same f)).0)) (item_same f.integers c) (out-Value w) k)
  wide_vector_known {f} t r v w e steady h = no (h f.integers (same f))

  wide_asked : (g : Integers) (u : ℕ) (is : List Index) (cs : List Closed) (w : Value-F Value) → form_holds types (there g) own (W.Named u is cs) w
      ≡ form_asked types w (T.Named u (map (index_there (there g)) is) (type_variables 0 cs)) (nowhere (there g)) (closeds cs)
  wide_asked g u is cs (V.Struct i vs) =
      let ts = type_variables 0 cs in
      let under : List Typ → Closeds = read_each (nowhere (there g)) (closeds cs) in
      let of : Assignment → Closeds → Bool = λ nu ps. nat_eq i u && fields_belong (asks types vs) nu ps (fields types i) in
      ap (λ b. nat_eq i u && b)
      (sym (fields_alike types vs (fields types i) (assigned (there g) is) (under ts) (closeds cs) (variables_same types (nowhere (there g)) cs)))
      ∙ ap (λ nu. of nu (under ts)) (sym (assigned_there past g is))
      ∙ ap (λ us. of (assigned (nowhere (there g)) (map (index_there (there g)) is)) (under us)) (sym (fronts (inner types (V.Struct i vs) (closeds cs)) ts))
  wide_asked g u is cs (V.Union i k v) =
      let ts = type_variables 0 cs in
      let under : List Typ → Closeds = read_each (nowhere (there g)) (closeds cs) in
      let of : Assignment → Closeds → Bool = λ nu ps. nat_eq i u && payload_belongs (belongs types v) nu ps (payload types i k) in
      ap (λ b. nat_eq i u && b)
      (sym (payload_alike types v (payload types i k) (assigned (there g) is) (under ts) (closeds cs) (variables_same types (nowhere (there g)) cs)))
      ∙ ap (λ nu. of nu (under ts)) (sym (assigned_there past g is))
      ∙ ap (λ us. of (assigned (nowhere (there g)) (map (index_there (there g)) is)) (under us)) (sym (fronts (inner types (V.Union i k v) (closeds cs)) ts))
  wide_asked g u is cs w = refl

  abbrev bare_indices : List Wide → List Indices
  bare_indices ys = map (λ (y : Wide). y.0) ys

  abbrev their_types : Integers → List Wide → List Closed
  their_types g ys = wides (map (meant types (there g) own) (bare_indices ys))

  -- the first and the others of them
  first_steady : {n : ℕ} (f : Point n) (y : Wide) (ys : List Wide) → Always f (λ g. their_types g (y ∷ ys) ≡ their_types f.integers (y ∷ ys))
      → (g : Integers) → Agree f g
      → ((meant types (there g) own y.0).wide ≡ (meant types (there f.integers) own y.0).wide) × (their_types g ys ≡ their_types f.integers ys)
  first_steady f y ys steady g a =
      Under.cons_same types past own (meant types (there g) own y.0).wide (meant types (there f.integers) own y.0).wide (their_types g ys)
      (their_types f.integers ys) (steady g a)

  abbrev wide_parts : List Wide → List Naming → Walk (List Indices)
  wide_parts ys ns = parts_opened false (map (λ (p : Indices × Opening). p.1) (map (λ i. (i, wide_opening i)) (bare_indices ys))) ns

  -- values with these meanings are of these types, one each
  abbrev pub KeepsAll : List Closed → List Meant → Type 0
  KeepsAll cs ms = (ws : List Value) → each_holds ms ws ≡ true → AllIn ws cs

  pub no_more : KeepsAll [] []
  no_more [] h = tt
  no_more (w ∷ ws) h = no h

  pub one_more : (c : Closed) (cs : List Closed) (m : Meant) (ms : List Meant) → KeepsType c m → KeepsAll cs ms → KeepsAll (c ∷ cs) (m ∷ ms)
  one_more c cs m ms one rest [] h = no h
  one_more c cs m ms one rest (w ∷ ws) h = let k = and_parts (m.holds w) (each_holds ms ws) h in (one w k.0, rest ws k.1)

  pub tuple_keeps : (g : Integers) (cs : List Closed) (ms : List Meant) → KeepsAll cs ms
      → KeepsWide g (T.Tuple (type_variables 0 cs)) cs (meant_by (W.Tuple ms))
  tuple_keeps g cs ms keeps w k =
      let s = tuple_alone types past own ms (out-Value w) k in
      ap (λ y. form_asked types y (T.Tuple (type_variables 0 cs)) (nowhere (there g)) (closeds cs)) s.1
      ∙ in_tuple (nowhere (there g)) cs s.0 (keeps s.0 s.2)

  -- the first of them, and those behind it
  wides_on : {n : ℕ} {f : Point n} {facts : List Fact} (y : Wide) (ys : List Wide) (name : Naming) (ns : List Naming) (v : Value) (vs : List Value)
      → Always f (λ g. their_types g (y ∷ ys) ≡ their_types f.integers (y ∷ ys)) → Always f (λ g. AllIn (v ∷ vs) (their_types g (y ∷ ys)))
      → ((m : ℕ) (g : Point m) (fs : List Fact) → Always g (λ k. their_types k ys ≡ their_types g.integers ys)
      → Always g (λ k. AllIn vs (their_types k ys)) → AllOpen (KeepsAll (their_types g.integers ys)) vs m g fs (wide_parts ys ns))
      → AllOpen (KeepsAll (their_types f.integers (y ∷ ys))) (v ∷ vs) n f facts
      (bind (wide_opening y.0 false name) (λ i. bind (wide_parts ys ns) (λ is. give (i ∷ is))))
  unfolding WideGoes
  wides_on {n} {f} {facts} y ys name ns v vs steady h rest =
      let apart = first_steady f y ys steady in
      let c : Closed = (meant types (there f.integers) own y.0).wide in
      let cs : List Closed = their_types f.integers ys in
      both_kept types past own (KeepsType c) (KeepsAll cs) (KeepsAll (c ∷ cs)) v vs (one_more c cs)
      (y.1 name n f facts v (λ g a. (apart g a).0) (λ g a. (h g a).0)) (λ m g fs a.
      let s = rest m g fs (λ k b. (apart k (agree_on a b)).1 ∙ sym (apart g.integers (agree_on a (same g))).1) (λ k b. (h k (agree_on a b)).1) in
      (s.0, s.1, λ ws k. subst (AllIn ws) (apart g.integers (agree_on a (same g))).1 (s.2 ws k), s.3))

  wide_parts_go : {n : ℕ} {f : Point n} {facts : List Fact} (ys : List Wide) (ns : List Naming) (vs : List Value)
      → Always f (λ g. their_types g ys ≡ their_types f.integers ys) → Always f (λ g. AllIn vs (their_types g ys))
      → AllOpen (KeepsAll (their_types f.integers ys)) vs n f facts (wide_parts ys ns)
  wide_parts_go [] ns [] steady h = ([], refl, no_more, gives [] (λ g a. refl))
  wide_parts_go {n} {f} [] ns (v ∷ vs) steady h = absurd (h f.integers (same f))
  wide_parts_go {n} {f} (y ∷ ys) ns [] steady h = absurd (h f.integers (same f))
  wide_parts_go {n} {f} {facts} (y ∷ ys) [] (v ∷ vs) steady h =
      wides_on y ys M.Unnamed [] v vs steady h (λ m g fs fixed there. wide_parts_go ys [] vs fixed there)
  wide_parts_go {n} {f} {facts} (y ∷ ys) (name ∷ ns) (v ∷ vs) steady h =
      wides_on y ys name ns v vs steady h (λ m g fs fixed there. wide_parts_go ys ns vs fixed there)

  wide_tuple_known : {n : ℕ} {f : Point n} {facts : List Fact} (ys : List Wide) (name : Naming) (v : Value) (w : Value-F Value) → out-Value v ≡ w
      → Always f (λ g. their_types g ys ≡ their_types f.integers ys)
      → Always f (λ g. AsksWide w g (T.Tuple (type_variables 0 (their_types g ys))) (their_types g ys))
      → Opens (KeepsWide f.integers (T.Tuple (type_variables 0 (their_types f.integers ys))) (their_types f.integers ys)) v n f facts
      (wide_form (W.Tuple (bare_indices ys)) name)
  wide_tuple_known {f} ys name v (V.Tuple vs) e steady h =
      let cs : List Closed = their_types f.integers ys in
      tuple_kept types past own (KeepsWide f.integers (T.Tuple (type_variables 0 cs)) cs) (KeepsAll cs) v vs e
      (tuple_keeps f.integers cs)
      (wide_parts_go ys (namings_of name) vs steady (λ g a. tuple_in (nowhere (there g)) (their_types g ys) vs (h g a)))
  wide_tuple_known {n} {f} ys name v w e steady h = no (h f.integers (same f))

  -- the type of the items of a list or vector
  pub item_steady : (g k : Integers) (r : Reading) → closeds (closed types (there g) own r ∷ []) ≡ closeds (closed types (there k) own r ∷ [])
      → closed types (there g) own r ≡ closed types (there k) own r
  item_steady g k r e =
      (Under.cons_same types past own (closed types (there g) own r) (closed types (there k) own r) [] []
      (Under.same_lists types past own (closed types (there g) own r ∷ []) (closed types (there k) own r ∷ []) e)).0

  -- what widened indices are
  abbrev wide_in : Integers → Indices-F Wide Known → Closed
  wide_in g y = wide_of types (there g) own (meanings types (there g) own (indices_of y))

  form_widens : (y : Indices-F Wide Known) (name : Naming) (n : ℕ) (f : Point n) (facts : List Fact) (v : Value)
      → Always f (λ g. wide_in g y ≡ wide_in f.integers y) → Always f (λ g. belongs types v (wide_in g y) ≡ true)
      → Opens (KeepsType (wide_in f.integers y)) v n f facts (wide_form (indices_of y) name)
  form_widens W.Never name n f facts v steady h = no (sym (nothing_belongs types v (there f.integers)) ∙ h f.integers (same f))
  form_widens W.Unit name n f facts v steady h =
      kept_wide v T.Unit U.Unit [] U.rolls-Unit (
        meant_by W.Unit,
        unit_holds types past own (there zeros) no_readings zeros (out-Value v)
            (sym (belongs_form types v T.Unit U.Unit (there zeros) no_readings U.rolls-Unit) ∙ h f.integers (same f)),
        λ w k. ap (λ y. form_asked types y T.Unit (there zeros) no_readings) (unit_alone types past own (out-Value w) k),
        gives I.Unit (λ g a. meant_is types (there g) own I.Unit W.Unit I.rolls-Unit ∙ units_same types past own g zeros),
      )
  form_widens (W.Truth c) name n f facts v steady h =
      kept_wide v T.Bool U.Bool [] U.rolls-Bool
      (bool_known types past own (KeepsWide f.integers T.Bool []) name (λ g. nowhere (there g)) (λ g. no_readings) v (out-Value v) refl
      (λ g a. sym (belongs_form types v T.Bool U.Bool (nowhere (there g)) no_readings U.rolls-Bool) ∙ h g a)
      (λ b w k. ap (λ y. form_asked types y T.Bool (there zeros) no_readings) (truth_alone types past own b (out-Value w) k)))
  form_widens W.Bit name n f facts v steady h =
      kept_wide v T.Bit U.Bit [] U.rolls-Bit (
        meant_by W.Bit,
        bit_holds types past own (there zeros) no_readings zeros (out-Value v)
            (sym (belongs_form types v T.Bit U.Bit (there zeros) no_readings U.rolls-Bit) ∙ h f.integers (same f)),
        λ w k. ap (λ y. form_asked types y T.Bit (there zeros) no_readings) (bit_alone types past own (out-Value w) k).1,
        gives I.Bit (λ g a. meant_is types (there g) own I.Bit W.Bit I.rolls-Bit ∙ bit_same types past own g zeros),
      )
  form_widens (W.Bits t) name n f facts v steady h =
      let u : Num = number_there (there f.integers) t in
      kept_wide v (T.Bits u) (U.Bits u) [] (U.rolls-Bits u)
      (wide_bits_known t v (out-Value v) refl (λ g a.
      let k = number_there (there g) t in
      sym (belongs_form types v (T.Bits k) (U.Bits k) (nowhere (there g)) no_readings (U.rolls-Bits k)) ∙ h g a))
  form_widens (W.Integer t) name n f facts v steady h =
      kept_wide v any_range (U.Range (constant least) (constant most)) [] (U.rolls-Range (constant least) (constant most))
      (wide_integer_known name v (out-Value v) refl (λ g a.
      sym (belongs_form types v any_range (U.Range (constant least) (constant most)) (nowhere (there g)) no_readings
      (U.rolls-Range (constant least) (constant most))) ∙ h g a))
  form_widens W.String name n f facts v steady h =
      kept_wide v T.String U.String [] U.rolls-String (
        meant_by W.String,
        string_holds types past own (there zeros) no_readings zeros (out-Value v)
            (sym (belongs_form types v T.String U.String (there zeros) no_readings U.rolls-String) ∙ h f.integers (same f)),
        λ w k. string_alone types past own (out-Value w) (there zeros) no_readings k,
        gives I.String (λ g a. meant_is types (there g) own I.String W.String I.rolls-String ∙ strings_same types past own g zeros),
      )
  form_widens (W.List r) name n f facts v steady h =
      let c : Closed = closed types (there f.integers) own r.0 in
      kept_wide v (T.List (U.Variable 0)) (U.List (U.Variable 0)) (c ∷ []) (U.rolls-List (U.Variable 0)) (
        meant_by (W.List c),
        list_holds types past own (there zeros) (closeds (c ∷ [])) zeros (U.Variable 0) c (item_same f.integers c) (out-Value v)
            (sym (belongs_form types v (T.List (U.Variable 0)) (U.List (U.Variable 0)) (there zeros) (closeds (c ∷ [])) (U.rolls-List (U.Variable 0)))
            ∙ h f.integers (same f)),
        λ w k. list_asked types past own (there zeros) (closeds (c ∷ [])) c (U.Variable 0) (item_same f.integers c) (out-Value w) k,
        gives (I.List r.0) (λ g a.
            meant_is types (there g) own (I.List r.0) (W.List r.0) (I.rolls-List r.0)
            ∙ lists_same types past own g zeros (closed types (there g) own r.0) c
            (item_steady g f.integers r.0 (ap (Under.readings_of types past own) (steady g a)))),
      )
  form_widens (W.Vector t r) name n f facts v steady h =
      let u : Num = number_there (there f.integers) t in
      let c : Closed = closed types (there f.integers) own r.0 in
      kept_wide v (T.Vector u (U.Variable 0)) (U.Vector u (U.Variable 0)) (c ∷ []) (U.rolls-Vector u (U.Variable 0))
      (wide_vector_known t r.0 v (out-Value v) refl (λ g a. item_steady g f.integers r.0 (ap (Under.readings_of types past own) (steady g a))) (λ g a.
      let k = number_there (there g) t in
      let q = closed types (there g) own r.0 in
      sym (belongs_form types v (T.Vector k (U.Variable 0)) (U.Vector k (U.Variable 0)) (nowhere (there g)) (closeds (q ∷ []))
      (U.rolls-Vector k (U.Variable 0))) ∙ h g a))
  form_widens (W.Tuple ys) name n f facts v steady h =
      let ts : List Typ = type_variables 0 (their_types f.integers ys) in
      kept_wide v (T.Tuple ts) (U.Tuple ts) (their_types f.integers ys) (U.rolls-Tuple ts)
      (wide_tuple_known ys name v (out-Value v) refl
      (λ g a. Under.same_lists types past own (their_types g ys) (their_types f.integers ys) (ap (Under.readings_of types past own) (steady g a)))
      (λ g a.
      let cs = their_types g ys in
      sym (belongs_form types v (T.Tuple (type_variables 0 cs)) (U.Tuple (type_variables 0 cs)) (nowhere (there g)) (closeds cs)
      (U.rolls-Tuple (type_variables 0 cs))) ∙ h g a))
  form_widens (W.Named u is rs) name n f facts v steady h =
      let qs : List Reading = map (λ (r : Known). r.0) rs in
      let back : List Reading = map (λ (r : Reading × Opening). r.0) (map (λ r. (r, opening r)) qs) in
      let js : List Index = map (index_there (there f.integers)) is in
      let cs : List Closed = map (closed types (there f.integers) own) qs in
      let us : List Typ = type_variables 0 cs in
      let as_asked : (w : Value) → (meant_by (W.Named u js cs)).holds w ≡ form_asked types (out-Value w) (T.Named u js us) (there zeros) (closeds cs) =
      λ w. sym (ap (λ (m : Meant). m.holds w)
      (named_same types past own f.integers zeros u is js cs cs (sym (assigned_there past f.integers is))
      (sym (indices_there past (there f.integers) is)) refl))
      ∙ wide_asked f.integers u is cs (out-Value w) in
      kept_wide v (T.Named u js us) (U.Named u js us) cs (U.rolls-Named u js us) (
        meant_by (W.Named u js cs),
        as_asked v ∙ sym (belongs_form types v (T.Named u js us) (U.Named u js us) (there zeros) (closeds cs) (U.rolls-Named u js us)) ∙ h f.integers (same f),
        λ w k. sym (as_asked w) ∙ k,
        gives (I.Named u is back) (λ g a.
            let ds : List Closed = map (closed types (there g) own) qs in
            let args : map (index_there (there g)) is ≡ js =
            Under.args_same types past own u (map (index_there (there g)) is) js (type_variables 0 ds) us (ap (Under.typ_of types past own) (steady g a)) in
            meant_is types (there g) own (I.Named u is back) (W.Named u is back) (I.rolls-Named u is back)
            ∙ named_same types past own g zeros u is js (map (closed types (there g) own) back) cs
            (sym (assigned_there past g is) ∙ ap (assigned (there zeros)) args) (args ∙ sym (indices_there past (there f.integers) is))
            (ap (map (closed types (there g) own)) (fronts opening qs)
            ∙ Under.same_lists types past own ds cs (ap (Under.readings_of types past own) (steady g a)))),
      )
  form_widens (W.Variable i) name n f facts v steady h =
      let as_held : (w : Value) → (meant_by (W.Variable i)).holds w ≡ belongs types w (or_no_value (there f.integers) (slice_get own i)) =
      λ w. sym (ap (λ (m : Meant). m.holds w) (variable_same types past own f.integers zeros i)) in (
        meant_by (W.Variable i),
        as_held v ∙ h f.integers (same f),
        λ w k. sym (as_held w) ∙ k,
        gives (I.Variable i) (λ g a.
            meant_is types (there g) own (I.Variable i) (W.Variable i) (I.rolls-Variable i) ∙ variable_same types past own g zeros i),
      )

  pub rolled_widens : (y : Indices-F Wide Known) → WideGoes (roll-Indices (indices_of y))
  unfolding WideGoes
  rolled_widens y name n f facts v steady h =
      let is : (g : Integers) → (meant types (there g) own (roll-Indices (indices_of y))).wide ≡ wide_in g y =
      λ g. ap (λ m. m.wide) (meant_is types (there g) own (roll-Indices (indices_of y)) (indices_of y) refl) in
      let c : Closed = (meant types (there f.integers) own (roll-Indices (indices_of y))).wide in
      subst (λ w. Opens (KeepsType c) v n f facts w) (sym (widens_form (indices_of y) name))
      (kept_as types past own (KeepsType (wide_in f.integers y)) (KeepsType c) v (λ m keeps w k. ap (belongs types w) (is f.integers) ∙ keeps w k)
      (form_widens y name n f facts v (λ g a. sym (is g) ∙ steady g a ∙ is f.integers) (λ g a. ap (belongs types v) (sym (is g)) ∙ h g a)))
