-- A value of some indices, or of a type of the walk, has their sizes.
use Rattle.std.proofs.Common.{◌≡◌, ◌∙◌, ap, sym, refl, subst, ℕ, zero, suc, ℤ, pos, Bool, true, ◌&&◌, List, [], ◌∷◌}
use Rattle.std.proofs.Common.{◌≤◌, arith, map, length, slice_get}
use Rattle.std.specs.Prelude.{int_le, Option, Some, None}
use Rattle.std.specs.List.{list_all}
use Rattle.std.specs.Ordering.{int_eq}
use Rattle.std.proofs.lemmas.Bool.{and_parts}
use Rattle.sail_types.specs.Belongs.{Reading as Closed, Readings as Closeds, reading, no_readings, assigned, belongs}
use Rattle.sail_types.specs.Limits.{is_length, is_small}
use Rattle.sail_types.specs.Numbers.{Assignment, Positive, number}
use Rattle.sail_types.specs.Sums.{constant}
use Rattle.sail_types.specs.Zero.{deepest}
use Rattle.sail_types.specs.declared.numbers.Con.{Con}
use Rattle.sail_types.specs.declared.numbers.Index.{Index}
use Rattle.sail_types.specs.declared.numbers.Index.TheVariants as N
use Rattle.sail_types.specs.declared.numbers.Num.{Num}
use Rattle.sail_types.specs.declared.table.Types.{Types}
use Rattle.sail_types.specs.declared.types.Typ.{Typ}
use Rattle.sail_types.specs.declared.types.Typ.TheOpen as T
use Rattle.sail_types.specs.declared.types.Typ.TheVariants as U
use Rattle.sail_types.specs.declared.values.Value.{Value, Value-F, out-Value}
use Rattle.sail_types.specs.declared.values.Value.TheOpen as V
use Rattle.sail_types.proofs.Substituted.{number_constant}
use Rattle.row_types.specs.Formulas.{least, most}
use Rattle.value_indices.specs.declared.indices.Indices.{Indices, roll-Indices}
use Rattle.value_indices.specs.declared.indices.Indices.TheFolds.{ind-Indices, ind-Reading, map-Indices, map-Reading}
use Rattle.value_indices.specs.declared.indices.Indices.TheOpen as W
use Rattle.value_indices.specs.declared.indices.Indices.TheOpen.{Indices-F, Reading-F}
use Rattle.value_indices.specs.declared.indices.Reading.{Reading, roll-Reading}
use Rattle.value_laws.specs.Belonging.{Meant, closed, closed_form, closeds, each_holds, form_holds, has, index_there, indices_hold, meant}
use Rattle.value_laws.specs.Belonging.{nowhere, number_there, or_no_value, standing, type_variables, types_or_own, wide_of, wides}
use Rattle.value_laws.proofs.Basics.{no, two}
use Rattle.value_laws.proofs.Values.{belongs_form, belongs_out, closed_is, closing, form_asked, has_form, meanings, meant_is, nothing_belongs}
use Rattle.size_values.specs.declared.constants.Constant.{Constant}
use Rattle.size_values.specs.declared.sized.Sized.{Sized}
use Rattle.size_values.specs.declared.sized.Sized.TheOpen as Z
use Rattle.size_values.specs.declared.sized.Sized.TheVariants as S
use Rattle.size_values.specs.Numbers.{argument_of, constant_under, index_under, number_in, value_of}
use Rattle.size_values.specs.Sized.{form_reading_sized, indices_sized, integer_of, named_numbers, reading_sized, typ_sized, value_sized}
use Rattle.size_values.specs.Sized as Sizes
use Rattle.checked_meaning.specs.Items.{constant_of}
use Rattle.size_laws.specs.Known.{all_numbers}
use Rattle.size_laws.proofs.Forms.{in_indices, in_reading, reading_is, value_is}
use Rattle.meeting_laws.proofs.Forms.{bit_as, bits_as, each_of, list_as, named_as, string_as, tuple_as, unit_as, vector_as}
use Rattle.checked_meaning.specs.Fits.{AllFit, each_fits, form_fits, has_sizes}
use Rattle.told_sizes.specs.declared.applied.Applied.{Applied}
use Rattle.told_sizes.specs.Exact.{all_of, applied_at, are_exact, constants_in, exact_constants, fields_pass, is_exact}
use Rattle.told_sizes.specs.Passing.{indices_pass}
use Rattle.told_sizes.specs.Exact.{named_passes, open_of}
use Rattle.told_sizes.specs.Exact.{is_one_of, or_own, typ_passes}
use Rattle.told_sizes.specs.Passing.{reading_passes, readings_pass, value_passes}
use Rattle.exact_sizes.specs.Laws.{More, Stands, ValuesFit}
use Rattle.exact_sizes.proofs.Known.{exact_value, none, number_more, number_stands}
use Rattle.exact_sizes.proofs.Alike.{exact_grows, named_same, typ_same}
use Rattle.exact_sizes.proofs.Standing.{reading_tested, tests_in, tests_of, value_tested}
use Rattle.exact_sizes.proofs.Values.{Answers, IsRead, bits_fit, few_fit, field_fits, fits_as, fitting, items_fit, met_read, struct_fits, typ_fits}
use Rattle.exact_sizes.proofs.Values.{union_fits, vector_fits}
use Rattle.value_laws.proofs.Alike.{size, total}

-- an argument that is exact is its variable's number
exact_stands : (of : ℕ → Constant) (nu : Assignment) → Stands of nu.int → (is : List Index) → Stands (argument_of (exact_constants of is)) (assigned nu is).int
exact_stands of nu stands [] i z h = number_constant nu (pos 0) ∙ cc h
exact_stands of nu stands (N.Number t ∷ is) zero z h = by (value_of of t) refl h
  where
    by : (o : Option ℤ) → value_of of t ≡ o → number_in (open_of o) ≡ Some z → number nu t ≡ z
    by None e k = none k
    by (Some y) e k = number_stands of nu stands t y e ∙ cc k
exact_stands of nu stands (N.Truth c ∷ is) zero z h = none h
exact_stands of nu stands (a ∷ is) (suc i) z h = exact_stands of nu stands is i z h

at_most_itself : (d : ℕ) → d ≤ d
at_most_itself d = omega arith

module _ (types : Types) (past : Positive) (f : ℕ → ℤ) (own : List Closed) (ss : List Sized) (own_fit : AllFit types own ss) (of : ℕ → Constant)
    (stands : Stands of f) where
  abbrev mu : Assignment
  mu = standing past f

  abbrev to : ℕ → Constant
  to = all_numbers f

  more : More of to
  more i z h = ap (λ (x : ℤ). Some x) (stands i z h)

  abbrev sized : Indices → Sized
  sized = value_sized types ss to

  abbrev typed : Reading → Sized
  typed = reading_sized types ss to

  -- by its indices, and by their widened type
  pub record Fit (i : Indices) : Type 0 where
    pub had : (v : Value) → has types mu own i v ≡ true → has_sizes types v (sized i) ≡ true
    pub wide : (v : Value) → belongs types v (meant types mu own i).wide ≡ true → has_sizes types v (sized i) ≡ true

  abbrev FitI : Indices → Type 0
  FitI i = value_passes types (length ss) of i ≡ true → Fit i

  abbrev FitR : Reading → Type 0
  FitR r = reading_passes types (length ss) of r ≡ true → (v : Value) → belongs types v (closed types mu own r) ≡ true → has_sizes types v (typed r) ≡ true

  abbrev SuchI : Type 0
  SuchI = (i : Indices) × FitI i

  abbrev SuchR : Type 0
  SuchR = (r : Reading) × FitR r

  abbrev indices_in : Indices-F SuchI SuchR → Indices-F Indices Reading
  indices_in y = map-Indices SuchI SuchR Indices Reading (λ p. p.0) (λ p. p.0) y

  abbrev reading_in : Reading-F SuchI SuchR → Reading-F Indices Reading
  reading_in y = map-Reading SuchI SuchR Indices Reading (λ p. p.0) (λ p. p.0) y

  abbrev values : List SuchI → List Indices
  values ys = map (λ (p : SuchI). p.0) ys

  abbrev readings : List SuchR → List Reading
  readings ys = map (λ (p : SuchR). p.0) ys

  abbrev all_values_pass : List SuchI → Bool
  all_values_pass ys = all_of (map (value_passes types (length ss) of) (values ys))

  abbrev all_readings_pass : List SuchR → Bool
  all_readings_pass ys = all_of (map (reading_passes types (length ss) of) (readings ys))

  size_is : (t : Num) → is_exact of t ≡ true → number mu t ≡ integer_of (constant_under to t)
  size_is t h =
      let k = exact_value of t h in
      number_stands of mu stands t k.0 k.1 ∙ sym (ap integer_of (number_more of to more t k.0 k.1))

  -- ---- forms, by what their indices hold

  unit_had : (w : Value-F Value) → form_holds types mu own W.Unit w ≡ true → form_fits types (fitting types w) Z.Unit ≡ true
  unit_had V.Unit h = refl
  unit_had w h = no h

  truth_had : (c : Con) (w : Value-F Value) → form_holds types mu own (W.Truth c) w ≡ true → form_fits types (fitting types w) Z.Bool ≡ true
  truth_had c (V.Truth b) h = refl
  truth_had c w h = no h

  truth_wide : (nu : Assignment) (w : Value-F Value) → form_asked types w T.Bool nu no_readings ≡ true → form_fits types (fitting types w) Z.Bool ≡ true
  truth_wide nu (V.Truth b) h = refl
  truth_wide nu w h = no h

  bit_had : (w : Value-F Value) → form_holds types mu own W.Bit w ≡ true → form_fits types (fitting types w) Z.Bit ≡ true
  bit_had (V.Bit b) h = refl
  bit_had w h = no h

  bits_had : (t : Num) → is_exact of t ≡ true → (w : Value-F Value) → form_holds types mu own (W.Bits t) w ≡ true
      → form_fits types (fitting types w) (Z.Bits (integer_of (constant_under to t))) ≡ true
  bits_had t p (V.Bits bits) h = bits_fit types (number mu t) (integer_of (constant_under to t)) (size_is t p) bits h
  bits_had t p w h = no h

  integer_had : (t : Num) (w : Value-F Value) → form_holds types mu own (W.Integer t) w ≡ true → form_fits types (fitting types w) Z.Int ≡ true
  integer_had t (V.Integer z) h = (and_parts (int_eq z (number mu t)) (is_small z) h).1
  integer_had t w h = no h

  integer_wide : (t u : Num) (nu : Assignment) (w : Value-F Value) → form_asked types w (T.Range t u) nu no_readings ≡ true
      → form_fits types (fitting types w) Z.Int ≡ true
  integer_wide t u nu (V.Integer z) h = (and_parts (int_le (number nu t) z && int_le z (number nu u)) (is_small z) h).1
  integer_wide t u nu w h = no h

  string_had : (w : Value-F Value) → form_holds types mu own W.String w ≡ true → form_fits types (fitting types w) Z.String ≡ true
  string_had (V.String text) h = refl
  string_had w h = no h

  list_had : (r : SuchR) → reading_passes types (length ss) of r.0 ≡ true → (w : Value-F Value)
      → form_holds types mu own (W.List (closed types mu own r.0)) w ≡ true → form_fits types (fitting types w) (Z.List (typed r.0)) ≡ true
  list_had r p (V.List vs) h = items_fit types (λ v. belongs types v (closed types mu own r.0)) (typed r.0) (λ v k. r.1 p v k) vs h
  list_had r p w h = no h

  vector_had : (t : Num) (r : SuchR) → is_exact of t ≡ true → reading_passes types (length ss) of r.0 ≡ true → (w : Value-F Value)
      → form_holds types mu own (W.Vector t (closed types mu own r.0)) w ≡ true
      → form_fits types (fitting types w) (Z.Vector (integer_of (constant_under to t)) (typed r.0)) ≡ true
  vector_had t r e p (V.Vector vs) h =
      let k = and_parts (int_eq (pos (length vs)) (number mu t) && is_length (length vs)) (list_all (λ v. belongs types v (closed types mu own r.0)) vs) h in
      let l = and_parts (int_eq (pos (length vs)) (number mu t)) (is_length (length vs)) k.0 in
      vector_fits types vs (typed r.0) (number mu t) (integer_of (constant_under to t)) (size_is t e) l.0
      (items_fit types (λ v. belongs types v (closed types mu own r.0)) (typed r.0) (λ v a. r.1 p v a) vs k.1)
  vector_had t r e p w h = no h

  -- ---- tuples

  parts_had : (ys : List SuchI) → all_values_pass ys ≡ true → (vs : List Value) → each_holds (map (meant types mu own) (values ys)) vs ≡ true
      → each_fits (map (has_sizes types) vs) (map sized (values ys)) ≡ true
  parts_had [] p [] h = refl
  parts_had [] p (v ∷ vs) h = no h
  parts_had (y ∷ ys) p [] h = no h
  parts_had (y ∷ ys) p (v ∷ vs) h =
      let q = and_parts (value_passes types (length ss) of y.0) (all_values_pass ys) p in
      let k = and_parts (has types mu own y.0 v) (each_holds (map (meant types mu own) (values ys)) vs) h in
      two (has_sizes types v (sized y.0)) (each_fits (map (has_sizes types) vs) (map sized (values ys))) ((y.1 q.0).had v k.0) (parts_had ys q.1 vs k.1)

  tuple_had : (ys : List SuchI) → all_values_pass ys ≡ true → (w : Value-F Value)
      → form_holds types mu own (W.Tuple (map (meant types mu own) (values ys))) w ≡ true
      → form_fits types (fitting types w) (Z.Tuple (map sized (values ys))) ≡ true
  tuple_had ys p (V.Tuple vs) h = parts_had ys p vs h
  tuple_had ys p w h = no h

  parts_wide : (ys : List SuchI) → all_values_pass ys ≡ true → (vs : List Value)
      → each_of types past own vs (wides (map (meant types mu own) (values ys))) ≡ true
      → each_fits (map (has_sizes types) vs) (map sized (values ys)) ≡ true
  parts_wide [] p [] h = refl
  parts_wide [] p (v ∷ vs) h = no h
  parts_wide (y ∷ ys) p [] h = no h
  parts_wide (y ∷ ys) p (v ∷ vs) h =
      let q = and_parts (value_passes types (length ss) of y.0) (all_values_pass ys) p in
      let k = and_parts (belongs types v (meant types mu own y.0).wide) (each_of types past own vs (wides (map (meant types mu own) (values ys)))) h in
      two (has_sizes types v (sized y.0)) (each_fits (map (has_sizes types) vs) (map sized (values ys))) ((y.1 q.0).wide v k.0) (parts_wide ys q.1 vs k.1)

  tuple_wide : (ys : List SuchI) → all_values_pass ys ≡ true → (w : Value-F Value)
      → form_asked types w (T.Tuple (type_variables 0 (wides (map (meant types mu own) (values ys))))) (nowhere mu)
      (closeds (wides (map (meant types mu own) (values ys)))) ≡ true → form_fits types (fitting types w) (Z.Tuple (map sized (values ys))) ≡ true
  tuple_wide ys p (V.Tuple vs) h =
      parts_wide ys p vs (sym (tuple_as types past own (nowhere mu) (wides (map (meant types mu own) (values ys))) vs) ∙ h)
  tuple_wide ys p w h = no h

  -- types of the walk, each of a value of which it is
  readings_wide : (ys : List SuchR) → all_readings_pass ys ≡ true → (vs : List Value)
      → each_of types past own vs (map (closed types mu own) (readings ys)) ≡ true
      → each_fits (map (has_sizes types) vs) (map typed (readings ys)) ≡ true
  readings_wide [] p [] h = refl
  readings_wide [] p (v ∷ vs) h = no h
  readings_wide (y ∷ ys) p [] h = no h
  readings_wide (y ∷ ys) p (v ∷ vs) h =
      let q = and_parts (reading_passes types (length ss) of y.0) (all_readings_pass ys) p in
      let k = and_parts (belongs types v (closed types mu own y.0)) (each_of types past own vs (map (closed types mu own) (readings ys))) h in
      two (has_sizes types v (typed y.0)) (each_fits (map (has_sizes types) vs) (map typed (readings ys))) (y.1 q.0 v k.0) (readings_wide ys q.1 vs k.1)

  parts_of : (ys : List SuchR) → all_readings_pass ys ≡ true → (w : Value-F Value)
      → form_asked types w (T.Tuple (type_variables 0 (map (closed types mu own) (readings ys)))) (nowhere mu)
      (closeds (map (closed types mu own) (readings ys))) ≡ true → form_fits types (fitting types w) (Z.Tuple (map typed (readings ys))) ≡ true
  parts_of ys p (V.Tuple vs) h =
      readings_wide ys p vs (sym (tuple_as types past own (nowhere mu) (map (closed types mu own) (readings ys)) vs) ∙ h)
  parts_of ys p w h = no h

  -- ---- what Type variables stand for

  readings_answer : (ys : List SuchR) → all_readings_pass ys ≡ true → (cs : List Closed)
      → Answers types (length (map (reading_passes types (length ss) of) (readings ys))) (closeds (types_or_own (map (closed types mu own) (readings ys)) cs))
      (map typed (readings ys))
  readings_answer [] p cs i h v a = no h
  readings_answer (y ∷ ys) p [] zero h v a =
      y.1 (and_parts (reading_passes types (length ss) of y.0) (all_readings_pass ys) p).0 v (belongs_out types v (closed types mu own y.0) ∙ a)
  readings_answer (y ∷ ys) p (c ∷ cs) zero h v a =
      y.1 (and_parts (reading_passes types (length ss) of y.0) (all_readings_pass ys) p).0 v (belongs_out types v (closed types mu own y.0) ∙ a)
  readings_answer (y ∷ []) p [] (suc i) h v a = no h
  readings_answer (y ∷ z ∷ ys) p [] (suc i) h v a =
      readings_answer (z ∷ ys) (and_parts (reading_passes types (length ss) of y.0) (all_readings_pass (z ∷ ys)) p).1 [] i h v a
  readings_answer (y ∷ ys) p (c ∷ cs) (suc i) h v a =
      readings_answer ys (and_parts (reading_passes types (length ss) of y.0) (all_readings_pass ys) p).1 cs i h v a

  -- the function's own
  own_answer : (rs : List Closed) (qs : List Sized) → AllFit types rs qs → Answers types (length qs) (closeds rs) qs
  own_answer rs [] a i h v b = no h
  own_answer [] (q ∷ qs) a i h v b = absurd a
  own_answer (r ∷ rs) (q ∷ qs) a zero h v b = a.0 v (belongs_out types v r ∙ b)
  own_answer (r ∷ rs) (q ∷ qs) a (suc i) h v b = own_answer rs qs a.1 i h v b

  own_had : (rs : List Closed) (qs : List Sized) → AllFit types rs qs → (i : ℕ) → is_one_of i (length qs) ≡ true → (v : Value)
      → belongs types v (or_no_value mu (slice_get rs i)) ≡ true → has_sizes types v (Sizes.sized_at qs i) ≡ true
  own_had rs [] a i p v h = no p
  own_had [] (q ∷ qs) a i p v h = absurd a
  own_had (r ∷ rs) (q ∷ qs) a zero p v h = a.0 v h
  own_had (r ∷ rs) (q ∷ qs) a (suc i) p v h = own_had rs qs a.1 i p v h

  -- the Type arguments of a named type alone
  named_answers : (ys : List SuchR) → all_readings_pass ys ≡ true
      → Answers types (length (map (reading_passes types (length ss) of) (readings ys))) (closeds (map (closed types mu own) (readings ys)))
      (map typed (readings ys))
  named_answers [] p i h v a = no h
  named_answers (y ∷ ys) p zero h v a =
      y.1 (and_parts (reading_passes types (length ss) of y.0) (all_readings_pass ys) p).0 v (belongs_out types v (closed types mu own y.0) ∙ a)
  named_answers (y ∷ ys) p (suc i) h v a = named_answers ys (and_parts (reading_passes types (length ss) of y.0) (all_readings_pass ys) p).1 i h v a

  -- ---- named types

  module _ (u : ℕ) (args : List Index) (ys : List SuchR) (passed : all_readings_pass ys ≡ true) (exact : are_exact types of u (length args) 0 args ≡ true)
      (it : IsRead types (applied_at types of u args (length (map (reading_passes types (length ss) of) (readings ys))))) where
    abbrev zs : List (Option ℤ)
    zs = named_numbers types u (map (index_under of) args)

    abbrev qs : List Sized
    qs = map typed (readings ys)

    abbrev stood : Closeds
    stood = closeds (map (closed types mu own) (readings ys))

    abbrev count : ℕ
    count = length (map (reading_passes types (length ss) of) (readings ys))

    abbrev applied : Applied
    applied = applied_at types of u args count

    abbrev passes : Typ → Bool
    passes t = typ_passes types it.fields.depth t (applied ∷ it.before) count (constants_in applied)

    one_fits : (d : ℕ) (t : Typ) → passes t ≡ true → (v : Value) → size v ≤ d → belongs types v (reading t (assigned mu args) stood) ≡ true
        → has_sizes types v (typ_sized types qs t (map constant_of zs)) ≡ true
    one_fits d t k v le b =
        field_fits types d it.fields.depth (few_fit types d it.fields.depth) of mu stands u args count qs stood exact
        (λ i o w less a. named_answers ys passed i o w a) (applied ∷ it.before) (it.fields, it.are_read) t k v le b

    named_had : (w : Value-F Value) → form_holds types mu own (W.Named u args (map (closed types mu own) (readings ys))) w ≡ true
        → form_fits types (fitting types w) (Z.Named u zs qs) ≡ true
    named_had (V.Member i k) h = h
    named_had (V.Struct i vs) h =
        let d = total (map size vs) in
        struct_fits types d u zs qs (assigned mu args) stood passes (one_fits d) it.fields.pass i vs (at_most_itself d) h
    named_had (V.Union i k v) h =
        union_fits types (size v) u zs qs (assigned mu args) stood passes (one_fits (size v)) it.fields.pass i k v (at_most_itself (size v)) h
    named_had w h = no h

  -- ---- all indices

  abbrev form_of : Indices-F SuchI SuchR → Indices-F Meant Closed
  form_of y = meanings types mu own (indices_in y)

  abbrev sizes_of : Indices-F SuchI SuchR → Sized
  sizes_of y = indices_sized types ss to (in_indices types ss to (indices_in y))

  -- a named type's numbers are those under all integers
  named_fit : (u : ℕ) (args : List Index) (ys : List SuchR) → all_readings_pass ys ≡ true → are_exact types of u (length args) 0 args ≡ true
      → IsRead types (applied_at types of u args (length (map (reading_passes types (length ss) of) (readings ys)))) → (v : Value)
      → form_holds types mu own (W.Named u args (map (closed types mu own) (readings ys))) (out-Value v) ≡ true
      → has_sizes types v (S.Named u (named_numbers types u (map (index_under to) args)) (map typed (readings ys))) ≡ true
  named_fit u args ys p e k v h =
      let zs = named_numbers types u (map (index_under of) args) in
      let qs = map typed (readings ys) in
      ap (λ (l : List (Option ℤ)). has_sizes types v (S.Named u l qs)) (sym (named_same types of to more u args e))
      ∙ fits_as types v (S.Named u zs qs) (Z.Named u zs qs) (S.rolls-Named u zs qs) (named_had u args ys p e k (out-Value v) h)

  form_had : (y : Indices-F SuchI SuchR) → indices_pass types (length ss) of (tests_in types (length ss) of (indices_in y)) ≡ true → (v : Value)
      → indices_hold types mu own (form_of y) v ≡ true → has_sizes types v (sizes_of y) ≡ true
  form_had W.Never p v h = no h
  form_had W.Unit p v h = fits_as types v S.Unit Z.Unit S.rolls-Unit (unit_had (out-Value v) h)
  form_had (W.Truth c) p v h = fits_as types v S.Bool Z.Bool S.rolls-Bool (truth_had c (out-Value v) h)
  form_had W.Bit p v h = fits_as types v S.Bit Z.Bit S.rolls-Bit (bit_had (out-Value v) h)
  form_had (W.Bits t) p v h =
      let z = integer_of (constant_under to t) in
      fits_as types v (S.Bits z) (Z.Bits z) (S.rolls-Bits z) (bits_had t p (out-Value v) h)
  form_had (W.Integer t) p v h = fits_as types v S.Int Z.Int S.rolls-Int (integer_had t (out-Value v) h)
  form_had W.String p v h = fits_as types v S.String Z.String S.rolls-String (string_had (out-Value v) h)
  form_had (W.List r) p v h = fits_as types v (S.List (typed r.0)) (Z.List (typed r.0)) (S.rolls-List (typed r.0)) (list_had r p (out-Value v) h)
  form_had (W.Vector t r) p v h =
      let z = integer_of (constant_under to t) in
      let k = and_parts (is_exact of t) (reading_passes types (length ss) of r.0) p in
      fits_as types v (S.Vector z (typed r.0)) (Z.Vector z (typed r.0)) (S.rolls-Vector z (typed r.0)) (vector_had t r k.0 k.1 (out-Value v) h)
  form_had (W.Tuple ys) p v h =
      let qs = map sized (values ys) in
      fits_as types v (S.Tuple qs) (Z.Tuple qs) (S.rolls-Tuple qs) (tuple_had ys p (out-Value v) h)
  form_had (W.Named u args ys) p v h =
      let n = length (map (reading_passes types (length ss) of) (readings ys)) in
      let k = and_parts (all_readings_pass ys) (named_passes types (typ_passes types deepest) of u args n []) p in
      let it = applied_at types of u args n in
      let l = and_parts (are_exact types of u (length args) 0 args) (fields_pass types (typ_passes types deepest) it []) k.1 in
      named_fit u args ys k.0 l.0 (met_read types deepest it [] tt l.1) v h
  form_had (W.Variable i) p v h = own_had own ss own_fit i p v h

  abbrev here : Assignment
  here = nowhere mu

  form_wide : (y : Indices-F SuchI SuchR) → indices_pass types (length ss) of (tests_in types (length ss) of (indices_in y)) ≡ true → (v : Value)
      → belongs types v (wide_of types mu own (form_of y)) ≡ true → has_sizes types v (sizes_of y) ≡ true
  form_wide W.Never p v h = no (sym (nothing_belongs types v mu) ∙ h)
  form_wide W.Unit p v h =
      form_had W.Unit p v (sym (unit_as types past own f (out-Value v)) ∙ sym (belongs_form types v T.Unit U.Unit here no_readings U.rolls-Unit) ∙ h)
  form_wide (W.Truth c) p v h =
      fits_as types v S.Bool Z.Bool S.rolls-Bool
      (truth_wide here (out-Value v) (sym (belongs_form types v T.Bool U.Bool here no_readings U.rolls-Bool) ∙ h))
  form_wide W.Bit p v h =
      form_had W.Bit p v (sym (bit_as types past own f (out-Value v)) ∙ sym (belongs_form types v T.Bit U.Bit here no_readings U.rolls-Bit) ∙ h)
  form_wide (W.Bits t) p v h =
      let u = number_there mu t in
      form_had (W.Bits t) p v
      (sym (bits_as types past own f t (out-Value v)) ∙ sym (belongs_form types v (T.Bits u) (U.Bits u) here no_readings (U.rolls-Bits u)) ∙ h)
  form_wide (W.Integer t) p v h =
      fits_as types v S.Int Z.Int S.rolls-Int
      (integer_wide (constant least) (constant most) here (out-Value v)
      (sym (belongs_form types v (T.Range (constant least) (constant most)) (U.Range (constant least) (constant most)) here no_readings
      (U.rolls-Range (constant least) (constant most))) ∙ h))
  form_wide W.String p v h =
      form_had W.String p v (sym (string_as types past own f (out-Value v)) ∙ sym (belongs_form types v T.String U.String here no_readings U.rolls-String) ∙ h)
  form_wide (W.List r) p v h =
      let c = closed types mu own r.0 in
      form_had (W.List r) p v
      (sym (list_as types past own f c (out-Value v))
      ∙ sym (belongs_form types v (T.List (U.Variable 0)) (U.List (U.Variable 0)) here (closeds (c ∷ [])) (U.rolls-List (U.Variable 0))) ∙ h)
  form_wide (W.Vector t r) p v h =
      let c = closed types mu own r.0 in
      let u = number_there mu t in
      form_had (W.Vector t r) p v
      (sym (vector_as types past own f t c (out-Value v))
      ∙ sym (belongs_form types v (T.Vector u (U.Variable 0)) (U.Vector u (U.Variable 0)) here (closeds (c ∷ [])) (U.rolls-Vector u (U.Variable 0))) ∙ h)
  form_wide (W.Tuple ys) p v h =
      let cs = wides (map (meant types mu own) (values ys)) in
      let qs = map sized (values ys) in
      fits_as types v (S.Tuple qs) (Z.Tuple qs) (S.rolls-Tuple qs)
      (tuple_wide ys p (out-Value v)
      (sym (belongs_form types v (T.Tuple (type_variables 0 cs)) (U.Tuple (type_variables 0 cs)) here (closeds cs) (U.rolls-Tuple (type_variables 0 cs))) ∙ h))
  form_wide (W.Named u args ys) p v h =
      let cs = map (closed types mu own) (readings ys) in
      let js = map (index_there mu) args in
      form_had (W.Named u args ys) p v
      (sym (named_as types past own f u args cs (out-Value v))
      ∙ sym (belongs_form types v (T.Named u js (type_variables 0 cs)) (U.Named u js (type_variables 0 cs)) here (closeds cs)
      (U.rolls-Named u js (type_variables 0 cs))) ∙ h)
  form_wide (W.Variable i) p v h = own_had own ss own_fit i p v h

  rolled_fits : (y : Indices-F SuchI SuchR) → FitI (roll-Indices (indices_in y))
  rolled_fits y p =
      let i = roll-Indices (indices_in y) in
      let q = sym (value_tested types (length ss) of (indices_in y)) ∙ p in
      let is : sized i ≡ sizes_of y = value_is types ss to i (indices_in y) refl in
      record {
        had = λ v h. ap (has_sizes types v) is ∙ form_had y q v (sym (has_form types mu own i (indices_in y) v refl) ∙ h);
        wide = λ v h. ap (has_sizes types v) is
            ∙ form_wide y q v (sym (ap (λ (m : Meant). belongs types v m.wide) (meant_is types mu own i (indices_in y) refl)) ∙ h);
      }

  -- ---- types of the walk

  of_fits : (t : Typ) (is : List Index) (ys : List SuchR) → all_readings_pass ys ≡ true
      → typ_passes types deepest t [] (or_own (length ss) (length (map (reading_passes types (length ss) of) (readings ys)))) (exact_constants of is) ≡ true
      → (v : Value)
      → belongs types v (reading t (assigned mu is) (closeds (types_or_own (map (closed types mu own) (readings ys)) own))) ≡ true
      → has_sizes types v (typ_sized types (Sizes.types_or_own (map typed (readings ys)) ss) t (map (index_under to) is)) ≡ true
  of_fits t is ys p q v h =
      let n = or_own (length ss) (length (map (reading_passes types (length ss) of) (readings ys))) in
      let rs = closeds (types_or_own (map (closed types mu own) (readings ys)) own) in
      let qs = Sizes.types_or_own (map typed (readings ys)) ss in
      ap (has_sizes types v) (sym (typ_same types qs deepest t [] n (exact_constants of is) (map (index_under to) is) (exact_grows of to more is) q))
      ∙ typ_fits types deepest t [] n (exact_constants of is) qs (assigned mu is) rs tt q (exact_stands of mu stands is) (stood_answer ys p) v h
    where
      stood_answer : (xs : List SuchR) → all_readings_pass xs ≡ true
          → Answers types (or_own (length ss) (length (map (reading_passes types (length ss) of) (readings xs))))
          (closeds (types_or_own (map (closed types mu own) (readings xs)) own))
          (Sizes.types_or_own (map typed (readings xs)) ss)
      stood_answer [] k i h v a = own_answer own ss own_fit i h v a
      stood_answer (x ∷ xs) k i h v a = readings_answer (x ∷ xs) k own i h v a

  reading_fits : (y : Reading-F SuchI SuchR) → readings_pass types (length ss) of (tests_of types (length ss) of (reading_in y)) ≡ true → (v : Value)
      → belongs types v (closed_form types mu own (closing types mu own (reading_in y))) ≡ true
      → has_sizes types v (form_reading_sized types ss to (in_reading types ss to (reading_in y))) ≡ true
  reading_fits (W.Of t is rs) p v h =
      let n = length (map (reading_passes types (length ss) of) (readings rs)) in
      let k = and_parts (all_readings_pass rs) (typ_passes types deepest t [] (or_own (length ss) n) (exact_constants of is)) p in
      of_fits t is rs k.0 k.1 v h
  reading_fits (W.Widened i) p v h = (i.1 p).wide v h
  reading_fits (W.Parts rs) p v h =
      let cs = map (closed types mu own) (readings rs) in
      let qs = map typed (readings rs) in
      fits_as types v (S.Tuple qs) (Z.Tuple qs) (S.rolls-Tuple qs)
      (parts_of rs p (out-Value v)
      (sym (belongs_form types v (T.Tuple (type_variables 0 cs)) (U.Tuple (type_variables 0 cs)) here (closeds cs) (U.rolls-Tuple (type_variables 0 cs))) ∙ h))
  reading_fits W.Hole p v h = no (sym (nothing_belongs types v mu) ∙ h)

  rolled_reading_fits : (y : Reading-F SuchI SuchR) → FitR (roll-Reading (reading_in y))
  rolled_reading_fits y p v h =
      let r = roll-Reading (reading_in y) in
      ap (has_sizes types v) (reading_is types ss to r (reading_in y) refl)
      ∙ reading_fits y (sym (reading_tested types (length ss) of (reading_in y)) ∙ p) v
      (sym (ap (belongs types v) (closed_is types mu own r (reading_in y) refl)) ∙ h)

  value_fits : (i : Indices) → FitI i
  value_fits = ind-Indices FitI FitR (λ e y is. subst (λ d. FitI (roll-Indices d)) is (rolled_fits y))
      (λ e y is. subst (λ d. FitR (roll-Reading d)) is (rolled_reading_fits y))

  type_fits : (r : Reading) → FitR r
  type_fits = ind-Reading FitI FitR (λ e y is. subst (λ d. FitI (roll-Indices d)) is (rolled_fits y))
      (λ e y is. subst (λ d. FitR (roll-Reading d)) is (rolled_reading_fits y))

pub values_fit : ValuesFit
values_fit types past f own ss fit of stands =
    (λ i v p h. (value_fits types past f own ss fit of stands i p).had v h, λ r v p h. type_fits types past f own ss fit of stands r p v h)
