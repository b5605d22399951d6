-- Arguments on which a size hangs are marked in the end.
use Rattle.std.proofs.Common.{◌≡◌, ℕ, zero, suc, ◌+◌, ◌<◌, ◌≤◌, nat_eq, nat_lt, Bool, true, false, ◌&&◌, ◌||◌, List, [], ◌∷◌, ◌++◌, length, map, slice_get}
use Rattle.std.proofs.Common.{Option, Some, None, if◌then◌else◌, refl, sym, ap, ◌∙◌, subst, arith}
use Rattle.std.proofs.lemmas.Bool.{and_from, and_parts, ltb-false, ltb-true, or_left, or_right}
use Rattle.std.proofs.lemmas.Bool.Decides.{Decides-eqb}
use Rattle.sail_types.specs.Named.{field_types, in_form}
use Rattle.sail_types.specs.Zero.{deepest}
use Rattle.sail_types.proofs.SumNumbers.{some_same}
use Rattle.sail_types.specs.declared.numbers.Index.{Index}
use Rattle.sail_types.specs.declared.table.Definition.{Definition}
use Rattle.sail_types.specs.declared.table.Field.{Field}
use Rattle.sail_types.specs.declared.table.Types.{Types}
use Rattle.sail_types.specs.declared.types.Typ.{Typ, Typ-F, roll-Typ}
use Rattle.sail_types.specs.declared.types.Typ.TheFolds.{fold-roll-Typ, ind-Typ, map-Typ}
use Rattle.sail_types.specs.declared.types.Typ.TheOpen as T
use Rattle.size_values.specs.declared.constants.Constant.{Constant}
use Rattle.size_values.specs.declared.constants.Constant.TheVariants as C
use Rattle.size_values.specs.Numbers.{argument_of, constant_under, index_under, is_free}
use Rattle.size_values.specs.Sizes.{fields_of, form_fields, joined, only_open}
use Rattle.size_values.specs.Hanging.{Marks, OpenUnder, arguments_open, definition_marked, fields_open, flag_eq, flags_eq, form_open, is_marked}
use Rattle.size_values.specs.Hanging.{marked_next, marks_eq, one_open, open_under, or_marked, parameters_marked, settled, typ_open}
use Rattle.size_values.specs.Sized.{hangs_on}
use Rattle.value_laws.proofs.Basics.{no}
use Rattle.hanging_sizes.proofs.Variables.{arguments_hanging, form_hanging, hanging, index_variables, outside, variables_of}
use Rattle.hanging_sizes.proofs.Free.{among, either, in_either, index_free, size_free}
use Rattle.hanging_sizes.proofs.Counts.{all_open_same, argument_is, got_front, got_last, got_past, longer}

-- ---- the same marks

flag_same : (b c : Bool) → flag_eq b c ≡ true → b ≡ c
flag_same true true h = refl
flag_same true false h = no h
flag_same false true h = no h
flag_same false false h = refl

flags_same : (xs ys : List Bool) → flags_eq xs ys ≡ true → xs ≡ ys
flags_same [] [] h = refl
flags_same [] (y ∷ ys) h = no h
flags_same (x ∷ xs) [] h = no h
flags_same (x ∷ xs) (y ∷ ys) h =
    let both = and_parts (flag_eq x y) (flags_eq xs ys) h in λ j. flag_same x y both.0 j ∷ flags_same xs ys both.1 j

marks_same : (xs ys : Marks) → marks_eq xs ys ≡ true → xs ≡ ys
marks_same [] [] h = refl
marks_same [] (y ∷ ys) h = no h
marks_same (x ∷ xs) [] h = no h
marks_same (x ∷ xs) (y ∷ ys) h =
    let both = and_parts (flags_eq x y) (marks_eq xs ys) h in λ j. flags_same x y both.0 j ∷ marks_same xs ys both.1 j

-- no more are marked next
settled_next : (ds : List Definition) (steps : ℕ) (first marks : Marks) → settled ds steps first ≡ Some marks → marked_next ds marks ≡ marks
settled_next ds zero first marks e = absurd (cc)
settled_next ds (suc steps) first marks e =
    by (λ k. settled_next ds steps (marked_next ds first) marks k) (marks_eq (marked_next ds first) first) refl e
  where
    by : (settled ds steps (marked_next ds first) ≡ Some marks → marked_next ds marks ≡ marks) → (b : Bool) → marks_eq (marked_next ds first) first ≡ b
        → (if b then Some first else settled ds steps (marked_next ds first)) ≡ Some marks → marked_next ds marks ≡ marks
    by behind true t k = subst (λ m. marked_next ds m ≡ m) (some_same first marks k) (marks_same (marked_next ds first) first t)
    by behind false t k = behind k

-- ---- the mark of one parameter

module _ (marks : Marks) (fs : List Field) (n : ℕ) where
  as_many : (j : ℕ) → length (parameters_marked marks fs n j) ≡ j
  as_many zero = refl
  as_many (suc j) = longer (parameters_marked marks fs n j) (fields_open marks fs (only_open j n)) ∙ ap suc (as_many j)

  mark_is : (j k : ℕ) → k < j → slice_get (parameters_marked marks fs n j) k ≡ Some (fields_open marks fs (only_open k n))
  mark_is zero k l = absurd (omega (arith, l))
  mark_is (suc j) k l = by (λ m. mark_is j k m) (nat_eq k j) refl
    where
      front : List Bool
      front = parameters_marked marks fs n j

      last : Bool
      last = fields_open marks fs (only_open j n)

      by : (k < j → slice_get front k ≡ Some (fields_open marks fs (only_open k n))) → (b : Bool) → nat_eq k j ≡ b
          → slice_get (front ++ last ∷ []) k ≡ Some (fields_open marks fs (only_open k n))
      by before true e =
          let same : k ≡ j = (Decides-eqb k j).0 e in
          subst (λ i. slice_get (front ++ last ∷ []) i ≡ Some (fields_open marks fs (only_open i n))) (as_many j ∙ sym same)
          (got_last front last ∙ ap (λ i. Some (fields_open marks fs (only_open i n))) (sym (as_many j)))
      by before false e =
          let differs : k ≡ j → ⊥ = λ s. no (sym e ∙ (Decides-eqb k j).1 s) in
          let less : k < j = omega (arith, l, differs) in
          let long : length front ≡ j = as_many j in
          got_front front (last ∷ []) k (omega (arith, less, long)) ∙ before less

-- one on which a size hangs, of any number of them
one_marked : (marks : Marks) (d : Definition) (n k : ℕ) → k < n → fields_open marks (form_fields d.form) (only_open k n) ≡ true
    → or_marked (slice_get (definition_marked marks d) k) ≡ true
one_marked marks d n k l h = by (nat_lt k (length d.parameters)) refl
  where
    m : ℕ
    m = length d.parameters

    fs : List Field
    fs = form_fields d.form

    by : (b : Bool) → nat_lt k m ≡ b → or_marked (slice_get (definition_marked marks d) k) ≡ true
    by true e =
        let less : k < m = ltb-true k m e in
        ap or_marked (mark_is marks fs m m k less)
        ∙ all_open_same marks (field_types fs) (only_open k m) (only_open k n) (λ j x. (argument_is k m x less ∙ sym (argument_is k n x l)) j) ∙ h
    by false e =
        let past : m ≤ k = ltb-false k m e in
        let long : length (definition_marked marks d) ≡ m = as_many marks fs m m in
        ap or_marked (got_past (definition_marked marks d) k (omega (arith, past, long)))

in_table : (marks : Marks) (ds : List Definition) (u n k : ℕ) → k < n → fields_open marks (in_form [] form_fields (slice_get ds u)) (only_open k n) ≡ true
    → is_marked (marked_next ds marks) u k ≡ true
in_table marks [] u n k l h = no h
in_table marks (d ∷ ds) zero n k l h = one_marked marks d n k l h
in_table marks (d ∷ ds) (suc u) n k l h = in_table marks ds u n k l h

module _ (types : Types) (marks : Marks) (is_settled : settled types.definitions deepest [] ≡ Some marks) where
  closed : (u n k : ℕ) → k < n → hangs_on types u n k ≡ true → is_marked marks u k ≡ true
  closed u n k l h =
      let asked : fields_open marks (fields_of types u) (only_open k n) ≡ true =
      sym (ap (λ (o : Option Marks). open_under o (fields_of types u) (only_open k n)) is_settled) ∙ h in
      subst (λ m. is_marked m u k ≡ true) (settled_next types.definitions deepest [] marks is_settled) (in_table marks types.definitions u n k l asked)

  -- ---- a size that hangs on a variable that isn't constant isn't constant

  arguments_shown : (of : ℕ → Constant) (i : ℕ) → is_free (of i) ≡ true → (u n k : ℕ) (args : List Index) → k + length args ≤ n
      → among i (arguments_hanging types u n k args) ≡ true → arguments_open marks u k (map (index_under of) args) ≡ true
  arguments_shown of i free u n k [] l h = no h
  arguments_shown of i free u n k (a ∷ args) l h =
      by (λ e. or_right first rest (arguments_shown of i free u n (suc k) args (omega (arith, l)) e)) (hangs_on types u n k) refl h
    where
      first : Bool
      first = is_marked marks u k && is_free (index_under of a)

      rest : Bool
      rest = arguments_open marks u (suc k) (map (index_under of) args)

      by : (among i (arguments_hanging types u n (suc k) args) ≡ true → (first || rest) ≡ true) → (b : Bool) → hangs_on types u n k ≡ b
          → among i ((if b then index_variables a else []) ++ arguments_hanging types u n (suc k) args) ≡ true → (first || rest) ≡ true
      by behind true e m = in_either i (index_variables a) (arguments_hanging types u n (suc k) args) m (λ s. or_left first rest
          (and_from (is_marked marks u k) (is_free (index_under of a)) (closed u n k (omega (arith, l)) e) (index_free of i free a s))) behind
      by behind false e m = behind m

  Shows : Typ → Type 0
  Shows t = (cs : List Constant) (i : ℕ) → is_free (argument_of cs i) ≡ true → among i (hanging types t) ≡ true → typ_open marks t cs ≡ true

  abbrev SuchTyp : Type 0
  SuchTyp = (t : Typ) × Shows t

  abbrev bare : List SuchTyp → List Typ
  bare ys = map (λ (y : SuchTyp). y.0) ys

  abbrev typ_form : Typ-F SuchTyp → Typ-F Typ
  typ_form y = map-Typ SuchTyp Typ (λ p. p.0) y

  each_shown : (ys : List SuchTyp) (cs : List Constant) (i : ℕ) → is_free (argument_of cs i) ≡ true
      → among i (joined (map (hanging types) (bare ys))) ≡ true → one_open (map (typ_open marks) (bare ys)) cs ≡ true
  unfolding Shows
  each_shown [] cs i free h = no h
  each_shown (y ∷ ys) cs i free h =
      let rest = one_open (map (typ_open marks) (bare ys)) cs in
      in_either i (hanging types y.0) (joined (map (hanging types) (bare ys))) h (λ e. or_left (typ_open marks y.0 cs) rest (y.1 cs i free e))
      (λ e. or_right (typ_open marks y.0 cs) rest (each_shown ys cs i free e))

  outside_in : (i : ℕ) (is : List ℕ) → among i (outside is) ≡ true → among (suc i) is ≡ true
  outside_in i [] h = no h
  outside_in i (zero ∷ is) h = or_right (nat_eq (suc i) zero) (among (suc i) is) (outside_in i is h)
  outside_in i (suc j ∷ is) h =
      either (nat_eq i j) (among i (outside is)) h (λ e. or_left (nat_eq (suc i) (suc j)) (among (suc i) is)
      ((Decides-eqb (suc i) (suc j)).1 (ap suc ((Decides-eqb i j).0 e))))
      (λ e. or_right (nat_eq (suc i) (suc j)) (among (suc i) is) (outside_in i is e))

  form_shown : (y : Typ-F SuchTyp) (cs : List Constant) (i : ℕ) → is_free (argument_of cs i) ≡ true
      → among i (form_hanging types (map-Typ Typ (List ℕ) (hanging types) (typ_form y))) ≡ true
      → form_open marks (map-Typ Typ OpenUnder (typ_open marks) (typ_form y)) cs ≡ true
  unfolding Shows
  form_shown T.Unit cs i free h = no h
  form_shown T.Bool cs i free h = no h
  form_shown (T.Truth c) cs i free h = no h
  form_shown T.Bit cs i free h = no h
  form_shown (T.Bits t) cs i free h = size_free (argument_of cs) i free t h
  form_shown (T.Int t) cs i free h = no h
  form_shown (T.Range t u) cs i free h = no h
  form_shown T.String cs i free h = no h
  form_shown (T.List y) cs i free h = y.1 cs i free h
  form_shown (T.Vector t y) cs i free h =
      let length_open = is_free (constant_under (argument_of cs) t) in
      let item_open = typ_open marks y.0 cs in
      in_either i (variables_of t) (hanging types y.0) h (λ e. or_left length_open item_open (size_free (argument_of cs) i free t e))
      (λ e. or_right length_open item_open (y.1 cs i free e))
  form_shown (T.Tuple ys) cs i free h = each_shown ys cs i free h
  form_shown (T.Named u args ys) cs i free h =
      let of = argument_of cs in
      let numbers_open = arguments_open marks u 0 (map (index_under of) args) in
      let types_open = one_open (map (typ_open marks) (bare ys)) cs in
      in_either i (arguments_hanging types u (length args) 0 args) (joined (map (hanging types) (bare ys))) h
      (λ e. or_left numbers_open types_open (arguments_shown of i free u (length args) 0 args (omega arith) e))
      (λ e. or_right numbers_open types_open (each_shown ys cs i free e))
  form_shown (T.Variable v) cs i free h = no h
  form_shown (T.Exists name c y) cs i free h = y.1 (C.Bound name ∷ cs) (suc i) free (outside_in i (hanging types y.0) h)

  shown_step : (y : Typ-F SuchTyp) → Shows (roll-Typ (typ_form y))
  unfolding Shows
  shown_step y cs i free h =
      ap (λ (f : OpenUnder). f cs) (fold-roll-Typ OpenUnder (form_open marks) (typ_form y))
      ∙ form_shown y cs i free (sym (ap (among i) (fold-roll-Typ (List ℕ) (form_hanging types) (typ_form y))) ∙ h)

  every_typ : (t : Typ) → Shows t
  every_typ = ind-Typ Shows (λ e y is. subst (λ d. Shows (roll-Typ d)) is (shown_step y))

  pub typ_shown : (t : Typ) (cs : List Constant) (i : ℕ) → is_free (argument_of cs i) ≡ true → among i (hanging types t) ≡ true → typ_open marks t cs ≡ true
  unfolding Shows
  typ_shown t cs i free h = every_typ t cs i free h
