-- Types hang on the variables alone that their sizes name.
use Rattle.std.proofs.Common.{◌≡◌, ◌∙◌, ap, sym, refl, subst, ℕ, zero, suc, ℤ, pos, ◌+ℤ◌, ◌*ℤ◌, Bool, true, false, List, [], ◌∷◌, map, length}
use Rattle.std.proofs.Common.{◌⊎◌, inl, inr, Option, Some, None, if◌then◌else◌}
use Rattle.std.specs.Prelude.{is_none}
use Rattle.std.proofs.lemmas.Bool.{and_parts}
use Rattle.std.proofs.lemmas.List.{length-map}
use Rattle.sail_types.specs.Limits.{small_power}
use Rattle.sail_types.specs.Places.{first}
use Rattle.sail_types.specs.Sums.{and_then}
use Rattle.sail_types.specs.declared.numbers.Atom.{Atom, roll-Atom}
use Rattle.sail_types.specs.declared.numbers.Atom.TheFolds.{fold-roll-Atom, fold-roll-Num, fold-roll-Term, ind-Num, map-Atom, map-Num, map-Term}
use Rattle.sail_types.specs.declared.numbers.Atom.TheOpen as A
use Rattle.sail_types.specs.declared.numbers.Atom.TheOpen.{Atom-F, Num-F, Term-F}
use Rattle.sail_types.specs.declared.numbers.Index.{Index}
use Rattle.sail_types.specs.declared.numbers.Index.TheVariants as N
use Rattle.sail_types.specs.declared.numbers.Num.{Num, roll-Num}
use Rattle.sail_types.specs.declared.numbers.Term.{Term, roll-Term}
use Rattle.sail_types.specs.declared.table.Types.{Types}
use Rattle.sail_types.specs.declared.types.Typ.{Typ, Typ-F, roll-Typ}
use Rattle.sail_types.specs.declared.types.Typ.TheFolds.{fold-roll-Typ, ind-Typ, map-Typ}
use Rattle.sail_types.specs.declared.types.Typ.TheOpen as T
use Rattle.value_indices.specs.declared.indices.Indices.{Indices, roll-Indices}
use Rattle.value_indices.specs.declared.indices.Indices.TheFolds.{fold-roll-Indices, fold-roll-Reading, ind-Indices, ind-Reading, map-Indices, map-Reading}
use Rattle.value_indices.specs.declared.indices.Indices.TheOpen as W
use Rattle.value_indices.specs.declared.indices.Indices.TheOpen.{Indices-F, Reading-F}
use Rattle.value_indices.specs.declared.indices.Reading.{Reading, roll-Reading}
use Rattle.value_laws.proofs.Basics.{no}
use Rattle.size_values.specs.declared.constants.Constant.{Constant}
use Rattle.size_values.specs.declared.constants.Constant.TheVariants as C
use Rattle.size_values.specs.declared.sized.Sized.{Sized}
use Rattle.size_values.specs.declared.sized.Sized.TheVariants as S
use Rattle.size_values.specs.Numbers.{added, argument_of, atom_free, atom_value, constant_under, first_free, first_of, free_in_atom, free_in_term}
use Rattle.size_values.specs.Numbers.{free_variable}
use Rattle.size_values.specs.Numbers.{index_under, is_free, number_in, small, sum_free, sum_value, term_free, term_value, unless_free, value_of, value_of_atom}
use Rattle.size_values.specs.Numbers.{value_of_term}
use Rattle.size_values.specs.Sized.{UnderConstants, each_sized, form_reading_sized, form_sized, hangs_on, indices_sized, integer_of, named_numbers}
use Rattle.size_values.specs.Sized.{number_where}
use Rattle.size_values.specs.Sized.{numbers_from, reading_sized, typ_sized, types_or_own, value_sized}
use Rattle.size_laws.proofs.Forms.{in_indices, in_reading, reading_is, value_is}
use Rattle.exact_sizes.specs.Among.{SameAmong, SizesHang}
use Rattle.told_sizes.specs.Among.{Test, all_among, args_among, at, form_among, index_among, indices_among, num_among, only_among}
use Rattle.told_sizes.specs.Among.{reading_among, readings_among, typ_among, value_among}
use Rattle.told_sizes.specs.Exact.{all_of, only_if}
use Rattle.exact_sizes.proofs.Alike.{where_hangs}

-- ---- numbers

is_nothing : (o : Option ℕ) → is_none o ≡ true → o ≡ None
is_nothing None h = refl
is_nothing (Some i) h = no h

none_first : (o p : Option ℕ) → first o p ≡ None → (o ≡ None) × (p ≡ None)
none_first None p h = (refl, h)
none_first (Some i) p h = absurd (cc)

either : {A B C : Type 0} → A ⊎ B → (A → C) → (B → C) → C
either (inl a) f g = f a
either (inr b) f g = g b

some_first : (o p : Option ℕ) (i : ℕ) → first o p ≡ Some i → (o ≡ Some i) ⊎ (p ≡ Some i)
some_first None p i h = inr h
some_first (Some j) p i h = inl h

module _ (has : ℕ → Bool) (of to : ℕ → Constant) (same : SameAmong has of to) where
  abbrev bare : ℕ → Constant
  bare = only_among has

  -- the same value, and the same first variable that isn't known, which is the same
  abbrev Same : Option ℤ → Option ℤ → Option ℕ → Option ℕ → Type 0
  Same v w o p = (v ≡ w) × (o ≡ p) × ((i : ℕ) → o ≡ Some i → of i ≡ to i)

  abbrev SameA : Atom → Type 0
  SameA a = free_in_atom bare a ≡ None → Same (value_of_atom of a) (value_of_atom to a) (free_in_atom of a) (free_in_atom to a)

  abbrev SameN : Num → Type 0
  SameN n = first_free bare n ≡ None → Same (value_of of n) (value_of to n) (first_free of n) (first_free to n)

  abbrev SameT : Term → Type 0
  SameT t = free_in_term bare t ≡ None → Same (value_of_term of t) (value_of_term to t) (free_in_term of t) (free_in_term to t)

  abbrev SuchA : Type 0
  SuchA = (a : Atom) × SameA a

  abbrev SuchN : Type 0
  SuchN = (n : Num) × SameN n

  abbrev SuchT : Type 0
  SuchT = (t : Term) × SameT t

  -- a variable that is known there is one of them
  known_there : (i : ℕ) (b : Bool) → has i ≡ b → (if is_free (if b then C.Number (pos 0) else C.Open i) then Some i else None) ≡ None → of i ≡ to i
  known_there i true e h = same i e
  known_there i false e h = absurd (cc)

  one_free : (c : Constant) (i j : ℕ) → (if is_free c then Some i else None) ≡ Some j → i ≡ j
  one_free (C.Number z) i j h = absurd (cc)
  one_free (C.Open v) i j h = cc h
  one_free (C.Bound name) i j h = cc h

  atom_step : (y : Atom-F SuchA SuchN SuchT) → SameA (roll-Atom (map-Atom SuchA SuchN SuchT Atom Num Term (λ p. p.0) (λ p. p.0) (λ p. p.0) y))
  atom_step (A.Variable i) h =
      let here : of i ≡ to i =
      known_there i (has i) refl (sym (fold-roll-Atom (Option ℕ) (Option ℕ) (Option ℕ) (atom_free bare) sum_free term_free (A.Variable i)) ∙ h) in
      let worth : (by : ℕ → Constant) → value_of_atom by (roll-Atom (A.Variable i)) ≡ number_in (by i) =
      λ by. fold-roll-Atom (Option ℤ) (Option ℤ) (Option ℤ) (atom_value by) sum_value term_value (A.Variable i) in
      let free : (by : ℕ → Constant) → free_in_atom by (roll-Atom (A.Variable i)) ≡ free_variable by i =
      λ by. fold-roll-Atom (Option ℕ) (Option ℕ) (Option ℕ) (atom_free by) sum_free term_free (A.Variable i) in (
        worth of ∙ ap number_in here ∙ sym (worth to),
        free of ∙ ap (λ (c : Constant). if is_free c then Some i else None) here ∙ sym (free to),
        λ j e. subst (λ (k : ℕ). of k ≡ to k) (one_free (of i) i j (sym (free of) ∙ e)) here,
      )
  atom_step (A.Power t) h =
      let worth : (by : ℕ → Constant) → value_of_atom by (roll-Atom (A.Power t.0)) ≡ and_then (value_of by t.0) small_power =
      λ by. fold-roll-Atom (Option ℤ) (Option ℤ) (Option ℤ) (atom_value by) sum_value term_value (A.Power t.0) in
      let free : (by : ℕ → Constant) → free_in_atom by (roll-Atom (A.Power t.0)) ≡ first_free by t.0 =
      λ by. fold-roll-Atom (Option ℕ) (Option ℕ) (Option ℕ) (atom_free by) sum_free term_free (A.Power t.0) in
      let k = t.1 (sym (free bare) ∙ h) in (
        worth of ∙ ap (λ (o : Option ℤ). and_then o small_power) k.0 ∙ sym (worth to),
        free of ∙ k.1 ∙ sym (free to),
        λ j e. k.2 j (sym (free of) ∙ e),
      )

  abbrev plain : List SuchT → List Term
  plain ys = map (λ (p : SuchT). p.0) ys

  -- each of a sum
  each_same : (ys : List SuchT) → first_of (map (free_in_term bare) (plain ys)) ≡ None
      → (map (value_of_term of) (plain ys) ≡ map (value_of_term to) (plain ys))
      × (first_of (map (free_in_term of) (plain ys)) ≡ first_of (map (free_in_term to) (plain ys)))
      × ((i : ℕ) → first_of (map (free_in_term of) (plain ys)) ≡ Some i → of i ≡ to i)
  each_same [] h = (refl, refl, λ i e. absurd (cc))
  each_same (y ∷ ys) h =
      let p = none_first (free_in_term bare y.0) (first_of (map (free_in_term bare) (plain ys))) h in
      let one = y.1 p.0 in
      let rest = each_same ys p.1 in (
        (λ j. one.0 j ∷ rest.0 j),
        (λ j. first (one.1 j) (rest.1 j)),
        λ i e. either (some_first (free_in_term of y.0) (first_of (map (free_in_term of) (plain ys))) i e) (one.2 i) (rest.2 i),
      )

  num_step : (y : Num-F SuchA SuchN SuchT) → SameN (roll-Num (map-Num SuchA SuchN SuchT Atom Num Term (λ p. p.0) (λ p. p.0) (λ p. p.0) y))
  num_step y h =
      let form : Num-F Atom Num Term = record { terms = plain y.terms; constant = y.constant } in
      let last : ℤ → Option ℤ = λ k. small (k +ℤ y.constant) in
      let worth : (by : ℕ → Constant) → value_of by (roll-Num form) ≡ and_then (added (pos 0) (map (value_of_term by) (plain y.terms))) last =
      λ by. fold-roll-Num (Option ℤ) (Option ℤ) (Option ℤ) (atom_value by) sum_value term_value form in
      let free : (by : ℕ → Constant) → first_free by (roll-Num form) ≡ first_of (map (free_in_term by) (plain y.terms)) =
      λ by. fold-roll-Num (Option ℕ) (Option ℕ) (Option ℕ) (atom_free by) sum_free term_free form in
      let k = each_same y.terms (sym (free bare) ∙ h) in (
        worth of ∙ ap (λ (os : List (Option ℤ)). and_then (added (pos 0) os) last) k.0 ∙ sym (worth to),
        free of ∙ k.1 ∙ sym (free to),
        λ j e. k.2 j (sym (free of) ∙ e),
      )

  term_step : (y : Term-F SuchA SuchN SuchT) → SameT (roll-Term (map-Term SuchA SuchN SuchT Atom Num Term (λ p. p.0) (λ p. p.0) (λ p. p.0) y))
  term_step y h =
      let form : Term-F Atom Num Term = record { coefficient = y.coefficient; atom = y.atom.0 } in
      let last : ℤ → Option ℤ = λ k. small (y.coefficient *ℤ k) in
      let worth : (by : ℕ → Constant) → value_of_term by (roll-Term form) ≡ and_then (value_of_atom by y.atom.0) last =
      λ by. fold-roll-Term (Option ℤ) (Option ℤ) (Option ℤ) (atom_value by) sum_value term_value form in
      let free : (by : ℕ → Constant) → free_in_term by (roll-Term form) ≡ free_in_atom by y.atom.0 =
      λ by. fold-roll-Term (Option ℕ) (Option ℕ) (Option ℕ) (atom_free by) sum_free term_free form in
      let k = y.atom.1 (sym (free bare) ∙ h) in (
        worth of ∙ ap (λ (o : Option ℤ). and_then o last) k.0 ∙ sym (worth to),
        free of ∙ k.1 ∙ sym (free to),
        λ j e. k.2 j (sym (free of) ∙ e),
      )

  same_number : (n : Num) → SameN n
  same_number = ind-Num SameA SameN SameT
      (λ e y is. subst (λ d. SameA (roll-Atom d)) is (atom_step y))
      (λ e y is. subst (λ d. SameN (roll-Num d)) is (num_step y))
      (λ e y is. subst (λ d. SameT (roll-Term d)) is (term_step y))

  constant_same : (n : Num) → num_among has n ≡ true → constant_under of n ≡ constant_under to n
  constant_same n h =
      let k = same_number n (is_nothing (first_free bare n) h) in
      by (first_free of n) refl k.2 ∙ ap (λ (p : Option ℕ). unless_free to p (value_of of n)) k.1 ∙ ap (unless_free to (first_free to n)) k.0
    where
      by : (o : Option ℕ) → first_free of n ≡ o → ((i : ℕ) → o ≡ Some i → of i ≡ to i) → unless_free of o (value_of of n) ≡ unless_free to o (value_of of n)
      by None e g = refl
      by (Some i) e g = g i refl

  pub index_same : (a : Index) → index_among has a ≡ true → index_under of a ≡ index_under to a
  index_same (N.Number t) h = constant_same t h
  index_same (N.Truth c) h = refl

  where_same : (b : Bool) (c d : Constant) → (b ≡ true → c ≡ d) → number_where b c ≡ number_where b d
  where_same true c d h = ap (λ (x : Constant). Some (integer_of x)) (h refl)
  where_same false c d h = refl

  module _ (types : Types) (u n : ℕ) where
    numbers_same : (k : ℕ) (args : List Index) → args_among types has u n k args ≡ true
        → numbers_from types u n k (map (index_under of) args) ≡ numbers_from types u n k (map (index_under to) args)
    numbers_same k [] h = refl
    numbers_same k (a ∷ args) h =
        let p = and_parts (only_if (hangs_on types u n k) (index_among has a)) (args_among types has u n (suc k) args) h in
        let one = where_same (hangs_on types u n k) (index_under of a) (index_under to a)
        (λ e. index_same a (where_hangs (hangs_on types u n k) (index_among has a) p.0 e)) in
        let rest = numbers_same (suc k) args p.1 in
        λ j. one j ∷ rest j

  named_same : (types : Types) (u : ℕ) (args : List Index) → args_among types has u (length args) 0 args ≡ true
      → named_numbers types u (map (index_under of) args) ≡ named_numbers types u (map (index_under to) args)
  named_same types u args h =
      ap (λ n. numbers_from types u n 0 (map (index_under of) args)) (length-map args (index_under of))
      ∙ numbers_same types u (length args) 0 args h
      ∙ ap (λ n. numbers_from types u n 0 (map (index_under to) args)) (sym (length-map args (index_under to)))

-- ---- types under constants

abbrev pub SameAt : List Bool → List Constant → List Constant → Type 0
SameAt bs cs ds = SameAmong (at bs) (argument_of cs) (argument_of ds)

pub same_under : (bs : List Bool) (c : Constant) (cs ds : List Constant) → SameAt bs cs ds → SameAt (true ∷ bs) (c ∷ cs) (c ∷ ds)
same_under bs c cs ds s zero h = refl
same_under bs c cs ds s (suc i) h = s i h

module _ (types : Types) (ss : List Sized) where
  abbrev SuchTyp : Typ → Type 0
  SuchTyp t = (bs : List Bool) (cs ds : List Constant) → SameAt bs cs ds → typ_among types t bs ≡ true → typ_sized types ss t cs ≡ typ_sized types ss t ds

  abbrev One : Type 0
  One = (t : Typ) × SuchTyp t

  abbrev form_of : Typ-F One → Typ-F Typ
  form_of y = map-Typ One Typ (λ p. p.0) y

  abbrev types_of : List One → List Typ
  types_of ys = map (λ (p : One). p.0) ys

  abbrev sized_form : Typ-F Typ → UnderConstants
  sized_form x = form_sized types ss (map-Typ Typ UnderConstants (typ_sized types ss) x)

  abbrev tests : Typ-F Typ → Typ-F Test
  tests x = map-Typ Typ Test (typ_among types) x

  all_same : (ys : List One) (bs : List Bool) (cs ds : List Constant) → SameAt bs cs ds → all_among (map (typ_among types) (types_of ys)) bs ≡ true
      → each_sized (map (typ_sized types ss) (types_of ys)) cs ≡ each_sized (map (typ_sized types ss) (types_of ys)) ds
  all_same [] bs cs ds s h = refl
  all_same (y ∷ ys) bs cs ds s h =
      let p = and_parts (typ_among types y.0 bs) (all_among (map (typ_among types) (types_of ys)) bs) h in
      let one = y.1 bs cs ds s p.0 in
      let rest = all_same ys bs cs ds s p.1 in
      λ j. one j ∷ rest j

  form_same : (y : Typ-F One) (bs : List Bool) (cs ds : List Constant) → SameAt bs cs ds → form_among types (tests (form_of y)) bs ≡ true
      → sized_form (form_of y) cs ≡ sized_form (form_of y) ds
  form_same T.Unit bs cs ds s h = refl
  form_same T.Bool bs cs ds s h = refl
  form_same (T.Truth c) bs cs ds s h = refl
  form_same T.Bit bs cs ds s h = refl
  form_same (T.Bits t) bs cs ds s h =
      ap (λ (c : Constant). S.Bits (integer_of c)) (constant_same (at bs) (argument_of cs) (argument_of ds) s t h)
  form_same (T.Int t) bs cs ds s h = refl
  form_same (T.Range t u) bs cs ds s h = refl
  form_same T.String bs cs ds s h = refl
  form_same (T.List y) bs cs ds s h = ap (λ (x : Sized). S.List x) (y.1 bs cs ds s h)
  form_same (T.Vector m y) bs cs ds s h =
      let p = and_parts (num_among (at bs) m) (typ_among types y.0 bs) h in
      ap (λ (c : Constant). S.Vector (integer_of c) (typ_sized types ss y.0 cs)) (constant_same (at bs) (argument_of cs) (argument_of ds) s m p.0)
      ∙ ap (λ (x : Sized). S.Vector (integer_of (constant_under (argument_of ds) m)) x) (y.1 bs cs ds s p.1)
  form_same (T.Tuple ys) bs cs ds s h = ap (λ (l : List Sized). S.Tuple l) (all_same ys bs cs ds s h)
  form_same (T.Named u args ys) bs cs ds s h =
      let p = and_parts (args_among types (at bs) u (length args) 0 args) (all_among (map (typ_among types) (types_of ys)) bs) h in
      ap (λ (l : List (Option ℤ)). S.Named u l (each_sized (map (typ_sized types ss) (types_of ys)) cs))
      (named_same (at bs) (argument_of cs) (argument_of ds) s types u args p.0)
      ∙ ap (λ (l : List Sized). S.Named u (named_numbers types u (map (index_under (argument_of ds)) args)) l) (all_same ys bs cs ds s p.1)
  form_same (T.Variable i) bs cs ds s h = refl
  form_same (T.Exists name c y) bs cs ds s h =
      y.1 (true ∷ bs) (C.Bound name ∷ cs) (C.Bound name ∷ ds) (same_under bs (C.Bound name) cs ds s) h

  typ_step : (y : Typ-F One) → SuchTyp (roll-Typ (form_of y))
  typ_step y bs cs ds s h =
      let sized : (es : List Constant) → typ_sized types ss (roll-Typ (form_of y)) es ≡ sized_form (form_of y) es =
      λ es. ap (λ (f : UnderConstants). f es) (fold-roll-Typ UnderConstants (form_sized types ss) (form_of y)) in
      let tested : typ_among types (roll-Typ (form_of y)) bs ≡ form_among types (tests (form_of y)) bs =
      ap (λ (f : Test). f bs) (fold-roll-Typ Test (form_among types) (form_of y)) in
      sized cs ∙ form_same y bs cs ds s (sym tested ∙ h) ∙ sym (sized ds)

  pub typ_hangs : (t : Typ) → SuchTyp t
  typ_hangs = ind-Typ SuchTyp (λ e y is. subst (λ d. SuchTyp (roll-Typ d)) is (typ_step y))

-- ---- values

module _ (types : Types) (own : List Sized) (has : ℕ → Bool) (of to : ℕ → Constant) (same : SameAmong has of to) where
  pub arguments_same : (is : List Index) → SameAt (map (index_among has) is) (map (index_under of) is) (map (index_under to) is)
  arguments_same [] i h = refl
  arguments_same (a ∷ is) zero h = index_same has of to same a h
  arguments_same (a ∷ is) (suc i) h = arguments_same is i h

  abbrev SameI : Indices → Type 0
  SameI i = value_among types has i ≡ true → value_sized types own of i ≡ value_sized types own to i

  abbrev SameR : Reading → Type 0
  SameR r = reading_among types has r ≡ true → reading_sized types own of r ≡ reading_sized types own to r

  abbrev SuchI : Type 0
  SuchI = (i : Indices) × SameI i

  abbrev SuchR : Type 0
  SuchR = (r : Reading) × SameR r

  abbrev indices_of : Indices-F SuchI SuchR → Indices-F Indices Reading
  indices_of y = map-Indices SuchI SuchR Indices Reading (λ p. p.0) (λ p. p.0) y

  abbrev reading_of : Reading-F SuchI SuchR → Reading-F Indices Reading
  reading_of y = map-Reading SuchI SuchR Indices Reading (λ p. p.0) (λ p. p.0) y

  abbrev values : List SuchI → List Indices
  values ys = map (λ (p : SuchI). p.0) ys

  abbrev readings : List SuchR → List Reading
  readings ys = map (λ (p : SuchR). p.0) ys

  abbrev tests_in : Indices-F Indices Reading → Indices-F Bool Bool
  tests_in x = map-Indices Indices Reading Bool Bool (value_among types has) (reading_among types has) x

  abbrev tests_of : Reading-F Indices Reading → Reading-F Bool Bool
  tests_of x = map-Reading Indices Reading Bool Bool (value_among types has) (reading_among types has) x

  values_same : (ys : List SuchI) → all_of (map (value_among types has) (values ys)) ≡ true
      → map (value_sized types own of) (values ys) ≡ map (value_sized types own to) (values ys)
  values_same [] h = refl
  values_same (y ∷ ys) h =
      let p = and_parts (value_among types has y.0) (all_of (map (value_among types has) (values ys))) h in
      let one = y.1 p.0 in
      let rest = values_same ys p.1 in
      λ j. one j ∷ rest j

  readings_same : (ys : List SuchR) → all_of (map (reading_among types has) (readings ys)) ≡ true
      → map (reading_sized types own of) (readings ys) ≡ map (reading_sized types own to) (readings ys)
  readings_same [] h = refl
  readings_same (y ∷ ys) h =
      let p = and_parts (reading_among types has y.0) (all_of (map (reading_among types has) (readings ys))) h in
      let one = y.1 p.0 in
      let rest = readings_same ys p.1 in
      λ j. one j ∷ rest j

  abbrev under_of : (ℕ → Constant) → Indices-F Indices Reading → Sized
  under_of by x = indices_sized types own by (in_indices types own by x)

  value_form : (y : Indices-F SuchI SuchR) → indices_among types has (tests_in (indices_of y)) ≡ true → under_of of (indices_of y) ≡ under_of to (indices_of y)
  value_form W.Never h = refl
  value_form W.Unit h = refl
  value_form (W.Truth c) h = refl
  value_form W.Bit h = refl
  value_form (W.Bits t) h = ap (λ (c : Constant). S.Bits (integer_of c)) (constant_same has of to same t h)
  value_form (W.Integer t) h = refl
  value_form W.String h = refl
  value_form (W.List r) h = ap (λ (s : Sized). S.List s) (r.1 h)
  value_form (W.Vector t r) h =
      let p = and_parts (num_among has t) (reading_among types has r.0) h in
      ap (λ (c : Constant). S.Vector (integer_of c) (reading_sized types own of r.0)) (constant_same has of to same t p.0)
      ∙ ap (λ (s : Sized). S.Vector (integer_of (constant_under to t)) s) (r.1 p.1)
  value_form (W.Tuple ys) h = ap (λ (l : List Sized). S.Tuple l) (values_same ys h)
  value_form (W.Named u args rs) h =
      let p = and_parts (args_among types has u (length args) 0 args) (all_of (map (reading_among types has) (readings rs))) h in
      ap (λ (l : List (Option ℤ)). S.Named u l (map (reading_sized types own of) (readings rs))) (named_same has of to same types u args p.0)
      ∙ ap (λ (l : List Sized). S.Named u (named_numbers types u (map (index_under to) args)) l) (readings_same rs p.1)
  value_form (W.Variable i) h = refl

  abbrev typed_of : (ℕ → Constant) → Reading-F Indices Reading → Sized
  typed_of by x = form_reading_sized types own by (in_reading types own by x)

  reading_form : (y : Reading-F SuchI SuchR) → readings_among types has (tests_of (reading_of y)) ≡ true
      → typed_of of (reading_of y) ≡ typed_of to (reading_of y)
  reading_form (W.Of t is rs) h =
      let p = and_parts (all_of (map (reading_among types has) (readings rs))) (typ_among types t (map (index_among has) is)) h in
      typ_hangs types (types_or_own (map (reading_sized types own of) (readings rs)) own) t (map (index_among has) is) (map (index_under of) is)
      (map (index_under to) is) (arguments_same is) p.1
      ∙ ap (λ (l : List Sized). typ_sized types (types_or_own l own) t (map (index_under to) is)) (readings_same rs p.0)
  reading_form (W.Widened i) h = i.1 h
  reading_form (W.Parts rs) h = ap (λ (l : List Sized). S.Tuple l) (readings_same rs h)
  reading_form W.Hole h = refl

  value_step : (y : Indices-F SuchI SuchR) → SameI (roll-Indices (indices_of y))
  value_step y h =
      value_is types own of (roll-Indices (indices_of y)) (indices_of y) refl
      ∙ value_form y (sym (fold-roll-Indices Bool Bool (indices_among types has) (readings_among types has) (indices_of y)) ∙ h)
      ∙ sym (value_is types own to (roll-Indices (indices_of y)) (indices_of y) refl)

  reading_step : (y : Reading-F SuchI SuchR) → SameR (roll-Reading (reading_of y))
  reading_step y h =
      reading_is types own of (roll-Reading (reading_of y)) (reading_of y) refl
      ∙ reading_form y (sym (fold-roll-Reading Bool Bool (indices_among types has) (readings_among types has) (reading_of y)) ∙ h)
      ∙ sym (reading_is types own to (roll-Reading (reading_of y)) (reading_of y) refl)

  value_hangs : (i : Indices) → SameI i
  value_hangs = ind-Indices SameI SameR (λ e y is. subst (λ d. SameI (roll-Indices d)) is (value_step y))
      (λ e y is. subst (λ d. SameR (roll-Reading d)) is (reading_step y))

  pub reading_hangs : (r : Reading) → SameR r
  reading_hangs = ind-Reading SameI SameR (λ e y is. subst (λ d. SameI (roll-Indices d)) is (value_step y))
      (λ e y is. subst (λ d. SameR (roll-Reading d)) is (reading_step y))

pub sizes_hang : SizesHang
sizes_hang types own has of to same = (value_hangs types own has of to same, reading_hangs types own has of to same)
