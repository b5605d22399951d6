-- Types under constants are the same where more is known.
use Rattle.std.proofs.Common.{◌≡◌, ◌∙◌, ap, sym, refl, subst, ℕ, ℤ, Bool, true, List, [], ◌∷◌, map, length}
use Rattle.std.specs.Prelude.{Option}
use Rattle.std.proofs.lemmas.Bool.{and_parts}
use Rattle.sail_types.specs.Zero.{deepest}
use Rattle.sail_types.specs.declared.numbers.Index.{Index}
use Rattle.sail_types.specs.declared.table.Types.{Types}
use Rattle.sail_types.specs.declared.types.Typ.{Typ}
use Rattle.value_indices.specs.declared.indices.Indices.{Indices, roll-Indices}
use Rattle.value_indices.specs.declared.indices.Indices.TheFolds.{fold-roll-Indices, fold-roll-Reading, ind-Indices, ind-Reading, map-Indices, map-Reading}
use Rattle.value_indices.specs.declared.indices.Indices.TheOpen as W
use Rattle.value_indices.specs.declared.indices.Indices.TheOpen.{Indices-F, Reading-F}
use Rattle.value_indices.specs.declared.indices.Reading.{Reading, roll-Reading}
use Rattle.value_indices.specs.declared.indices.Reading.TheVariants as R
use Rattle.size_values.specs.declared.constants.Constant.{Constant}
use Rattle.size_values.specs.declared.sized.Sized.{Sized}
use Rattle.size_values.specs.declared.sized.Sized.TheVariants as S
use Rattle.size_values.specs.Numbers.{constant_under, index_under}
use Rattle.size_values.specs.Sized.{form_reading_sized, indices_sized, integer_of, named_numbers, reading_sized, typ_sized, types_or_own, value_sized}
use Rattle.size_laws.proofs.Forms.{in_indices, in_reading, of_is, reading_is, value_is}
use Rattle.told_sizes.specs.Exact.{all_of, are_exact, exact_constants, fields_pass, is_exact, applied_at, named_passes, or_own}
use Rattle.told_sizes.specs.Passing.{indices_pass}
use Rattle.told_sizes.specs.Exact.{typ_passes}
use Rattle.told_sizes.specs.Passing.{reading_passes, readings_pass, value_passes}
use Rattle.exact_sizes.specs.Laws.{More, SizesStand}
use Rattle.exact_sizes.proofs.Alike.{Grows, exact_grows, named_same, number_same, typ_same}

-- ---- the tests, by forms

module _ (types : Types) (own_count : ℕ) (of : ℕ → Constant) where
  abbrev pub tests_in : Indices-F Indices Reading → Indices-F Bool Bool
  tests_in x = map-Indices Indices Reading Bool Bool (value_passes types own_count of) (reading_passes types own_count of) x

  pub value_tested : (x : Indices-F Indices Reading) → value_passes types own_count of (roll-Indices x) ≡ indices_pass types own_count of (tests_in x)
  value_tested x = fold-roll-Indices Bool Bool (indices_pass types own_count of) (readings_pass types own_count of) x

  abbrev pub tests_of : Reading-F Indices Reading → Reading-F Bool Bool
  tests_of x = map-Reading Indices Reading Bool Bool (value_passes types own_count of) (reading_passes types own_count of) x

  pub reading_tested : (x : Reading-F Indices Reading) → reading_passes types own_count of (roll-Reading x) ≡ readings_pass types own_count of (tests_of x)
  reading_tested x = fold-roll-Reading Bool Bool (indices_pass types own_count of) (readings_pass types own_count of) x

module _ (types : Types) (own : List Sized) (own_count : ℕ) (of to : ℕ → Constant) (more : More of to) where
  abbrev SameI : Indices → Type 0
  SameI i = value_passes types own_count of i ≡ true → value_sized types own of i ≡ value_sized types own to i

  abbrev SameR : Reading → Type 0
  SameR r = reading_passes types own_count of r ≡ true → reading_sized types own of r ≡ reading_sized types own to r

  abbrev SuchI : Type 0
  SuchI = (i : Indices) × SameI i

  abbrev SuchR : Type 0
  SuchR = (r : Reading) × SameR r

  abbrev indices_of : Indices-F SuchI SuchR → Indices-F Indices Reading
  indices_of y = map-Indices SuchI SuchR Indices Reading (λ p. p.0) (λ p. p.0) y

  abbrev reading_of : Reading-F SuchI SuchR → Reading-F Indices Reading
  reading_of y = map-Reading SuchI SuchR Indices Reading (λ p. p.0) (λ p. p.0) y

  abbrev values : List SuchI → List Indices
  values ys = map (λ (p : SuchI). p.0) ys

  abbrev readings : List SuchR → List Reading
  readings ys = map (λ (p : SuchR). p.0) ys

  values_same : (ys : List SuchI) → all_of (map (value_passes types own_count of) (values ys)) ≡ true
      → map (value_sized types own of) (values ys) ≡ map (value_sized types own to) (values ys)
  values_same [] h = refl
  values_same (y ∷ ys) h =
      let p = and_parts (value_passes types own_count of y.0) (all_of (map (value_passes types own_count of) (values ys))) h in
      let first = y.1 p.0 in
      let rest = values_same ys p.1 in
      λ j. first j ∷ rest j

  readings_same : (ys : List SuchR) → all_of (map (reading_passes types own_count of) (readings ys)) ≡ true
      → map (reading_sized types own of) (readings ys) ≡ map (reading_sized types own to) (readings ys)
  readings_same [] h = refl
  readings_same (y ∷ ys) h =
      let p = and_parts (reading_passes types own_count of y.0) (all_of (map (reading_passes types own_count of) (readings ys))) h in
      let first = y.1 p.0 in
      let rest = readings_same ys p.1 in
      λ j. first j ∷ rest j

  abbrev under_of : Indices-F Indices Reading → Sized
  under_of x = indices_sized types own of (in_indices types own of x)

  abbrev under_to : Indices-F Indices Reading → Sized
  under_to x = indices_sized types own to (in_indices types own to x)

  form_same : (y : Indices-F SuchI SuchR) → indices_pass types own_count of (tests_in types own_count of (indices_of y)) ≡ true
      → under_of (indices_of y) ≡ under_to (indices_of y)
  form_same W.Never h = refl
  form_same W.Unit h = refl
  form_same (W.Truth c) h = refl
  form_same W.Bit h = refl
  form_same (W.Bits t) h = ap (λ (c : Constant). S.Bits (integer_of c)) (number_same of to more t h)
  form_same (W.Integer t) h = refl
  form_same W.String h = refl
  form_same (W.List r) h = ap (λ (s : Sized). S.List s) (r.1 h)
  form_same (W.Vector t r) h =
      let p = and_parts (is_exact of t) (reading_passes types own_count of r.0) h in
      ap (λ (c : Constant). S.Vector (integer_of c) (reading_sized types own of r.0)) (number_same of to more t p.0)
      ∙ ap (λ (s : Sized). S.Vector (integer_of (constant_under to t)) s) (r.1 p.1)
  form_same (W.Tuple ys) h = ap (λ (l : List Sized). S.Tuple l) (values_same ys h)
  form_same (W.Named u args rs) h =
      let n = length (map (reading_passes types own_count of) (readings rs)) in
      let p = and_parts (all_of (map (reading_passes types own_count of) (readings rs))) (named_passes types (typ_passes types deepest) of u args n []) h in
      let q = and_parts (are_exact types of u (length args) 0 args)
      (fields_pass types (typ_passes types deepest) (applied_at types of u args n) []) p.1 in
      ap (λ (l : List (Option ℤ)). S.Named u l (map (reading_sized types own of) (readings rs))) (named_same types of to more u args q.0)
      ∙ ap (λ (l : List Sized). S.Named u (named_numbers types u (map (index_under to) args)) l) (readings_same rs p.0)
  form_same (W.Variable i) h = refl

  abbrev typed_of : Reading-F Indices Reading → Sized
  typed_of x = form_reading_sized types own of (in_reading types own of x)

  abbrev typed_to : Reading-F Indices Reading → Sized
  typed_to x = form_reading_sized types own to (in_reading types own to x)

  -- a type, whose variables stand for these
  of_same : (t : Typ) (n : ℕ) (is : List Index) (ss : List Sized) → typ_passes types deepest t [] n (exact_constants of is) ≡ true
      → typ_sized types ss t (map (index_under of) is) ≡ typ_sized types ss t (map (index_under to) is)
  of_same t n is ss h =
      sym (typ_same types ss deepest t [] n (exact_constants of is) (map (index_under of) is) (exact_grows of of (λ i z e. e) is) h)
      ∙ typ_same types ss deepest t [] n (exact_constants of is) (map (index_under to) is) (exact_grows of to more is) h

  reading_same : (y : Reading-F SuchI SuchR) → readings_pass types own_count of (tests_of types own_count of (reading_of y)) ≡ true
      → typed_of (reading_of y) ≡ typed_to (reading_of y)
  reading_same (W.Of t is rs) h =
      let n = length (map (reading_passes types own_count of) (readings rs)) in
      let p = and_parts (all_of (map (reading_passes types own_count of) (readings rs)))
      (typ_passes types deepest t [] (or_own own_count n) (exact_constants of is)) h in
      of_same t (or_own own_count n) is (types_or_own (map (reading_sized types own of) (readings rs)) own) p.1
      ∙ ap (λ (l : List Sized). typ_sized types (types_or_own l own) t (map (index_under to) is)) (readings_same rs p.0)
  reading_same (W.Widened i) h = i.1 h
  reading_same (W.Parts rs) h = ap (λ (l : List Sized). S.Tuple l) (readings_same rs h)
  reading_same W.Hole h = refl

  rolled_same : (y : Indices-F SuchI SuchR) → SameI (roll-Indices (indices_of y))
  rolled_same y h =
      value_is types own of (roll-Indices (indices_of y)) (indices_of y) refl
      ∙ form_same y (sym (value_tested types own_count of (indices_of y)) ∙ h)
      ∙ sym (value_is types own to (roll-Indices (indices_of y)) (indices_of y) refl)

  rolled_reading_same : (y : Reading-F SuchI SuchR) → SameR (roll-Reading (reading_of y))
  rolled_reading_same y h =
      reading_is types own of (roll-Reading (reading_of y)) (reading_of y) refl
      ∙ reading_same y (sym (reading_tested types own_count of (reading_of y)) ∙ h)
      ∙ sym (reading_is types own to (roll-Reading (reading_of y)) (reading_of y) refl)

  value_stands : (i : Indices) → SameI i
  value_stands = ind-Indices SameI SameR (λ e y is. subst (λ d. SameI (roll-Indices d)) is (rolled_same y))
      (λ e y is. subst (λ d. SameR (roll-Reading d)) is (rolled_reading_same y))

  reading_stands : (r : Reading) → SameR r
  reading_stands = ind-Reading SameI SameR (λ e y is. subst (λ d. SameI (roll-Indices d)) is (rolled_same y))
      (λ e y is. subst (λ d. SameR (roll-Reading d)) is (rolled_reading_same y))

-- a type under no fewer constants than those that are certain
pub typ_stands : (types : Types) (own : List Sized) (m : ℕ) (of to : ℕ → Constant) → More of to → (t : Typ) (is : List Index) (cs : List Constant)
    → Grows (exact_constants of is) cs → reading_passes types m of (R.Of t is []) ≡ true → typ_sized types own t cs ≡ reading_sized types own to (R.Of t is [])
typ_stands types own m of to more t is cs g h =
    let p : typ_passes types deepest t [] m (exact_constants of is) ≡ true =
    sym (reading_tested types m of (W.Of t is [])) ∙ ap (reading_passes types m of) (R.rolls-Of t is []) ∙ h in
    sym (typ_same types own deepest t [] m (exact_constants of is) cs g p)
    ∙ typ_same types own deepest t [] m (exact_constants of is) (map (index_under to) is) (exact_grows of to more is) p
    ∙ sym (of_is types own to t is [])

pub sizes_stand : SizesStand
sizes_stand types own m of to more = (value_stands types own m of to more, reading_stands types own m of to more)
