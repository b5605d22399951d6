-- A `var` without a type: its value belongs to the widened type of its indices, and that is one and the same where the indices are.
use Rattle.std.proofs.Common.{◌≡◌, ℕ, true, List, [], ◌∷◌, map, refl, sym, ap, ◌∙◌, subst}
use Rattle.sail_types.specs.Belongs.{Reading as Closed, Readings as Closeds, reading, belongs}
use Rattle.sail_types.specs.Numbers.{Assignment, Positive}
use Rattle.sail_types.specs.declared.table.Types.{Types}
use Rattle.sail_types.specs.declared.types.Typ.{Typ}
use Rattle.sail_types.specs.declared.types.Typ.TheVariants as U
use Rattle.sail_types.specs.declared.values.Value.{Value}
use Rattle.value_indices.specs.declared.indices.Indices.{Indices, roll-Indices}
use Rattle.value_indices.specs.declared.indices.Indices.TheFolds.{fold-roll-Indices, fold-roll-Reading, map-Indices, map-Reading, ind-Indices}
use Rattle.value_indices.specs.declared.indices.Indices.TheOpen as W
use Rattle.value_indices.specs.declared.indices.Indices.TheOpen.{Indices-F, Reading-F}
use Rattle.value_indices.specs.declared.indices.Indices.TheVariants as I
use Rattle.value_indices.specs.declared.indices.Reading.{Reading, roll-Reading}
use Rattle.value_indices.specs.declared.indices.Reading.TheVariants as R
use Rattle.wide_types.specs.Widening.{wide_indices, wide_reading, wide_typ, wide_value, widened, widened_type}
use Rattle.call_arguments.specs.Holes.{without_holes}
use Rattle.value_laws.specs.Belonging.{Integers, standing, over, plain, type_variables, tuple_of, types_or_own, wides, wide_of, meant, closed}
use Rattle.value_laws.specs.Known.{Agree, Point}
use Rattle.value_laws.proofs.Steps.{same}
use Rattle.value_laws.proofs.Values.{meanings, meant_is, closed_is}
use Rattle.pattern_laws.proofs.Values.{SameWide, AllWide, same_lists, list_wide, vector_wide, tuple_wide, named_types, named_numbers}
use Rattle.meeting_laws.proofs.Forms.{is_wide, widened_is}
use Rattle.meeting_laws.proofs.Widened.{value_widens}
use Rattle.soundness_steps.specs.Works.{Setting, Work}
use Rattle.soundness_steps.specs.Values.{Has}
use Rattle.soundness_binding.proofs.Filled.{filled_is}

abbrev typ_of : Closed → Typ
typ_of (reading t mu rs) = t

abbrev numbers_of : Closed → Assignment
numbers_of (reading t mu rs) = mu

abbrev readings_of : Closed → Closeds
readings_of (reading t mu rs) = rs

abbrev first_or : Closed → List Closed → Closed
first_or c [] = c
first_or c (d ∷ ds) = d

abbrev behind_first : List Closed → List Closed
behind_first [] = []
behind_first (d ∷ ds) = ds

module _ (types : Types) (past : Positive) (own : List Closed) (f g : Integers) where
  abbrev one : Assignment
  one = standing past f

  abbrev other : Assignment
  other = standing past g

  abbrev Alike : Indices → Type 0
  Alike i = SameWide types past own f g i

  abbrev SameClosed : Reading → Type 0
  SameClosed r = closed types one own r ≡ closed types other own r

  SameValue : Indices → Type 0
  SameValue i = Alike i → Alike (wide_value i)

  SameType : Reading → Type 0
  SameType r = SameClosed r → SameClosed (widened_type r)

  abbrev SuchI : Type 0
  SuchI = (i : Indices) × SameValue i

  abbrev SuchR : Type 0
  SuchR = (r : Reading) × SameType r

  abbrev values_in : List SuchI → List Indices
  values_in ys = map (λ (y : SuchI). y.0) ys

  abbrev readings_in : List SuchR → List Reading
  readings_in ys = map (λ (y : SuchR). y.0) ys

  abbrev indices_of : Indices-F SuchI SuchR → Indices-F Indices Reading
  indices_of y = map-Indices SuchI SuchR Indices Reading (λ p. p.0) (λ p. p.0) y

  abbrev reading_of : Reading-F SuchI SuchR → Reading-F Indices Reading
  reading_of y = map-Reading SuchI SuchR Indices Reading (λ p. p.0) (λ p. p.0) y

  abbrev changed_form : Indices-F Indices Reading → Indices-F Indices Reading
  changed_form x = map-Indices Indices Reading Indices Reading wide_value widened_type x

  abbrev changed_type : Reading-F Indices Reading → Reading-F Indices Reading
  changed_type x = map-Reading Indices Reading Indices Reading wide_value widened_type x

  value_is : (x : Indices-F Indices Reading) → wide_value (roll-Indices x) ≡ roll-Indices (changed_form x)
  value_is x = fold-roll-Indices Indices Reading wide_indices wide_reading x

  type_is : (x : Reading-F Indices Reading) → widened_type (roll-Reading x) ≡ wide_reading (changed_type x)
  type_is x = fold-roll-Reading Indices Reading wide_indices wide_reading x

  readings_same : (ys : List SuchR) → map (closed types one own) (readings_in ys) ≡ map (closed types other own) (readings_in ys)
      → map (closed types one own) (map widened_type (readings_in ys)) ≡ map (closed types other own) (map widened_type (readings_in ys))
  unfolding SameType
  readings_same [] e = refl
  readings_same (y ∷ ys) e =
      let front = y.1 (ap (first_or (closed types one own y.0)) e) in
      let back = readings_same ys (ap behind_first e) in
      λ j. front j ∷ back j

  values_same : (ys : List SuchI) → AllWide types past own f g (values_in ys)
      → wides (map (meant types one own) (map wide_value (values_in ys))) ≡ wides (map (meant types other own) (map wide_value (values_in ys)))
  unfolding SameValue
  values_same [] e = refl
  values_same (y ∷ ys) e =
      let front = y.1 e.0 in
      let back = values_same ys e.1 in
      λ j. front j ∷ back j

  before : (x : Indices-F Indices Reading) → Alike (roll-Indices x)
      → wide_of types one own (meanings types one own x) ≡ wide_of types other own (meanings types other own x)
  before x e =
      sym (ap (λ m. m.wide) (meant_is types one own (roll-Indices x) x refl)) ∙ e ∙ ap (λ m. m.wide) (meant_is types other own (roll-Indices x) x refl)

  form_same : (y : Indices-F SuchI SuchR) → Alike (roll-Indices (indices_of y))
      → wide_of types one own (meanings types one own (changed_form (indices_of y)))
      ≡ wide_of types other own (meanings types other own (changed_form (indices_of y)))
  unfolding SameType
  form_same (W.List r) e =
      let item = r.1 (list_wide types past own f g r.0 (subst (λ i. Alike i) (I.rolls-List r.0) e)) in
      λ j. plain one (U.List (U.Variable 0)) (item j ∷ [])
  form_same (W.Vector t r) e =
      let item = r.1 (vector_wide types past own f g t r.0 (subst (λ i. Alike i) (I.rolls-Vector t r.0) e)) in
      let length_same = ap typ_of (before (W.Vector t r.0) e) in
      λ j. plain one (length_same j) (item j ∷ [])
  form_same (W.Tuple ys) e =
      let parts = values_same ys (tuple_wide types past own f g (values_in ys) (subst (λ i. Alike i) (I.rolls-Tuple (values_in ys)) e)) in
      λ j. tuple_of one (parts j)
  form_same (W.Named u is rs) e =
      let e1 = subst (λ i. Alike i) (I.rolls-Named u is (readings_in rs)) e in
      let args = named_numbers types past own f g u is (readings_in rs) e1 in
      let parts = readings_same rs (named_types types past own f g u is (readings_in rs) e1) in
      λ j. plain one (U.Named u (args j) (type_variables 0 (parts j))) (parts j)
  form_same W.Never e = before W.Never e
  form_same W.Unit e = before W.Unit e
  form_same (W.Truth c) e = before (W.Truth c) e
  form_same W.Bit e = before W.Bit e
  form_same (W.Bits t) e = before (W.Bits t) e
  form_same (W.Integer t) e = before (W.Integer t) e
  form_same W.String e = before W.String e
  form_same (W.Variable i) e = before (W.Variable i) e

  wide_now_is : (mu : Assignment) (x : Indices-F Indices Reading)
      → (meant types mu own (wide_value (roll-Indices x))).wide ≡ wide_of types mu own (meanings types mu own (changed_form x))
  wide_now_is mu x =
      ap (λ i. (meant types mu own i).wide) (value_is x) ∙ ap (λ m. m.wide) (meant_is types mu own (roll-Indices (changed_form x)) (changed_form x) refl)

  rolled_value : (y : Indices-F SuchI SuchR) → SameValue (roll-Indices (indices_of y))
  unfolding SameValue
  rolled_value y e = wide_now_is one (indices_of y) ∙ form_same y e ∙ sym (wide_now_is other (indices_of y))

  -- the types that are given come before the function's own
  fronts_same : (ys : List SuchR) (cs : List Closed)
      → types_or_own (map (closed types one own) (readings_in ys)) cs ≡ types_or_own (map (closed types other own) (readings_in ys)) cs
      → map (closed types one own) (readings_in ys) ≡ map (closed types other own) (readings_in ys)
  fronts_same [] cs e = refl
  fronts_same (y ∷ ys) [] e = e
  fronts_same (y ∷ ys) (c ∷ cs) e =
      let front = ap (first_or (closed types one own y.0)) e in
      let back = fronts_same ys cs (ap behind_first e) in
      λ j. front j ∷ back j

  reading_same : (y : Reading-F SuchI SuchR) → SameClosed (roll-Reading (reading_of y)) → SameClosed (wide_reading (changed_type (reading_of y)))
  unfolding SameValue
  reading_same (W.Of t is rs) e =
      let x = W.Of t is (readings_in rs) in
      let k = sym (closed_is types one own (roll-Reading x) x refl) ∙ e ∙ closed_is types other own (roll-Reading x) x refl in
      let there = ap numbers_of k in
      let lists = same_lists (types_or_own (map (closed types one own) (readings_in rs)) own) (types_or_own (map (closed types other own) (readings_in rs)) own)
      (ap readings_of k) in
      let parts = readings_same rs (fronts_same rs own lists) in
      let qs = map widened_type (readings_in rs) in
      let is_it = (λ (mu : Assignment). closed_is types mu own (R.Of (wide_typ t) is qs) (W.Of (wide_typ t) is qs) (R.rolls-Of (wide_typ t) is qs)) in
      is_it one ∙ (λ j. over (there j) (wide_typ t) (types_or_own (parts j) own)) ∙ sym (is_it other)
  reading_same (W.Widened i) e =
      let x = W.Widened i.0 in
      let y = W.Widened (wide_value i.0) in
      closed_is types one own (roll-Reading y) y refl
      ∙ i.1 (sym (closed_is types one own (roll-Reading x) x refl) ∙ e ∙ closed_is types other own (roll-Reading x) x refl)
      ∙ sym (closed_is types other own (roll-Reading y) y refl)
  reading_same (W.Parts rs) e =
      let x = W.Parts (readings_in rs) in
      let y = W.Parts (map widened_type (readings_in rs)) in
      let k = sym (closed_is types one own (roll-Reading x) x refl) ∙ e ∙ closed_is types other own (roll-Reading x) x refl in
      let lists = same_lists (map (closed types one own) (readings_in rs)) (map (closed types other own) (readings_in rs)) (ap readings_of k) in
      let parts = readings_same rs lists in
      closed_is types one own (roll-Reading y) y refl ∙ (λ j. tuple_of one (parts j)) ∙ sym (closed_is types other own (roll-Reading y) y refl)
  reading_same W.Hole e = e

  rolled_type : (y : Reading-F SuchI SuchR) → SameType (roll-Reading (reading_of y))
  unfolding SameType
  rolled_type y e =
      ap (closed types one own) (type_is (reading_of y)) ∙ reading_same y e ∙ sym (ap (closed types other own) (type_is (reading_of y)))

  pub wide_steady : (i : Indices) → Alike i → Alike (wide_value i)
  unfolding SameValue
  wide_steady i = (ind-Indices SameValue SameType (λ e y is. subst (λ d. SameValue (roll-Indices d)) is (rolled_value y))
      (λ e y is. subst (λ d. SameType (roll-Reading d)) is (rolled_type y))) i

abbrev VarsWiden : Setting → Work → Type 0
VarsWiden set work = (n : ℕ) (f : Point n) (i : Indices) (v : Value) → Has set work f i v
    → (t : Closed) × (belongs set.around.types v t ≡ true)
    × ((g : Integers) → Agree f g → closed set.around.types (standing set.past g) work.types (without_holes (widened i)) ≡ t)

pub vars_widen : (set : Setting) (work : Work) → VarsWiden set work
vars_widen set work n f i v h =
    let types = set.around.types in
    let now = f.integers in
    let first = h.steady now (same f) in (
      (meant types (standing set.past now) work.types (wide_value i)).wide,
      value_widens types set.past work.types now i v (is_wide types set.past work.types now i v (ap (λ m. m.holds v) first ∙ h.is_so)),
      λ g a. filled_is types (standing set.past g) work.types (widened i) ∙ widened_is types set.past work.types g (wide_value i)
          ∙ wide_steady types set.past work.types g now i (ap (λ m. m.wide) (h.steady g a ∙ sym first)),
    )
