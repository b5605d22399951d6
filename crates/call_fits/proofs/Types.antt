-- What a call finds its callee's Type variables to stand for hangs on fixed variables alone.
use Rattle.std.proofs.Common.{◌≡◌, ℕ, zero, suc, ◌<◌, ◌≤◌, nat_eq, nat_lt, int_le, pos, Bool, true, false, List, [], ◌∷◌, map, slice_get}
use Rattle.std.proofs.Common.{Option, Some, None, if◌then◌else◌, refl, sym, ap, ◌∙◌, subst}
use Rattle.std.specs.List.{list_all}
use Rattle.std.proofs.lemmas.Bool.{and_parts, le-ltb, lt-ltb}
use Rattle.sail_types.specs.Belongs.{Reading as Closed, reading}
use Rattle.sail_types.specs.Numbers.{Assignment, Positive}
use Rattle.sail_types.specs.Sums.{constant}
use Rattle.sail_types.specs.declared.numbers.Con.TheVariants as C
use Rattle.sail_types.specs.declared.numbers.Index.{Index}
use Rattle.sail_types.specs.declared.numbers.Index.TheVariants as N
use Rattle.sail_types.specs.declared.numbers.Num.{Num}
use Rattle.sail_types.specs.declared.table.Types.{Types}
use Rattle.sail_types.specs.declared.types.Typ.{Typ, Typ-F, roll-Typ}
use Rattle.sail_types.specs.declared.types.Typ.TheFolds.{fold-roll-Typ, map-Typ, ind-Typ}
use Rattle.sail_types.specs.declared.types.Typ.TheOpen as T
use Rattle.sail_types.specs.declared.types.Typ.TheVariants as U
use Rattle.sail_types.specs.declared.values.Value.{Value}
use Rattle.sail_types.proofs.SumNumbers.{some_same}
use Rattle.value_indices.specs.declared.indices.Indices.{Indices, out-Indices, roll-Indices}
use Rattle.value_indices.specs.declared.indices.Indices.TheFolds.{fold-roll-Indices, fold-roll-Reading, ind-Reading, map-Indices, map-Reading}
use Rattle.value_indices.specs.declared.indices.Indices.TheOpen as W
use Rattle.value_indices.specs.declared.indices.Indices.TheOpen.{Indices-F, Reading-F}
use Rattle.value_indices.specs.declared.indices.Reading.{Reading, roll-Reading}
use Rattle.value_indices.specs.declared.indices.Reading.TheVariants as R
use Rattle.wide_types.specs.Widening.{is_below, value_of_type, widened, widened_type}
use Rattle.call_arguments.specs.Aims.{is_hole}
use Rattle.call_arguments.specs.Callees.{Typed, first_typed, first_type_typed, form_typed, index_under, is_type_below, is_value_below, only_below, or_hole}
use Rattle.call_arguments.specs.Callees.{type_if, type_names_below, type_unless, typed_at, types_from, value_if, value_names_below, value_typed}
use Rattle.call_arguments.specs.Holes.{fuller, fuller_if, has_hole}
use Rattle.value_laws.specs.Belonging.{Integers, Meant, standing, nowhere, closeds, index_there, meant, closed, or_no_value, plain, tuple_of, type_variables}
use Rattle.value_laws.specs.Belonging.{types_or_own, wides}
use Rattle.value_laws.specs.Known.{Point, Agree}
use Rattle.value_laws.proofs.Opening.{cons_same, item_steady, same_lists}
use Rattle.value_laws.proofs.Values.{closed_is, meant_is}
use Rattle.fitting_laws.proofs.Holes.{none}
use Rattle.fitting_laws.proofs.Standing.{readings_part, tuple_stays, wide_at, wide_is}
use Rattle.call_fits.specs.Calls.{AreArguments}
use Rattle.call_fits.proofs.Below.{SameBelow, assigned_same, number_below, truth_below}
use Rattle.call_fits.proofs.Opened.{opened_same}
use Rattle.call_fits.proofs.Widened.{type_widens, widened_same}

-- ---- a type that names variables before one alone is the same where those stand for the same

module _ (types : Types) (past : Positive) (own : List Closed) (m : ℕ) (g k : Integers) (same : SameBelow m (standing past g) (standing past k)) where
  abbrev there : Integers → Assignment
  there h = standing past h

  abbrev wide_there : Integers → Indices → Closed
  wide_there h i = (meant types (there h) own i).wide

  abbrev type_there : Integers → Reading → Closed
  type_there h r = closed types (there h) own r

  abbrev types_there : Integers → List Reading → List Closed
  types_there h rs = map (type_there h) rs

  abbrev wides_there : Integers → List Indices → List Closed
  wides_there h is = wides (map (meant types (there h) own) is)

  ValueSame : Indices → Type 0
  ValueSame i = is_value_below m i ≡ true → wide_there g i ≡ wide_there k i

  TypeSame : Reading → Type 0
  TypeSame r = is_type_below m r ≡ true → type_there g r ≡ type_there k r

  abbrev SuchValue : Type 0
  SuchValue = (i : Indices) × ValueSame i

  abbrev SuchType : Type 0
  SuchType = (r : Reading) × TypeSame r

  abbrev values_in : List SuchValue → List Indices
  values_in ys = map (λ (y : SuchValue). y.0) ys

  abbrev types_in : List SuchType → List Reading
  types_in ys = map (λ (y : SuchType). y.0) ys

  abbrev indices_of : Indices-F SuchValue SuchType → Indices-F Indices Reading
  indices_of y = map-Indices SuchValue SuchType Indices Reading (λ p. p.0) (λ p. p.0) y

  abbrev reading_of : Reading-F SuchValue SuchType → Reading-F Indices Reading
  reading_of y = map-Reading SuchValue SuchType Indices Reading (λ p. p.0) (λ p. p.0) y

  abbrev value_names : Indices-F Indices Reading → Bool
  value_names x = value_names_below m (map-Indices Indices Reading Bool Bool (is_value_below m) (is_type_below m) x)

  abbrev type_names : Reading-F Indices Reading → Bool
  type_names x = type_names_below m (map-Reading Indices Reading Bool Bool (is_value_below m) (is_type_below m) x)

  index_same : (a : Index) → index_under m a ≡ true → index_there (there g) a ≡ index_there (there k) a
  index_same (N.Number t) h = ap (λ z. N.Number (constant z)) (number_below m (there g) (there k) same t h)
  index_same (N.Truth c) h = ap (λ b. N.Truth (C.Truth b)) (truth_below m (there g) (there k) same c h)

  indices_same : (is : List Index) → list_all (index_under m) is ≡ true → map (index_there (there g)) is ≡ map (index_there (there k)) is
  indices_same [] h = refl
  indices_same (a ∷ is) h =
      let p = and_parts (index_under m a) (list_all (index_under m) is) h in
      λ j. index_same a p.0 j ∷ indices_same is p.1 j

  values_same : (ys : List SuchValue) → list_all (λ b. b) (map (is_value_below m) (values_in ys)) ≡ true
      → wides_there g (values_in ys) ≡ wides_there k (values_in ys)
  unfolding ValueSame
  values_same [] h = refl
  values_same (y ∷ ys) h =
      let p = and_parts (is_value_below m y.0) (list_all (λ b. b) (map (is_value_below m) (values_in ys))) h in
      λ j. y.1 p.0 j ∷ values_same ys p.1 j

  types_same : (ys : List SuchType) → list_all (λ b. b) (map (is_type_below m) (types_in ys)) ≡ true
      → types_there g (types_in ys) ≡ types_there k (types_in ys)
  unfolding TypeSame
  types_same [] h = refl
  types_same (y ∷ ys) h =
      let p = and_parts (is_type_below m y.0) (list_all (λ b. b) (map (is_type_below m) (types_in ys))) h in
      λ j. y.1 p.0 j ∷ types_same ys p.1 j

  own_same : (o : Option Closed) → or_no_value (there g) o ≡ or_no_value (there k) o
  own_same None = refl
  own_same (Some c) = refl

  value_form : (y : Indices-F SuchValue SuchType) → value_names (indices_of y) ≡ true
      → wide_at types past own g (indices_of y) ≡ wide_at types past own k (indices_of y)
  unfolding TypeSame
  value_form W.Never h = refl
  value_form W.Unit h = refl
  value_form (W.Truth c) h = refl
  value_form W.Bit h = refl
  value_form (W.Bits t) h = λ j. plain (there g) (U.Bits (constant (number_below m (there g) (there k) same t h j))) []
  value_form (W.Integer t) h = refl
  value_form W.String h = refl
  value_form (W.List r) h = λ j. reading (U.List (U.Variable 0)) (nowhere (there g)) (closeds (r.1 h j ∷ []))
  value_form (W.Vector t r) h =
      let p = and_parts (is_below m t) (is_type_below m r.0) h in
      λ j. reading (U.Vector (constant (number_below m (there g) (there k) same t p.0 j)) (U.Variable 0)) (nowhere (there g)) (closeds (r.1 p.1 j ∷ []))
  value_form (W.Tuple ys) h = λ j. tuple_of (there g) (values_same ys h j)
  value_form (W.Named u is ys) h =
      let p = and_parts (list_all (index_under m) is) (list_all (λ b. b) (map (is_type_below m) (types_in ys))) h in
      λ j. reading (U.Named u (indices_same is p.0 j) (type_variables 0 (types_same ys p.1 j))) (nowhere (there g)) (closeds (types_same ys p.1 j))
  value_form (W.Variable i) h = own_same (slice_get own i)

  value_step : (y : Indices-F SuchValue SuchType) → ValueSame (roll-Indices (indices_of y))
  unfolding ValueSame
  value_step y h =
      let x = indices_of y in
      ap (λ (n : Meant). n.wide) (meant_is types (there g) own (roll-Indices x) x refl)
      ∙ value_form y (sym (fold-roll-Indices Bool Bool (value_names_below m) (type_names_below m) x) ∙ h)
      ∙ sym (ap (λ (n : Meant). n.wide) (meant_is types (there k) own (roll-Indices x) x refl))

  names_as : (x : Reading-F Indices Reading) → is_type_below m (roll-Reading x) ≡ true → type_names x ≡ true
  names_as x h = sym (fold-roll-Reading Bool Bool (value_names_below m) (type_names_below m) x) ∙ h

  type_step : (y : Reading-F SuchValue SuchType) → TypeSame (roll-Reading (reading_of y))
  unfolding TypeSame ValueSame
  type_step (W.Of t is ys) h =
      let x : Reading-F Indices Reading = W.Of t is (types_in ys) in
      let p = and_parts (list_all (index_under m) is) (list_all (λ b. b) (map (is_type_below m) (types_in ys))) (names_as x h) in
      closed_is types (there g) own (roll-Reading x) x refl
      ∙ (λ j. reading t (assigned_same m (there g) (there k) same is p.0 j) (closeds (types_or_own (types_same ys p.1 j) own)))
      ∙ sym (closed_is types (there k) own (roll-Reading x) x refl)
  type_step (W.Widened y) h =
      let x : Reading-F Indices Reading = W.Widened y.0 in
      closed_is types (there g) own (roll-Reading x) x refl ∙ y.1 (names_as x h) ∙ sym (closed_is types (there k) own (roll-Reading x) x refl)
  type_step (W.Parts ys) h =
      let x : Reading-F Indices Reading = W.Parts (types_in ys) in
      closed_is types (there g) own (roll-Reading x) x refl
      ∙ (λ j. tuple_of (there g) (types_same ys (names_as x h) j))
      ∙ sym (closed_is types (there k) own (roll-Reading x) x refl)
  type_step W.Hole h =
      closed_is types (there g) own (roll-Reading W.Hole) W.Hole refl ∙ sym (closed_is types (there k) own (roll-Reading W.Hole) W.Hole refl)

  type_below : (r : Reading) → is_type_below m r ≡ true → type_there g r ≡ type_there k r
  unfolding TypeSame
  type_below = ind-Reading ValueSame TypeSame (λ e y same_form. subst (λ d. ValueSame (roll-Indices d)) same_form (value_step y))
      (λ e y same_form. subst (λ d. TypeSame (roll-Reading d)) same_form (type_step y))

standing_below : (past : Positive) (m : ℕ) (g k : Integers) → ((i : ℕ) → i < m → g i ≡ k i) → SameBelow m (standing past g) (standing past k)
standing_below past m g k h = record { ints = h; bools = λ i l. ap (int_le (pos 1)) (h i l); beyonds = λ t u. refl }

-- ---- types that are found

module _ (types : Types) (past : Positive) (own : List Closed) {m : ℕ} (f : Point m) where
  abbrev type_at : Integers → Reading → Closed
  type_at h r = closed types (standing past h) own r

  abbrev types_at : Integers → List Reading → List Closed
  types_at h rs = map (type_at h) rs

  abbrev wide_of_at : Integers → Indices → Closed
  wide_of_at h i = (meant types (standing past h) own i).wide

  abbrev wides_at : Integers → List Indices → List Closed
  wides_at h is = wides (map (meant types (standing past h) own) is)

  -- wherever the fixed variables and those from m on stand for the same
  abbrev Nearly : (Integers → Closed) → Type 0
  Nearly c = (g k : Integers) → Agree f g → Agree f k → ((i : ℕ) → m ≤ i → g i ≡ k i) → c g ≡ c k

  abbrev NearlyWide : Indices → Type 0
  NearlyWide i = Nearly (λ h. wide_of_at h i)

  abbrev NearlyType : Reading → Type 0
  NearlyType r = Nearly (λ h. type_at h r)

  abbrev NearlyForm : Indices-F Indices Reading → Type 0
  NearlyForm x = Nearly (λ h. wide_at types past own h x)

  -- wherever the fixed variables do
  abbrev pub Steady : Reading → Type 0
  Steady r = (g k : Integers) → Agree f g → Agree f k → type_at g r ≡ type_at k r

  abbrev Gives : Option Reading → Type 0
  Gives o = (q : Reading) → o ≡ Some q → Steady q

  -- the second's before m, the first's from there on
  abbrev mixed : Integers → Integers → Integers
  mixed g k i = if nat_lt i m then k i else g i

  mixed_below : (g k : Integers) (i : ℕ) → i < m → mixed g k i ≡ k i
  mixed_below g k i l = ap (λ (b : Bool). if b then k i else g i) (lt-ltb i m l)

  mixed_above : (g k : Integers) (i : ℕ) → m ≤ i → g i ≡ mixed g k i
  mixed_above g k i l = sym (ap (λ (b : Bool). if b then k i else g i) (le-ltb i m l))

  mixed_agrees : (g k : Integers) → Agree f k → Agree f (mixed g k)
  mixed_agrees g k a = record { same = λ i h. a.same i h ∙ sym (mixed_below g k i (f.before i h)) }

  settled : (r : Reading) → is_type_below m r ≡ true → NearlyType r → Steady r
  settled r h near g k a b =
      near g (mixed g k) a (mixed_agrees g k b) (mixed_above g k)
      ∙ type_below types past own m (mixed g k) k (standing_below past m (mixed g k) k (mixed_below g k)) r h

  if_below : (r : Reading) → NearlyType r → (b : Bool) → is_type_below m r ≡ b → Gives (if b then Some r else None)
  if_below r near true h q e = subst Steady (some_same r q e) (settled r h near)
  if_below r near false h q e = none e

  below_gives : (r : Reading) → NearlyType r → Gives (only_below m r)
  below_gives r near = if_below r near (is_type_below m r) refl

  value_if_gives : (is : Bool) (i : Indices) → NearlyWide i → Gives (value_if m is i)
  value_if_gives false i near q e = none e
  value_if_gives true i near q e = below_gives (widened i) (λ g k a b s. widened_same types past own g k i (near g k a b s)) q e

  type_unless_gives : (hole : Bool) (r : Reading) → NearlyType r → Gives (type_unless m hole r)
  type_unless_gives true r near q e = none e
  type_unless_gives false r near q e = below_gives (widened_type r) (λ g k a b s. type_widens types past own g k r (near g k a b s)) q e

  type_if_gives : (is : Bool) (r : Reading) → NearlyType r → Gives (type_if m is r)
  type_if_gives false r near q e = none e
  type_if_gives true r near q e = type_unless_gives (is_hole r) r near q e

  -- the one or the other
  one_gives : (c : Bool) (r s : Reading) → Gives (Some r) → Gives (Some s) → Gives (if c then Some r else Some s)
  one_gives true r s a b = a
  one_gives false r s a b = b

  fuller_if_gives : (c : Bool) (r : Reading) (o : Option Reading) → Gives (Some r) → Gives o → Gives (fuller_if c r o)
  fuller_if_gives false r o a b = a
  fuller_if_gives true r None a b = a
  fuller_if_gives true r (Some s) a b = one_gives (has_hole s) r s a b

  fuller_gives : (o p : Option Reading) → Gives o → Gives p → Gives (fuller o p)
  fuller_gives None p a b = b
  fuller_gives (Some r) p a b = fuller_if_gives (has_hole r) r p a b

  -- ---- what the places of a type give

  record Settles (t : Typed) : Type 0 where
    pub value_gives : (i : Indices) → NearlyWide i → Gives (t.of_value i)
    pub type_gives : (r : Reading) → NearlyType r → Gives (t.of_type r)

  abbrev AllSettle : List Typed → Type 0
  AllSettle [] = Unit {0}
  AllSettle (t ∷ ts) = Settles t × AllSettle ts

  abbrev AllWide : List Indices → Type 0
  AllWide [] = Unit {0}
  AllWide (i ∷ is) = NearlyWide i × AllWide is

  abbrev AllTypes : List Reading → Type 0
  AllTypes [] = Unit {0}
  AllTypes (r ∷ rs) = NearlyType r × AllTypes rs

  first_gives : (ts : List Typed) → AllSettle ts → (is : List Indices) → AllWide is → Gives (first_typed ts is)
  first_gives [] h is near q e = none e
  first_gives (t ∷ ts) h [] near q e = none e
  first_gives (t ∷ ts) h (i ∷ is) near q e =
      let s : Settles t = h.0 in
      fuller_gives (t.of_value i) (first_typed ts is) (s.value_gives i near.0) (first_gives ts h.1 is near.1) q e

  first_type_gives : (ts : List Typed) → AllSettle ts → (rs : List Reading) → AllTypes rs → Gives (first_type_typed ts rs)
  first_type_gives [] h rs near q e = none e
  first_type_gives (t ∷ ts) h [] near q e = none e
  first_type_gives (t ∷ ts) h (r ∷ rs) near q e =
      let s : Settles t = h.0 in
      fuller_gives (t.of_type r) (first_type_typed ts rs) (s.type_gives r near.0) (first_type_gives ts h.1 rs near.1) q e

  -- parts of what is nearly the same
  list_near : (r : Reading) → NearlyForm (W.List r) → NearlyType r
  list_near r near g k a b s = item_steady types past own g k r (ap readings_part (near g k a b s))

  vector_near : (t : Num) (r : Reading) → NearlyForm (W.Vector t r) → NearlyType r
  vector_near t r near g k a b s = item_steady types past own g k r (ap readings_part (near g k a b s))

  abbrev SameWides : List Indices → Type 0
  SameWides is = (g k : Integers) → Agree f g → Agree f k → ((i : ℕ) → m ≤ i → g i ≡ k i) → wides_at g is ≡ wides_at k is

  wides_near : (is : List Indices) → SameWides is → AllWide is
  wides_near [] h = tt
  wides_near (i ∷ is) h = (
    λ g k a b s. (cons_same types past own (wide_of_at g i) (wide_of_at k i) (wides_at g is) (wides_at k is) (h g k a b s)).0,
    wides_near is (λ g k a b s. (cons_same types past own (wide_of_at g i) (wide_of_at k i) (wides_at g is) (wides_at k is) (h g k a b s)).1),
  )

  tuple_near : (is : List Indices) → NearlyForm (W.Tuple is) → AllWide is
  tuple_near is near = wides_near is (λ g k a b s. tuple_stays types past own g k is (near g k a b s))

  abbrev SameTypes : List Reading → Type 0
  SameTypes rs = (g k : Integers) → Agree f g → Agree f k → ((i : ℕ) → m ≤ i → g i ≡ k i) → types_at g rs ≡ types_at k rs

  types_near : (rs : List Reading) → SameTypes rs → AllTypes rs
  types_near [] h = tt
  types_near (r ∷ rs) h = (
    λ g k a b s. (cons_same types past own (type_at g r) (type_at k r) (types_at g rs) (types_at k rs) (h g k a b s)).0,
    types_near rs (λ g k a b s. (cons_same types past own (type_at g r) (type_at k r) (types_at g rs) (types_at k rs) (h g k a b s)).1),
  )

  named_near : (u : ℕ) (is : List Index) (rs : List Reading) → NearlyForm (W.Named u is rs) → AllTypes rs
  named_near u is rs near =
      types_near rs (λ g k a b s. same_lists types past own (types_at g rs) (types_at k rs) (ap readings_part (near g k a b s)))

  form_near : (i : Indices) → NearlyWide i → NearlyForm (out-Indices i)
  form_near i near g k a b s = sym (wide_is types past own g i) ∙ near g k a b s ∙ wide_is types past own k i

  -- what items are, whose type is opened from m on
  opened_near : (r : Reading) → NearlyType r → NearlyWide (value_of_type m r)
  opened_near r near g k a b s = opened_same types past own g k m s r (near g k a b s)

  module _ (v : ℕ) where
    TypSettles : Typ → Type 0
    TypSettles t = Settles (typed_at m v t)

    abbrev SuchTyp : Type 0
    SuchTyp = (t : Typ) × TypSettles t

    abbrev typs_in : List SuchTyp → List Typ
    typs_in ys = map (λ (y : SuchTyp). y.0) ys

    abbrev typ_form : Typ-F SuchTyp → Typ-F Typ
    typ_form y = map-Typ SuchTyp Typ (λ p. p.0) y

    abbrev typed_form : Typ-F SuchTyp → Typ-F Typed
    typed_form y = map-Typ Typ Typed (typed_at m v) (typ_form y)

    all_settle : (ys : List SuchTyp) → AllSettle (map (typed_at m v) (typs_in ys))
    unfolding TypSettles
    all_settle [] = tt
    all_settle (y ∷ ys) = (y.1, all_settle ys)

    form_gives : (y : Typ-F SuchTyp) (x : Indices-F Indices Reading) → NearlyForm x → Gives (value_typed v (typed_form y) x)
    unfolding TypSettles
    form_gives (T.List y) (W.List r) near q e = let s : Settles (typed_at m v y.0) = y.1 in s.type_gives r (list_near r near) q e
    form_gives (T.Vector n y) (W.Vector t r) near q e = let s : Settles (typed_at m v y.0) = y.1 in s.type_gives r (vector_near t r near) q e
    form_gives (T.Tuple ys) (W.Tuple is) near q e = first_gives (map (typed_at m v) (typs_in ys)) (all_settle ys) is (tuple_near is near) q e
    form_gives (T.Named u args ys) (W.Named w is rs) near q e =
        first_type_gives (map (typed_at m v) (typs_in ys)) (all_settle ys) rs (named_near w is rs near) q e
    form_gives y x near q e = none e

    typ_step : (y : Typ-F SuchTyp) → Settles (form_typed m v (typed_form y))
    unfolding TypSettles
    typ_step (T.Variable j) = record {
      value_gives = λ i near. value_if_gives (nat_eq j v) i near;
      type_gives = λ r near. type_if_gives (nat_eq j v) r near;
    }
    typ_step (T.Exists name c y) = y.1
    typ_step y = record {
      value_gives = λ i near. form_gives y (out-Indices i) (form_near i near);
      type_gives = λ r near. form_gives y (out-Indices (value_of_type m r)) (form_near (value_of_type m r) (opened_near r near));
    }

    typ_settles : (t : Typ) → TypSettles t
    unfolding TypSettles
    typ_settles = ind-Typ TypSettles (λ e y same_form. subst (λ d. TypSettles (roll-Typ d)) same_form
        (subst Settles (sym (fold-roll-Typ Typed (form_typed m v) (typ_form y))) (typ_step y)))

    each_settles : (ts : List Typ) → AllSettle (map (typed_at m v) ts)
    unfolding TypSettles
    each_settles [] = tt
    each_settles (t ∷ ts) = (typ_settles t, each_settles ts)

  hole_steady : (o : Option Reading) → Gives o → Steady (or_hole o)
  hole_steady None h g k a b =
      closed_is types (standing past g) own R.Hole W.Hole R.rolls-Hole ∙ sym (closed_is types (standing past k) own R.Hole W.Hole R.rolls-Hole)
  hole_steady (Some r) h g k a b = h r refl g k a b

  arguments_near : (bs : List Bool) (ts : List Typ) (is : List Indices) (vs : List Value) → AreArguments types past own f bs ts is vs → AllWide is
  arguments_near [] [] [] [] h = tt
  arguments_near (b ∷ bs) (t ∷ ts) (i ∷ is) (v ∷ vs) h = (
    λ g k a c s. ap (λ (n : Meant). n.wide) (h.0.steady g a ∙ sym (h.0.steady k c)),
    arguments_near bs ts is vs h.2,
  )
  arguments_near bs ts is vs h = absurd h

  from_steady : (count v : ℕ) (ts : List Typ) (is : List Indices) → AllWide is → (g k : Integers) → Agree f g → Agree f k
      → types_at g (types_from m v count ts is) ≡ types_at k (types_from m v count ts is)
  from_steady zero v ts is near g k a b = refl
  from_steady (suc count) v ts is near g k a b =
      let o = first_typed (map (typed_at m v) ts) is in
      λ j. hole_steady o (first_gives (map (typed_at m v) ts) (each_settles v ts) is near) g k a b j ∷ from_steady count (suc v) ts is near g k a b j

  -- what the arguments of a call give its callee's Type variables
  pub types_steady : (bs : List Bool) (count v : ℕ) (ts : List Typ) (is : List Indices) (vs : List Value) → AreArguments types past own f bs ts is vs
      → (g : Integers) → Agree f g → types_at g (types_from m v count ts is) ≡ types_at f.integers (types_from m v count ts is)
  types_steady bs count v ts is vs h g a = from_steady count v ts is (arguments_near bs ts is vs h) g f.integers a (record { same = λ i fixed. refl })
