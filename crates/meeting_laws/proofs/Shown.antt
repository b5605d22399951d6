-- Types of which each number stands by itself agree just where what is shown of their values does: opening them adds integers and truths alone.
use Rattle.std.proofs.Common.{◌≡◌, ℕ, zero, suc, nat_eq, Bool, true, false, List, [], ◌∷◌, ◌++◌, map, length, refl, sym, ap, ◌∙◌, subst}
use Rattle.std.specs.List.{list_all}
use Rattle.std.proofs.lemmas.Bool.{and_parts}
use Rattle.sail_types.specs.Sums.{variable}
use Rattle.sail_types.specs.declared.numbers.Con.{Con}
use Rattle.sail_types.specs.declared.numbers.Con.TheVariants as C
use Rattle.sail_types.specs.declared.numbers.Num.{Num}
use Rattle.value_indices.specs.Opening.{Opening, any_integer, any_truth, between, bits_of, fresh_for, integer_between, opened, opening, parts_opened}
use Rattle.value_indices.specs.Opening.{namings_of, reading_opened, vector_of, wide_opening, widened_opened}
use Rattle.value_indices.specs.Steps.{Conditions, Walk, assume, bind, give}
use Rattle.value_indices.specs.declared.indices.Indices.{Indices, fold-Indices, out-Indices, roll-Indices}
use Rattle.value_indices.specs.declared.indices.Indices.TheFolds.{fold-roll-Indices, fold-roll-Reading, map-Indices, map-Reading, ind-Indices, ind-Reading}
use Rattle.value_indices.specs.declared.indices.Indices.TheFolds.{para-Reading, para-roll-Indices, para-roll-Reading}
use Rattle.value_indices.specs.declared.indices.Indices.TheOpen as W
use Rattle.value_indices.specs.declared.indices.Indices.TheOpen.{Indices-F, Reading-F}
use Rattle.value_indices.specs.declared.indices.Indices.TheVariants as I
use Rattle.value_indices.specs.declared.indices.Indices.TheViews.{out-roll-Indices}
use Rattle.value_indices.specs.declared.indices.Naming.{Naming}
use Rattle.value_indices.specs.declared.indices.Naming.TheVariants as M
use Rattle.value_indices.specs.declared.indices.Reading.{Reading, fold-Reading, roll-Reading}
use Rattle.value_indices.specs.declared.notes.Fact.{Fact}
use Rattle.value_laws.proofs.Basics.{no, two, fronts}
use Rattle.wide_types.specs.Widening.{agrees_within, alike, each_agrees, form_agrees, if_alike, types_agree, value_of_type}
use Rattle.expression_forms.specs.Inside.{is_type_told, is_value_told, type_form_told, value_form_told}

-- what is shown of a value of a type of which each number stands by itself
abbrev shown_form : Reading-F (Indices × Unit {0}) (Reading × Indices) → Indices
shown_form (W.Of t is rs) = I.Never
shown_form (W.Widened i) = i.0
shown_form (W.Parts rs) = I.Tuple (map (λ r. r.1) rs)
shown_form W.Hole = I.Never

abbrev nothing_shown : Indices-F (Indices × Unit {0}) (Reading × Indices) → Unit {0}
nothing_shown i = tt

pub shown : Reading → Indices
shown = para-Reading (Unit {0}) Indices nothing_shown shown_form

with_shown : (rs : List Reading) → map (λ (r : Reading × Indices). r.1) (map (λ r. (r, shown r)) rs) ≡ map shown rs
with_shown [] = refl
with_shown (r ∷ rs) = ap (λ is. shown r ∷ is) (with_shown rs)

shown_is : (x : Reading-F Indices Reading)
    → shown (roll-Reading x) ≡ shown_form (map-Reading Indices Reading (Indices × Unit {0}) (Reading × Indices) (λ i. (i, tt)) (λ r. (r, shown r)) x)
unfolding shown
shown_is x = para-roll-Reading (Unit {0}) Indices nothing_shown shown_form x

pub shown_widened : (i : Indices) → shown (roll-Reading (W.Widened i)) ≡ i
shown_widened i = shown_is (W.Widened i)

pub shown_parts : (rs : List Reading) → shown (roll-Reading (W.Parts rs)) ≡ I.Tuple (map shown rs)
shown_parts rs = shown_is (W.Parts rs) ∙ ap I.Tuple (with_shown rs)

pub shown_hole : shown (roll-Reading W.Hole) ≡ I.Never
shown_hole = shown_is W.Hole

-- ---- values and types of which each number stands by itself: no type in them is left as it is

abbrev plain_value_form : Indices-F Bool Bool → Bool
plain_value_form (W.List b) = b
plain_value_form (W.Vector n b) = b
plain_value_form (W.Tuple bs) = list_all (λ b. b) bs
plain_value_form (W.Named u is bs) = list_all (λ b. b) bs
plain_value_form i = true

abbrev pub is_plain_value : Indices → Bool
is_plain_value = fold-Indices Bool Bool plain_value_form type_form_told

abbrev pub is_plain : Reading → Bool
is_plain = fold-Reading Bool Bool plain_value_form type_form_told

pub plain_value : (x : Indices-F Indices Reading)
    → is_plain_value (roll-Indices x) ≡ plain_value_form (map-Indices Indices Reading Bool Bool is_plain_value is_plain x)
plain_value x = fold-roll-Indices Bool Bool plain_value_form type_form_told x

pub plain_type : (x : Reading-F Indices Reading)
    → is_plain (roll-Reading x) ≡ type_form_told (map-Reading Indices Reading Bool Bool is_plain_value is_plain x)
plain_type x = fold-roll-Reading Bool Bool plain_value_form type_form_told x

pub value_told : (x : Indices-F Indices Reading)
    → is_value_told (roll-Indices x) ≡ value_form_told (map-Indices Indices Reading Bool Bool is_value_told is_type_told x)
value_told x = fold-roll-Indices Bool Bool value_form_told type_form_told x

pub type_told : (x : Reading-F Indices Reading)
    → is_type_told (roll-Reading x) ≡ type_form_told (map-Reading Indices Reading Bool Bool is_value_told is_type_told x)
type_told x = fold-roll-Reading Bool Bool value_form_told type_form_told x

-- so are those whose numbers tell all
ToldValue : Indices → Type 0
ToldValue i = is_value_told i ≡ true → is_plain_value i ≡ true

ToldType : Reading → Type 0
ToldType r = is_type_told r ≡ true → is_plain r ≡ true

abbrev TellsI : Type 0
TellsI = (i : Indices) × ToldValue i

abbrev TellsR : Type 0
TellsR = (r : Reading) × ToldType r

abbrev told_indices : Indices-F TellsI TellsR → Indices-F Indices Reading
told_indices y = map-Indices TellsI TellsR Indices Reading (λ p. p.0) (λ p. p.0) y

abbrev told_reading : Reading-F TellsI TellsR → Reading-F Indices Reading
told_reading y = map-Reading TellsI TellsR Indices Reading (λ p. p.0) (λ p. p.0) y

values_plain : (ys : List TellsI) → list_all (λ b. b) (map is_value_told (map (λ (y : TellsI). y.0) ys)) ≡ true
    → list_all (λ b. b) (map is_plain_value (map (λ (y : TellsI). y.0) ys)) ≡ true
unfolding ToldValue
values_plain [] h = refl
values_plain (y ∷ ys) h =
    let k = and_parts (is_value_told y.0) (list_all (λ b. b) (map is_value_told (map (λ (y : TellsI). y.0) ys))) h in
    two (is_plain_value y.0) (list_all (λ b. b) (map is_plain_value (map (λ (y : TellsI). y.0) ys))) (y.1 k.0) (values_plain ys k.1)

types_plain : (ys : List TellsR) → list_all (λ b. b) (map is_type_told (map (λ (y : TellsR). y.0) ys)) ≡ true
    → list_all (λ b. b) (map is_plain (map (λ (y : TellsR). y.0) ys)) ≡ true
unfolding ToldType
types_plain [] h = refl
types_plain (y ∷ ys) h =
    let k = and_parts (is_type_told y.0) (list_all (λ b. b) (map is_type_told (map (λ (y : TellsR). y.0) ys))) h in
    two (is_plain y.0) (list_all (λ b. b) (map is_plain (map (λ (y : TellsR). y.0) ys))) (y.1 k.0) (types_plain ys k.1)

value_form_plain : (y : Indices-F TellsI TellsR)
    → value_form_told (map-Indices Indices Reading Bool Bool is_value_told is_type_told (told_indices y)) ≡ true
    → plain_value_form (map-Indices Indices Reading Bool Bool is_plain_value is_plain (told_indices y)) ≡ true
unfolding ToldType
value_form_plain (W.List r) h = r.1 h
value_form_plain (W.Vector n r) h = r.1 h
value_form_plain (W.Tuple ys) h = values_plain ys h
value_form_plain (W.Named u is ys) h = types_plain ys h
value_form_plain W.Never h = no h
value_form_plain y h = refl

type_form_plain : (y : Reading-F TellsI TellsR)
    → type_form_told (map-Reading Indices Reading Bool Bool is_value_told is_type_told (told_reading y)) ≡ true
    → type_form_told (map-Reading Indices Reading Bool Bool is_plain_value is_plain (told_reading y)) ≡ true
unfolding ToldValue
type_form_plain (W.Of t is ys) h = no h
type_form_plain (W.Widened y) h = y.1 h
type_form_plain (W.Parts ys) h = types_plain ys h
type_form_plain W.Hole h = refl

rolled_value_plain : (y : Indices-F TellsI TellsR) → ToldValue (roll-Indices (told_indices y))
unfolding ToldValue
rolled_value_plain y h = plain_value (told_indices y) ∙ value_form_plain y (sym (value_told (told_indices y)) ∙ h)

rolled_type_plain : (y : Reading-F TellsI TellsR) → ToldType (roll-Reading (told_reading y))
unfolding ToldType
rolled_type_plain y h = plain_type (told_reading y) ∙ type_form_plain y (sym (type_told (told_reading y)) ∙ h)

pub told_plain_value : (i : Indices) → is_value_told i ≡ true → is_plain_value i ≡ true
unfolding ToldValue
told_plain_value i = (ind-Indices ToldValue ToldType (λ e y is. subst (λ d. ToldValue (roll-Indices d)) is (rolled_value_plain y))
    (λ e y is. subst (λ d. ToldType (roll-Reading d)) is (rolled_type_plain y))) i

pub told_plain : (r : Reading) → is_type_told r ≡ true → is_plain r ≡ true
unfolding ToldType
told_plain r = (ind-Reading ToldValue ToldType (λ e y is. subst (λ d. ToldValue (roll-Indices d)) is (rolled_value_plain y))
    (λ e y is. subst (λ d. ToldType (roll-Reading d)) is (rolled_type_plain y))) r

module _ (m : ℕ) where
  -- ---- values that agree with the same, and with which the same agree

  pub Same : Indices → Indices → Type 0
  Same k i = (d : ℕ) (j : Indices) → (agrees_within d m k j ≡ agrees_within d m i j) × (agrees_within d m j k ≡ agrees_within d m j i)

  abbrev AllSame : List Indices → List Indices → Type 0
  AllSame [] [] = Unit {0}
  AllSame (k ∷ ks) (i ∷ is) = Same k i × AllSame ks is
  AllSame ks is = ⊥

  pub equal_same : (k i : Indices) → k ≡ i → Same k i
  unfolding Same
  equal_same k i e d j = (ap (λ x. agrees_within d m x j) e, ap (agrees_within d m j) e)

  abbrev pub compared : ℕ → Indices-F Indices Reading → Indices-F Indices Reading → Conditions
  compared d x y = if_alike (alike x y) (form_agrees (agrees_within d m) m x y)

  pub compared_is : (d : ℕ) (i j : Indices) (x y : Indices-F Indices Reading) → roll-Indices x ≡ i → roll-Indices y ≡ j
      → agrees_within (suc d) m i j ≡ compared d x y
  compared_is d i j x y e f =
      let p : out-Indices i ≡ x = ap out-Indices (sym e) ∙ out-roll-Indices x in
      let q : out-Indices j ≡ y = ap out-Indices (sym f) ∙ out-roll-Indices y in
      λ t. compared d (p t) (q t)

  one_side : (d : ℕ) (i j : Indices) (x : Indices-F Indices Reading) → roll-Indices x ≡ i → agrees_within (suc d) m i j ≡ compared d x (out-Indices j)
  one_side d i j x e = ap (λ z. compared d z (out-Indices j)) (ap out-Indices (sym e) ∙ out-roll-Indices x)

  other_side : (d : ℕ) (i j : Indices) (x : Indices-F Indices Reading) → roll-Indices x ≡ i → agrees_within (suc d) m j i ≡ compared d (out-Indices j) x
  other_side d i j x e = ap (compared d (out-Indices j)) (ap out-Indices (sym e) ∙ out-roll-Indices x)

  integers_one : (d : ℕ) (t u : Num) (y : Indices-F Indices Reading) → compared d (W.Integer t) y ≡ compared d (W.Integer u) y
  integers_one d t u W.Never = refl
  integers_one d t u (W.Integer v) = refl
  integers_one d t u y = refl

  integers_other : (d : ℕ) (t u : Num) (y : Indices-F Indices Reading) → compared d y (W.Integer t) ≡ compared d y (W.Integer u)
  integers_other d t u W.Never = refl
  integers_other d t u (W.Integer v) = refl
  integers_other d t u y = refl

  integer_same : (k i : Indices) (t u : Num) → roll-Indices (W.Integer t) ≡ k → roll-Indices (W.Integer u) ≡ i → Same k i
  unfolding Same
  integer_same k i t u e f zero j = (refl, refl)
  integer_same k i t u e f (suc d) j = (
    one_side d k j (W.Integer t) e ∙ integers_one d t u (out-Indices j) ∙ sym (one_side d i j (W.Integer u) f),
    other_side d k j (W.Integer t) e ∙ integers_other d t u (out-Indices j) ∙ sym (other_side d i j (W.Integer u) f),
  )

  truths_one : (d : ℕ) (b c : Con) (y : Indices-F Indices Reading) → compared d (W.Truth b) y ≡ compared d (W.Truth c) y
  truths_one d b c W.Never = refl
  truths_one d b c (W.Truth e) = refl
  truths_one d b c y = refl

  truths_other : (d : ℕ) (b c : Con) (y : Indices-F Indices Reading) → compared d y (W.Truth b) ≡ compared d y (W.Truth c)
  truths_other d b c W.Never = refl
  truths_other d b c (W.Truth e) = refl
  truths_other d b c y = refl

  truth_same : (k i : Indices) (b c : Con) → roll-Indices (W.Truth b) ≡ k → roll-Indices (W.Truth c) ≡ i → Same k i
  unfolding Same
  truth_same k i b c e f zero j = (refl, refl)
  truth_same k i b c e f (suc d) j = (
    one_side d k j (W.Truth b) e ∙ truths_one d b c (out-Indices j) ∙ sym (one_side d i j (W.Truth c) f),
    other_side d k j (W.Truth b) e ∙ truths_other d b c (out-Indices j) ∙ sym (other_side d i j (W.Truth c) f),
  )

  as_many : (ks is : List Indices) → AllSame ks is → length ks ≡ length is
  as_many [] [] h = refl
  as_many [] (i ∷ is) h = absurd h
  as_many (k ∷ ks) [] h = absurd h
  as_many (k ∷ ks) (i ∷ is) h = ap suc (as_many ks is h.1)

  parts_one : (d : ℕ) (ks is js : List Indices) → AllSame ks is → each_agrees (agrees_within d m) ks js ≡ each_agrees (agrees_within d m) is js
  unfolding Same
  parts_one d [] [] js h = refl
  parts_one d [] (i ∷ is) js h = absurd h
  parts_one d (k ∷ ks) [] js h = absurd h
  parts_one d (k ∷ ks) (i ∷ is) [] h = refl
  parts_one d (k ∷ ks) (i ∷ is) (j ∷ js) h = λ t. (h.0 d j).0 t ++ parts_one d ks is js h.1 t

  parts_other : (d : ℕ) (ks is js : List Indices) → AllSame ks is → each_agrees (agrees_within d m) js ks ≡ each_agrees (agrees_within d m) js is
  unfolding Same
  parts_other d [] [] js h = refl
  parts_other d [] (i ∷ is) js h = absurd h
  parts_other d (k ∷ ks) [] js h = absurd h
  parts_other d (k ∷ ks) (i ∷ is) [] h = refl
  parts_other d (k ∷ ks) (i ∷ is) (j ∷ js) h = λ t. (h.0 d j).1 t ++ parts_other d ks is js h.1 t

  tuples_one : (d : ℕ) (ks is : List Indices) → AllSame ks is → (y : Indices-F Indices Reading) → compared d (W.Tuple ks) y ≡ compared d (W.Tuple is) y
  tuples_one d ks is h W.Never = refl
  tuples_one d ks is h (W.Tuple js) = λ t. if_alike (nat_eq (as_many ks is h t) (length js)) (parts_one d ks is js h t)
  tuples_one d ks is h y = refl

  tuples_other : (d : ℕ) (ks is : List Indices) → AllSame ks is → (y : Indices-F Indices Reading) → compared d y (W.Tuple ks) ≡ compared d y (W.Tuple is)
  tuples_other d ks is h W.Never = refl
  tuples_other d ks is h (W.Tuple js) = λ t. if_alike (nat_eq (length js) (as_many ks is h t)) (parts_other d ks is js h t)
  tuples_other d ks is h y = refl

  tuple_same : (k i : Indices) (ks is : List Indices) → roll-Indices (W.Tuple ks) ≡ k → roll-Indices (W.Tuple is) ≡ i → AllSame ks is → Same k i
  unfolding Same
  tuple_same k i ks is e f h zero j = (refl, refl)
  tuple_same k i ks is e f h (suc d) j = (
    one_side d k j (W.Tuple ks) e ∙ tuples_one d ks is h (out-Indices j) ∙ sym (one_side d i j (W.Tuple is) f),
    other_side d k j (W.Tuple ks) e ∙ tuples_other d ks is h (out-Indices j) ∙ sym (other_side d i j (W.Tuple is) f),
  )

  -- ---- what opening gives

  OpensSame : Indices → Type 0
  OpensSame i = (name : Naming) (facts : List Fact) (n : ℕ) → Same (wide_opening i false name facts n).value i

  ShowsSame : Reading → Type 0
  ShowsSame r = is_plain r ≡ true → (tells : Bool) (name : Naming) (facts : List Fact) (n : ℕ) → Same (opening r tells name facts n).value (shown r)

  abbrev SuchI : Type 0
  SuchI = (i : Indices) × OpensSame i

  abbrev SuchR : Type 0
  SuchR = (r : Reading) × ShowsSame r

  abbrev indices_of : Indices-F SuchI SuchR → Indices-F Indices Reading
  indices_of y = map-Indices SuchI SuchR Indices Reading (λ p. p.0) (λ p. p.0) y

  abbrev reading_of : Reading-F SuchI SuchR → Reading-F Indices Reading
  reading_of y = map-Reading SuchI SuchR Indices Reading (λ p. p.0) (λ p. p.0) y

  abbrev values_in : List SuchI → List Indices
  values_in ys = map (λ (y : SuchI). y.0) ys

  abbrev readings_in : List SuchR → List Reading
  readings_in ys = map (λ (y : SuchR). y.0) ys

  abbrev wide_form : Indices-F Indices Reading → Naming → Walk Indices
  wide_form x name =
      widened_opened (map-Indices Indices Reading (Indices × Opening) (Reading × Opening) (λ i. (i, wide_opening i)) (λ r. (r, opening r)) x) false name

  wide_is : (x : Indices-F Indices Reading) (name : Naming) → wide_opening (roll-Indices x) false name ≡ wide_form x name
  unfolding wide_opening opening
  wide_is x name = ap (λ o. o false name) (para-roll-Indices Opening Opening widened_opened reading_opened x)

  abbrev opens_form : Reading-F Indices Reading → Bool → Naming → Walk Indices
  opens_form x tells name =
      reading_opened (map-Reading Indices Reading (Indices × Opening) (Reading × Opening) (λ i. (i, wide_opening i)) (λ r. (r, opening r)) x) tells name

  opens_is : (x : Reading-F Indices Reading) (tells : Bool) (name : Naming) → opening (roll-Reading x) tells name ≡ opens_form x tells name
  unfolding wide_opening opening
  opens_is x tells name = ap (λ o. o tells name) (para-roll-Reading Opening Opening widened_opened reading_opened x)

  abbrev values_opened : List Indices → List Naming → List Fact → ℕ → List Indices
  values_opened is ns facts n = (parts_opened false (map (λ (p : Indices × Opening). p.1) (map (λ i. (i, wide_opening i)) is)) ns facts n).value

  abbrev types_opened : Bool → List Reading → List Naming → List Fact → ℕ → List Indices
  types_opened tells rs ns facts n = (parts_opened tells (map (λ (p : Reading × Opening). p.1) (map (λ r. (r, opening r)) rs)) ns facts n).value

  values_same : (ys : List SuchI) (ns : List Naming) (facts : List Fact) (n : ℕ) → AllSame (values_opened (values_in ys) ns facts n) (values_in ys)
  unfolding OpensSame bind give
  values_same [] ns facts n = tt
  values_same (y ∷ ys) [] facts n =
      let o = wide_opening y.0 false M.Unnamed facts n in (y.1 M.Unnamed facts n, values_same ys [] o.facts o.next)
  values_same (y ∷ ys) (name ∷ ns) facts n =
      let o = wide_opening y.0 false name facts n in (y.1 name facts n, values_same ys ns o.facts o.next)

  types_same : (ys : List SuchR) (tells : Bool) (ns : List Naming) (facts : List Fact) (n : ℕ)
      → list_all (λ b. b) (map is_plain (readings_in ys)) ≡ true → AllSame (types_opened tells (readings_in ys) ns facts n) (map shown (readings_in ys))
  unfolding ShowsSame bind give
  types_same [] tells ns facts n h = tt
  types_same (y ∷ ys) tells [] facts n h =
      let k = and_parts (is_plain y.0) (list_all (λ b. b) (map is_plain (readings_in ys))) h in
      let o = opening y.0 tells M.Unnamed facts n in (y.1 k.0 tells M.Unnamed facts n, types_same ys tells [] o.facts o.next k.1)
  types_same (y ∷ ys) tells (name ∷ ns) facts n h =
      let k = and_parts (is_plain y.0) (list_all (λ b. b) (map is_plain (readings_in ys))) h in
      let o = opening y.0 tells name facts n in (y.1 k.0 tells name facts n, types_same ys tells ns o.facts o.next k.1)

  value_form_same : (y : Indices-F SuchI SuchR) (name : Naming) (facts : List Fact) (n : ℕ)
      → Same (wide_form (indices_of y) name facts n).value (roll-Indices (indices_of y))
  unfolding any_integer any_truth assume between bind bits_of give integer_between vector_of
  value_form_same W.Never name facts n = equal_same I.Never (roll-Indices W.Never) (sym I.rolls-Never)
  value_form_same W.Unit name facts n = equal_same I.Unit (roll-Indices W.Unit) (sym I.rolls-Unit)
  value_form_same (W.Truth c) name facts n =
      let p = (fresh_for name facts n).value in truth_same (I.Truth (C.Holds p)) (roll-Indices (W.Truth c)) (C.Holds p) c (I.rolls-Truth (C.Holds p)) refl
  value_form_same W.Bit name facts n = equal_same I.Bit (roll-Indices W.Bit) (sym I.rolls-Bit)
  value_form_same (W.Bits t) name facts n = equal_same (I.Bits t) (roll-Indices (W.Bits t)) (sym (I.rolls-Bits t))
  value_form_same (W.Integer t) name facts n =
      let v = (fresh_for name facts n).value in
      integer_same (I.Integer (variable v)) (roll-Indices (W.Integer t)) (variable v) t (I.rolls-Integer (variable v)) refl
  value_form_same W.String name facts n = equal_same I.String (roll-Indices W.String) (sym I.rolls-String)
  value_form_same (W.List r) name facts n = equal_same (I.List r.0) (roll-Indices (W.List r.0)) (sym (I.rolls-List r.0))
  value_form_same (W.Vector t r) name facts n = equal_same (I.Vector t r.0) (roll-Indices (W.Vector t r.0)) (sym (I.rolls-Vector t r.0))
  value_form_same (W.Tuple ys) name facts n =
      let ks = values_opened (values_in ys) (namings_of name) facts n in
      tuple_same (I.Tuple ks) (roll-Indices (W.Tuple (values_in ys))) ks (values_in ys) (I.rolls-Tuple ks) refl (values_same ys (namings_of name) facts n)
  value_form_same (W.Named u is rs) name facts n =
      let qs = readings_in rs in
      equal_same (I.Named u is (map (λ (r : Reading × Opening). r.0) (map (λ r. (r, opening r)) qs))) (roll-Indices (W.Named u is qs))
      (ap (I.Named u is) (fronts opening qs) ∙ sym (I.rolls-Named u is qs))
  value_form_same (W.Variable i) name facts n = equal_same (I.Variable i) (roll-Indices (W.Variable i)) (sym (I.rolls-Variable i))

  rolled_value : (y : Indices-F SuchI SuchR) → OpensSame (roll-Indices (indices_of y))
  unfolding OpensSame
  rolled_value y name facts n =
      subst (λ (w : Walk Indices). Same (w facts n).value (roll-Indices (indices_of y))) (sym (wide_is (indices_of y) name)) (value_form_same y name facts n)

  type_form_same : (y : Reading-F SuchI SuchR) → is_plain (roll-Reading (reading_of y)) ≡ true → (tells : Bool) (name : Naming) (facts : List Fact) (n : ℕ)
      → Same (opens_form (reading_of y) tells name facts n).value (shown (roll-Reading (reading_of y)))
  unfolding OpensSame bind give
  type_form_same (W.Of t is rs) h tells name facts n = no (sym (plain_type (W.Of t is (readings_in rs))) ∙ h)
  type_form_same (W.Widened y) h tells name facts n =
      subst (Same (wide_opening y.0 false name facts n).value) (sym (shown_widened y.0)) (y.1 name facts n)
  type_form_same (W.Parts ys) h tells name facts n =
      let ks = types_opened tells (readings_in ys) (namings_of name) facts n in
      tuple_same (I.Tuple ks) (shown (roll-Reading (W.Parts (readings_in ys)))) ks (map shown (readings_in ys)) (I.rolls-Tuple ks)
      (I.rolls-Tuple (map shown (readings_in ys)) ∙ sym (shown_parts (readings_in ys)))
      (types_same ys tells (namings_of name) facts n (sym (plain_type (W.Parts (readings_in ys))) ∙ h))
  type_form_same W.Hole h tells name facts n = equal_same I.Never (shown (roll-Reading W.Hole)) (sym shown_hole)

  rolled_type : (y : Reading-F SuchI SuchR) → ShowsSame (roll-Reading (reading_of y))
  unfolding ShowsSame
  rolled_type y h tells name facts n =
      subst (λ (w : Walk Indices). Same (w facts n).value (shown (roll-Reading (reading_of y)))) (sym (opens_is (reading_of y) tells name))
      (type_form_same y h tells name facts n)

  shows_same : (r : Reading) → ShowsSame r
  shows_same = ind-Reading OpensSame ShowsSame (λ e y is. subst (λ d. OpensSame (roll-Indices d)) is (rolled_value y))
      (λ e y is. subst (λ d. ShowsSame (roll-Reading d)) is (rolled_type y))

  -- types agree where what is shown of their values does
  pub types_agree_shown : (d : ℕ) (r q : Reading) → is_plain r ≡ true → is_plain q ≡ true
      → types_agree (agrees_within d m) m r q ≡ agrees_within d m (shown r) (shown q)
  unfolding Same ShowsSame opened
  types_agree_shown d r q h k =
      (shows_same r h false M.Unnamed [] m d (value_of_type m q)).0 ∙ (shows_same q k false M.Unnamed [] m d (shown r)).1
