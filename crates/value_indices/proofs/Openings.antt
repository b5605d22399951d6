-- How types and readings are opened, form by form.
use Rattle.std.proofs.Common.{◌≡◌, ◌∙◌, ap, sym, subst, refl, ℕ, Bool, true, false, List, [], ◌∷◌, map, slice_get, Option, Some, None, option_map}
use Rattle.std.proofs.lemmas.Option.{slice_get-map}
use Rattle.sail_types.specs.declared.numbers.Con.{Con}
use Rattle.sail_types.specs.Readings.{read_con}
use Rattle.sail_types.specs.Sums.{variable}
use Rattle.sail_types.specs.declared.numbers.Index.{Index}
use Rattle.sail_types.specs.declared.numbers.Index.TheVariants as N
use Rattle.sail_types.specs.declared.numbers.Num.{Num}
use Rattle.sail_types.specs.declared.types.Typ.{Typ, Typ-F, roll-Typ}
use Rattle.sail_types.specs.declared.types.Typ.TheFolds.{para-roll-Typ, map-Typ}
use Rattle.sail_types.specs.declared.types.Typ.TheOpen as T
use Rattle.sail_types.specs.declared.types.Typ.TheVariants as V
use Rattle.value_indices.specs.declared.indices.Indices.{Indices, roll-Indices, out-Indices}
use Rattle.value_indices.specs.declared.indices.Indices.TheViews.{roll-out-Indices}
use Rattle.value_indices.specs.declared.indices.Indices.TheFolds.{para-roll-Indices, para-roll-Reading, map-Indices, map-Reading}
use Rattle.value_indices.specs.declared.indices.Indices.TheOpen as W
use Rattle.value_indices.specs.declared.indices.Indices.TheOpen.{Indices-F, Reading-F}
use Rattle.value_indices.specs.declared.indices.Indices.TheVariants as I
use Rattle.value_indices.specs.declared.indices.Naming.{Naming}
use Rattle.value_indices.specs.declared.indices.Reading.{Reading, roll-Reading}
use Rattle.value_indices.specs.declared.indices.Reading.TheVariants as R
use Rattle.value_indices.specs.Steps.{Walk, bind, give, fresh_named, assume_if}
use Rattle.value_indices.specs.Walking.{Written, got, run}
use Rattle.value_indices.specs.Opening.{Opening, Inner, form_opened, typ_opened, widened_opened, reading_opened, opening, wide_opening, with_openings}
use Rattle.value_indices.specs.Opening.{any_truth, any_integer, bits_of, vector_of}
use Rattle.value_indices.specs.Opening.{truth_opened, bits_opened, integer_opened, range_opened, vector_opened, named_opened}
use Rattle.value_indices.specs.Opening.{bound_inside, variable_opened, parts_opened, namings_of, types_opened, readings_opened, each_opened}
use Rattle.value_indices.proofs.Walks.{run_bind, run_give, got_give}

twice : {A B C : Type 0} (f : B → C) (g : A → B) (xs : List A) → map f (map g xs) ≡ map (λ x. f (g x)) xs
twice f g [] = refl
twice f g (x ∷ xs) = ap (λ ys. f (g x) ∷ ys) (twice f g xs)

-- the readings themselves
readings_back : (rs : List Reading) → map (λ r. r.0) (with_openings rs) ≡ rs
readings_back [] = refl
readings_back (r ∷ rs) = ap (λ ys. r ∷ ys) (readings_back rs)

-- ---- what `{'n, C. ..}` binds

-- where the condition is read under what was made
pub inside_walked : (own name : List ℕ) (c : Con) (is slice inside : List Index) (n : ℕ) (holds : Option Con) (w u v : Written)
    → name ≡ own → n ≡ got (fresh_named name) w → u ≡ run (fresh_named name) w → inside ≡ N.Number (variable n) ∷ is → slice ≡ inside
    → holds ≡ read_con slice c → v ≡ run (assume_if holds) u → v ≡ run (bound_inside own c is) w
unfolding bound_inside
inside_walked own name c is slice inside n holds w u v called numbered fresh bound same known assumed =
    let k = got (fresh_named own) w in
    let number : n ≡ k = numbered ∙ ap (λ m. got (fresh_named m) w) called in
    let whole : slice ≡ N.Number (variable k) ∷ is = same ∙ bound ∙ ap (λ j. N.Number (variable j) ∷ is) number in
    let condition = read_con (N.Number (variable k) ∷ is) c in
    let on = run (fresh_named own) w in
    assumed
    ∙ (λ i. run (assume_if (known i)) (fresh i))
    ∙ (λ i. run (assume_if (read_con (whole i) c)) (run (fresh_named (called i)) w))
    ∙ sym (run_bind (fresh_named own) (λ j. bind (assume_if (read_con (N.Number (variable j) ∷ is) c)) (λ x. give (N.Number (variable j) ∷ is))) w
    ∙ run_bind (assume_if condition) (λ x. give (N.Number (variable k) ∷ is)) on
    ∙ run_give (N.Number (variable k) ∷ is) (run (assume_if condition) on))

-- ---- types

module _ (rs : List Reading) (is : List Index) (tells : Bool) (name : Naming) where
  abbrev opens : Typ → Walk Indices
  opens t = typ_opened (with_openings rs) t is tells name

  abbrev form : List Reading → Typ-F Typ → Walk Indices
  form back x = form_opened (with_openings rs) back (map-Typ Typ (Typ × Inner) (λ t. (t, typ_opened (with_openings rs) t)) x) is tells name

  of_form : (t : Typ) (x : Typ-F Typ) → roll-Typ x ≡ t → opens t ≡ form rs x
  unfolding typ_opened
  of_form t x e =
      ap opens (sym e)
      ∙ ap (λ f. f is tells name) (para-roll-Typ Inner (form_opened (with_openings rs) (map (λ r. r.0) (with_openings rs))) x)
      ∙ ap (λ back. form back x) (readings_back rs)

  pub typ_unit : opens V.Unit ≡ give I.Unit
  typ_unit = of_form _ T.Unit V.rolls-Unit

  pub typ_bool : opens V.Bool ≡ any_truth name
  typ_bool = of_form _ T.Bool V.rolls-Bool

  pub typ_truth : (c : Con) → opens (V.Truth c) ≡ truth_opened is c
  typ_truth c = of_form _ (T.Truth c) (V.rolls-Truth c)

  pub typ_bit : opens V.Bit ≡ give I.Bit
  typ_bit = of_form _ T.Bit V.rolls-Bit

  pub typ_bits : (t : Num) → opens (V.Bits t) ≡ bits_opened is t
  typ_bits t = of_form _ (T.Bits t) (V.rolls-Bits t)

  pub typ_int : (t : Num) → opens (V.Int t) ≡ integer_opened is tells t
  typ_int t = of_form _ (T.Int t) (V.rolls-Int t)

  pub typ_range : (t u : Num) → opens (V.Range t u) ≡ range_opened is name t u
  typ_range t u = of_form _ (T.Range t u) (V.rolls-Range t u)

  pub typ_string : opens V.String ≡ give I.String
  typ_string = of_form _ T.String V.rolls-String

  pub typ_list : (t : Typ) → opens (V.List t) ≡ give (I.List (R.Of t is rs))
  typ_list t = of_form _ (T.List t) (V.rolls-List t)

  pub typ_vector : (n : Num) (t : Typ) → opens (V.Vector n t) ≡ vector_opened is rs n t
  typ_vector n t = of_form _ (T.Vector n t) (V.rolls-Vector n t)

  pub typ_tuple : (ts : List Typ) → opens (V.Tuple ts) ≡ bind (types_opened (with_openings rs) ts is tells name) (λ parts. give (I.Tuple parts))
  unfolding types_opened
  typ_tuple ts = of_form _ (T.Tuple ts) (V.rolls-Tuple ts)
      ∙ ap (λ os. bind (parts_opened tells os (namings_of name)) (λ parts. give (I.Tuple parts)))
      (twice (λ t. t.1 is) (λ t. (t, typ_opened (with_openings rs) t)) ts)

  pub typ_named : (i : ℕ) (arguments : List Index) (ts : List Typ)
      → opens (V.Named i arguments ts) ≡ named_opened is i arguments (map (λ t. R.Of t is rs) ts)
  typ_named i arguments ts = of_form _ (T.Named i arguments ts) (V.rolls-Named i arguments ts)
      ∙ ap (named_opened is i arguments) (twice (λ t. R.Of t.0 is rs) (λ t. (t, typ_opened (with_openings rs) t)) ts)

  -- what a Type variable stands for
  abbrev stood : ℕ → Option Reading → Walk Indices
  stood i r = variable_opened i (option_map (λ r. (r, opening r)) r) tells name

  of_variable : (i : ℕ) → opens (V.Variable i) ≡ stood i (slice_get rs i)
  of_variable i = of_form _ (T.Variable i) (V.rolls-Variable i)
      ∙ ap (λ r. variable_opened i r tells name) (slice_get-map (λ r. (r, opening r)) rs i)

  typ_free : (i : ℕ) → slice_get rs i ≡ None → opens (V.Variable i) ≡ give (I.Variable i)
  typ_free i e = of_variable i ∙ ap (stood i) e

  typ_variable : (i : ℕ) (r : Reading) → slice_get rs i ≡ Some r → opens (V.Variable i) ≡ opening r tells name
  typ_variable i r e = of_variable i ∙ ap (stood i) e

  -- a Type variable, as the code finds it
  pub free_value : (t : Typ) (i : ℕ) (w : Written) → t ≡ V.Variable i → slice_get rs i ≡ None → I.Variable i ≡ got (opens t) w
  free_value t i w is none = sym (ap (λ f. got f w) (ap opens is ∙ typ_free i none) ∙ got_give (I.Variable i) w)

  pub free_walked : (t : Typ) (i : ℕ) (w : Written) → t ≡ V.Variable i → slice_get rs i ≡ None → w ≡ run (opens t) w
  free_walked t i w is none = sym (ap (λ f. run f w) (ap opens is ∙ typ_free i none) ∙ run_give (I.Variable i) w)

  pub stood_for : (t : Typ) (i : ℕ) (r : Reading) → t ≡ V.Variable i → slice_get rs i ≡ Some r → opening r tells name ≡ opens t
  stood_for t i r is found = sym (ap opens is ∙ typ_variable i r found)

  pub typ_exists : (own : List ℕ) (c : Con) (t : Typ)
      → opens (V.Exists own c t) ≡ bind (bound_inside own c is) (λ js. typ_opened (with_openings rs) t js true name)
  typ_exists own c t = of_form _ (T.Exists own c t) (V.rolls-Exists own c t)

-- ---- widened types

module _ (name : Naming) where
  abbrev widens : Indices → Walk Indices
  widens i = wide_opening i false name

  abbrev wide_form : Indices-F (Indices × Opening) (Reading × Opening) → Walk Indices
  wide_form x = widened_opened x false name

  of_wide : (i : Indices) (x : Indices-F Indices Reading) → roll-Indices x ≡ i
      → widens i ≡ wide_form (map-Indices Indices Reading (Indices × Opening) (Reading × Opening) (λ i. (i, wide_opening i)) (λ r. (r, opening r)) x)
  unfolding wide_opening opening
  of_wide i x e = ap widens (sym e) ∙ ap (λ o. o false name) (para-roll-Indices Opening Opening widened_opened reading_opened x)

  wide_never : widens I.Never ≡ give I.Never
  wide_never = of_wide _ W.Never I.rolls-Never

  wide_unit : widens I.Unit ≡ give I.Unit
  wide_unit = of_wide _ W.Unit I.rolls-Unit

  pub wide_truth : (c : Con) → widens (I.Truth c) ≡ any_truth name
  wide_truth c = of_wide _ (W.Truth c) (I.rolls-Truth c)

  wide_bit : widens I.Bit ≡ give I.Bit
  wide_bit = of_wide _ W.Bit I.rolls-Bit

  pub wide_bits : (t : Num) → widens (I.Bits t) ≡ bits_of t
  wide_bits t = of_wide _ (W.Bits t) (I.rolls-Bits t)

  pub wide_integer : (t : Num) → widens (I.Integer t) ≡ any_integer name
  wide_integer t = of_wide _ (W.Integer t) (I.rolls-Integer t)

  wide_string : widens I.String ≡ give I.String
  wide_string = of_wide _ W.String I.rolls-String

  wide_list : (r : Reading) → widens (I.List r) ≡ give (I.List r)
  wide_list r = of_wide _ (W.List r) (I.rolls-List r)

  pub wide_vector : (n : Num) (r : Reading) → widens (I.Vector n r) ≡ vector_of r n
  wide_vector n r = of_wide _ (W.Vector n r) (I.rolls-Vector n r)

  pub wide_tuple : (is : List Indices) → widens (I.Tuple is) ≡ bind (each_opened is name) (λ parts. give (I.Tuple parts))
  unfolding each_opened
  wide_tuple is = of_wide _ (W.Tuple is) (I.rolls-Tuple is)
      ∙ ap (λ os. bind (parts_opened false os (namings_of name)) (λ parts. give (I.Tuple parts))) (twice (λ p. p.1) (λ i. (i, wide_opening i)) is)

  wide_named : (i : ℕ) (arguments : List Index) (rs : List Reading) → widens (I.Named i arguments rs) ≡ give (I.Named i arguments rs)
  wide_named i arguments rs = of_wide _ (W.Named i arguments rs) (I.rolls-Named i arguments rs)
      ∙ ap (λ rs. give (I.Named i arguments rs)) (readings_back rs)

  wide_variable : (i : ℕ) → widens (I.Variable i) ≡ give (I.Variable i)
  wide_variable i = of_wide _ (W.Variable i) (I.rolls-Variable i)

  -- all others are known as they stand
  as_it_stands : (i j : Indices) → i ≡ j → widens j ≡ give j → widens i ≡ give i
  as_it_stands i j is h = subst (λ k. widens k ≡ give k) (sym is) h

  kept_form : (i : Indices) (x : Indices-F Indices Reading) → i ≡ roll-Indices x → ((c : Con) → i ≡ I.Truth c → ⊥) → ((t : Num) → i ≡ I.Bits t → ⊥)
      → ((t : Num) → i ≡ I.Integer t → ⊥) → ((n : Num) (r : Reading) → i ≡ I.Vector n r → ⊥) → ((is : List Indices) → i ≡ I.Tuple is → ⊥)
      → widens i ≡ give i
  kept_form i (W.Truth c) e truth bits integer vector tuple = absurd (truth c (e ∙ I.rolls-Truth c))
  kept_form i (W.Bits t) e truth bits integer vector tuple = absurd (bits t (e ∙ I.rolls-Bits t))
  kept_form i (W.Integer t) e truth bits integer vector tuple = absurd (integer t (e ∙ I.rolls-Integer t))
  kept_form i (W.Vector n r) e truth bits integer vector tuple = absurd (vector n r (e ∙ I.rolls-Vector n r))
  kept_form i (W.Tuple is) e truth bits integer vector tuple = absurd (tuple is (e ∙ I.rolls-Tuple is))
  kept_form i W.Never e truth bits integer vector tuple = as_it_stands i I.Never (e ∙ I.rolls-Never) wide_never
  kept_form i W.Unit e truth bits integer vector tuple = as_it_stands i I.Unit (e ∙ I.rolls-Unit) wide_unit
  kept_form i W.Bit e truth bits integer vector tuple = as_it_stands i I.Bit (e ∙ I.rolls-Bit) wide_bit
  kept_form i W.String e truth bits integer vector tuple = as_it_stands i I.String (e ∙ I.rolls-String) wide_string
  kept_form i (W.List r) e truth bits integer vector tuple = as_it_stands i (I.List r) (e ∙ I.rolls-List r) (wide_list r)
  kept_form i (W.Named k arguments rs) e truth bits integer vector tuple =
      as_it_stands i (I.Named k arguments rs) (e ∙ I.rolls-Named k arguments rs) (wide_named k arguments rs)
  kept_form i (W.Variable k) e truth bits integer vector tuple = as_it_stands i (I.Variable k) (e ∙ I.rolls-Variable k) (wide_variable k)

  pub wide_kept : (i : Indices) → ((c : Con) → i ≡ I.Truth c → ⊥) → ((t : Num) → i ≡ I.Bits t → ⊥) → ((t : Num) → i ≡ I.Integer t → ⊥)
      → ((n : Num) (r : Reading) → i ≡ I.Vector n r → ⊥) → ((is : List Indices) → i ≡ I.Tuple is → ⊥) → widens i ≡ give i
  wide_kept i truth bits integer vector tuple = kept_form i (out-Indices i) (sym (roll-out-Indices i)) truth bits integer vector tuple

-- ---- readings

module _ (tells : Bool) (name : Naming) where
  abbrev known : Reading → Walk Indices
  known r = opening r tells name

  of_reading : (r : Reading) (x : Reading-F Indices Reading) → roll-Reading x ≡ r
      → known r
      ≡ reading_opened (map-Reading Indices Reading (Indices × Opening) (Reading × Opening) (λ i. (i, wide_opening i)) (λ r. (r, opening r)) x) tells name
  unfolding wide_opening opening
  of_reading r x e = ap known (sym e) ∙ ap (λ o. o tells name) (para-roll-Reading Opening Opening widened_opened reading_opened x)

  pub reading_of : (t : Typ) (is : List Index) (rs : List Reading) → known (R.Of t is rs) ≡ typ_opened (with_openings rs) t is tells name
  reading_of t is rs = of_reading _ (W.Of t is rs) (R.rolls-Of t is rs)

  pub reading_widened : (i : Indices) → known (R.Widened i) ≡ wide_opening i false name
  reading_widened i = of_reading _ (W.Widened i) (R.rolls-Widened i)

  pub reading_parts : (rs : List Reading) → known (R.Parts rs) ≡ bind (readings_opened rs tells name) (λ parts. give (I.Tuple parts))
  unfolding readings_opened
  reading_parts rs = of_reading _ (W.Parts rs) (R.rolls-Parts rs)
      ∙ ap (λ os. bind (parts_opened tells os (namings_of name)) (λ parts. give (I.Tuple parts))) (twice (λ r. r.1) (λ r. (r, opening r)) rs)

  pub reading_hole : known R.Hole ≡ give I.Never
  reading_hole = of_reading _ W.Hole R.rolls-Hole

pub ruleset types = (typ_unit, typ_bool, typ_truth, typ_bit, typ_bits, typ_int, typ_range, typ_string, typ_list, typ_vector, typ_tuple, typ_named, typ_exists)

pub ruleset wides = (wide_truth, wide_bits, wide_integer, wide_vector, wide_tuple)

pub ruleset readings = (reading_of, reading_widened, reading_parts, reading_hole)
