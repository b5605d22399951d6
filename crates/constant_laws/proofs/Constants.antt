-- Form by form: numbers and truths that name nothing are the same, and so is all that is built of them.
use Rattle.std.proofs.Common.{◌≡◌, ◌∙◌, ap, sym, refl, subst, ℕ, zero, suc, arith, pos, Bool, true, false, List, [], ◌∷◌, map}
use Rattle.std.specs.List.{list_all}
use Rattle.std.proofs.lemmas.Bool.{and_parts}
use Rattle.sail_types.specs.Belongs.{Reading as Closed, assigned, reading}
use Rattle.sail_types.specs.Numbers.{Assignment, Positive, number, true_in}
use Rattle.sail_types.specs.Readings.{truth_at}
use Rattle.sail_types.specs.Sums.{constant, number_at, read}
use Rattle.sail_types.specs.declared.numbers.Con.{Con}
use Rattle.sail_types.specs.declared.numbers.Con.TheVariants as C
use Rattle.sail_types.specs.declared.numbers.Index.{Index}
use Rattle.sail_types.specs.declared.numbers.Index.TheVariants as N
use Rattle.sail_types.specs.declared.numbers.Num.{Num}
use Rattle.sail_types.specs.declared.table.Types.{Types}
use Rattle.sail_types.specs.declared.values.Value.{Value-F, Value, out-Value}
use Rattle.sail_types.proofs.Substituted.{number_constant}
use Rattle.value_indices.specs.declared.indices.Indices.{Indices, roll-Indices}
use Rattle.value_indices.specs.declared.indices.Indices.TheFolds.{fold-roll-Indices, fold-roll-Reading, map-Indices, map-Reading, ind-Indices, ind-Reading}
use Rattle.value_indices.specs.declared.indices.Indices.TheOpen as W
use Rattle.value_indices.specs.declared.indices.Indices.TheOpen.{Indices-F, Reading-F}
use Rattle.value_indices.specs.declared.indices.Reading.{Reading, roll-Reading}
use Rattle.wide_types.specs.Widening.{is_below, is_con_below}
use Rattle.constraint_gen.specs.Models.{index_constant, indices_constant, is_constant, is_reading_constant, reading_constant}
use Rattle.call_fits.proofs.Below.{SameBelow, number_below, truth_below}
use Rattle.value_laws.specs.Belonging.{Integers, Meant, standing, closed, closed_form, closeds, form_holds, index_there, meant, meant_form}
use Rattle.value_laws.specs.Belonging.{no_value, tuple_of, types_or_own}
use Rattle.value_laws.proofs.Meanings.{bit_same, bits_same, integers_same, lists_same, named_same, strings_same, truths_same, tuples_same, units_same}
use Rattle.value_laws.proofs.Meanings.{variable_same, vectors_same}
use Rattle.value_laws.proofs.Numbers.{beyond_past, truth_is}
use Rattle.constant_laws.specs.Constants.{ConstantsMeanOneThing}

module _ (types : Types) (past : Positive) (own : List Closed) (f g : Integers) where
  abbrev one : Assignment
  one = standing past f

  abbrev other : Assignment
  other = standing past g

  alike : SameBelow 0 one other
  alike = record {
    ints = λ i less. absurd (omega (arith, less));
    bools = λ i less. absurd (omega (arith, less));
    beyonds = λ t u. refl;
  }

  same_number : (t : Num) → is_below 0 t ≡ true → number one t ≡ number other t
  same_number t e = number_below 0 one other alike t e

  same_truth : (c : Con) → is_con_below 0 c ≡ true → true_in one c ≡ true_in other c
  same_truth c e = truth_below 0 one other alike c e

  -- ---- arguments

  abbrev AllConstant : List Index → Type 0
  AllConstant is = list_all index_constant is ≡ true

  numbers_at : (is : List Index) → AllConstant is → (i : ℕ) → number one (number_at is i) ≡ number other (number_at is i)
  numbers_at [] e i = number_constant one (pos 0) ∙ sym (number_constant other (pos 0))
  numbers_at (N.Number t ∷ is) e zero = same_number t (and_parts (is_below 0 t) (list_all index_constant is) e).0
  numbers_at (N.Truth c ∷ is) e zero = number_constant one (pos 0) ∙ sym (number_constant other (pos 0))
  numbers_at (x ∷ is) e (suc i) = numbers_at is (and_parts (index_constant x) (list_all index_constant is) e).1 i

  truths_at : (is : List Index) → AllConstant is → (i : ℕ) → true_in one (truth_at is i) ≡ true_in other (truth_at is i)
  truths_at [] e i = truth_is one false ∙ sym (truth_is other false)
  truths_at (N.Number t ∷ is) e zero = truth_is one false ∙ sym (truth_is other false)
  truths_at (N.Truth c ∷ is) e zero = same_truth c (and_parts (is_con_below 0 c) (list_all index_constant is) e).0
  truths_at (x ∷ is) e (suc i) = truths_at is (and_parts (index_constant x) (list_all index_constant is) e).1 i

  assigned_same : (is : List Index) → AllConstant is → assigned one is ≡ assigned other is
  assigned_same is e = λ j. record {
    int = λ i. numbers_at is e i j;
    bool = λ i. truths_at is e i j;
    beyond = λ t. (beyond_past past f (read is t) ∙ sym (beyond_past past g (read is t))) j;
  }

  one_there : (i : Index) → index_constant i ≡ true → index_there one i ≡ index_there other i
  one_there (N.Number t) e = ap (λ z. N.Number (constant z)) (same_number t e)
  one_there (N.Truth c) e = ap (λ b. N.Truth (C.Truth b)) (same_truth c e)

  all_there : (is : List Index) → AllConstant is → map (index_there one) is ≡ map (index_there other) is
  all_there [] e = refl
  all_there (x ∷ is) e =
      let both = and_parts (index_constant x) (list_all index_constant is) e in
      let first : index_there one x ≡ index_there other x = one_there x both.0 in
      let more : map (index_there one) is ≡ map (index_there other) is = all_there is both.1 in
      λ j. first j ∷ more j

  -- ---- forms

  SameI : Indices → Type 0
  SameI i = is_constant i ≡ true → meant types one own i ≡ meant types other own i

  SameR : Reading → Type 0
  SameR r = is_reading_constant r ≡ true → closed types one own r ≡ closed types other own r

  abbrev SuchI : Type 0
  SuchI = (i : Indices) × SameI i

  abbrev SuchR : Type 0
  SuchR = (r : Reading) × SameR r

  abbrev values_in : List SuchI → List Indices
  values_in ys = map (λ (y : SuchI). y.0) ys

  abbrev readings_in : List SuchR → List Reading
  readings_in ys = map (λ (y : SuchR). y.0) ys

  abbrev indices_of : Indices-F SuchI SuchR → Indices-F Indices Reading
  indices_of y = map-Indices SuchI SuchR Indices Reading (λ p. p.0) (λ p. p.0) y

  abbrev reading_of : Reading-F SuchI SuchR → Reading-F Indices Reading
  reading_of y = map-Reading SuchI SuchR Indices Reading (λ p. p.0) (λ p. p.0) y

  abbrev meant_in : Assignment → Indices-F Indices Reading → Meant
  meant_in mu x = meant_form types mu own (map-Indices Indices Reading Meant Closed (meant types mu own) (closed types mu own) x)

  abbrev closed_in : Assignment → Reading-F Indices Reading → Closed
  closed_in mu x = closed_form types mu own (map-Reading Indices Reading Meant Closed (meant types mu own) (closed types mu own) x)

  each_value : (ys : List SuchI) → list_all (λ b. b) (map is_constant (values_in ys)) ≡ true
      → map (meant types one own) (values_in ys) ≡ map (meant types other own) (values_in ys)
  unfolding SameI
  each_value [] e = refl
  each_value (y ∷ ys) e =
      let both = and_parts (is_constant y.0) (list_all (λ b. b) (map is_constant (values_in ys))) e in
      let first : meant types one own y.0 ≡ meant types other own y.0 = y.1 both.0 in
      let more : map (meant types one own) (values_in ys) ≡ map (meant types other own) (values_in ys) = each_value ys both.1 in
      λ j. first j ∷ more j

  each_reading : (ys : List SuchR) → list_all (λ b. b) (map is_reading_constant (readings_in ys)) ≡ true
      → map (closed types one own) (readings_in ys) ≡ map (closed types other own) (readings_in ys)
  unfolding SameR
  each_reading [] e = refl
  each_reading (y ∷ ys) e =
      let both = and_parts (is_reading_constant y.0) (list_all (λ b. b) (map is_reading_constant (readings_in ys))) e in
      let first : closed types one own y.0 ≡ closed types other own y.0 = y.1 both.0 in
      let more : map (closed types one own) (readings_in ys) ≡ map (closed types other own) (readings_in ys) = each_reading ys both.1 in
      λ j. first j ∷ more j

  never_holds : (w : Value-F Value) → form_holds types one own W.Never w ≡ form_holds types other own W.Never w
  never_holds w = refl

  never_same : meant_form types one own W.Never ≡ meant_form types other own W.Never
  never_same = λ j. record { holds = λ v. never_holds (out-Value v) j; wide = no_value one }

  form_same : (y : Indices-F SuchI SuchR) → indices_constant (map-Indices Indices Reading Bool Bool is_constant is_reading_constant (indices_of y)) ≡ true
      → meant_in one (indices_of y) ≡ meant_in other (indices_of y)
  unfolding SameR
  form_same W.Never e = never_same
  form_same W.Unit e = units_same types past own f g
  form_same (W.Truth c) e = truths_same types past own f g c c (same_truth c e)
  form_same W.Bit e = bit_same types past own f g
  form_same (W.Bits t) e = bits_same types past own f g t t (same_number t e)
  form_same (W.Integer t) e = integers_same types past own f g t t (same_number t e)
  form_same W.String e = strings_same types past own f g
  form_same (W.List r) e = lists_same types past own f g (closed types one own r.0) (closed types other own r.0) (r.1 e)
  form_same (W.Vector t r) e =
      let both = and_parts (is_below 0 t) (is_reading_constant r.0) e in
      vectors_same types past own f g t t (closed types one own r.0) (closed types other own r.0) (same_number t both.0) (r.1 both.1)
  form_same (W.Tuple ys) e =
      tuples_same types past own f g (map (meant types one own) (values_in ys)) (map (meant types other own) (values_in ys)) (each_value ys e)
  form_same (W.Named u is rs) e =
      let both = and_parts (list_all index_constant is) (list_all (λ b. b) (map is_reading_constant (readings_in rs))) e in
      named_same types past own f g u is is (map (closed types one own) (readings_in rs)) (map (closed types other own) (readings_in rs))
      (assigned_same is both.0) (all_there is both.0) (each_reading rs both.1)
  form_same (W.Variable i) e = variable_same types past own f g i

  rolled_value : (y : Indices-F SuchI SuchR) → SameI (roll-Indices (indices_of y))
  unfolding SameI
  rolled_value y e =
      let x : Indices-F Indices Reading = indices_of y in
      let told = fold-roll-Indices Bool Bool indices_constant reading_constant x in
      fold-roll-Indices Meant Closed (meant_form types one own) (closed_form types one own) x ∙ form_same y (sym told ∙ e)
      ∙ sym (fold-roll-Indices Meant Closed (meant_form types other own) (closed_form types other own) x)

  reading_same : (y : Reading-F SuchI SuchR)
      → reading_constant (map-Reading Indices Reading Bool Bool is_constant is_reading_constant (reading_of y)) ≡ true
      → closed_in one (reading_of y) ≡ closed_in other (reading_of y)
  unfolding SameI
  reading_same (W.Of t is rs) e =
      let both = and_parts (list_all index_constant is) (list_all (λ b. b) (map is_reading_constant (readings_in rs))) e in
      let arguments : assigned one is ≡ assigned other is = assigned_same is both.0 in
      let types_there : map (closed types one own) (readings_in rs) ≡ map (closed types other own) (readings_in rs) = each_reading rs both.1 in
      λ j. reading t (arguments j) (closeds (types_or_own (types_there j) own))
  reading_same (W.Widened i) e = ap (λ m. m.wide) (i.1 e)
  reading_same (W.Parts rs) e =
      let parts : map (closed types one own) (readings_in rs) ≡ map (closed types other own) (readings_in rs) = each_reading rs e in
      λ j. tuple_of one (parts j)
  reading_same W.Hole e = refl

  rolled_type : (y : Reading-F SuchI SuchR) → SameR (roll-Reading (reading_of y))
  unfolding SameR
  rolled_type y e =
      let x : Reading-F Indices Reading = reading_of y in
      let told = fold-roll-Reading Bool Bool indices_constant reading_constant x in
      fold-roll-Reading Meant Closed (meant_form types one own) (closed_form types one own) x ∙ reading_same y (sym told ∙ e)
      ∙ sym (fold-roll-Reading Meant Closed (meant_form types other own) (closed_form types other own) x)

  pub indices_mean : (i : Indices) → is_constant i ≡ true → meant types one own i ≡ meant types other own i
  unfolding SameI
  indices_mean i = (ind-Indices SameI SameR (λ e y is. subst (λ d. SameI (roll-Indices d)) is (rolled_value y))
      (λ e y is. subst (λ d. SameR (roll-Reading d)) is (rolled_type y))) i

  pub readings_mean : (r : Reading) → is_reading_constant r ≡ true → closed types one own r ≡ closed types other own r
  unfolding SameR
  readings_mean r = (ind-Reading SameI SameR (λ e y is. subst (λ d. SameI (roll-Indices d)) is (rolled_value y))
      (λ e y is. subst (λ d. SameR (roll-Reading d)) is (rolled_type y))) r

pub mean_one_thing : ConstantsMeanOneThing
mean_one_thing types past own = record {
  indices = λ f g i e. indices_mean types past own f g i e;
  readings = λ f g r e. readings_mean types past own f g r e;
}
