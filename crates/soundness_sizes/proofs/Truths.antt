-- Where what is owed of what a condition compares holds, the run knows whether it is true.
use Rattle.std.proofs.Common.{◌≡◌, ◌∙◌, ap, sym, refl, subst, ℕ, ℤ, Bool, true, false, List, [], ◌∷◌, ◌++◌, map, slice_get, Option, Some, None}
use Rattle.std.specs.Prelude.{◌&&◌, not, option_map, if◌then◌else◌}
use Rattle.std.specs.List.{list_all, list_any}
use Rattle.std.specs.Ordering.{int_eq}
use Rattle.std.proofs.lemmas.Bool.{and_parts}
use Rattle.sail_types.specs.Belongs.{assigned}
use Rattle.sail_types.specs.Limits.{small_power}
use Rattle.sail_types.specs.Numbers.{Assignment, Positive, compares, form_true, number, true_in}
use Rattle.sail_types.specs.Readings.{together, truth_at}
use Rattle.sail_types.specs.Sums.{and_then, number_at, read}
use Rattle.sail_types.specs.declared.numbers.Con.{Con, Con-F, roll-Con, fold-roll-Con, map-Con, ind-Con}
use Rattle.sail_types.specs.declared.numbers.Con.TheOpen as C
use Rattle.sail_types.specs.declared.numbers.Index.{Index}
use Rattle.sail_types.specs.declared.numbers.Num.{Num}
use Rattle.sail_core.specs.Numbers.{Givens, given_bool, given_int, known, known_form, known_truth}
use Rattle.sail_core.specs.declared.written.WrittenNumber.{WrittenNumber}
use Rattle.value_indices.specs.Steps.{Conditions}
use Rattle.expression_forms.specs.Sizes.{all_owed, bounded, compared, compared_form, exponent_through, owed_if, side_is, side_through, size_owed, through}
use Rattle.fitting_laws.specs.Fitting.{Said}
use Rattle.fitting_laws.proofs.Joining.{said_behind, said_front}
use Rattle.value_laws.specs.Belonging.{Integers, standing}
use Rattle.soundness_sizes.specs.Own.{con_own, form_owns, is_integer, is_truth, number_own}
use Rattle.soundness_sizes.proofs.Known.{number_known}

module _ (past : Positive) (f : Integers) (numbers : List Index) (ns : List WrittenNumber) (nu : Givens)
    (given : (i : ℕ) → is_integer (slice_get numbers i) ≡ true
    → given_int (slice_get nu i) ≡ Some (number (standing past f) (number_at numbers i)))
    (truths : (i : ℕ) → is_truth (slice_get numbers i) ≡ true
    → given_bool (slice_get nu i) ≡ Some (true_in (standing past f) (truth_at numbers i)))
    (exponents : (u : Num) → Said (standing past f) (exponent_through numbers ns u)
    → (v : Num) × (z : ℤ) × (read numbers u ≡ Some v) × (small_power (number (standing past f) v) ≡ Some z))
    (sides : (t : Num) → list_any (side_is t) ns ≡ true → Said (standing past f) (size_owed numbers t)) where
  abbrev al : Assignment
  al = standing past f

  abbrev be : Assignment
  be = assigned (standing past f) numbers

  -- a number of which both are owed
  size_known : (t : Num) → number_own numbers t ≡ true → Said al (size_owed numbers t) → Said al (through numbers ns t) → known nu t ≡ Some (number be t)
  size_known t own said came = by (read numbers t) refl said
    where
      by : (o : Option Num) → read numbers t ≡ o → Said al (owed_if o (bounded numbers t)) → known nu t ≡ Some (number be t)
      by None e h = absurd h
      by (Some m) e h = number_known past f numbers ns nu given exponents t own m e h came

  side_known : (t : Num) → number_own numbers t ≡ true → Said al (side_through numbers ns t) → known nu t ≡ Some (number be t)
  side_known t own said = by (list_any (side_is t) ns) refl said
    where
      by : (b : Bool) → list_any (side_is t) ns ≡ b → Said al (if b then through numbers ns t else through numbers ns t ++ size_owed numbers t)
          → known nu t ≡ Some (number be t)
      by true e h = size_known t own (sides t e) h
      by false e h =
          size_known t own (said_behind al (through numbers ns t) (size_owed numbers t) h) (said_front al (through numbers ns t) (size_owed numbers t) h)

  abbrev KnownC : Con → Type 0
  KnownC c = con_own numbers c ≡ true → Said al (compared numbers ns c) → known_truth nu c ≡ Some (true_in be c)

  abbrev SuchC : Type 0
  SuchC = (c : Con) × KnownC c

  abbrev conditions_of : List SuchC → List Con
  conditions_of ys = map (λ (p : SuchC). p.0) ys

  abbrev bare : Con-F SuchC → Con-F Con
  bare y = map-Con SuchC Con (λ p. p.0) y

  all_known : (ys : List SuchC) → list_all (λ b. b) (map (con_own numbers) (conditions_of ys)) ≡ true
      → Said al (all_owed (map (compared numbers ns) (conditions_of ys)))
      → together (map (known_truth nu) (conditions_of ys)) ≡ Some (map (true_in be) (conditions_of ys))
  all_known [] e h = refl
  all_known (y ∷ ys) e h =
      let both = and_parts (con_own numbers y.0) (list_all (λ b. b) (map (con_own numbers) (conditions_of ys))) e in
      let more : Conditions = all_owed (map (compared numbers ns) (conditions_of ys)) in
      (λ j. together (y.1 both.0 (said_front al (compared numbers ns y.0) more h) j ∷ map (known_truth nu) (conditions_of ys)))
      ∙ ap (λ o. option_map (λ bs. true_in be y.0 ∷ bs) o) (all_known ys both.1 (said_behind al (compared numbers ns y.0) more h))

  form_known : (y : Con-F SuchC) → form_owns numbers (map-Con Con Bool (con_own numbers) (bare y)) ≡ true
      → Said al (compared_form numbers ns (map-Con Con Conditions (compared numbers ns) (bare y)))
      → known_form nu (map-Con Con (Option Bool) (known_truth nu) (bare y)) ≡ Some (form_true be (map-Con Con Bool (true_in be) (bare y)))
  form_known (C.Truth b) e h = refl
  form_known (C.Holds i) e h = truths i e
  form_known (C.Compare how t u) e h =
      let both = and_parts (number_own numbers t) (number_own numbers u) e in
      ap (λ o. and_then o (λ x. option_map (compares how x) (known nu u)))
      (side_known t both.0 (said_front al (side_through numbers ns t) (side_through numbers ns u) h))
      ∙ ap (λ o. option_map (compares how (number be t)) o) (side_known u both.1 (said_behind al (side_through numbers ns t) (side_through numbers ns u) h))
  form_known (C.OneOf t zs) e h = ap (λ o. option_map (λ x. list_any (int_eq x) zs) o) (side_known t e h)
  form_known (C.Not b) e h = ap (λ o. option_map not o) (b.1 e h)
  form_known (C.All ys) e h = ap (λ o. option_map (list_all (λ b. b)) o) (all_known ys e h)
  form_known (C.Any ys) e h = ap (λ o. option_map (list_any (λ b. b)) o) (all_known ys e h)

  con_step : (y : Con-F SuchC) → KnownC (roll-Con (bare y))
  con_step y e h =
      fold-roll-Con (Option Bool) (known_form nu) (bare y)
      ∙ form_known y (sym (fold-roll-Con Bool (form_owns numbers) (bare y)) ∙ e)
      (subst (λ cs. Said al cs) (fold-roll-Con Conditions (compared_form numbers ns) (bare y)) h)
      ∙ ap (λ b. Some b) (sym (fold-roll-Con Bool (form_true be) (bare y)))

  pub truth_known : (c : Con) → KnownC c
  truth_known = ind-Con KnownC (λ e y is. subst (λ d. KnownC (roll-Con d)) is (con_step y))
