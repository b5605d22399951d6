-- The functions that a hart enters: what an event gives them belongs to their parameters.
use Rattle.std.proofs.Common.{◌≡◌, ◌∙◌, sym, refl, subst, ap, arith, ◌<◌, ◌+ℤ◌, ℕ, ℤ, pos, int_le, true, ◌&&◌, List, [], ◌∷◌, length}
use Rattle.std.proofs.Common.{Some, slice_get}
use Rattle.std.specs.Ordering.{int_eq}
use Rattle.std.proofs.lemmas.Bool.{and_parts}
use Rattle.std.proofs.lemmas.Bool.Decides.{Decides-int_eq, nat_tests}
use Rattle.std.proofs.lemmas.Int.{ints}
use Rattle.sail_base.specs.Bits.{bits_of}
use Rattle.sail_base.proofs.Words.{width_is}
use Rattle.sail_types.specs.Belongs.{Asked, Inner, Readings, answers_to, belongs, form_belongs, form_belongs_to, reading}
use Rattle.sail_types.specs.Limits.{is_small, is_width, largest}
use Rattle.sail_types.specs.Numbers.{Assignment, number, total, true_in}
use Rattle.sail_types.specs.Sums.{constant_of, is_constant, no_terms, terms_of}
use Rattle.sail_types.specs.declared.numbers.Con.TheVariants as C
use Rattle.sail_types.specs.declared.numbers.Num.{Num}
use Rattle.sail_types.specs.declared.numbers.Term.{Term}
use Rattle.sail_types.specs.declared.table.Types.{Types}
use Rattle.sail_types.specs.declared.types.Typ.{Typ, Typ-F, out-Typ, roll-Typ}
use Rattle.sail_types.specs.declared.types.Typ.TheFolds.{map-Typ, para-Typ, para-roll-Typ}
use Rattle.sail_types.specs.declared.types.Typ.TheOpen as T
use Rattle.sail_types.specs.declared.types.Typ.TheViews.{roll-out-Typ}
use Rattle.sail_types.specs.declared.values.Value.{Value, Value-F, roll-Value}
use Rattle.sail_types.specs.declared.values.Value.TheFolds.{map-Value, para-roll-Value}
use Rattle.sail_types.specs.declared.values.Value.TheOpen as W
use Rattle.sail_types.specs.declared.values.Value.TheVariants as V
use Rattle.sail_types.proofs.SumNumbers.{number_parts, weights}
use Rattle.sail_signatures.specs.Starts.{are_hart_and_address, form_address, form_hart, form_start, form_unit, is_the_number}
use Rattle.sail_core.specs.Numbers.{all_agree, givens_of}
use Rattle.sail_core.specs.declared.model.Function.{Function}
use Rattle.shape_joins.proofs.Order.{no, two}
use Rattle.shape_rules.specs.Calls.{parameters_form, parameters_of}
use Rattle.value_laws.specs.Belonging.{Integers, closeds}
use Rattle.value_laws.proofs.Numbers.{at_most_true, truth_is}
use Rattle.call_fits.specs.Calls.{AllBelong, givens_at}
use Rattle.soundness_steps.specs.Works.{Setting}
use Rattle.soundness_steps.specs.Calls.{inside}
use Rattle.soundness_calls.specs.Events.{EventEnters, entered_by, reset_arguments}

-- ---- values of some types

none_left : (ts : List Term) → no_terms ts ≡ true → ts ≡ []
none_left [] h = refl
none_left (t ∷ ts) h = no h

nothing_added : (z : ℤ) → pos 0 +ℤ z ≡ z
nothing_added z = omega (arith, ints)

number_is : (nu : Assignment) (z : ℤ) (n : Num) → is_the_number z n ≡ true → number nu n ≡ z
number_is nu z n h =
    let k = and_parts (is_constant n) (int_eq (constant_of n) z) h in
    number_parts nu n ∙ ap (λ ts. total (weights nu ts) +ℤ constant_of n) (none_left (terms_of n) k.0) ∙ nothing_added (constant_of n)
    ∙ (Decides-int_eq (constant_of n) z).0 k.1

small_hart : (n : ℕ) → n < 8 → is_small (pos n) ≡ true
unfolding largest
small_hart n low = grind (arith, nat_tests)

module _ (types : Types) (nu : Assignment) (rs : Readings) where
  module _ (y : Value-F Value) where
    abbrev asked : Value-F (Value × Asked)
    asked = map-Value Value (Value × Asked) (λ v. (v, belongs types v)) y

    abbrev inner : Typ → Inner
    inner = para-Typ Inner (form_belongs types asked rs (answers_to types asked rs))

    belongs_form : (t : Typ) (x : Typ-F Typ) → out-Typ t ≡ x → belongs types (roll-Value y) (reading t nu rs)
        ≡ form_belongs types asked rs (answers_to types asked rs) (map-Typ Typ (Typ × Inner) (λ u. (u, inner u)) x) nu
    belongs_form t x e =
        ap (λ f. f (reading t nu rs)) (para-roll-Value Asked (form_belongs_to types) y)
        ∙ ap (λ u. inner u nu) (sym (roll-out-Typ t) ∙ ap roll-Typ e)
        ∙ ap (λ f. f nu) (para-roll-Typ Inner (form_belongs types asked rs (answers_to types asked rs)) x)

  abbrev Belongs : Value → Typ → Type 0
  Belongs v t = belongs types v (reading t nu rs) ≡ true

  unit_belongs : (t : Typ) (o : Typ-F Typ) → out-Typ t ≡ o → form_unit o ≡ true → Belongs V.Unit t
  unit_belongs t T.Unit e h = subst (λ v. Belongs v t) V.rolls-Unit (belongs_form W.Unit t T.Unit e)
  unit_belongs t o e h = no h

  hart_belongs : (hart : ℕ) → hart < 8 → (t : Typ) (o : Typ-F Typ) → out-Typ t ≡ o → form_hart o ≡ true → Belongs (V.Integer (pos hart)) t
  hart_belongs hart less t (T.Range low high) e h =
      let k = and_parts (is_the_number (pos 0) low) (is_the_number (pos 7) high) h in
      let first : int_le (number nu low) (pos hart) ≡ true =
      subst (λ z. int_le z (pos hart) ≡ true) (sym (number_is nu (pos 0) low k.0)) (at_most_true (pos 0) (pos hart) (omega (arith, ints))) in
      let last : int_le (pos hart) (number nu high) ≡ true =
      subst (λ z. int_le (pos hart) z ≡ true) (sym (number_is nu (pos 7) high k.1)) (at_most_true (pos hart) (pos 7) (omega (arith, ints))) in
      subst (λ v. Belongs v t) (V.rolls-Integer (pos hart))
      (belongs_form (W.Integer (pos hart)) t (T.Range low high) e
      ∙ two (int_le (number nu low) (pos hart) && int_le (pos hart) (number nu high)) (is_small (pos hart))
      (two (int_le (number nu low) (pos hart)) (int_le (pos hart) (number nu high)) first last) (small_hart hart less))
  hart_belongs hart less t o e h = no h

  address_belongs : (entry : ℕ) (t : Typ) (o : Typ-F Typ) → out-Typ t ≡ o → form_address o ≡ true → Belongs (V.Bits (bits_of 64 entry)) t
  address_belongs entry t (T.Bits n) e h =
      let long : length (bits_of 64 entry) ≡ 64 = sym (width_is 64 entry (bits_of 64 entry) refl) in
      subst (λ v. Belongs v t) (V.rolls-Bits (bits_of 64 entry))
      (belongs_form (W.Bits (bits_of 64 entry)) t (T.Bits n) e
      ∙ ap (λ k. int_eq (pos k) (number nu n) && is_width k) long
      ∙ two (int_eq (pos 64) (number nu n)) (is_width 64) ((Decides-int_eq (pos 64) (number nu n)).1 (sym (number_is nu (pos 64) n h))) refl)
  address_belongs entry t o e h = no h

-- ---- an event enters a function without variables

module _ (set : Setting) (f : Function) (plain : f.variables ≡ []) where
  abbrev any : Integers
  any v = pos 0

  abbrev mu : Assignment
  mu = inside set f any

  pub entering : (i : ℕ) (vs : List Value) → set.covered.function (entered_by i) ≡ true → slice_get set.around.functions i ≡ Some f
      → f.constraint ≡ C.Truth true → AllBelong set.around.types mu [] f.parameters vs → EventEnters set i vs
  entering i vs covered there free belong = record {
    it = f;
    integers = any;
    enters = record {
      is_covered = covered;
      own_fits = λ fitted. tt;
      is_it = there;
      belong = belong;
      constraint = ap (true_in mu) free ∙ truth_is mu true;
      are_given = subst (λ ps. givens_of (length ps) f.parameters vs ≡ Some (givens_at any 0 ps)) (sym plain) refl;
      awaited = subst (λ ps. all_agree [] (givens_at any 0 ps) ≡ true) (sym plain) refl;
    };
  }

  unit_alone : (t : Typ) (o : Typ-F Typ) → out-Typ t ≡ o → form_unit o ≡ true → AllBelong set.around.types mu [] (parameters_form t o) (V.Unit ∷ [])
  unit_alone t T.Unit e h = (unit_belongs set.around.types mu (closeds []) t T.Unit e h, tt)
  unit_alone t o e h = no h

  pub unit_taken : (t : Typ) → form_unit (out-Typ t) ≡ true → AllBelong set.around.types mu [] (parameters_of t) (V.Unit ∷ [])
  unit_taken t h = unit_alone t (out-Typ t) refl h

  both_belong : (hart entry : ℕ) → hart < 8 → (ts : List Typ) → are_hart_and_address ts ≡ true
      → AllBelong set.around.types mu [] ts (reset_arguments hart entry)
  both_belong hart entry less [] h = no h
  both_belong hart entry less (t ∷ []) h = no h
  both_belong hart entry less (t ∷ u ∷ []) h =
      let k = and_parts (form_hart (out-Typ t)) (form_address (out-Typ u)) h in (
        hart_belongs set.around.types mu (closeds []) hart less t (out-Typ t) refl k.0,
        (address_belongs set.around.types mu (closeds []) entry u (out-Typ u) refl k.1, tt),
      )
  both_belong hart entry less (t ∷ u ∷ v ∷ ts) h = no h

  start_alone : (hart entry : ℕ) → hart < 8 → (t : Typ) (o : Typ-F Typ) → form_start o ≡ true
      → AllBelong set.around.types mu [] (parameters_form t o) (reset_arguments hart entry)
  start_alone hart entry less t (T.Tuple ts) h = both_belong hart entry less ts h
  start_alone hart entry less t o h = no h

  pub start_taken : (hart entry : ℕ) → hart < 8 → (t : Typ) → form_start (out-Typ t) ≡ true
      → AllBelong set.around.types mu [] (parameters_of t) (reset_arguments hart entry)
  start_taken hart entry less t h = start_alone hart entry less t (out-Typ t) h
