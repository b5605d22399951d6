-- What is said of a way is true, condition by condition.
use Rattle.std.proofs.Common.{◌≡◌, ℕ, zero, suc, ◌<◌, ℤ, pos, negsuc, int_le, Bool, true, ◌&&◌, List, [], ◌∷◌, map, length, slice_get}
use Rattle.std.proofs.Common.{Some, refl, sym, ap, ◌∙◌, arith}
use Rattle.std.proofs.lemmas.Bool.{and_parts}
use Rattle.std.proofs.lemmas.Int.{ints}
use Rattle.std.specs.Prelude.{int_lt}
use Rattle.std.specs.List.{list_all}
use Rattle.sail_types.specs.Numbers.{Assignment, number, true_in, form_true}
use Rattle.sail_types.specs.declared.numbers.Comparison.TheVariants as Is
use Rattle.sail_types.specs.declared.numbers.Con.{Con, fold-roll-Con}
use Rattle.sail_types.specs.declared.numbers.Con.TheOpen as F
use Rattle.sail_types.specs.declared.numbers.Con.TheVariants as C
use Rattle.sail_types.specs.declared.numbers.Num.{Num}
use Rattle.sail_types.proofs.Substituted.{number_constant}
use Rattle.value_indices.specs.Opening.{at_most}
use Rattle.expression_forms.specs.Ways.{less, inside_length, inside_slice}
use Rattle.sail_types.specs.Sums.{zero_num}
use Rattle.value_laws.proofs.Numbers.{at_most_is}
use Rattle.way_laws.specs.Laws.{AreTrue}

-- an item that is inside
pub there : {A : Type 0} (xs : List A) (k : ℕ) → k < length xs → (x : A) × (slice_get xs k ≡ Some x)
there [] k lt = absurd (omega (arith, lt))
there (x ∷ xs) zero lt = (x, refl)
there (x ∷ xs) (suc k) lt = there xs k (omega (arith, lt))

module _ (mu : Assignment) where
  all_is : (cs : List Con) → true_in mu (C.All cs) ≡ list_all (λ b. b) (map (true_in mu) cs)
  all_is cs = ap (true_in mu) (sym (C.rolls-All cs)) ∙ fold-roll-Con Bool (form_true mu) (F.All cs)

  -- where nothing has to be
  pub none_needed : AreTrue mu []
  none_needed = all_is []

  less_is : (t u : Num) → true_in mu (less t u) ≡ int_lt (number mu t) (number mu u)
  less_is t u = ap (true_in mu) (sym (C.rolls-Compare Is.Less t u)) ∙ fold-roll-Con Bool (form_true mu) (F.Compare Is.Less t u)

  from_zero : (t : Num) → true_in mu (at_most zero_num t) ≡ int_le (pos 0) (number mu t)
  from_zero t = at_most_is mu zero_num t ∙ ap (λ z. int_le z (number mu t)) (number_constant mu (pos 0))

  -- of an index
  pub index_inside : (t n : Num) → AreTrue mu (inside_length t n)
      → (int_le (pos 0) (number mu t) ≡ true) × (int_lt (number mu t) (number mu n) ≡ true)
  index_inside t n h =
      let first = and_parts (true_in mu (at_most zero_num t)) (true_in mu (less t n) && true)
      (sym (all_is (at_most zero_num t ∷ less t n ∷ [])) ∙ h) in
      let second = and_parts (true_in mu (less t n)) true first.1 in
      (sym (from_zero t) ∙ first.0, sym (less_is t n) ∙ second.0)

  -- of a slice
  pub slice_inside : (hi lo n : Num) → AreTrue mu (inside_slice hi lo n)
      → (int_le (pos 0) (number mu lo) ≡ true) × (int_le (number mu lo) (number mu hi) ≡ true) × (int_lt (number mu hi) (number mu n) ≡ true)
  slice_inside hi lo n h =
      let first = and_parts (true_in mu (at_most zero_num lo)) (true_in mu (at_most lo hi) && (true_in mu (less hi n) && true))
      (sym (all_is (at_most zero_num lo ∷ at_most lo hi ∷ less hi n ∷ [])) ∙ h) in
      let second = and_parts (true_in mu (at_most lo hi)) (true_in mu (less hi n) && true) first.1 in
      let third = and_parts (true_in mu (less hi n)) true second.1 in
      (sym (from_zero lo) ∙ first.0, sym (at_most_is mu lo hi) ∙ second.0, sym (less_is hi n) ∙ third.0)

-- ---- integers that are inside a length

pub natural_inside : (z : ℤ) (n : ℕ) → int_le (pos 0) z ≡ true → int_lt z (pos n) ≡ true → (k : ℕ) × (z ≡ pos k) × (k < n)
natural_inside (pos k) n low high = (k, refl, omega (arith, ints, high))
natural_inside (negsuc k) n low high = absurd (omega (arith, ints, low))
