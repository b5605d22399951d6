-- Under a binder, arguments mean what they mean outside of it, and what it binds is what it stands for.
use Rattle.std.proofs.Common.{◌≡◌, ℕ, zero, suc, ◌+◌, List, [], ◌∷◌, map, ap, sym, ◌∙◌, false, arith}
use Rattle.std.proofs.Math.Numerals.{add-one}
use Rattle.std.proofs.lemmas.Bool.{le-ltb}
use Rattle.std.specs.Prelude.{ℤ, pos, nat_lt, cond, Option, Some, None}
use Rattle.sail_types.specs.Before.{beyond_of}
use Rattle.sail_types.specs.Belongs.{assigned, under, int_under, bool_under, number_under}
use Rattle.sail_types.specs.Numbers.{Assignment, number, true_in}
use Rattle.sail_types.specs.Readings.{together, read_con, truth_at, truth_or_false}
use Rattle.sail_types.specs.Sums.{constant, number_at, number_or_zero, read, substituted, variable, zero_num}
use Rattle.sail_types.specs.declared.numbers.Con.{Con}
use Rattle.sail_types.specs.declared.numbers.Con.TheVariants as V
use Rattle.sail_types.specs.declared.numbers.Index.{Index}
use Rattle.sail_types.specs.declared.numbers.Index.TheVariants as I
use Rattle.sail_types.specs.declared.numbers.Num.{Num}
use Rattle.sail_types.specs.declared.numbers.Atom.TheVariants as A
use Rattle.sail_types.proofs.Substituted.{number_atom, number_constant, atom_variable}
use Rattle.type_arguments.specs.Applied.{inside_indices}
use Rattle.type_arguments.specs.Moved.{moved_num, moved_con, moved_index}
use Rattle.type_arguments.specs.laws.Outside.{from_inside, outside}
use Rattle.type_arguments.specs.laws.Steady.{IsSteady}
use Rattle.type_arguments.proofs.Makings.{map_parts, more_parts, nothing_made}
use Rattle.type_arguments.proofs.Moves.{moved_number, moved_true}
use Rattle.type_arguments.proofs.Truths.{true_truth, read_number, read_true}

none_below : (i : ℕ) → nat_lt i 0 ≡ false
none_below i = le-ltb i 0 (omega arith)

module _ (nu : Assignment) (steady : IsSteady nu) (z : ℤ) where
  beyond_steady : (o : Option Num) (t : Num) → beyond_of nu o ≡ nu.beyond t
  beyond_steady None t = steady (constant (pos 0)) t
  beyond_steady (Some u) t = steady u t

  under_steady : (o : Option Num) (t : Num) → beyond_of (under z nu) o ≡ nu.beyond t
  under_steady None t = beyond_steady (substituted (number_under z) (constant (pos 0))) t
  under_steady (Some u) t = beyond_steady (substituted (number_under z) u) t

  -- ---- outside of the binder

  is_past : (i : ℕ) → from_inside 0 i ≡ suc i
  is_past i = ap (λ b. cond b i (i + 1)) (none_below i) ∙ add-one i

  outside_is : outside 0 (under z nu) ≡ nu
  outside_is = λ j. record {
    int = λ i. int_under z nu.int (is_past i j);
    bool = λ i. bool_under nu.bool (is_past i j);
    beyond = λ t. under_steady (moved_num 0 t) t j;
  }

  -- ---- the arguments

  inner_number : (n m : Num) → moved_num 0 n ≡ Some m → number (under z nu) m ≡ number nu n
  inner_number n m h = moved_number 0 (under z nu) n m h ∙ ap (λ mu. number mu n) outside_is

  inner_truth : (c d : Con) → moved_con 0 c ≡ Some d → true_in (under z nu) d ≡ true_in nu c
  inner_truth c d h = moved_true 0 (under z nu) c d h ∙ ap (λ mu. true_in mu c) outside_is

  no_number : number (under z nu) zero_num ≡ number nu zero_num
  no_number = number_constant (under z nu) (pos 0) ∙ sym (number_constant nu (pos 0))

  no_truth : true_in (under z nu) (V.Truth false) ≡ true_in nu (V.Truth false)
  no_truth = true_truth (under z nu) false ∙ sym (true_truth nu false)

  number_of : (i j : Index) → moved_index 0 i ≡ Some j → number (under z nu) (number_or_zero (Some j)) ≡ number nu (number_or_zero (Some i))
  number_of (I.Number n) j h =
      let k = map_parts I.Number (moved_num 0 n) j h in
      ap (λ x. number (under z nu) (number_or_zero (Some x))) (sym k.2) ∙ inner_number n k.0 k.1
  number_of (I.Truth c) j h =
      let k = map_parts I.Truth (moved_con 0 c) j h in
      ap (λ x. number (under z nu) (number_or_zero (Some x))) (sym k.2) ∙ no_number

  truth_of : (i j : Index) → moved_index 0 i ≡ Some j → true_in (under z nu) (truth_or_false (Some j)) ≡ true_in nu (truth_or_false (Some i))
  truth_of (I.Number n) j h =
      let k = map_parts I.Number (moved_num 0 n) j h in
      ap (λ x. true_in (under z nu) (truth_or_false (Some x))) (sym k.2) ∙ no_truth
  truth_of (I.Truth c) j h =
      let k = map_parts I.Truth (moved_con 0 c) j h in
      ap (λ x. true_in (under z nu) (truth_or_false (Some x))) (sym k.2) ∙ inner_truth c k.0 k.1

  numbers_at : (is js : List Index) (i : ℕ) → together (map (moved_index 0) is) ≡ Some js
      → number (under z nu) (number_at js i) ≡ number nu (number_at is i)
  numbers_at [] js i h = ap (λ xs. number (under z nu) (number_at xs i)) (sym (nothing_made js h)) ∙ no_number
  numbers_at (x ∷ is) js zero h =
      let k = more_parts (moved_index 0 x) (together (map (moved_index 0) is)) js h in
      ap (λ xs. number (under z nu) (number_at xs 0)) (sym k.4) ∙ number_of x k.0 k.2
  numbers_at (x ∷ is) js (suc i) h =
      let k = more_parts (moved_index 0 x) (together (map (moved_index 0) is)) js h in
      ap (λ xs. number (under z nu) (number_at xs (suc i))) (sym k.4) ∙ numbers_at is k.1 i k.3

  truths_at : (is js : List Index) (i : ℕ) → together (map (moved_index 0) is) ≡ Some js
      → true_in (under z nu) (truth_at js i) ≡ true_in nu (truth_at is i)
  truths_at [] js i h = ap (λ xs. true_in (under z nu) (truth_at xs i)) (sym (nothing_made js h)) ∙ no_truth
  truths_at (x ∷ is) js zero h =
      let k = more_parts (moved_index 0 x) (together (map (moved_index 0) is)) js h in
      ap (λ xs. true_in (under z nu) (truth_at xs 0)) (sym k.4) ∙ truth_of x k.0 k.2
  truths_at (x ∷ is) js (suc i) h =
      let k = more_parts (moved_index 0 x) (together (map (moved_index 0) is)) js h in
      ap (λ xs. true_in (under z nu) (truth_at xs (suc i))) (sym k.4) ∙ truths_at is k.1 i k.3

  -- ---- what the variables inside stand for

  int_at : (is js : List Index) → together (map (moved_index 0) is) ≡ Some js → (i : ℕ)
      → number (under z nu) (number_at (I.Number (variable 0) ∷ js) i) ≡ int_under z (assigned nu is).int i
  int_at is js h zero = number_atom (under z nu) (A.Variable 0) ∙ atom_variable (under z nu) 0
  int_at is js h (suc i) = numbers_at is js i h

  bool_at : (is js : List Index) → together (map (moved_index 0) is) ≡ Some js → (i : ℕ)
      → true_in (under z nu) (truth_at (I.Number (variable 0) ∷ js) i) ≡ bool_under (assigned nu is).bool i
  bool_at is js h zero = true_truth (under z nu) false
  bool_at is js h (suc i) = truths_at is js i h

  assigned_steady : (is : List Index) (o : Option Num) (t : Num) → beyond_of (assigned nu is) o ≡ nu.beyond t
  assigned_steady is None t = beyond_steady (read is (constant (pos 0))) t
  assigned_steady is (Some u) t = beyond_steady (read is u) t

  assigned_inside : (is js : List Index) → inside_indices is ≡ Some js → assigned (under z nu) js ≡ under z (assigned nu is)
  assigned_inside is js h =
      let k = map_parts (λ ms. I.Number (variable 0) ∷ ms) (together (map (moved_index 0) is)) js h in
      ap (assigned (under z nu)) (sym k.2)
      ∙ (λ j. record {
        int = λ i. int_at is k.0 k.1 i j;
        bool = λ i. bool_at is k.0 k.1 i j;
        beyond = λ t. (under_steady (read (I.Number (variable 0) ∷ k.0) t) t ∙ sym (assigned_steady is (substituted (number_under z) t) t)) j;
      })

  pub number_inside : (is js : List Index) (n m : Num) → inside_indices is ≡ Some js → read js n ≡ Some m
      → number (under z nu) m ≡ number (under z (assigned nu is)) n
  number_inside is js n m h e = read_number js (under z nu) n m e ∙ ap (λ mu. number mu n) (assigned_inside is js h)

  pub true_inside : (is js : List Index) (c d : Con) → inside_indices is ≡ Some js → read_con js c ≡ Some d
      → true_in (under z nu) d ≡ true_in (under z (assigned nu is)) c
  true_inside is js c d h e = read_true js (under z nu) c d e ∙ ap (λ mu. true_in mu c) (assigned_inside is js h)
