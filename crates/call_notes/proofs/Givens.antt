-- The numbers that a value gives, by its form.
use Rattle.std.proofs.Common.{◌≡◌, ◌∙◌, ◌<◌, ◌≤◌, ◌+◌, ap, sym, ℕ, List, length, drop, get_or, map}
use Rattle.sail_types.specs.declared.numbers.Num.{Num}
use Rattle.value_indices.specs.Steps.{Walk, give}
use Rattle.value_indices.specs.Walking.{Written, run}
use Rattle.value_indices.specs.declared.indices.Indices.{Indices, out-Indices, roll-Indices}
use Rattle.value_indices.specs.declared.indices.Indices.TheFolds.{fold-roll-Indices, map-Indices}
use Rattle.value_indices.specs.declared.indices.Indices.TheOpen as W
use Rattle.value_indices.specs.declared.indices.Indices.TheOpen.{Indices-F}
use Rattle.value_indices.specs.declared.indices.Indices.TheVariants as I
use Rattle.value_indices.specs.declared.indices.Indices.TheViews.{roll-out-Indices}
use Rattle.value_indices.specs.declared.indices.Reading.{Reading, fold-Reading}
use Rattle.value_indices.proofs.Walks.{run_bind, run_give}
use Rattle.pattern_leaves.proofs.Rests.{rest_is, all_behind}
use Rattle.call_arguments.specs.Placing.{variable_in}
use Rattle.call_notes.specs.Noted.{all_given, form_given, number_given, numbers_given, type_given}

abbrev types_given : Reading → Walk (Unit {0})
types_given = fold-Reading (Walk (Unit {0})) (Walk (Unit {0})) form_given type_given

value_given : (x : Indices-F Indices Reading) (i : Indices) → i ≡ roll-Indices x
    → numbers_given i ≡ form_given (map-Indices Indices Reading (Walk (Unit {0})) (Walk (Unit {0})) numbers_given types_given x)
value_given x i is = ap numbers_given is ∙ fold-roll-Indices (Walk (Unit {0})) (Walk (Unit {0})) form_given type_given x

pub integer_given : (i : Indices) (n : Num) → i ≡ I.Integer n → numbers_given i ≡ number_given (variable_in n)
integer_given i n is = value_given (W.Integer n) i (is ∙ sym (I.rolls-Integer n))

pub bits_given : (i : Indices) (n : Num) → i ≡ I.Bits n → numbers_given i ≡ number_given (variable_in n)
bits_given i n is = value_given (W.Bits n) i (is ∙ sym (I.rolls-Bits n))

pub vector_given : (i : Indices) (n : Num) (r : Reading) → i ≡ I.Vector n r → numbers_given i ≡ number_given (variable_in n)
vector_given i n r is = value_given (W.Vector n r) i (is ∙ sym (I.rolls-Vector n r))

pub tuple_given : (i : Indices) (is js : List Indices) → i ≡ I.Tuple is → js ≡ is → numbers_given i ≡ all_given (map numbers_given js)
tuple_given i is js at same =
    value_given (W.Tuple is) i (at ∙ sym (I.rolls-Tuple is)) ∙ ap (λ (ks : List Indices). all_given (map numbers_given ks)) (sym same)

other_form : (x : Indices-F Indices Reading) (i : Indices) → i ≡ roll-Indices x → ((n : Num) → i ≡ I.Integer n → ⊥)
    → ((n : Num) → i ≡ I.Bits n → ⊥) → ((n : Num) (r : Reading) → i ≡ I.Vector n r → ⊥) → ((is : List Indices) → i ≡ I.Tuple is → ⊥)
    → numbers_given i ≡ give tt
other_form (W.Integer n) i at integer bits vector tuple = absurd (integer n (at ∙ I.rolls-Integer n))
other_form (W.Bits n) i at integer bits vector tuple = absurd (bits n (at ∙ I.rolls-Bits n))
other_form (W.Vector n r) i at integer bits vector tuple = absurd (vector n r (at ∙ I.rolls-Vector n r))
other_form (W.Tuple is) i at integer bits vector tuple = absurd (tuple is (at ∙ I.rolls-Tuple is))
other_form x i at integer bits vector tuple = value_given x i at

-- a value that gives none
pub none_given : (i : Indices) (w : Written) → ((n : Num) → i ≡ I.Integer n → ⊥) → ((n : Num) → i ≡ I.Bits n → ⊥)
    → ((n : Num) (r : Reading) → i ≡ I.Vector n r → ⊥) → ((is : List Indices) → i ≡ I.Tuple is → ⊥) → w ≡ run (numbers_given i) w
none_given i w integer bits vector tuple =
    sym (ap (λ (a : Walk (Unit {0})). run a w) (other_form (out-Indices i) i (sym (roll-out-Indices i)) integer bits vector tuple) ∙ run_give tt w)

-- ---- one part after the other

pub given_more : (is : List Indices) (k : ℕ) (i : Indices) (w v : Written) → k < length is → i ≡ get_or is k i → v ≡ run (numbers_given i) w
    → run (all_given (map numbers_given (drop (k + 1) is))) v ≡ run (all_given (map numbers_given (drop k is))) w
given_more is k i w v within at was =
    let rest = all_given (map numbers_given (drop (k + 1) is)) in
    ap (run rest) was ∙ sym (run_bind (numbers_given i) (λ t. rest) w)
    ∙ sym (λ j. run (all_given (map numbers_given (rest_is is k i within at j))) w)

pub given_end : (is : List Indices) (k : ℕ) (w : Written) → length is ≤ k → run (all_given (map numbers_given (drop k is))) w ≡ w
given_end is k w past = (λ j. run (all_given (map numbers_given (all_behind is k past j))) w) ∙ run_give tt w
