-- Calls of builtins, by the table of the builtins (Sail language manual, "Integers", "Bitvectors").
use Rattle.std.specs.Prelude.{List, None, Option, Some, false, if◌then◌else◌, map, slice_get, true, ℕ, [], ◌++◌, ◌∷◌}
use Rattle.sail_base.specs.declared.place.Place.{Place}
use Rattle.sail_types.specs.Readings.{read_con}
use Rattle.sail_types.specs.Sums.{product, read, variable, zero_num}
use Rattle.sail_types.specs.declared.numbers.Con.{Con}
use Rattle.sail_types.specs.declared.numbers.Index.{Index}
use Rattle.sail_types.specs.declared.numbers.Index.TheVariants as N
use Rattle.sail_types.specs.declared.numbers.Num.{Num}
use Rattle.sail_types.specs.declared.rows.Row.{Row}
use Rattle.sail_types.specs.declared.shapes.Shape.{Shape}
use Rattle.sail_types.specs.declared.shapes.Shape.TheVariants as V
use Rattle.sail_types.specs.declared.table.Types.{Types}
use Rattle.row_types.specs.RowTypes.{row_type}
use Rattle.row_types.specs.declared.kinds.Outcome.{Outcome}
use Rattle.row_types.specs.declared.kinds.Outcome.TheVariants as O
use Rattle.row_types.specs.declared.kinds.Product.{Product}
use Rattle.row_types.specs.declared.kinds.Product.TheVariants as P
use Rattle.row_types.specs.declared.kinds.RowType.{RowType}
use Rattle.value_indices.specs.Opening.{any_truth, bits_of, bound_above, bound_below, number_or_fresh, truth_or_fresh, vector_of}
use Rattle.value_indices.specs.Steps.{Conditions, Walk, assume_all, assume_if, bind, fresh, give, owe}
use Rattle.value_indices.specs.declared.indices.Indices.{Indices, out-Indices}
use Rattle.value_indices.specs.declared.indices.Indices.TheOpen as W
use Rattle.value_indices.specs.declared.indices.Indices.TheOpen.{Indices-F}
use Rattle.value_indices.specs.declared.indices.Indices.TheVariants as I
use Rattle.value_indices.specs.declared.indices.Naming.TheVariants as M
use Rattle.value_indices.specs.declared.indices.Reading.{Reading}
use Rattle.value_indices.specs.declared.indices.Reading.TheVariants as R
use Rattle.call_arguments.specs.Widening.{is_below, is_con_below, widened}
use Rattle.call_notes.specs.Ends.{any_never, never_value, sized, wrong_value}
use Rattle.call_notes.specs.Taken.{takes}
use Rattle.call_notes.specs.declared.numbers.Numbers.{Numbers}

-- ---- what the variables of a row stand for: the numbers of the arguments, that of the result, and the product

abbrev pub zero_index : Index
zero_index = N.Number zero_num

abbrev pub form_index : Indices-F Indices Reading → Index
form_index (W.Integer n) = N.Number n
form_index (W.Bits w) = N.Number w
form_index (W.Vector n r) = N.Number n
form_index (W.Truth c) = N.Truth c
form_index i = zero_index

abbrev pub argument_index : Indices → Index
argument_index i = form_index (out-Indices i)

abbrev pub three_indices : List Index → List Index
three_indices [] = zero_index ∷ zero_index ∷ zero_index ∷ []
three_indices (a ∷ []) = a ∷ zero_index ∷ zero_index ∷ []
three_indices (a ∷ b ∷ []) = a ∷ b ∷ zero_index ∷ []
three_indices (a ∷ b ∷ c ∷ more) = a ∷ b ∷ c ∷ []

-- what stands for the argument at a position
abbrev pub index_or_zero : Option Indices → Index
index_or_zero None = zero_index
index_or_zero (Some i) = argument_index i

abbrev pub index_at : List Indices → ℕ → Index
index_at args k = index_or_zero (slice_get args k)

abbrev pub index_number : Option Index → Num
index_number (Some (N.Number n)) = n
index_number index = zero_num

abbrev pub number_of : List Index → ℕ → Num
number_of is i = index_number (slice_get is i)

abbrev pub with_product : List Index → Num → Option Num → Numbers
with_product is answer None = record { indices = is ++ N.Number answer ∷ zero_index ∷ []; has_product = false }
with_product is answer (Some p) = record { indices = is ++ N.Number answer ∷ N.Number p ∷ []; has_product = true }

abbrev pub product_of : Product → List Index → Num → Option Num
product_of P.Nothing is answer = Some zero_num
product_of P.OfArguments is answer = product (number_of is 0) (number_of is 1)
product_of P.OfResult is answer = product (number_of is 1) answer

abbrev pub numbers_under : Product → List Index → Num → Numbers
numbers_under p is answer = with_product is answer (product_of p is answer)

-- what names a product that can't be said can't be said
abbrev pub number_in : Numbers → Num → Option Num
number_in ns t = if ns.has_product then read ns.indices t else (if is_below 4 t then read ns.indices t else None)

abbrev pub condition_in : Numbers → Con → Option Con
condition_in ns c = if ns.has_product then read_con ns.indices c else (if is_con_below 4 c then read_con ns.indices c else None)

abbrev pub conditions_in : Numbers → List Con → Conditions
conditions_in ns cs = map (condition_in ns) cs

-- ---- what a call owes: false, where it is a product of two variables

abbrev pub false_alone : Conditions
false_alone = None ∷ []

abbrev pub owed_by : Product → Numbers → List Con → Conditions
owed_by P.OfArguments ns cs = if ns.has_product then conditions_in ns cs else false_alone
owed_by p ns cs = conditions_in ns cs

-- ---- the result, opened

abbrev pub second_of : List Indices → Reading
second_of (a ∷ b ∷ more) = widened b
second_of is = R.Hole

abbrev pub bits_at : Place → Num → Walk Indices
bits_at place t = bind (sized place (I.Bits t)) (λ x. bits_of t)

abbrev pub vector_at : Place → Reading → Num → Walk Indices
vector_at place item t = bind (sized place (I.Vector t item)) (λ x. vector_of item t)

abbrev pub fresh_result : Product → List Index → Num → Num → List Con → Walk Indices
fresh_result p is low high cs =
    bind fresh (λ v.
    bind (assume_if (bound_below (number_in (numbers_under p is (variable v)) low) (variable v))) (λ x.
    bind (assume_if (bound_above (variable v) (number_in (numbers_under p is (variable v)) high))) (λ y.
    bind (assume_all (conditions_in (numbers_under p is (variable v)) cs)) (λ z. give (I.Integer (variable v))))))

abbrev pub outcome : Place → Product → List Index → List Indices → Numbers → Outcome → Walk Indices
outcome place p is args ns (O.Integer t) = bind (number_or_fresh (number_in ns t)) (λ n. give (I.Integer n))
outcome place p is args ns (O.Fresh low high cs) = fresh_result p is low high cs
outcome place p is args ns (O.Truth c) = bind (truth_or_fresh (condition_in ns c)) (λ d. give (I.Truth d))
outcome place p is args ns O.Bool = any_truth M.Unnamed
outcome place p is args ns (O.Bits t) = bind (number_or_fresh (number_in ns t)) (bits_at place)
outcome place p is args ns (O.Vector t) = bind (number_or_fresh (number_in ns t)) (vector_at place (second_of args))
outcome place p is args ns O.String = give I.String
outcome place p is args ns O.Unit = give I.Unit

-- ---- calls

-- what the table asks of the shape of the first argument
abbrev pub form_shape : Indices-F Indices Reading → Shape
form_shape (W.Integer n) = V.Int
form_shape (W.Bits w) = V.Bits
form_shape i = V.Unit

abbrev pub argument_shape : Indices → Shape
argument_shape i = form_shape (out-Indices i)

abbrev pub first_shape : List Indices → Shape
first_shape [] = V.Unit
first_shape (i ∷ is) = argument_shape i

abbrev pub row_under : Place → RowType → List Index → List Indices → Walk Indices
row_under place row is args =
    bind (owe place (owed_by row.product (numbers_under row.product is zero_num) row.conditions)) (λ t.
    outcome place row.product is args (numbers_under row.product is zero_num) row.outcome)

-- on arguments that the builtin takes
abbrev pub taken_call : Place → Row → List Indices → Walk Indices
taken_call place row args = row_under place (row_type row (first_shape args)) (three_indices (map argument_index args)) args

-- a call of a builtin at a place; on other arguments it owes what is false
abbrev pub row_call : Types → Place → Row → List Indices → Walk Indices
row_call types place row args =
    if any_never args then never_value
    else (if takes types row args then taken_call place row args else wrong_value place)
