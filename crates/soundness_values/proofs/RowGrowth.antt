-- The walk of a call of a builtin: what was in force still is.
use Rattle.std.proofs.Common.{Bool, true, false, List, [], ◌∷◌, Option, Some, None}
use Rattle.std.proofs.Common.{if◌then◌else◌}
use Rattle.sail_base.specs.declared.place.Place.{Place}
use Rattle.sail_types.specs.Sums.{variable}
use Rattle.sail_types.specs.declared.numbers.Con.{Con}
use Rattle.sail_types.specs.declared.numbers.Con.TheVariants as C
use Rattle.sail_types.specs.declared.numbers.Index.{Index}
use Rattle.sail_types.specs.declared.numbers.Num.{Num}
use Rattle.sail_types.specs.declared.rows.Row.{Row}
use Rattle.sail_types.specs.declared.table.Types.{Types}
use Rattle.row_types.specs.declared.kinds.Outcome.{Outcome}
use Rattle.row_types.specs.declared.kinds.Outcome.TheVariants as O
use Rattle.row_types.specs.declared.kinds.Product.{Product}
use Rattle.value_indices.specs.declared.indices.Indices.{Indices}
use Rattle.value_indices.specs.declared.indices.Indices.TheVariants as I
use Rattle.value_indices.specs.declared.indices.Naming.TheVariants as M
use Rattle.value_indices.specs.declared.indices.Reading.{Reading}
use Rattle.value_indices.specs.declared.notes.Made.TheVariants as Makes
use Rattle.value_indices.specs.Opening.{between, bits_of, fresh_integer, number_or_fresh, truth_or_fresh, vector_of}
use Rattle.value_indices.specs.Steps.{Conditions, assume_all, fresh, size_note}
use Rattle.call_notes.specs.Ends.{any_never, never_value, sized, wrong_value}
use Rattle.call_notes.specs.Rows.{bits_at, fresh_result, outcome, row_call, taken_call, vector_at}
use Rattle.call_notes.specs.Taken.{takes}
use Rattle.call_notes.specs.declared.numbers.Numbers.{Numbers}
use Rattle.soundness_steps.specs.Steps.{Grows}
use Rattle.soundness_forms.proofs.Growth.{grows_assume, grows_bind, grows_give, grows_note, grows_owe, grows_wrong}
use Rattle.soundness_values.proofs.Filled.{any_truth_grows, grows_fresh, if_grows}

between_grows : (low t high : Num) → Grows (between low t high)
unfolding between
between_grows low t high = grows_bind _ _ (grows_assume _) (λ x. grows_assume _)

integer_grows : Grows fresh_integer
unfolding fresh_integer
integer_grows = grows_bind fresh _ grows_fresh (λ v. grows_bind _ _ (between_grows _ _ _) (λ x. grows_give (variable v)))

number_grows : (o : Option Num) → Grows (number_or_fresh o)
unfolding number_or_fresh
number_grows None = integer_grows
number_grows (Some t) = grows_give t

truth_grows : (o : Option Con) → Grows (truth_or_fresh o)
unfolding truth_or_fresh
truth_grows None = grows_bind fresh _ grows_fresh (λ p. grows_give (C.Holds p))
truth_grows (Some c) = grows_give c

all_grow : (cs : Conditions) → Grows (assume_all cs)
all_grow [] = grows_give tt
all_grow (c ∷ cs) = grows_bind _ _ (if_grows c) (λ t. all_grow cs)

bits_grow : (place : Place) (t : Num) → Grows (bits_at place t)
unfolding bits_of
bits_grow place t = grows_bind (sized place (I.Bits t)) _ (grows_note (λ facts. size_note facts place (Makes.ByIndices (I.Bits t)))) (λ x.
    grows_bind _ _ (between_grows _ t _) (λ y. grows_give (I.Bits t)))

vector_grows : (place : Place) (r : Reading) (t : Num) → Grows (vector_at place r t)
unfolding vector_of
vector_grows place r t = grows_bind (sized place (I.Vector t r)) _ (grows_note (λ facts. size_note facts place (Makes.ByIndices (I.Vector t r)))) (λ x.
    grows_bind _ _ (between_grows _ t _) (λ y. grows_give (I.Vector t r)))

fresh_grows : (p : Product) (is : List Index) (low high : Num) (cs : List Con) → Grows (fresh_result p is low high cs)
fresh_grows p is low high cs = grows_bind fresh _ grows_fresh (λ v. grows_bind _ _ (if_grows _) (λ x. grows_bind _ _ (if_grows _) (λ y.
    grows_bind _ _ (all_grow _) (λ z. grows_give (I.Integer (variable v))))))

outcome_grows : (place : Place) (p : Product) (is : List Index) (args : List Indices) (ns : Numbers) (o : Outcome) → Grows (outcome place p is args ns o)
outcome_grows place p is args ns (O.Integer t) = grows_bind _ _ (number_grows _) (λ n. grows_give (I.Integer n))
outcome_grows place p is args ns (O.Fresh low high cs) = fresh_grows p is low high cs
outcome_grows place p is args ns (O.Truth c) = grows_bind _ _ (truth_grows _) (λ d. grows_give (I.Truth d))
outcome_grows place p is args ns O.Bool = any_truth_grows M.Unnamed
outcome_grows place p is args ns (O.Bits t) = grows_bind _ _ (number_grows _) (bits_grow place)
outcome_grows place p is args ns (O.Vector t) = grows_bind _ _ (number_grows _) (vector_grows place _)
outcome_grows place p is args ns O.String = grows_give I.String
outcome_grows place p is args ns O.Unit = grows_give I.Unit

taken_grows : (place : Place) (row : Row) (args : List Indices) → Grows (taken_call place row args)
taken_grows place row args = grows_bind _ _ (grows_owe place _) (λ t. outcome_grows place _ _ args _ _)

pub row_call_grows : (types : Types) (place : Place) (row : Row) (args : List Indices) → Grows (row_call types place row args)
row_call_grows types place row args = by (any_never args) (takes types row args)
  where
    by : (b c : Bool) → Grows (if b then never_value else (if c then taken_call place row args else wrong_value place))
    by true c = grows_give I.Never
    by false true = taken_grows place row args
    by false false = grows_wrong place
