-- The ends of values.
use Rattle.std.specs.Prelude.{Bool, List, None, Option, Some, false, true, ℕ, [], ◌||◌, ◌∷◌}
use Rattle.sail_base.specs.declared.place.Place.{Place}
use Rattle.sail_types.specs.declared.numbers.Num.{Num}
use Rattle.value_indices.specs.Opening.{opened}
use Rattle.value_indices.specs.Steps.{Walk, bind, give, note, size_note, wrong}
use Rattle.value_indices.specs.declared.indices.Indices.{Indices, out-Indices}
use Rattle.value_indices.specs.declared.indices.Indices.TheOpen as W
use Rattle.value_indices.specs.declared.indices.Indices.TheOpen.{Indices-F}
use Rattle.value_indices.specs.declared.indices.Indices.TheVariants as I
use Rattle.value_indices.specs.declared.indices.Reading.{Reading}
use Rattle.value_indices.specs.declared.notes.Made.TheVariants as Makes
use Rattle.value_fits.specs.Fitting.{fits, owe_fit, says}
use Rattle.value_fits.specs.declared.fitted.Fitted.{Fitted}
use Rattle.pattern_leaves.specs.Settings.{Around}
use Rattle.call_arguments.specs.declared.aims.Aim.{Aim}
use Rattle.call_arguments.specs.declared.aims.Aim.TheVariants as Aims

-- the end of an expression of which a type may be wanted
abbrev pub settled : Around → Place → Aim → Indices → Walk Indices
settled around place (Aims.Due r) i = bind (owe_fit place (fits around.types i r)) (λ t. give i)
settled around place aim i = give i

-- a value of a type, opened; its sizes are read before
abbrev pub sized_by : Place → Reading → Walk (Unit {0})
sized_by place r = note (λ facts. size_note facts place (Makes.ByType r))

abbrev pub sized : Place → Indices → Walk (Unit {0})
sized place i = note (λ facts. size_note facts place (Makes.ByIndices i))

abbrev pub opened_at : Place → Reading → Walk Indices
opened_at place r = bind (sized_by place r) (λ t. opened r)

-- what has to fit, unless it is owed further in
abbrev pub fits_unless : Bool → Around → Indices → Reading → ℕ → Fitted
fits_unless true around i r n = says [] n
fits_unless false around i r n = fits around.types i r n

-- ---- parts of this form

abbrev pub wrong_value : Place → Walk Indices
wrong_value place = bind (wrong place) (λ t. give I.Never)

-- of what never ends normally there is no value
abbrev pub never_value : Walk Indices
never_value = give I.Never

abbrev pub is_never_form : Indices-F Indices Reading → Bool
is_never_form W.Never = true
is_never_form i = false

abbrev pub is_never : Indices → Bool
is_never i = is_never_form (out-Indices i)

abbrev pub any_never : List Indices → Bool
any_never [] = false
any_never (i ∷ is) = is_never i || any_never is

abbrev pub with_form : Place → Indices-F Indices Reading → (Num → Walk Indices) → Walk Indices
with_form place (W.Integer n) next = next n
with_form place W.Never next = never_value
with_form place i next = wrong_value place

-- an integer's number
abbrev pub with_integer : Place → Indices → (Num → Walk Indices) → Walk Indices
with_integer place i next = with_form place (out-Indices i) next

-- the number alone; none of what never ends normally, and of what is no integer, which owes what is false
abbrev pub number_form : Place → Indices-F Indices Reading → Walk (Option Num)
number_form place (W.Integer n) = give (Some n)
number_form place W.Never = give None
number_form place i = bind (wrong place) (λ t. give None)

abbrev pub integer_number : Place → Indices → Walk (Option Num)
integer_number place i = number_form place (out-Indices i)

-- what is done with it
abbrev pub then_integer : (Num → Walk Indices) → Option Num → Walk Indices
then_integer next None = never_value
then_integer next (Some n) = next n
