-- Where ways meet: what a later way owes of the first, and the value of all (Sail language manual, "Conditionals", "Pattern matching",
-- "Exceptions").
use Rattle.std.specs.Prelude.{Bool, None, Option, Some, false, if◌then◌else◌, true, ℕ, [], ◌&&◌, ◌||◌}
use Rattle.sail_base.specs.declared.place.Place.{Place}
use Rattle.sail_types.specs.Zero.{deepest}
use Rattle.sail_types.specs.declared.shapes.Shape.{Shape}
use Rattle.sail_types.specs.declared.table.Types.{Types}
use Rattle.value_indices.specs.Steps.{Walk, bind, give}
use Rattle.value_indices.specs.declared.indices.Indices.{Indices}
use Rattle.value_indices.specs.declared.indices.Indices.TheVariants as I
use Rattle.value_indices.specs.declared.indices.Reading.TheVariants as R
use Rattle.value_fits.specs.Fitting.{fits, never, owe_fit, says}
use Rattle.value_fits.specs.declared.fitted.Fitted.{Fitted}
use Rattle.wide_types.specs.Widening.{agrees_within, met, value_spelled}
use Rattle.pattern_leaves.specs.Settings.{Around}
use Rattle.call_notes.specs.Ends.{is_never, never_value, sized}
use Rattle.expression_forms.specs.Inside.{is_value_below, is_value_told, is_value_whole}

-- the body of a `let` that never ends gives no value, though the `let` counts as one that ends
abbrev pub gives_none : Bool → Indices → Bool
gives_none never_ends i = never_ends || is_never i

-- a value in which holes are filled by the widest types of the shape: no later way has to have a number of these, so none of them is counted
abbrev pub filled_aside : Types → ℕ → Shape → Indices → Indices
filled_aside types m shape i = (met types m shape i [] m).value

-- the value of a first way, without holes
abbrev pub filled_first : Bool → Types → ℕ → Shape → Indices → Indices
filled_first true types m shape i = i
filled_first false types m shape i = filled_aside types m shape i

abbrev pub first_unless : Bool → Types → ℕ → Shape → Indices → Option Indices
first_unless true types m shape i = None
first_unless false types m shape i = Some (filled_first (is_value_whole i) types m shape i)

-- the first way that ends normally, with a value
abbrev pub first_way : Around → ℕ → Shape → Bool → Indices → Option Indices
first_way around m shape never_ends i = first_unless (gives_none never_ends i) around.types m shape i

-- that a value is of the type of the first way as it stands, in which nothing is a hole, and no variable of that way stands
abbrev pub as_first : Types → ℕ → Indices → Indices → ℕ → Fitted
as_first types m first i n = if is_value_whole first && is_value_below m first then fits types i (R.Widened first) n else never n

-- that a value has the numbers that are kept of the first way, where these say all of every item of both, and else that it is of its type
abbrev pub agrees_spelled : Types → ℕ → Indices → Indices → Indices → Indices → ℕ → Fitted
agrees_spelled types m first i spelled other n =
    if is_value_told spelled && is_value_told other then says (agrees_within deepest m spelled other) n
    else as_first types m first i n

abbrev pub agrees : Types → ℕ → Indices → Indices → ℕ → Fitted
agrees types m first i n = agrees_spelled types m first i (value_spelled first) (value_spelled i) n

abbrev pub agrees_unless : Bool → Types → ℕ → Indices → Indices → ℕ → Fitted
agrees_unless none types m first i n = if none then says [] n else agrees types m first i n

-- what a later way owes of the first; nothing where it gives no value
abbrev pub like_first : Around → Place → Bool → ℕ → Indices → Indices → Walk (Unit {0})
like_first around place never_ends m first i = owe_fit place (agrees_unless (gives_none never_ends i) around.types m first i)

-- of which no type is wanted: the widened type of the first that ends normally
abbrev pub met_ways : Around → Place → ℕ → Shape → Option Indices → Walk Indices
met_ways around place m shape None = never_value
met_ways around place m shape (Some i) = bind (met around.types m shape i) (λ j. bind (sized place j) (λ t. give j))

-- what is thrown has no arguments
abbrev pub thrown : Option ℕ → Indices
thrown None = I.Never
thrown (Some u) = I.Named u [] []
