-- Conditions: what a truth says, and what operators on truths make (Sail language manual, "Booleans").
use Rattle.std.specs.Prelude.{Bool, None, Option, Some, false, true, [], ◌∷◌}
use Rattle.sail_base.specs.declared.place.Place.{Place}
use Rattle.sail_types.specs.declared.numbers.Con.{Con}
use Rattle.sail_types.specs.declared.numbers.Con.TheVariants as C
use Rattle.value_indices.specs.Steps.{Walk, bind, give, wrong}
use Rattle.value_indices.specs.declared.indices.Indices.{Indices, out-Indices}
use Rattle.value_indices.specs.declared.indices.Indices.TheOpen as W
use Rattle.value_indices.specs.declared.indices.Indices.TheOpen.{Indices-F}
use Rattle.value_indices.specs.declared.indices.Indices.TheVariants as I
use Rattle.value_indices.specs.declared.indices.Reading.{Reading}
use Rattle.call_notes.specs.Ends.{never_value, wrong_value}

abbrev pub truth_form : Place → Indices-F Indices Reading → Walk (Option Con)
truth_form place (W.Truth c) = give (Some c)
truth_form place W.Never = give None
truth_form place form = bind (wrong place) (λ t. give None)

-- the condition that a truth is; none of what never ends normally, and of what is no truth, which owes what is false
abbrev pub truth_of : Place → Indices → Walk (Option Con)
truth_of place i = truth_form place (out-Indices i)

-- what is done with it
abbrev pub then_truth : (Con → Walk Indices) → Option Con → Walk Indices
then_truth next None = never_value
then_truth next (Some c) = next c

abbrev pub both : Con → Con → Con
both c d = C.All (c ∷ d ∷ [])

abbrev pub either : Con → Con → Con
either c d = C.Any (c ∷ d ∷ [])

-- a right operand that never ends normally leaves the value that the left one alone gives
abbrev pub right_form : Place → (Con → Con → Con) → Con → Con → Indices-F Indices Reading → Walk Indices
right_form place join alone c (W.Truth d) = give (I.Truth (join c d))
right_form place join alone c W.Never = give (I.Truth alone)
right_form place join alone c form = wrong_value place

abbrev pub and_right : Place → Con → Indices → Walk Indices
and_right place c j = right_form place both (C.Truth false) c (out-Indices j)

abbrev pub or_right : Place → Con → Indices → Walk Indices
or_right place c j = right_form place either (C.Truth true) c (out-Indices j)

-- where one branch of a statement never ends normally, the other one's fact is in force behind it
abbrev pub claim_of : Bool → Bool → Con → Option Con
claim_of true true c = None
claim_of true false c = Some (C.Not c)
claim_of false true c = Some c
claim_of false false c = None
