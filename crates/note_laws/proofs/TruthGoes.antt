-- Truths go through no mapping.
use Rattle.std.specs.Prelude.{None, Option, Some, false, true}
use Rattle.sail_base.specs.declared.place.Place.{Place}
use Rattle.sail_types.specs.declared.numbers.Con.{Con}
use Rattle.sail_types.specs.declared.numbers.Con.TheVariants as C
use Rattle.value_indices.specs.Steps.{Walk}
use Rattle.value_indices.specs.declared.indices.Indices.{Indices, out-Indices}
use Rattle.value_indices.specs.declared.indices.Indices.TheOpen as W
use Rattle.value_indices.specs.declared.indices.Indices.TheOpen.{Indices-F}
use Rattle.value_indices.specs.declared.indices.Reading.{Reading}
use Rattle.expression_forms.specs.Truths.{truth_form, truth_of, then_truth, both, either, right_form, and_right, or_right}
use Rattle.note_laws.specs.Ways.{Told}
use Rattle.note_laws.proofs.Goes.{Goes, give_goes, bind_goes, wrong_goes}
use Rattle.note_laws.proofs.EndGoes.{never_value_goes, wrong_value_goes}

module _ (told : Told) where
  pub truth_form_goes : (place : Place) (form : Indices-F Indices Reading) → Goes told (truth_form place form)
  truth_form_goes place (W.Truth c) = give_goes told _
  truth_form_goes place W.Never = give_goes told _
  truth_form_goes place form = bind_goes told _ _ (wrong_goes told place) (λ t. give_goes told _)

  pub truth_of_goes : (place : Place) (i : Indices) → Goes told (truth_of place i)
  truth_of_goes place i = truth_form_goes place (out-Indices i)

  pub then_truth_goes : (next : (Con → Walk Indices)) → ((a : Con) → Goes told (next a)) → (c : Option Con) → Goes told (then_truth next c)
  then_truth_goes next next_go None = never_value_goes told
  then_truth_goes next next_go (Some c) = next_go c

  pub right_form_goes : (place : Place) (join : (Con → Con → Con)) (alone : Con) (c : Con) (form : Indices-F Indices Reading)
      → Goes told (right_form place join alone c form)
  right_form_goes place join alone c (W.Truth d) = give_goes told _
  right_form_goes place join alone c W.Never = give_goes told _
  right_form_goes place join alone c form = wrong_value_goes told place

  pub and_right_goes : (place : Place) (c : Con) (j : Indices) → Goes told (and_right place c j)
  and_right_goes place c j = right_form_goes place both (C.Truth false) c (out-Indices j)

  pub or_right_goes : (place : Place) (c : Con) (j : Indices) → Goes told (or_right place c j)
  or_right_goes place c j = right_form_goes place either (C.Truth true) c (out-Indices j)
