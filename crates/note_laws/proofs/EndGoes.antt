-- What is owed where a value ends goes through no mapping.
use Rattle.sail_base.specs.declared.place.Place.{Place}
use Rattle.value_indices.specs.declared.indices.Indices.{Indices, out-Indices}
use Rattle.value_indices.specs.declared.indices.Indices.TheOpen as W
use Rattle.value_indices.specs.declared.indices.Indices.TheOpen.{Indices-F}
use Rattle.value_indices.specs.declared.indices.Reading.{Reading}
use Rattle.value_fits.specs.Fitting.{fits}
use Rattle.pattern_leaves.specs.Settings.{Around}
use Rattle.call_arguments.specs.declared.aims.Aim.{Aim}
use Rattle.call_arguments.specs.declared.aims.Aim.TheVariants as Aims
use Rattle.call_notes.specs.Ends.{settled, sized_by, sized, opened_at, wrong_value, never_value, number_form, integer_number}
use Rattle.note_laws.specs.Ways.{Told}
use Rattle.note_laws.proofs.Goes.{Goes, give_goes, bind_goes, note_goes, wrong_goes, owe_fit_goes}
use Rattle.note_laws.proofs.OpeningGoes.{opened_goes}

module _ (told : Told) where
  pub wrong_value_goes : (place : Place) → Goes told (wrong_value place)
  wrong_value_goes place = bind_goes told _ _ (wrong_goes told place) (λ t. give_goes told _)

  pub settled_goes : (around : Around) (place : Place) (aim : Aim) (i : Indices) → Goes told (settled around place aim i)
  settled_goes around place (Aims.Due r) i = bind_goes told _ _ (owe_fit_goes told place (fits around.types i r)) (λ t. give_goes told _)
  settled_goes around place aim i = give_goes told _

  pub never_value_goes : Goes told never_value
  never_value_goes = give_goes told _

  pub sized_goes : (place : Place) (i : Indices) → Goes told (sized place i)
  sized_goes place i = note_goes told _ (λ facts. tt)

  pub sized_by_goes : (place : Place) (r : Reading) → Goes told (sized_by place r)
  sized_by_goes place r = note_goes told _ (λ facts. tt)

  pub opened_at_goes : (place : Place) (r : Reading) → Goes told (opened_at place r)
  opened_at_goes place r = bind_goes told _ _ (sized_by_goes place r) (λ t. opened_goes told r)

  pub number_form_goes : (place : Place) (i : Indices-F Indices Reading) → Goes told (number_form place i)
  number_form_goes place (W.Integer n) = give_goes told _
  number_form_goes place W.Never = give_goes told _
  number_form_goes place i = bind_goes told _ _ (wrong_goes told place) (λ t. give_goes told _)

  pub integer_number_goes : (place : Place) (i : Indices) → Goes told (integer_number place i)
  integer_number_goes place i = number_form_goes place (out-Indices i)
