-- Where ways meet no mapping is gone through.
use Rattle.std.specs.Prelude.{Bool, None, Option, Some, ℕ}
use Rattle.sail_base.specs.declared.place.Place.{Place}
use Rattle.sail_types.specs.declared.shapes.Shape.{Shape}
use Rattle.value_indices.specs.declared.indices.Indices.{Indices}
use Rattle.pattern_leaves.specs.Settings.{Around}
use Rattle.expression_forms.specs.Meeting.{gives_none, agrees_unless, like_first, met_ways}
use Rattle.note_laws.specs.Ways.{Told}
use Rattle.note_laws.proofs.Goes.{Goes, give_goes, bind_goes, owe_fit_goes}
use Rattle.note_laws.proofs.EndGoes.{never_value_goes, sized_goes}
use Rattle.note_laws.proofs.WideGoes.{met_goes}

module _ (told : Told) where
  pub like_first_goes : (around : Around) (place : Place) (never_ends : Bool) (m : ℕ) (first : Indices) (i : Indices)
      → Goes told (like_first around place never_ends m first i)
  like_first_goes around place never_ends m first i = owe_fit_goes told place (agrees_unless (gives_none never_ends i) around.types m first i)

  pub met_ways_goes : (around : Around) (place : Place) (m : ℕ) (shape : Shape) (i : Option Indices) → Goes told (met_ways around place m shape i)
  met_ways_goes around place m shape None = never_value_goes told
  met_ways_goes around place m shape (Some i) =
      bind_goes told _ _ (met_goes told around.types m shape i) (λ j. bind_goes told _ _ (sized_goes told place j) (λ t. give_goes told _))
