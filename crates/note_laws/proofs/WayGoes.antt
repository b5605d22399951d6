-- Ways into a value go through no mapping.
use Rattle.std.specs.Prelude.{Bool, List, None, Option, Some, ℕ, ◌∷◌}
use Rattle.sail_base.specs.declared.place.Place.{Place}
use Rattle.sail_types.specs.declared.numbers.Num.{Num}
use Rattle.value_indices.specs.declared.indices.Indices.{Indices}
use Rattle.pattern_leaves.specs.Settings.{Around}
use Rattle.call_notes.specs.Ends.{is_never}
use Rattle.expression_forms.specs.declared.ways.Reached.{Reached}
use Rattle.expression_forms.specs.Ways.{indexed, slice_width, with_width, if_never_value, part_read}
use Rattle.expression_forms.specs.Ways.{read_into, part_made, taken_out, suffix_read, part_fits, owe_part}
use Rattle.note_laws.specs.Ways.{Told}
use Rattle.note_laws.proofs.Goes.{Goes, give_goes, bind_goes, if_goes, owe_goes, owe_fit_goes}
use Rattle.note_laws.proofs.EndGoes.{never_value_goes, opened_at_goes, wrong_value_goes}
use Rattle.note_laws.proofs.NodeGoes.{made_opened_goes, node_given_goes}
use Rattle.note_laws.proofs.OpeningGoes.{number_or_fresh_goes}

module _ (told : Told) where
  pub with_width_goes : (high : Num) (low : Num) → Goes told (with_width high low)
  with_width_goes high low = bind_goes told _ _ (number_or_fresh_goes told (slice_width high low)) (λ w. give_goes told _)

  pub if_never_value_goes : (place : Place) (i : Indices) → Goes told (if_never_value place i)
  if_never_value_goes place i = if_goes told (is_never i) _ _ (never_value_goes told) (wrong_value_goes told place)

  pub part_read_goes : (place : Place) (x : Reached) → Goes told (part_read place x)
  part_read_goes place x = bind_goes told _ _ (owe_goes told place x.conditions) (λ t. opened_at_goes told place x.typ)

  pub read_into_goes : (place : Place) (i : Indices) (x : Option Reached) → Goes told (read_into place i x)
  read_into_goes place i None = if_never_value_goes place i
  read_into_goes place i (Some x) = part_read_goes place x

  pub part_made_goes : (place : Place) (k : ℕ) (is : List Indices) (x : Reached) → Goes told (part_made place k is x)
  part_made_goes place k is x = bind_goes told _ _ (owe_goes told place x.conditions) (λ t. made_opened_goes told place k is x.typ)

  pub taken_out_goes : (place : Place) (k : ℕ) (i : Indices) (x : Option Reached) → Goes told (taken_out place k i x)
  taken_out_goes place k i None = if_never_value_goes place i
  taken_out_goes place k i (Some x) = bind_goes told _ _ (part_made_goes place k (i ∷ indexed x) x) (node_given_goes told k)

  pub suffix_read_goes : (is_target : Bool) (place : Place) (k : ℕ) (i : Indices) (x : Option Reached) → Goes told (suffix_read is_target place k i x)
  suffix_read_goes is_target place k i x = if_goes told is_target _ _ (read_into_goes place i x) (taken_out_goes place k i x)

  pub owe_part_goes : (around : Around) (place : Place) (x : Reached) (is_nested : Bool) (j : Indices) → Goes told (owe_part around place x is_nested j)
  owe_part_goes around place x is_nested j = owe_fit_goes told place (part_fits around x is_nested j)
