-- Names go through no mapping.
use Rattle.std.specs.Prelude.{List, None, Option, Some, ℕ, [], ◌∷◌}
use Rattle.sail_base.specs.declared.place.Place.{Place}
use Rattle.sail_types.specs.declared.shapes.Shape.TheVariants as V
use Rattle.sail_types.specs.declared.table.Types.{Types}
use Rattle.model_state.specs.declared.state.Register.{Register}
use Rattle.value_indices.specs.declared.indices.Indices.{Indices}
use Rattle.value_indices.specs.declared.indices.Indices.TheOpen as W
use Rattle.value_indices.specs.declared.indices.Indices.TheOpen.{Reading-F}
use Rattle.value_indices.specs.declared.indices.Naming.TheVariants as M
use Rattle.value_indices.specs.declared.indices.Reading.{Reading, out-Reading}
use Rattle.value_indices.specs.declared.notes.Made.TheVariants as Makes
use Rattle.pattern_leaves.specs.declared.names.Held.{Held}
use Rattle.pattern_leaves.specs.declared.names.Held.TheVariants as H
use Rattle.pattern_leaves.specs.declared.names.TopLevel.{TopLevel}
use Rattle.pattern_leaves.specs.declared.names.TopLevel.TheVariants as T
use Rattle.expression_forms.specs.Names.{named_opened, named_read, local_walk, variable_walk, read_form}
use Rattle.expression_forms.specs.Names.{type_read, made_read, read_opened, top_level_walk, register_type, register_walk}
use Rattle.note_laws.specs.Ways.{Told}
use Rattle.note_laws.proofs.Goes.{Goes, give_goes, bind_goes}
use Rattle.note_laws.proofs.EndGoes.{sized_by_goes, wrong_value_goes}
use Rattle.note_laws.proofs.NodeGoes.{node_ended_goes, node_made_goes}
use Rattle.note_laws.proofs.OpeningGoes.{opened_for_goes}
use Rattle.note_laws.proofs.WideGoes.{filled_goes}

module _ (told : Told) where
  pub local_walk_goes : (place : Place) (k : ℕ) (held : Option Held) → Goes told (local_walk place k held)
  local_walk_goes place k (Some (H.Value i)) = node_ended_goes told k (i ∷ []) i
  local_walk_goes place k held = wrong_value_goes told place

  pub named_opened_goes : (place : Place) (name : List ℕ) (r : Reading) → Goes told (named_opened place name r)
  named_opened_goes place name r = bind_goes told _ _ (sized_by_goes told place r) (λ t. opened_for_goes told (M.Named name) r)

  pub named_read_goes : (place : Place) (k : ℕ) (name : List ℕ) (r : Reading) → Goes told (named_read place k name r)
  named_read_goes place k name r = bind_goes told _ _ (node_made_goes told k [] (Makes.ByType r)) (λ t. named_opened_goes place name r)

  pub variable_walk_goes : (place : Place) (k : ℕ) (name : List ℕ) (held : Option Held) → Goes told (variable_walk place k name held)
  variable_walk_goes place k name (Some (H.Var r)) = named_read_goes place k name r
  variable_walk_goes place k name held = wrong_value_goes told place

  pub read_form_goes : (types : Types) (r : Reading) (form : Reading-F Indices Reading) → Goes told (read_form types r form)
  read_form_goes types r (W.Widened i) = filled_goes told types 0 V.Hole i
  read_form_goes types r form = give_goes told _

  pub type_read_goes : (types : Types) (r : Reading) → Goes told (type_read types r)
  type_read_goes types r = read_form_goes types r (out-Reading r)

  pub made_read_goes : (k : ℕ) (name : List ℕ) (r : Reading) → Goes told (made_read k name r)
  made_read_goes k name r = bind_goes told _ _ (node_made_goes told k [] (Makes.ByType r)) (λ t. opened_for_goes told (M.Named name) r)

  pub read_opened_goes : (types : Types) (k : ℕ) (name : List ℕ) (r : Reading) → Goes told (read_opened types k name r)
  read_opened_goes types k name r = bind_goes told _ _ (type_read_goes types r) (made_read_goes k name)

  pub top_level_walk_goes : (types : Types) (place : Place) (k : ℕ) (d : Option TopLevel) → Goes told (top_level_walk types place k d)
  top_level_walk_goes types place k None = wrong_value_goes told place
  top_level_walk_goes types place k (Some (T.Known i)) = node_ended_goes told k [] i
  top_level_walk_goes types place k (Some (T.Read name r)) = read_opened_goes types k name r

  pub register_walk_goes : (place : Place) (k : ℕ) (r : Option Register) → Goes told (register_walk place k r)
  register_walk_goes place k None = wrong_value_goes told place
  register_walk_goes place k (Some r) = named_read_goes place k r.name (register_type r)
