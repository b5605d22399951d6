-- Values that come to a type go through no mapping.
use Rattle.std.specs.Prelude.{List, ℕ, [], ◌∷◌}
use Rattle.value_indices.specs.declared.indices.Indices.{Indices}
use Rattle.value_indices.specs.declared.indices.Reading.{Reading, out-Reading}
use Rattle.call_arguments.specs.declared.aims.Aim.{Aim}
use Rattle.expression_forms.specs.Nodes.{owed_type, made_for, cast_ended, form_made, put}
use Rattle.note_laws.specs.Ways.{Told}
use Rattle.note_laws.proofs.Goes.{Goes, give_goes, bind_goes}
use Rattle.note_laws.proofs.NodeGoes.{node_made_goes, numbers_noted_goes}

module _ (told : Told) where
  pub cast_ended_goes : (k : ℕ) (aim : Aim) (i : Indices) → Goes told (cast_ended k aim i)
  cast_ended_goes k aim i = bind_goes told _ _ (node_made_goes told k (i ∷ []) (made_for (owed_type aim) i)) (λ t. give_goes told _)

  pub put_goes : (k : ℕ) (is : List Indices) (r : Reading) (i : Indices) → Goes told (put k is r i)
  put_goes k is r i = bind_goes told _ _ (node_made_goes told k is (form_made (out-Reading r) r i)) (λ t. numbers_noted_goes told k i)
