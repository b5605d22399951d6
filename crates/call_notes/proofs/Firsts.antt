-- The first arguments of a call.
use Rattle.std.proofs.Common.{◌≡◌, refl, List, [], ◌∷◌, map}
use Rattle.value_indices.specs.declared.indices.Indices.{Indices}
use Rattle.call_notes.specs.Rows.{argument_index, index_at, three_indices}

pub three_at : (args : List Indices) → three_indices (map argument_index args) ≡ index_at args 0 ∷ index_at args 1 ∷ index_at args 2 ∷ []
three_at [] = refl
three_at (a ∷ []) = refl
three_at (a ∷ b ∷ []) = refl
three_at (a ∷ b ∷ c ∷ more) = refl
