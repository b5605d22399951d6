-- Whether the parts of a tuple leave a number as it is.
use Rattle.std.specs.Prelude.{ℕ, ℤ, Bool, true, ◌&&◌, List, ◌∷◌}
use Rattle.value_indices.specs.declared.indices.Indices.{Indices}
use Rattle.size_values.specs.declared.sized.Sized.{Sized}
use Rattle.lowered_pieces.specs.Keeping.{keeps}

abbrev pub are_kept : List Indices → List Sized → ℕ → ℤ → Bool
are_kept (i ∷ is) (s ∷ ss) x z = keeps i s x z && are_kept is ss x z
are_kept is ss x z = true
