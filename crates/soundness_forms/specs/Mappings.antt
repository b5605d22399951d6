-- What is taken of mappings.
use Rattle.std.specs.Prelude.{◌≡◌, ℕ, true, slice_get, Some}
use Rattle.sail_core.specs.declared.model.Direction.{Direction}
use Rattle.call_arguments.specs.Callees.{is_closed}
use Rattle.soundness_steps.specs.Works.{Setting}

-- their types name no variable
abbrev pub MappingsClosed : Setting → Type 0
MappingsClosed set = (d : ℕ) (m : Direction) → slice_get set.around.directions d ≡ Some m → (is_closed m.parameter ≡ true) × (is_closed m.result ≡ true)
