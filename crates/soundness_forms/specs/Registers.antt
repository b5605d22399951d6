-- What is taken of registers.
use Rattle.std.specs.Prelude.{◌≡◌, ℕ, true, slice_get, Some}
use Rattle.model_state.specs.declared.state.Register.{Register}
use Rattle.call_arguments.specs.Callees.{is_closed}
use Rattle.soundness_steps.specs.Works.{Setting}

-- where the types of registers name no variable
abbrev pub RegistersClosed : Setting → Type 0
RegistersClosed set = (i : ℕ) (r : Register) → slice_get set.around.registers i ≡ Some r → is_closed r.typ ≡ true
