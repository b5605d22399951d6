-- What a call begins with, as the machine has it: slots are a list.
use Rattle.std.specs.Prelude.{◌≡◌, ℕ, Bool, true, List, slice_get, slice_index_or, unwrap_or}
use Rattle.sail_types.specs.declared.values.Value.{Value}
use Rattle.model_state.specs.RunState.{RunState, Access}
use Rattle.jib.specs.declared.types.ValueType.{ValueType}
use Rattle.jib.specs.Jib.{Slots, Store, slot_zero}
use Rattle.jib_values.specs.Sources.{filled}

-- a state, ticks and accesses as a run has them
abbrev pub store : RunState → ℕ → List Access → Store
store state ticks accesses = record { state = state; ticks = ticks; accesses = accesses }

-- the slots of a call, where so many stand in a list and the others are the zeros of their types
abbrev pub begun_slots : List ValueType → List ℕ → List Value → Slots
begun_slots ts typs xs i = unwrap_or (slice_get xs i) (slot_zero ts (slice_get typs i))

-- so where they are needed
abbrev pub BegunWhere : List ValueType → List ℕ → List Bool → List Value → List Value → Type 0
BegunWhere ts typs needs xs ys = (i : ℕ) → slice_index_or needs i true ≡ true → filled ys i ≡ begun_slots ts typs xs i
