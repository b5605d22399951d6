-- The state in which a run begins: each hart has each register, at the zero of its type, which has the type's shape (Sail language manual, "Registers").
use Rattle.std.specs.Prelude.{◌≡◌, ℕ, List, slice_get, Some}
use Rattle.sail_types.specs.Zero.{zero_of}
use Rattle.sail_types.specs.declared.shapes.Shape.{Shape}
use Rattle.sail_types.specs.declared.table.Types.{Types}
use Rattle.sail_types.specs.declared.values.Value.{Value}
use Rattle.model_state.specs.RunState.{fresh}
use Rattle.model_state.specs.declared.state.Register.{Register}
use Rattle.sail_core.specs.declared.model.CoreModel.{CoreModel}
use Rattle.model_progress.specs.Shaped.{common_of}
use Rattle.model_progress.specs.Progress.{IsFit}

-- the type of each register has a zero
abbrev pub HaveZeros : Types → List Register → Type 0
HaveZeros types registers =
    (r : ℕ) (register : Register) → slice_get registers r ≡ Some register → (v : Value) × (zero_of types register.typ ≡ Some v)

-- so the state in which a run of a model begins is one in which nothing of it is stuck, whatever its harts and its memory
abbrev pub FreshStatesAreFit : Type 0
FreshStatesAreFit =
    (m : CoreModel) (lets : List Shape) → HaveZeros m.types m.registers → (harts base : ℕ) (bytes : List ℕ)
    → IsFit (common_of m lets) (fresh m.types m.registers harts base bytes)
