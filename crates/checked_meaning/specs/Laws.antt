-- What holds of the checked meaning.
use Rattle.std.specs.Prelude.{◌≡◌, ℕ, Option, Some, None}
use Rattle.sail_types.specs.declared.table.Types.{Types}
use Rattle.model_state.specs.RunState.{RunState, Ran}
use Rattle.sail_core.specs.declared.tree.Core.{Core}
use Rattle.sail_core.specs.declared.model.CoreModel.{CoreModel}
use Rattle.sail_core.specs.Meaning.{meaning, core_meaning}
use Rattle.sail_core.specs.Program.{plain}
use Rattle.sail_core.specs.Start.{init_ran, reset_ran, step_ran}
use Rattle.checked_meaning.specs.Checked.{Cases, checked, Checks, checking}
use Rattle.checked_meaning.specs.Alike.{Is, Alike, Around, WorldsAlike, checked_world, plain_world, value_in}

-- whatever the cases, a node is stuck or comes to what it comes to plainly
abbrev pub NodesAreAlike : Type 0
NodesAreAlike = (types : Types) (cases : Cases) (a : Around) → WorldsAlike a
    → (c : Core) → Alike (Is value_in) (meaning (checked types cases) (checked_world a) c) (core_meaning (plain_world a) c)

-- a part of a run that is stuck, or that one
abbrev pub IsStuckOr : Option Ran → Option Ran → Type 0
IsStuckOr None ran = Unit {0}
IsStuckOr (Some r) ran = ran ≡ Some r

-- so the start and the events of a model are stuck, or come to what they come to plainly
abbrev pub ModelsAreAlike : Type 0
ModelsAreAlike = (c : Checks) (m : CoreModel) (state : RunState)
    → IsStuckOr (init_ran (checking c) m state) (init_ran plain m state)
    × ((hart entry : ℕ) → IsStuckOr (reset_ran (checking c) m hart entry state) (reset_ran plain m hart entry state))
    × ((hart : ℕ) → IsStuckOr (step_ran (checking c) m hart state) (step_ran plain m hart state))
