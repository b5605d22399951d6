-- Callees at one depth stand at the next: where the worlds over calls at one depth are described, a call of a function or of a direction of a
-- mapping keeps shapes and does the same in the worlds over calls at the next.
use Rattle.std.specs.Prelude.{◌≡◌, ℕ, suc, true, List, [], slice_get, Some, None}
use Rattle.sail_types.specs.Shapes.{fits, shape}
use Rattle.sail_types.specs.declared.shapes.Shape.{Shape}
use Rattle.sail_types.specs.declared.values.Value.{Value}
use Rattle.sail_core.specs.declared.model.Direction.{Direction as CoreDirection}
use Rattle.sail_core.specs.declared.model.Function.{Function as CoreFunction}
use Rattle.sail_core.specs.declared.tree.Callee.TheVariants as C
use Rattle.sail_core.specs.Numbers.{Givens}
use Rattle.sail_core.specs.Run.{Now}
use Rattle.sail_core.specs.Program as Core
use Rattle.sail_meaning.specs.Calls as Source
use Rattle.sail_meaning.specs.Text.{Direction, Function, direction, function}
use Rattle.shape_rules.specs.declared.callees.Candidate.{Candidate}
use Rattle.shape_rules.specs.declared.callees.Doing.TheVariants as D
use Rattle.shape_rules.specs.Scopes.{Setting, answering, thrown_shape}
use Rattle.shape_meanings.specs.Whole.{closed}
use Rattle.shape_meanings.specs.Keeping.{RegistersFit, AgreeApart}
use Rattle.shape_meanings.specs.Worlds.{Describes, KeepsCall, direction_candidate}
use Rattle.shape_meanings.specs.Models.{DirectionIs}
use Rattle.body_meanings.specs.Calls.{IsFunction, WorldsAre, core_setting}

-- the core's function of this number
abbrev pub function_candidate : List ℕ → ℕ → ℕ → List Shape → Shape → Candidate
function_candidate name i variables params answer =
    record { name = name; doing = D.Calls (C.Function i); variables = variables; params = params; answer = answer }

abbrev pub FunctionsKeepCalls : Type 0
FunctionsKeepCalls =
    (setting : Setting) (registers params : List Shape) (answer : Shape) (functions : List CoreFunction) (directions : List CoreDirection) (hart : ℕ)
    (lets : List Value) (core_calls : Core.Calls Value) (ss : Source.Setting) (calls : Source.Calls) (g : CoreFunction) (f : Function)
    → setting.answer ≡ None → IsFunction setting params answer g f
    → WorldsAre (answering (Some answer) setting) registers (core_setting functions directions hart lets) core_calls ss calls f
    → (name : List ℕ) (i variables : ℕ) → slice_get functions i ≡ Some g → (active : List (ℕ × ℕ)) (numbers : Givens) (vs : List Value)
    → KeepsCall setting.types registers (thrown_shape setting)
    (Core.world_of (core_setting functions directions hart lets) (Core.deeper (core_setting functions directions hart lets) core_calls) active numbers vs)
    (Source.applied ss (Source.deeper ss calls) active) (function_candidate name i variables params answer) (function f)

-- no function is around a direction, and no Type variable stands for anything in it
abbrev pub DirectionsKeepCalls : Type 0
DirectionsKeepCalls =
    (setting : Setting) (registers : List Shape) (functions : List CoreFunction) (directions : List CoreDirection) (hart : ℕ) (lets : List Value)
    (core_calls : Core.Calls Value) (ss : Source.Setting) (calls : Source.Calls) (g : CoreDirection) (d : Direction)
    → DirectionIs setting g.body d
    → ((active : List (ℕ × ℕ)) (vs : List Value) → Describes (answering None setting) registers
    (Core.world_of (core_setting functions directions hart lets) core_calls active [] vs) (Source.world_of ss calls active ss.text.within []))
    → (name : List ℕ) (i : ℕ) → slice_get directions i ≡ Some g → (active : List (ℕ × ℕ)) (numbers : Givens) (vs : List Value)
    → KeepsCall setting.types registers (thrown_shape setting)
    (Core.world_of (core_setting functions directions hart lets) (Core.deeper (core_setting functions directions hart lets) core_calls) active numbers vs)
    (Source.applied ss (Source.deeper ss calls) active) (direction_candidate name i d.takes d.gives) (direction d)

-- a direction in a pattern, by how many may be inside one another: where the worlds at one rank are described, and where the values of the
-- side that it takes choose it by this name, it keeps shapes and does the same at the next rank
abbrev pub DirectionsKeepWays : Type 0
DirectionsKeepWays =
    (setting : Setting) (registers : List Shape) (functions : List CoreFunction) (directions : List CoreDirection) (hart : ℕ) (lets : List Value)
    (core_calls : Core.Calls Value) (ss : Source.Setting) (calls : Source.Calls) (g : CoreDirection) (d : Direction) (active : List (ℕ × ℕ)) (rank : ℕ)
    → DirectionIs setting g.body d → closed (shape d.takes) ≡ true → closed (shape d.gives) ≡ true
    → ((vs : List Value) → Describes (answering None setting) registers
    (Core.asking (core_setting functions directions hart lets) core_calls active
    (Core.ways (core_setting functions directions hart lets) core_calls active rank) [] vs)
    (Source.world_with ss calls active (Source.converting ss calls active rank) ss.text.within []))
    → (name : List ℕ) (i : ℕ) → slice_get directions i ≡ Some g
    → ((v : Value) → fits setting.types v (shape d.takes) ≡ true → Source.direction_chosen ss.text.types (ss.text.called name) v ≡ Some d)
    → (v : Value) (now : Now Value) → fits setting.types v (shape d.takes) ≡ true → RegistersFit setting.types registers now.state
    → AgreeApart setting.types registers (thrown_shape setting) (λ u. fits setting.types u (shape d.gives) ≡ true) now
    (Core.ways (core_setting functions directions hart lets) core_calls active (suc rank) i v now)
    (Source.converting ss calls active (suc rank) name v now)
