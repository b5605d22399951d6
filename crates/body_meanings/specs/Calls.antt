-- A call of a function that is entered: where its body and its measure do in the core what they do in the text, and keep shapes, so does the
-- call; and so does a direction of a mapping. So callees at one depth make those at the next.
use Rattle.std.specs.Prelude.{◌≡◌, ℕ, List, length, Some, None}
use Rattle.sail_base.specs.declared.place.Place.{Place}
use Rattle.sail_types.specs.Shapes.{shape}
use Rattle.sail_types.specs.declared.shapes.Shape.{Shape}
use Rattle.sail_types.specs.declared.values.Value.{Value}
use Rattle.sail_core.specs.declared.model.Direction.{Direction as CoreDirection}
use Rattle.sail_core.specs.declared.model.Function.{Function as CoreFunction}
use Rattle.sail_core.specs.Numbers.{Givens}
use Rattle.sail_core.specs.Run.{Now}
use Rattle.sail_core.specs.Making as Making
use Rattle.sail_core.specs.Program as Core
use Rattle.sail_meaning.specs.Calls as Source
use Rattle.sail_meaning.specs.Text.{Direction, Function}
use Rattle.sail_meaning.specs.World as World
use Rattle.shape_rules.specs.Scopes.{Setting, answering, thrown_shape}
use Rattle.shape_meanings.specs.Whole.{Choice}
use Rattle.shape_meanings.specs.Keeping.{Fits, FitAll, RegistersFit, AgreeApart}
use Rattle.shape_meanings.specs.Worlds.{Describes}
use Rattle.shape_meanings.specs.Models.{DirectionIs, FunctionIs}
use Rattle.body_meanings.specs.Bodies.{MeasureIs}

-- a function of the core is that of a text, with parameters and a result of these shapes
pub record IsFunction (setting : Setting) (params : List Shape) (answer : Shape) (g : CoreFunction) (f : Function) : Type 0 where
  pub place : g.place ≡ f.place
  pub variables : length g.variables ≡ f.variables
  pub parameters : g.parameters ≡ f.parameters
  pub cycle : g.cycle ≡ f.cycle
  pub body : FunctionIs setting params answer g.body f
  pub measure : MeasureIs setting params g.measure f.measure

-- the model that the core is, on one hart, each value standing for itself
abbrev pub core_setting : List CoreFunction → List CoreDirection → ℕ → List Value → Core.Setting Value
core_setting functions directions hart lets =
    record { functions = functions; directions = directions; sizing = Core.plain; hart = hart; lets = lets }

-- in whatever calls are active, and for whatever the Type variables stand for, the worlds of both sides are described
abbrev pub WorldsAre : Setting → List Shape → Core.Setting Value → Core.Calls Value → Source.Setting → Source.Calls → Function → Type 0
WorldsAre setting registers cs core_calls ss calls f =
    (active : List (ℕ × ℕ)) (numbers : Givens) (vs : List Value)
    → Describes setting registers (Core.world_of cs core_calls active numbers vs) (Source.world_of ss calls active f.within numbers)

-- a call keeps shapes and does the same on both sides, where the function's body does
abbrev pub EnteredCallsAgree : Type 0
EnteredCallsAgree =
    (setting : Setting) (registers params : List Shape) (answer : Shape) (functions : List CoreFunction) (directions : List CoreDirection) (hart : ℕ)
    (lets : List Value) (core_calls : Core.Calls Value) (ss : Source.Setting) (calls : Source.Calls) (g : CoreFunction) (f : Function)
    → setting.answer ≡ None → IsFunction setting params answer g f
    → WorldsAre (answering (Some answer) setting) registers (core_setting functions directions hart lets) core_calls ss calls f
    → (c : Choice) (active : List (ℕ × ℕ)) (place : Place) (i : ℕ) (vs : List Value) (now : Now Value)
    → FitAll setting.types c params vs → RegistersFit setting.types registers now.state
    → AgreeApart setting.types registers (thrown_shape setting) (Fits setting.types c answer) now
    (Core.entered (core_setting functions directions hart lets) core_calls active place i None vs (Some g) now)
    (Source.entered ss calls active place f vs now)

-- ---- directions of mappings

-- a direction that a call or a pattern enters keeps shapes and does the same on both sides, where its clauses do
abbrev pub EnteredDirectionsAgree : Type 0
EnteredDirectionsAgree =
    (setting : Setting) (registers : List Shape) (functions : List CoreFunction) (directions : List CoreDirection) (hart : ℕ) (lets : List Value)
    (g : CoreDirection) (d : Direction) (world : List Value → Making.World Value) (ws : World.World)
    → DirectionIs setting g.body d → ((vs : List Value) → (world vs).arguments ≡ vs)
    → ((vs : List Value) → Describes (answering None setting) registers (world vs) ws)
    → (c : Choice) (i : ℕ) (v : Value) (now : Now Value) → Fits setting.types c (shape d.takes) v → RegistersFit setting.types registers now.state
    → AgreeApart setting.types registers (thrown_shape setting) (Fits setting.types c (shape d.gives)) now
    (Core.gone (core_setting functions directions hart lets) world i v (Some g) now) (Source.crossed ws d v now)
