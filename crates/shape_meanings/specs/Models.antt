-- Definitions and whole models. The calls of a model are tied by induction on how many may be inside one another: where each callee keeps
-- shapes and does the same at one depth, so do the bodies over it, which are the callees at the next.
use Rattle.std.specs.Prelude.{◌≡◌, ℕ, List, [], ◌∷◌, map, Option, Some, None}
use Rattle.sail_types.specs.Shapes.{shape}
use Rattle.sail_types.specs.declared.shapes.Shape.{Shape}
use Rattle.sail_types.specs.declared.values.Value.{Value}
use Rattle.model_state.specs.declared.state.Register.{Register}
use Rattle.model_state.specs.RunState.{RunState, Ran}
use Rattle.sail_core.specs.declared.model.CoreModel.{CoreModel}
use Rattle.sail_core.specs.declared.tree.Core.{Core}
use Rattle.sail_core.specs.Run.{Now, stuck}
use Rattle.sail_core.specs.Making as Core
use Rattle.sail_core.specs.Meaning.{core_meaning}
use Rattle.sail_core.specs.Program.{plain as plain_sizing}
use Rattle.sail_core.specs.Start as CoreStart
use Rattle.sail_meaning.specs.Text.{Text, Function, Direction}
use Rattle.sail_meaning.specs.World as Source
use Rattle.sail_meaning.specs.World.{Piece}
use Rattle.sail_meaning.specs.Calls.{first_clause, first_crossing}
use Rattle.sail_meaning.specs.Start as SourceStart
use Rattle.shape_rules.specs.Scopes.{Setting, answering}
use Rattle.shape_meanings.specs.Whole.{Choice}
use Rattle.shape_meanings.specs.Keeping.{Fits, FitAll, RegistersFit, Good, reach_of, Agree}
use Rattle.shape_meanings.specs.Worlds.{Describes}

-- ---- definitions

-- a body of clauses over arguments of these shapes, in a setting without local names, does what the clauses do and gives values of a shape;
-- it says No where none fits
abbrev pub BodyIs : Setting → List Shape → Shape → Core → (Source.World → List Value → Piece Value) → Type 0
BodyIs setting params answer body clauses =
    (registers : List Shape) (c : Choice) (wc : Core.World Value) (ws : Source.World) → Describes setting registers wc ws
    → (vs : List Value) → wc.arguments ≡ vs → FitAll setting.types c params vs
    → (now : Now Value) → Good (reach_of setting registers c []) now
    → Agree (reach_of setting registers c []) (Fits setting.types c answer) (core_meaning wc body now) (clauses ws vs now)

-- the clauses of a function
abbrev pub FunctionIs : Setting → List Shape → Shape → Core → Function → Type 0
FunctionIs setting params answer body f = BodyIs (answering (Some answer) setting) params answer body (λ ws. first_clause ws f.clauses)

-- the clauses of a direction of a mapping
abbrev pub crossing : Direction → Source.World → List Value → Piece Value
crossing d ws (v ∷ []) = first_crossing ws d d.clauses v
crossing d ws vs = stuck

abbrev pub DirectionIs : Setting → Core → Direction → Type 0
DirectionIs setting body d = BodyIs (answering None setting) (shape d.takes ∷ []) (shape d.gives) body (crossing d)

-- ---- models

abbrev pub register_shapes : List Register → List Shape
register_shapes registers = map (λ r. shape r.typ) registers

-- what a part of a run leaves
abbrev pub LeavesFitting : Text → Option Ran → Type 0
LeavesFitting text None = Unit {0}
LeavesFitting text (Some ran) = RegistersFit text.types (register_shapes text.registers) ran.state

-- the start and each event of the core are those of the text, wherever registers have values of their shapes, which they have behind it too
abbrev pub CoreMeansText : Text → CoreModel → Type 0
CoreMeansText text m =
    (state : RunState) → RegistersFit text.types (register_shapes text.registers) state
    → (CoreStart.init_ran plain_sizing m state ≡ SourceStart.init_ran text state)
    × LeavesFitting text (SourceStart.init_ran text state)
    × ((hart entry : ℕ) → (CoreStart.reset_ran plain_sizing m hart entry state ≡ SourceStart.reset_ran text hart entry state)
    × LeavesFitting text (SourceStart.reset_ran text hart entry state))
    × ((hart : ℕ) → (CoreStart.step_ran plain_sizing m hart state ≡ SourceStart.step_ran text hart state)
    × LeavesFitting text (SourceStart.step_ran text hart state))
