-- Events of a whole model, and the model from its start on.
use Rattle.std.specs.Prelude.{◌≡◌, ℕ, codes, List, [], ◌∷◌, Some, None}
use Rattle.sail_types.specs.declared.shapes.Shape.{Shape}
use Rattle.sail_types.specs.declared.shapes.Shape.TheVariants as V
use Rattle.sail_types.specs.declared.values.Value.{Value}
use Rattle.model_state.specs.RunState.{RunState}
use Rattle.sail_core.specs.declared.model.CoreModel.{CoreModel}
use Rattle.sail_core.specs.declared.tree.Callee.TheVariants as C
use Rattle.sail_core.specs.Program.{plain as plain_sizing}
use Rattle.sail_core.specs.Start as CoreStart
use Rattle.sail_core.specs.Start.{begun}
use Rattle.sail_meaning.specs.Start as SourceStart
use Rattle.sail_meaning.specs.Text.{Text}
use Rattle.shape_rules.specs.declared.callees.Candidate.{Candidate}
use Rattle.shape_rules.specs.declared.callees.Doing.TheVariants as D
use Rattle.shape_rules.specs.declared.callees.Meant.TheVariants as M
use Rattle.shape_rules.specs.Scopes.{Setting, thrown_shape}
use Rattle.shape_meanings.specs.Whole.{Choice}
use Rattle.shape_meanings.specs.Keeping.{Fits, FitAll, RegistersFit, AgreeApart}
use Rattle.shape_meanings.specs.Models.{CoreMeansText, LeavesFitting, register_shapes}
use Rattle.model_meanings.specs.Callees.{Model}
use Rattle.model_meanings.specs.Models.{ModelIs}

-- a core and a text on one hart, behind their openings
abbrev pub model_of : Text → CoreModel → ℕ → Model
model_of text core hart = record {
  functions = core.functions;
  directions = core.directions;
  lets = CoreStart.lets_of plain_sizing core;
  source = SourceStart.setting_of text hart;
}

-- the function of this number, which a name means to shapes, takes parameters of these shapes
abbrev pub IsEntered : Setting → List ℕ → ℕ → List Shape → Type 0
IsEntered setting name i params =
    (f : Candidate) × (setting.value name ≡ Some (M.Callee f)) × (f.doing ≡ D.Calls (C.Function i)) × (f.params ≡ params)

-- a function that an event enters does the same on both sides, and registers keep their shapes
abbrev pub EventsAreAlike : Type 0
EventsAreAlike =
    (setting : Setting) (registers : List Shape) (text : Text) (core : CoreModel) (hart : ℕ) → ModelIs setting registers (model_of text core hart)
    → (name : List ℕ) (f : Candidate) (i : ℕ) → setting.value name ≡ Some (M.Callee f) → f.doing ≡ D.Calls (C.Function i)
    → (ticks : ℕ) (c : Choice) (vs : List Value) (state : RunState) → FitAll setting.types c f.params vs → RegistersFit setting.types registers state
    → AgreeApart setting.types registers (thrown_shape setting) (Fits setting.types c f.answer) (begun ticks state)
    (CoreStart.event_run plain_sizing core ticks None hart i vs state) (SourceStart.event_run text ticks hart name vs state)

-- the openings of the core do what those of the text do, and leave values of the registers' shapes
abbrev pub OpeningsAreAlike : Text → CoreModel → Type 0
OpeningsAreAlike text core =
    (state : RunState) → RegistersFit text.types (register_shapes text.registers) state
    → (CoreStart.init_ran plain_sizing core state ≡ SourceStart.init_ran text state) × LeavesFitting text (SourceStart.init_ran text state)

-- from the start through every event the core does what the text does, where its openings do, and where its definitions are those of the text
abbrev pub ModelsMeanText : Type 0
ModelsMeanText =
    (setting : Setting) (text : Text) (core : CoreModel) → core.types ≡ text.types
    → ((hart : ℕ) → ModelIs setting (register_shapes text.registers) (model_of text core hart))
    → IsEntered setting (codes "step") core.step (V.Unit ∷ []) → IsEntered setting (codes "reset") core.reset (V.Int ∷ V.Bits ∷ [])
    → OpeningsAreAlike text core → CoreMeansText text core
