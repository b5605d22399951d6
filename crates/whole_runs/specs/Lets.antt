-- Top-level lets end well: their names have values with the indices of the walk.
use Rattle.std.specs.Prelude.{◌≡◌, ℕ, true, List, [], map}
use Rattle.sail_types.specs.Numbers.{Positive}
use Rattle.sail_types.specs.declared.values.Value.{Value}
use Rattle.model_state.specs.declared.state.Register.{Register}
use Rattle.model_state.specs.RunState.{RunState}
use Rattle.sail_core.specs.Run.{Local}
use Rattle.sail_core.specs.Start.{Added, begun, opening_run, opening_world}
use Rattle.sail_core.specs.declared.model.CoreModel.{CoreModel}
use Rattle.sail_core.specs.declared.model.Opening.{Opening}
use Rattle.sail_core.specs.declared.model.OpeningKind.TheVariants as O
use Rattle.sail_core.specs.declared.patterns.Arm.{Arm}
use Rattle.value_indices.specs.Steps.{Walk}
use Rattle.pattern_leaves.specs.declared.names.Bound.{Bound}
use Rattle.pattern_leaves.specs.declared.names.TopLevel.{TopLevel}
use Rattle.expression_steps.specs.Expressions.{part}
use Rattle.expression_steps.specs.Statements.{let_names}
use Rattle.checked_meaning.specs.Checked.{Cases, checked}
use Rattle.checked_meaning.specs.Items.{Item}
use Rattle.value_laws.specs.Known.{Point}
use Rattle.soundness_steps.specs.Works.{Coverage, Setting, nobody}
use Rattle.soundness_steps.specs.Covers.{AreMet}
use Rattle.soundness_steps.specs.States.{StateBelongs}
use Rattle.soundness_forms.specs.Forms.{at}
use Rattle.soundness_forms.specs.Patterns.{Binds}
use Rattle.soundness_forms.specs.Worlds.{LetsAre}
use Rattle.soundness_binding.specs.Told.{AreTold, LetTells}
use Rattle.whole_runs.specs.Initials.{OpeningEnds, ValueStands, pure_around, pure_scene, pure_setting}

-- the names of a let, as the walk over it finds them, get the values of what its pattern binds, of the types that are written at them; the state stays
pub record LetAdds (set : Setting) (n : ℕ) (found : List Bound) (a : Added) : Type 0 where
  pub point : Point n
  pub locals : List (Local Item)
  pub binds : Binds set nobody point found locals
  pub told : AreTold set nobody [] point found locals
  pub is_added : a ≡ record { values = map (λ l. l.held.val) locals; change = λ state. state }

abbrev pub let_found : CoreModel → List Register → List TopLevel → Opening → Arm → Walk (List Bound)
let_found m registers lets o arm = let_names o.place arm (part o.value) (pure_around m registers lets) []

abbrev pub LetsEndWell : Type 0
LetsEndWell = (m : CoreModel) (past : Positive) (covered : Coverage) (registers : List Register) (lets : List TopLevel) (vs : List Value)
    (cases : Cases)
    → LetsAre (pure_setting m past covered registers lets) nobody lets vs → (o : Opening) (arm : Arm) → o.kind ≡ O.Let arm
    → ValueStands (pure_scene (pure_setting m past covered registers lets) cases) (opening_world vs) o.value
    → LetTells (at (pure_scene (pure_setting m past covered registers lets) cases) (opening_world vs) [] true) (opening_world vs) arm
    → AreMet (pure_setting m past covered registers lets) nobody (λ d. true) cases (let_found m registers lets o arm [] 0).notes
    → (state : RunState) → StateBelongs (pure_setting m past covered registers lets) state
    → OpeningEnds (LetAdds (pure_setting m past covered registers lets) (let_found m registers lets o arm [] 0).next
    (let_found m registers lets o arm [] 0).value)
    (opening_run (checked m.types cases) vs o (begun 0 state))
