-- Initial values of registers end well. An opening calls nothing and throws nothing: it is read in a model that has none of what is called or thrown,
-- behind the top-level lets before it, over the registers of the state in which it is worked out: a run's start has those of the model, the state in
-- which the values of lets are found has none.
use Rattle.std.specs.Prelude.{◌≡◌, ℕ, true, false, List, [], None}
use Rattle.sail_types.specs.Belongs.{belongs, no_readings, reading}
use Rattle.sail_types.specs.Numbers.{Positive}
use Rattle.sail_types.specs.declared.table.Types.{Types}
use Rattle.sail_types.specs.declared.types.Typ.{Typ}
use Rattle.sail_types.specs.declared.values.Value.{Value}
use Rattle.model_state.specs.declared.cause.Cause.{Cause}
use Rattle.model_state.specs.declared.state.Register.{Register}
use Rattle.model_state.specs.RunState.{RunState}
use Rattle.sail_core.specs.Making.{World}
use Rattle.sail_core.specs.Run as R
use Rattle.sail_core.specs.Run.{Ended, Now}
use Rattle.sail_core.specs.Start.{Added, begun, opening_run, opening_world, set_all}
use Rattle.sail_core.specs.declared.model.CoreModel.{CoreModel}
use Rattle.sail_core.specs.declared.model.Opening.{Opening}
use Rattle.sail_core.specs.declared.model.OpeningKind.TheVariants as O
use Rattle.sail_core.specs.declared.tree.Core.{Core}
use Rattle.pattern_leaves.specs.Settings.{Around}
use Rattle.pattern_leaves.specs.declared.names.TopLevel.{TopLevel}
use Rattle.call_arguments.specs.Aims.{aimed}
use Rattle.call_arguments.specs.declared.aims.Aim.{Aim}
use Rattle.call_arguments.specs.declared.aims.Aim.TheVariants as Aims
use Rattle.expression_steps.specs.Expressions.{part}
use Rattle.checked_meaning.specs.Checked.{Cases, checked}
use Rattle.checked_meaning.specs.Items.{Item}
use Rattle.soundness_steps.specs.Works.{Coverage, Scene, Setting, nobody}
use Rattle.soundness_steps.specs.Covers.{AreMet}
use Rattle.soundness_steps.specs.States.{StateBelongs, nothing_stands}
use Rattle.soundness_forms.specs.Standing.{standing}
use Rattle.soundness_forms.specs.Worlds.{LetsAre}
use Rattle.sail_soundness.specs.Whole.{OthersFine, nodes}
use Rattle.soundness_calls.specs.Directions.{bare_type}

abbrev pub pure_around : CoreModel → List Register → List TopLevel → Around
pure_around m registers lets = record {
  types = m.types;
  exception = None;
  registers = registers;
  functions = [];
  directions = [];
  lets = lets;
  numbers = [];
  answer = None;
}

-- with no mapping, so that all that are there are covered
abbrev pub pure_setting : CoreModel → Positive → Coverage → List Register → List TopLevel → Setting
pure_setting m past covered registers lets = record {
  around = pure_around m registers lets;
  past = past;
  hart = 0;
  covered = record covered { direction = λ d. true };
}

abbrev pub pure_scene : Setting → Cases → Scene
pure_scene set cases = record {
  set = set;
  work = nobody;
  numbers = [];
  result = None;
  cases = cases;
  reached = λ d. true;
  answer = None;
  may_fall = false;
  names = [];
}

-- the value stands as the resolver puts it, and its nodes that aren't of a proved kind are fine
pub record ValueStands (q : Scene) (w : World Item) (c : Core) : Type 0 where
  pub right : (standing q.set.around c).right ≡ true
  pub no_guard : (standing q.set.around c).guard ≡ false
  pub others : OthersFine q w (nodes c)

-- it ends with what is added, or stops
pub data OpeningEnds (Holds : Added → Type 0) : Ended Item Added → Type 0 where
  opening_gives : (a : Added) (now : Now Item) → Holds a → OpeningEnds Holds (R.Gives a now)
  opening_stops : (cause : Cause) (now : Now Item) → OpeningEnds Holds (R.Stops cause now)

-- a register of all harts gets a value of its type
abbrev pub RegisterAdds : Types → Positive → ℕ → Typ → Added → Type 0
RegisterAdds types past r t a = (v : Value) × (a ≡ record { values = []; change = set_all r v })
    × (belongs types v (reading t (nothing_stands past) no_readings) ≡ true)

abbrev pub initial_aim : Typ → Aim
initial_aim t = aimed Aims.Due (bare_type t)

abbrev pub InitialsAreSound : Type 0
InitialsAreSound = (m : CoreModel) (past : Positive) (covered : Coverage) (registers : List Register) (lets : List TopLevel) (vs : List Value)
    (cases : Cases)
    → LetsAre (pure_setting m past covered registers lets) nobody lets vs → (o : Opening) (r : ℕ) (t : Typ) → o.kind ≡ O.Register r
    → ValueStands (pure_scene (pure_setting m past covered registers lets) cases) (opening_world vs) o.value
    → AreMet (pure_setting m past covered registers lets) nobody (λ d. true) cases
    ((part o.value).walk (pure_around m registers lets) [] (initial_aim t) [] 0).notes
    → (state : RunState) → StateBelongs (pure_setting m past covered registers lets) state
    → OpeningEnds (RegisterAdds m.types past r t) (opening_run (checked m.types cases) vs o (begun 0 state))
