-- An accepted model is never stuck under the checked meaning: what is known of it beside its instances, and that its events end right.
use Rattle.std.specs.Prelude.{◌≡◌, ℕ, true, List, [], ◌∷◌, slice_get, Some}
use Rattle.sail_types.specs.Numbers.{Positive}
use Rattle.sail_types.specs.declared.values.Value.{Value}
use Rattle.sail_types.specs.declared.values.Value.TheVariants as V
use Rattle.model_state.specs.RunState.{RunState}
use Rattle.sail_core.specs.Making.{World}
use Rattle.sail_core.specs.Numbers.{Givens}
use Rattle.sail_core.specs.Start.{nowhere, opened, openings_of, reset_ran, step_ran}
use Rattle.sail_core.specs.declared.model.CoreModel.{CoreModel}
use Rattle.sail_core.specs.declared.model.Direction.{Direction}
use Rattle.sail_core.specs.declared.model.Function.{Function}
use Rattle.sail_core.specs.declared.tree.Core.{Core}
use Rattle.constraint_gen.specs.Models.{around_of}
use Rattle.constraint_gen.specs.Obligations.{obligations}
use Rattle.checked_meaning.specs.Checked.{Checks, checking}
use Rattle.checked_meaning.specs.Items.{Item}
use Rattle.value_laws.specs.Belonging.{Integers}
use Rattle.goal_laws.specs.Goals.{AllHold}
use Rattle.met_notes.specs.Covers.{Covers, DirectionsPaired, side_at}
use Rattle.soundness_steps.specs.Works.{Coverage, Setting, Work, nobody}
use Rattle.soundness_steps.specs.States.{StateBelongs}
use Rattle.soundness_binding.specs.Patterned.{arms_stand}
use Rattle.sail_soundness.specs.Whole.{ModelStands}
use Rattle.soundness_calls.specs.Laws.{scene_of}
use Rattle.soundness_calls.specs.Directions.{Side, scene_across}
use Rattle.soundness_calls.specs.Events.{EndsRight, EventEnters, checks_of, entered_by, reset_arguments}
use Rattle.sail_calls.specs.Bodies.{Clauses}
use Rattle.sail_calls.specs.Models.{WaysOf, own_arms}
use Rattle.whole_runs.specs.OpeningsStand.{OpeningsAreRight}
use Rattle.whole_runs.specs.Own.{is_own}

-- a model at work: an integer that powers past the largest are taken for, a hart, and what instances cover
abbrev pub setting_in : CoreModel → Positive → ℕ → Coverage → Setting
setting_in m past hart covered = record { around = around_of m; past = past; hart = hart; covered = covered }

-- ---- what the tables give of each text that they accept

pub record IsFound (set : Setting) (m : CoreModel) : Type 0 where
  -- a constraint names its function's own variables alone, each by its kind
  pub constraints : (i : ℕ) (f : Function) → slice_get m.functions i ≡ Some f → is_own f.variables f.constraint ≡ true
  -- each direction stands beside the other one of its mapping
  pub sides : DirectionsPaired m
  -- the functions that a hart enters have no variables, and the arguments of an event belong to their parameters
  pub step : set.covered.function (entered_by m.step) ≡ true → EventEnters set m.step (V.Unit ∷ [])
  pub reset : set.covered.function (entered_by m.reset) ≡ true → (entry : ℕ) → EventEnters set m.reset (reset_arguments set.hart entry)

-- ---- what bodies and patterns are taken to be, and openings

-- the clauses of a function, and those of its measure
pub record FunctionStands (set : Setting) (k : Checks) (x : Work) (f : Function) : Type 0 where
  pub model : ModelStands set x
  pub body : (h : Integers) (nu : Givens) (w : World Item)
      → Clauses (scene_of set x f h (k.function x.function x.instance.place nu)) w f.is_declared f.body
  pub measure : (h : Integers) (nu : Givens) (w : World Item) (core : Core) → f.measure ≡ Some core
      → Clauses (scene_of set x f h (k.function x.function x.instance.place nu)) w true core

pub record DirectionStands (set : Setting) (rank : ℕ → ℕ) (k : Checks) (d : ℕ) (m : Direction) (side : Side) : Type 0 where
  pub model : ModelStands set nobody
  pub ways : WaysOf (scene_across set k rank d) side m
  pub patterns : arms_stand set.around.types [] (own_arms (scene_across set k rank d) side m ways) ≡ true

-- openings end: no pattern of a top-level let fails to match
abbrev pub AllEnd : CoreModel → Checks → Type 0
AllEnd m k = (vs : List Value) × (state : RunState) × (openings_of (checking (checks_of m k)) m (nowhere m.types) ≡ opened vs state)

pub record Stands (set : Setting) (m : CoreModel) (k : Checks) (rank : ℕ → ℕ) : Type 0 where
  -- top-level lets and initial values, where there is no register
  pub openings : OpeningsAreRight m set.past set.covered (checks_of m k) 0 [] m.openings
  pub functions : (x : Work) (f : Function) → set.covered.function x ≡ true → slice_get m.functions x.function ≡ Some f → FunctionStands set k x f
  pub directions : (d : ℕ) (n : Direction) (side : Side) → slice_get m.directions d ≡ Some n → side_at m.directions d ≡ Some side
      → DirectionStands set rank k d n side

-- where all obligations hold, instances cover the rest and openings end, `step` and `reset` aren't stuck, and registers belong to their types where they
-- end
abbrev pub NeverStuck : Type 0
NeverStuck = (m : CoreModel) (past : Positive) (hart : ℕ) (covered : Coverage) (k : Checks) (rank : ℕ → ℕ) → AllHold (obligations m)
    → Covers (setting_in m past hart covered) m k rank → IsFound (setting_in m past hart covered) m
    → Stands (setting_in m past hart covered) m k rank → AllEnd m k → (state : RunState) → StateBelongs (setting_in m past hart covered) state
    → EndsRight (setting_in m past hart covered) (step_ran (checking (checks_of m k)) m hart state)
    × ((entry : ℕ) → EndsRight (setting_in m past hart covered) (reset_ran (checking (checks_of m k)) m hart entry state))
