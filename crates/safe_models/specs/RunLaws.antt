-- Events of a module that is made of a core come to what they come to in the core.
use Rattle.std.specs.Prelude.{◌≡◌, ◌<◌, ◌≤◌, ℕ, pos, false, List, [], ◌∷◌, Some, None, Ok}
use Rattle.sail_base.specs.Bits.{bits_of}
use Rattle.sail_types.specs.Numbers.{Positive}
use Rattle.sail_types.specs.declared.values.Value.{Value}
use Rattle.sail_types.specs.declared.values.Value.TheVariants as V
use Rattle.model_state.specs.RunState.{Ran, RunState}
use Rattle.sail_core.specs.Program.{plain}
use Rattle.sail_core.specs.Start.{event_run, event_ticks, ran_of, reset_ran, step_ran}
use Rattle.sail_core.specs.declared.model.CoreModel.{CoreModel}
use Rattle.constraint_gen.specs.Obligations.{obligations}
use Rattle.goal_laws.specs.Goals.{AllHold}
use Rattle.checked_meaning.specs.Checked.{checking}
use Rattle.sized_trees.specs.Trees.{sized_core}
use Rattle.sized_nodes.specs.declared.trees.SizedCore.{SizedCore}
use Rattle.sized_meanings.specs.Sized.{noted_checks_of}
use Rattle.sail_compile.specs.Models.{AreAccepted}
use Rattle.sail_compile.specs.declared.models.Accepted.{Accepted}
use Rattle.whole_runs.specs.Never.{AllEnd}
use Rattle.whole_runs.specs.Safe.{IsFit}
use Rattle.safe_models.specs.Tables.{IsWhole, core_in}
use Rattle.jib.specs.Openings.{Calls}
use Rattle.lowered_laws.specs.Modules.{Made}
use Rattle.safe_models.specs.RunEvents.{IsEntered, MadeOf}
use Rattle.safe_models.specs.Safe.{Cycles}

-- an event that isn't stuck where cases go by noted numbers is a call of the module
abbrev pub EventsCome : Type 0
EventsCome = (m : CoreModel) (c : SizedCore) (hart : ℕ) (x : Made) → MadeOf m c hart x → (i p : ℕ) → IsEntered m c i p
    → (ticks : ℕ) (vs : List Value) (state : RunState) (ran : Ran)
    → ran_of m.types (event_run (checking (noted_checks_of m c)) m ticks None hart i vs state) ≡ Some ran
    → Calls x.m m.types x.lets hart ticks (x.event p) vs state ran

-- events of an accepted text whose instances are found enter the first two: `reset` the first, `step` the second
abbrev pub EventsEnter : Type 0
EventsEnter = (texts : List (List ℕ)) (made : Accepted) (accepted : AreAccepted texts made) (cycle : Cycles) (c : SizedCore)
    → sized_core (core_in accepted cycle) ≡ Ok c
    → IsEntered (core_in accepted cycle) c (core_in accepted cycle).reset 0 × IsEntered (core_in accepted cycle) c (core_in accepted cycle).step 1

-- `step`, and `reset` with the number of the hart and the entry of the program, come to this in the model, and by the function of the module
pub record Steps (m : CoreModel) (hart : ℕ) (x : Made) (state : RunState) : Type 0 where
  pub ran : Ran
  pub plainly : step_ran plain m hart state ≡ Some ran
  pub lowered : Calls x.m m.types x.lets hart event_ticks (x.event 1) (V.Unit ∷ []) state ran

pub record Resets (m : CoreModel) (hart entry : ℕ) (x : Made) (state : RunState) : Type 0 where
  pub ran : Ran
  pub plainly : reset_ran plain m hart entry state ≡ Some ran
  pub lowered : Calls x.m m.types x.lets hart event_ticks (x.event 0) (V.Integer (pos hart) ∷ V.Bits (bits_of 64 entry) ∷ []) state ran

-- where the obligations of the core of an accepted text hold, whatever the numbers of its cycles of calls, its tables are whole without the numbers that
-- values give themselves, and openings end
abbrev pub LoweredEventsMean : Type 0
LoweredEventsMean = (texts : List (List ℕ)) (made : Accepted) (accepted : AreAccepted texts made) (cycle : Cycles) (c : SizedCore)
    → AllHold (obligations (core_in accepted cycle)) → IsWhole false (core_in accepted cycle) c
    → (past : Positive) (count : ℕ) → 0 < count → count ≤ 8 → AllEnd (core_in accepted cycle) (noted_checks_of (core_in accepted cycle) c)
    → (hart : ℕ) → hart < count → (x : Made) → MadeOf (core_in accepted cycle) c hart x → (state : RunState) → IsFit (core_in accepted cycle) past count state
    → Steps (core_in accepted cycle) hart x state × ((entry : ℕ) → Resets (core_in accepted cycle) hart entry x state)
