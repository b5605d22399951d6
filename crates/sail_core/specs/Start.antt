-- What a model comes to: its top-level lets and initial values, which are worked out once, and its events. The end of an event and
-- the words for openings are those of the source too.
use Rattle.std.specs.Prelude.{ℕ, suc, pos, List, [], ◌∷◌, ◌++◌, map, slice_get, Option, Some, None}
use Rattle.sail_base.specs.Bits.{bits_of}
use Rattle.sail_base.specs.declared.place.Place.{Place}
use Rattle.sail_types.specs.Named.{constructors}
use Rattle.sail_types.specs.declared.table.Field.{Field}
use Rattle.sail_types.specs.declared.table.Types.{Types}
use Rattle.sail_types.specs.declared.values.Value.{Value, Value-F, out-Value}
use Rattle.sail_types.specs.declared.values.Value.TheVariants as V
use Rattle.sail_types.specs.declared.values.Value.TheOpen as W
use Rattle.model_state.specs.declared.cause.Cause.{Cause}
use Rattle.model_state.specs.declared.cause.Cause.TheVariants.{MatchFailure, Exception}
use Rattle.model_state.specs.declared.cause.Ended.TheVariants as E
use Rattle.model_state.specs.RunState.{RunState, Ran, hart_with_register}
use Rattle.model_state.specs.Folds.{Meaning}
use Rattle.sail_core.specs.declared.model.Opening.{Opening}
use Rattle.sail_core.specs.declared.model.OpeningKind.{OpeningKind}
use Rattle.sail_core.specs.declared.model.OpeningKind.TheVariants as O
use Rattle.sail_core.specs.declared.model.CoreModel.{CoreModel}
use Rattle.sail_core.specs.Run as R
use Rattle.sail_core.specs.Run.{Local, Now, Run, Ended, gives, stuck, stops, falls, needs, ◌then◌, ◌or_else◌}
use Rattle.sail_core.specs.Numbers.{Awaited}
use Rattle.sail_core.specs.Making.{Making, World}
use Rattle.sail_core.specs.Patterns.{arm_meaning}
use Rattle.sail_core.specs.Meaning.{meaning}
use Rattle.sail_core.specs.Program.{Sizing, Setting, plain, calls, event_of}

-- so many ticks, no name in scope, and no access yet
abbrev pub begun : {X : Type 0} → ℕ → RunState → Now X
begun ticks state = record { locals = []; ticks = ticks; state = state; accesses = []; opened = λ i. None }

-- ---- the end of what the run calls

abbrev pub name_of : Option Field → List ℕ
name_of None = []
name_of (Some constructor) = constructor.name

-- the name of the constructor that was thrown
abbrev pub thrown_name : Types → Value-F Value → List ℕ
thrown_name types (W.Union u c v) = name_of (slice_get (constructors types u) c)
thrown_name types v = []

-- an exception that leaves what the run calls stops it; nothing is said of a run that is stuck
abbrev pub ran_of : {X : Type 0} → Types → Ended X Value → Option Ran
ran_of types (R.Gives v now) = Some (record { ended = E.Value v; state = now.state; accesses = now.accesses })
ran_of types (R.Throws v now) = Some (record { ended = E.Stop (Exception (thrown_name types (out-Value v))); state = now.state; accesses = now.accesses })
ran_of types (R.Stops cause now) = Some (record { ended = E.Stop cause; state = now.state; accesses = now.accesses })
ran_of types (R.No now) = None
ran_of types (R.Returns v now) = None
ran_of types R.Stuck = None

-- ---- openings

-- a state in which nothing is
abbrev pub nowhere : Types → RunState
nowhere types = record { types = types; registers = []; harts = []; base = 0; bytes = []; console = [] }

-- in which each opening is worked out, since its value hangs on none
abbrev pub blank : RunState
blank = nowhere (record { definitions = [] })

-- how openings end, one after the other: the values of the names of lets and the state then, a stop, or stuck
pub data Opened : Type 0 where
  opened : List Value → RunState → Opened
  opened_to : Cause → RunState → Opened
  opened_not : Opened

-- a register of all harts with this value
abbrev pub set_all : ℕ → Value → RunState → RunState
set_all r v state = record state { harts = map (hart_with_register r v) state.harts }

-- what an opening adds to the values of lets, and to the state
pub record Added : Type 0 where
  pub values : List Value
  pub change : RunState → RunState

abbrev pub values_of : {X : Type 0} → Making X → List (Local X) → List Value
values_of z found = map (λ l. z.val l.held) found

-- the names of a let in the order in which they are bound; the run stops at the let where its pattern doesn't match
abbrev pub opening_kind : {X : Type 0} → Making X → World X → Place → OpeningKind → X → Run X Added
opening_kind z w place (O.Let arm) x =
    (arm_meaning z w arm (x ∷ []) or_else stops (MatchFailure place)) then λ found. gives (record { values = values_of z found; change = λ state. state })
opening_kind z w place (O.Register r) x = gives (record { values = []; change = set_all r (z.val x) })

-- an opening calls nothing of the model and asks nothing of a hart
abbrev pub opening_world : {X : Type 0} → List Value → World X
opening_world lets = record {
  hart = 0;
  numbers = [];
  arguments = [];
  lets = lets;
  call = λ place i awaited vs. stuck;
  enter = λ d v. stuck;
  way = λ d x. stuck;
}

abbrev pub opening_run : {X : Type 0} → Making X → List Value → Opening → Run X Added
opening_run z lets o = meaning z (opening_world lets) o.value then opening_kind z (opening_world lets) o.place o.kind

-- the openings behind one, with what it adds
abbrev pub after_opening : {X : Type 0} → Ended X Added → List Value → RunState → (List Value → RunState → Opened) → Opened
after_opening (R.Gives added now) lets state more = more (lets ++ added.values) (added.change state)
after_opening (R.Stops cause now) lets state more = opened_to cause state
after_opening (R.No now) lets state more = opened_not
after_opening (R.Returns v now) lets state more = opened_not
after_opening (R.Throws v now) lets state more = opened_not
after_opening R.Stuck lets state more = opened_not

-- openings from this number on, in the order of the text, over the values of the lets before
abbrev pub openings_from : {X : Type 0} → Sizing X → ℕ → List Opening → List Value → RunState → Opened
openings_from sizing i [] lets state = opened lets state
openings_from sizing i (o ∷ os) lets state =
    after_opening (opening_run (sizing.opening i) lets o (begun 0 blank)) lets state (openings_from sizing (suc i) os)

abbrev pub openings_of : {X : Type 0} → Sizing X → CoreModel → RunState → Opened
openings_of sizing m state = openings_from sizing 0 m.openings [] state

abbrev pub ran_from : Opened → Option Ran
ran_from (opened lets state) = Some (record { ended = E.Value V.Unit; state = state; accesses = [] })
ran_from (opened_to cause state) = Some (record { ended = E.Stop cause; state = state; accesses = [] })
ran_from opened_not = None

abbrev pub lets_in : Opened → List Value
lets_in (opened lets state) = lets
lets_in (opened_to cause state) = []
lets_in opened_not = []

-- the values of the names that top-level lets bind
abbrev pub lets_of : {X : Type 0} → Sizing X → CoreModel → List Value
lets_of sizing m = lets_in (openings_of sizing m (nowhere m.types))

-- ---- events

-- `reset` of a hart and each event have so many ticks
unfoldable pub event_ticks : ℕ
event_ticks = 1000000

abbrev pub setting_of : {X : Type 0} → Sizing X → CoreModel → ℕ → Setting X
setting_of sizing m hart = record { functions = m.functions; directions = m.directions; sizing = sizing; hart = hart; lets = lets_of sizing m }

-- a hart enters a function of the model with so many ticks
abbrev pub event_run : {X : Type 0} → Sizing X → CoreModel → ℕ → Awaited → ℕ → ℕ → List Value → RunState → Ended X Value
event_run sizing m ticks awaited hart i vs state =
    event_of (setting_of sizing m hart) (calls (setting_of sizing m hart) (suc ticks)) i awaited vs (slice_get m.functions i) (begun ticks state)

-- `step`, and `reset` with the number of the hart and the entry of the program; no run, where it is stuck
abbrev pub step_ran : {X : Type 0} → Sizing X → CoreModel → ℕ → RunState → Option Ran
step_ran sizing m hart state = ran_of m.types (event_run sizing m event_ticks None hart m.step (V.Unit ∷ []) state)

abbrev pub reset_ran : {X : Type 0} → Sizing X → CoreModel → ℕ → ℕ → RunState → Option Ran
reset_ran sizing m hart entry state =
    ran_of m.types (event_run sizing m event_ticks None hart m.reset (V.Integer (pos hart) ∷ V.Bits (bits_of 64 entry) ∷ []) state)

abbrev pub init_ran : {X : Type 0} → Sizing X → CoreModel → RunState → Option Ran
init_ran sizing m state = ran_from (openings_of sizing m state)

-- a run of which nothing is said
abbrev pub or_nothing : RunState → Option Ran → Ran
or_nothing state None = record { ended = E.Value V.Unit; state = state; accesses = [] }
or_nothing state (Some ran) = ran

-- a model as what runs are folded over (`Folds` of the state), where nothing is stuck
abbrev pub model_meaning : CoreModel → Meaning
model_meaning m = record {
  registers = m.registers;
  init = λ state. or_nothing state (init_ran plain m state);
  reset = λ hart entry state. or_nothing state (reset_ran plain m hart entry state);
  step = λ hart state. or_nothing state (step_ran plain m hart state);
}
