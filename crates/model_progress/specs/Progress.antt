-- In a model whose definitions have shapes nothing is stuck but where a condition on sizes or numbers fails: from its openings through each event.
use Rattle.std.specs.Prelude.{◌≡◌, ◌⊎◌, ℕ, ◌<◌, Bool, true, false, List, [], ◌∷◌, length, pos, slice_get, Some, None}
use Rattle.sail_base.specs.Bits.{bits_of}
use Rattle.sail_types.specs.Shapes.{fits, shape}
use Rattle.sail_types.specs.declared.shapes.Shape.{Shape}
use Rattle.sail_types.specs.declared.shapes.Shape.TheVariants as V
use Rattle.sail_types.specs.declared.values.Value.{Value}
use Rattle.sail_types.specs.declared.values.Value.TheVariants as Val
use Rattle.model_state.specs.Folds.{after_step, rests}
use Rattle.model_state.specs.RunState.{Ran, RunState}
use Rattle.model_state.specs.declared.cause.Cause.TheVariants.{StepsDone}
use Rattle.model_state.specs.declared.cause.Ended.{Ended as EndOfRow}
use Rattle.model_state.specs.declared.cause.Ended.TheVariants as E
use Rattle.sail_core.specs.declared.model.CoreModel.{CoreModel}
use Rattle.sail_core.specs.declared.model.Function.{Function}
use Rattle.sail_core.specs.Run as R
use Rattle.sail_core.specs.Run.{Ended}
use Rattle.sail_core.specs.Program.{plain}
use Rattle.sail_core.specs.Start as S
use Rattle.sail_core.specs.Start.{Opened, event_run, event_ticks, lets_of, openings_of, ran_of, reset_ran, step_ran}
use Rattle.shape_meanings.specs.Whole.{Choice}
use Rattle.shape_meanings.specs.Keeping.{Fits, FitAll, RegistersFit}
use Rattle.shape_progress.specs.Checks.{Table}
use Rattle.shape_progress.specs.Going.{rows}
use Rattle.shape_progress.specs.Meant.{IsUnmet}
use Rattle.model_progress.specs.Checked.{checked_event, checked_openings}
use Rattle.model_progress.specs.Shaped.{Common, ModelHas, common_of, params_of}

-- ---- the state

-- each hart has each register, with a value of its shape
pub record IsFit (common : Common) (state : RunState) : Type 0 where
  pub registers : RegistersFit common.types common.registers state
  pub there : (k r : ℕ) (vs : List Value) (s : Shape) → slice_get (rows state) k ≡ Some vs → slice_get common.registers r ≡ Some s
      → (v : Value) × (slice_get vs r ≡ Some v)

-- a hart of this number is there
abbrev pub IsThere : ℕ → RunState → Type 0
IsThere hart state = hart < length state.harts

-- ---- events

-- it gives a value of the shape of the function's result, or throws one of the shape of exceptions, and each hart has each register behind it; or it
-- stops: it isn't stuck
abbrev pub EventGoes : Common → Function → Choice → Ended Value Value → Type 0
EventGoes common f c (R.Gives v now) = Fits common.types c (shape f.result) v × IsFit common now.state
EventGoes common f c (R.Throws v now) = (fits common.types v common.thrown ≡ true) × IsFit common now.state
EventGoes common f c (R.Stops cause now) = Unit {0}
EventGoes common f c e = ⊥

-- a function that an event enters, in the checked reading
abbrev pub EventsGoOn : Type 0
EventsGoOn =
    (m : CoreModel) (shapes : List Shape) (rank : ℕ → ℕ) → ModelHas (common_of m shapes) m rank
    → ((c : Choice) → FitAll m.types c shapes (lets_of plain m))
    → (t : Table) → t.types ≡ m.types → (ticks hart i : ℕ) (f : Function) → slice_get m.functions i ≡ Some f → (c : Choice) (vs : List Value)
    → FitAll m.types c (params_of f.parameters) vs → (state : RunState) → IsFit (common_of m shapes) state → IsThere hart state
    → EventGoes (common_of m shapes) f c (checked_event t m ticks hart i vs state)

-- in any model an event in the checked reading is the event, or it stops where a condition fails
abbrev pub EventsAreMeant : Type 0
EventsAreMeant =
    (t : Table) (m : CoreModel) (ticks hart i : ℕ) (vs : List Value) (state : RunState)
    → (checked_event t m ticks hart i vs state ≡ event_run plain m ticks None hart i vs state) ⊎ IsUnmet (checked_event t m ticks hart i vs state)

-- so where `step` or `reset` of a hart is stuck, a condition fails
abbrev pub EventsAreStuckAtConditions : Type 0
EventsAreStuckAtConditions =
    (m : CoreModel) (shapes : List Shape) (rank : ℕ → ℕ) → ModelHas (common_of m shapes) m rank
    → ((c : Choice) → FitAll m.types c shapes (lets_of plain m))
    → (t : Table) → t.types ≡ m.types → (hart : ℕ) (state : RunState) → IsFit (common_of m shapes) state → IsThere hart state
    → ((f : Function) (c : Choice) → slice_get m.functions m.step ≡ Some f → FitAll m.types c (params_of f.parameters) (Val.Unit ∷ [])
    → step_ran plain m hart state ≡ None → IsUnmet (checked_event t m event_ticks hart m.step (Val.Unit ∷ []) state))
    × ((f : Function) (c : Choice) (entry : ℕ) → slice_get m.functions m.reset ≡ Some f
    → FitAll m.types c (params_of f.parameters) (Val.Integer (pos hart) ∷ Val.Bits (bits_of 64 entry) ∷ [])
    → reset_ran plain m hart entry state ≡ None
    → IsUnmet (checked_event t m event_ticks hart m.reset (Val.Integer (pos hart) ∷ Val.Bits (bits_of 64 entry) ∷ []) state))

-- ---- openings

-- they come to values of these shapes, and each hart has each register then; or they stop: they aren't stuck
abbrev pub OpeningsGo : Common → Opened → Type 0
OpeningsGo common (S.opened lets state) = ((c : Choice) → FitAll common.types c common.lets lets) × IsFit common state
OpeningsGo common (S.opened_to cause state) = Unit {0}
OpeningsGo common S.opened_not = ⊥

-- openings that stopped where a condition fails
abbrev pub AreUnmet : Opened → Type 0
AreUnmet (S.opened_to StepsDone state) = Unit {0}
AreUnmet end = ⊥

abbrev pub OpeningsGoOn : Type 0
OpeningsGoOn =
    (m : CoreModel) (shapes : List Shape) (rank : ℕ → ℕ) → ModelHas (common_of m shapes) m rank → (t : Table) → t.types ≡ m.types
    → (state : RunState) → IsFit (common_of m shapes) state → OpeningsGo (common_of m shapes) (checked_openings t m.openings [] state)

abbrev pub OpeningsAreMeant : Type 0
OpeningsAreMeant =
    (t : Table) (m : CoreModel) (state : RunState)
    → (checked_openings t m.openings [] state ≡ openings_of plain m state) ⊎ AreUnmet (checked_openings t m.openings [] state)

-- ---- whole runs

-- an event comes to an end, and then so does what is asked of it; or a condition fails in it
abbrev pub Comes : Table → CoreModel → ℕ → ℕ → List Value → RunState → (Ran → Type 0) → Type 0
Comes t m hart i vs state next =
    IsUnmet (checked_event t m event_ticks hart i vs state)
    ⊎ ((ran : Ran) × (ran_of m.types (event_run plain m event_ticks None hart i vs state) ≡ Some ran) × next ran)

-- behind an event that doesn't stop
abbrev pub Behind : EndOfRow → Type 0 → Type 0
Behind (E.Value v) next = next
Behind (E.Stop cause) next = Unit {0}

-- harts that are there are reset in order
abbrev pub ResetsCome : Table → CoreModel → ℕ → List ℕ → RunState → Type 0
ResetsCome t m entry [] state = Unit {0}
ResetsCome t m entry (hart ∷ harts) state =
    IsThere hart state → Comes t m hart m.reset (Val.Integer (pos hart) ∷ Val.Bits (bits_of 64 entry) ∷ []) state
    (λ ran. Behind ran.ended (ResetsCome t m entry harts ran.state))

-- an event of a hart that is there, where it doesn't rest
abbrev pub EventComes : Table → CoreModel → ℕ → RunState → (RunState → Type 0) → Bool → Type 0
EventComes t m hart state next true = next state
EventComes t m hart state next false =
    IsThere hart state → Comes t m hart m.step (Val.Unit ∷ []) state (λ ran. Behind ran.ended (next (after_step hart ran.ended ran.state)))

-- each event of a schedule, up to the first that stops
abbrev pub EventsCome : Table → CoreModel → List ℕ → RunState → Type 0
EventsCome t m [] state = Unit {0}
EventsCome t m (hart ∷ schedule) state = EventComes t m hart state (EventsCome t m schedule) (rests state hart)

-- a function of the model with parameters of these shapes
abbrev pub Enters : CoreModel → ℕ → List Shape → Type 0
Enters m i params = (f : Function) × (slice_get m.functions i ≡ Some f) × (params_of f.parameters ≡ params)

-- from a state in which each hart has its registers, harts are reset and take their steps: nothing is stuck in any event, unless a condition fails
abbrev pub RunsCome : Type 0
RunsCome =
    (m : CoreModel) (shapes : List Shape) (rank : ℕ → ℕ) → ModelHas (common_of m shapes) m rank
    → ((c : Choice) → FitAll m.types c shapes (lets_of plain m)) → Enters m m.step (V.Unit ∷ []) → Enters m m.reset (V.Int ∷ V.Bits ∷ [])
    → (t : Table) → t.types ≡ m.types → (state : RunState) → IsFit (common_of m shapes) state
    → ((entry : ℕ) (harts : List ℕ) → ResetsCome t m entry harts state) × ((schedule : List ℕ) → EventsCome t m schedule state)
