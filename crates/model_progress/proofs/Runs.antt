-- Whole runs: each event leaves a state in which the next one comes to an end too, unless a condition fails.
use Rattle.std.proofs.Common.{◌≡◌, ◌⊎◌, inl, inr, ℕ, zero, suc, pos, Bool, true, false, List, [], ◌∷◌, map, ap, sym, ◌∙◌, refl, subst, Some, None, slice_get}
use Rattle.sail_base.specs.Bits.{bits_of}
use Rattle.sail_types.specs.Shapes.{fits, each_fits, put}
use Rattle.sail_types.specs.declared.shapes.Shape.{Shape}
use Rattle.sail_types.specs.declared.shapes.Shape.TheOpen as Q
use Rattle.sail_types.specs.declared.shapes.Shape.TheVariants as V
use Rattle.sail_types.specs.declared.table.Types.{Types}
use Rattle.sail_types.specs.declared.values.Value.{Value, out-Value}
use Rattle.sail_types.specs.declared.values.Value.TheOpen as W
use Rattle.sail_types.specs.declared.values.Value.TheVariants as Val
use Rattle.model_state.specs.Folds.{after_step, resting, rests, set_rests}
use Rattle.model_state.specs.RunState.{Ran, RunState, changed, values_of}
use Rattle.model_state.specs.declared.cause.Cause.TheVariants.{Exception}
use Rattle.model_state.specs.declared.cause.Ended.{Ended as EndOfRow}
use Rattle.model_state.specs.declared.cause.Ended.TheVariants as E
use Rattle.model_state.specs.declared.state.Hart.{Hart}
use Rattle.sail_core.specs.declared.model.CoreModel.{CoreModel}
use Rattle.sail_core.specs.declared.model.Function.{Function}
use Rattle.sail_core.specs.Run as R
use Rattle.sail_core.specs.Run.{Ended}
use Rattle.sail_core.specs.Program.{plain}
use Rattle.sail_core.specs.Start.{event_run, event_ticks, lets_of, ran_of, thrown_name}
use Rattle.shape_joins.proofs.Order.{two}
use Rattle.shape_meanings.specs.Whole.{Choice}
use Rattle.shape_meanings.specs.Keeping.{FitAll}
use Rattle.shape_meanings.proofs.Settling.{form_has}
use Rattle.shape_progress.specs.Checks.{Table}
use Rattle.shape_progress.specs.Meant.{IsUnmet}
use Rattle.shape_progress.proofs.Forms.{integer_fits, unit_fits}
use Rattle.model_progress.specs.Checked.{checked_event}
use Rattle.model_progress.specs.Shaped.{Common, ModelHas, common_of}
use Rattle.model_progress.specs.Progress.{Behind, Comes, Enters, EventComes, EventGoes, EventsCome, IsFit, IsThere, ResetsCome, RunsCome}
use Rattle.model_progress.proofs.Events.{events_go_on}
use Rattle.model_progress.proofs.Meant.{events_are_meant}

-- ---- a hart that rests has the registers of before

same_values : (hart i : ℕ) (harts : List Hart) → values_of (slice_get (changed resting hart harts) i) ≡ values_of (slice_get harts i)
same_values hart i [] = refl
same_values zero zero (h ∷ harts) = refl
same_values zero (suc i) (h ∷ harts) = refl
same_values (suc hart) zero (h ∷ harts) = refl
same_values (suc hart) (suc i) (h ∷ harts) = same_values hart i harts

-- the registers of each hart
abbrev regs : List Hart → List (List Value)
regs harts = map (λ (h : Hart). h.registers) harts

same_regs : (hart : ℕ) (harts : List Hart) → regs (changed resting hart harts) ≡ regs harts
same_regs hart [] = refl
same_regs zero (h ∷ harts) = refl
same_regs (suc hart) (h ∷ harts) = ap (λ vss. h.registers ∷ vss) (same_regs hart harts)

rest_fit : (common : Common) (hart : ℕ) (state : RunState) → IsFit common state → IsFit common (set_rests hart state)
rest_fit common hart state is = record {
  registers = λ i r v s e there. is.registers i r v s (ap (λ vs. slice_get vs r) (sym (same_values hart i state.harts)) ∙ e) there;
  there = λ k r vs s e there. is.there k r vs s (ap (λ vss. slice_get vss k) (sym (same_regs hart state.harts)) ∙ e) there;
}

step_fit : (common : Common) (hart : ℕ) (e : EndOfRow) (state : RunState) → IsFit common state → IsFit common (after_step hart e state)
step_fit common hart (E.Value (Val.Truth false)) state is = rest_fit common hart state is
step_fit common hart e state is = is

-- ---- one event

behind_as : {A B : Type 0} (e : EndOfRow) → (A → B) → Behind e A → Behind e B
behind_as (E.Value v) f h = f h
behind_as (E.Stop cause) f h = tt

-- the end of an event, where it isn't stuck, and what its state is like
end_comes : (common : Common) (f : Function) (c : Choice) (types : Types) (e : Ended Value Value) (next : Ran → Type 0) → EventGoes common f c e
    → ((ran : Ran) → Behind ran.ended (IsFit common ran.state) → next ran) → (ran : Ran) × (ran_of types e ≡ Some ran) × next ran
end_comes common f c types (R.Gives v now) next h k = (
  record { ended = E.Value v; state = now.state; accesses = now.accesses },
  refl,
  k (record { ended = E.Value v; state = now.state; accesses = now.accesses }) h.1,
)
end_comes common f c types (R.Throws v now) next h k = (
  record { ended = E.Stop (Exception (thrown_name types (out-Value v))); state = now.state; accesses = now.accesses },
  refl,
  k (record { ended = E.Stop (Exception (thrown_name types (out-Value v))); state = now.state; accesses = now.accesses }) tt,
)
end_comes common f c types (R.Stops cause now) next h k = (
  record { ended = E.Stop cause; state = now.state; accesses = now.accesses },
  refl,
  k (record { ended = E.Stop cause; state = now.state; accesses = now.accesses }) tt,
)
end_comes common f c types (R.No now) next h k = absurd h
end_comes common f c types (R.Returns v now) next h k = absurd h
end_comes common f c types R.Stuck next h k = absurd h

event_comes : (common : Common) (f : Function) (c : Choice) (types : Types) (e d : Ended Value Value) (next : Ran → Type 0) → EventGoes common f c d
    → (d ≡ e) ⊎ IsUnmet d → ((ran : Ran) → Behind ran.ended (IsFit common ran.state) → next ran)
    → IsUnmet d ⊎ ((ran : Ran) × (ran_of types e ≡ Some ran) × next ran)
event_comes common f c types e d next h (inl same) k = inr (end_comes common f c types e next (subst (EventGoes common f c) same h) k)
event_comes common f c types e d next h (inr u) k = inl u

-- ---- arguments

bits_fit : (types : Types) (c : Choice) (bs : List Bool) → fits types (Val.Bits bs) (put c V.Bits) ≡ true
bits_fit types c bs = form_has types c (W.Bits bs) Q.Bits (Val.Bits bs) V.Bits (Val.rolls-Bits bs) V.rolls-Bits refl

module _ (m : CoreModel) (shapes : List Shape) (rank : ℕ → ℕ) (has : ModelHas (common_of m shapes) m rank)
    (lets : (c : Choice) → FitAll m.types c shapes (lets_of plain m)) (step : Enters m m.step (V.Unit ∷ [])) (reset : Enters m m.reset (V.Int ∷ V.Bits ∷ []))
    (t : Table) (same : t.types ≡ m.types) where
  abbrev common : Common
  common = common_of m shapes

  -- any choice of shapes for variables, of which these parameters have none
  abbrev any : Choice
  any = λ i. V.Unit

  comes : (hart i : ℕ) (params : List Shape) → Enters m i params → (vs : List Value) → FitAll m.types any params vs → (state : RunState)
      → IsFit common state → IsThere hart state → (next : Ran → Type 0) → ((ran : Ran) → Behind ran.ended (IsFit common ran.state) → next ran)
      → Comes t m hart i vs state next
  comes hart i params enters vs fit state is there next k =
      event_comes common enters.0 any m.types (event_run plain m event_ticks None hart i vs state) (checked_event t m event_ticks hart i vs state) next
      (events_go_on m shapes rank has lets t same event_ticks hart i enters.0 enters.1 any vs
      (subst (λ ss. FitAll m.types any ss vs) (sym enters.2) fit) state is there)
      (events_are_meant t m event_ticks hart i vs state) k

  resets_come : (entry : ℕ) (harts : List ℕ) (state : RunState) → IsFit common state → ResetsCome t m entry harts state
  resets_come entry [] state is = tt
  resets_come entry (hart ∷ harts) state is = λ there.
      comes hart m.reset (V.Int ∷ V.Bits ∷ []) reset (Val.Integer (pos hart) ∷ Val.Bits (bits_of 64 entry) ∷ [])
      (two (fits m.types (Val.Integer (pos hart)) (put any V.Int)) (each_fits (fits m.types (Val.Bits (bits_of 64 entry)) ∷ []) (put any V.Bits ∷ []))
      (integer_fits m.types any (pos hart))
      (two (fits m.types (Val.Bits (bits_of 64 entry)) (put any V.Bits)) true (bits_fit m.types any (bits_of 64 entry)) refl)) state is there
      (λ ran. Behind ran.ended (ResetsCome t m entry harts ran.state))
      (λ ran fit. behind_as ran.ended (λ fits_state. resets_come entry harts ran.state fits_state) fit)

  one_comes : (hart : ℕ) (schedule : List ℕ) (state : RunState) → IsFit common state
      → ((later : RunState) → IsFit common later → EventsCome t m schedule later) → (b : Bool) → EventComes t m hart state (EventsCome t m schedule) b
  one_comes hart schedule state is more true = more state is
  one_comes hart schedule state is more false = λ there.
      comes hart m.step (V.Unit ∷ []) step (Val.Unit ∷ [])
      (two (fits m.types Val.Unit (put any V.Unit)) true (unit_fits m.types any) refl) state is there
      (λ ran. Behind ran.ended (EventsCome t m schedule (after_step hart ran.ended ran.state)))
      (λ ran fit. behind_as ran.ended (λ fits_state. more (after_step hart ran.ended ran.state) (step_fit common hart ran.ended ran.state fits_state)) fit)

  events_come : (schedule : List ℕ) (state : RunState) → IsFit common state → EventsCome t m schedule state
  events_come [] state is = tt
  events_come (hart ∷ schedule) state is =
      one_comes hart schedule state is (λ later fit. events_come schedule later fit) (rests state hart)

pub runs_come : RunsCome
runs_come m shapes rank has lets step reset t same state is = (
  λ entry harts. resets_come m shapes rank has lets step reset t same entry harts state is,
  λ schedule. events_come m shapes rank has lets step reset t same schedule state is,
)
