-- A core that means what a text means runs as it does, event by event.
use Rattle.std.proofs.Common.{◌≡◌, ℕ, zero, suc, List, [], ◌∷◌, length, ap, sym, ◌∙◌, refl, Bool, true, false, Option, Some, None}
use Rattle.std.proofs.Common.{if◌then◌else◌}
use Rattle.std.specs.Prelude.{slice_get}
use Rattle.std.specs.List.{range_with_len}
use Rattle.sail_types.specs.declared.values.Value.TheVariants as value
use Rattle.model_state.specs.declared.cause.Ended.{Ended}
use Rattle.model_state.specs.declared.cause.Ended.TheVariants as ended
use Rattle.model_state.specs.declared.cause.Cause.TheVariants as cause
use Rattle.model_state.specs.declared.state.Hart.{Hart}
use Rattle.model_state.specs.Folds.{Meaning, RunEnd, Started, after_step, all_rest, ended_now, one_step, resets, resting, rests, run, set_rests, start}
use Rattle.model_state.specs.Folds.{started_after, then_run, then_start}
use Rattle.model_state.specs.RunState.{Access, Ran, RunState, changed, values_of}
use Rattle.sail_core.specs.declared.model.CoreModel.{CoreModel}
use Rattle.sail_core.specs.Start.{model_meaning, or_nothing}
use Rattle.sail_meaning.specs.Start as SourceStart
use Rattle.sail_meaning.specs.Start.{text_meaning}
use Rattle.sail_meaning.specs.Text.{Text}
use Rattle.shape_meanings.specs.Keeping.{RegistersFit}
use Rattle.shape_meanings.specs.Models.{CoreMeansText, LeavesFitting, register_shapes}

-- a hart that rests has the registers of before
same_values : (hart i : ℕ) (harts : List Hart) → values_of (slice_get (changed resting hart harts) i) ≡ values_of (slice_get harts i)
same_values hart i [] = refl
same_values zero zero (h ∷ harts) = refl
same_values zero (suc i) (h ∷ harts) = refl
same_values (suc hart) zero (h ∷ harts) = refl
same_values (suc hart) (suc i) (h ∷ harts) = same_values hart i harts

module _ (text : Text) (core : CoreModel) (means : CoreMeansText text core) where
  abbrev Fit : RunState → Type 0
  Fit state = RegistersFit text.types (register_shapes text.registers) state

  abbrev core_model : Meaning
  core_model = model_meaning core

  abbrev text_model : Meaning
  text_model = text_meaning text

  -- what is left where nothing is said of a run
  left_fits : (state : RunState) (o : Option Ran) → Fit state → LeavesFitting text o → Fit (or_nothing state o).state
  left_fits state None fit leaves = fit
  left_fits state (Some ran) fit leaves = leaves

  -- ---- the start

  abbrev StartsAlike : Started → Started → Type 0
  StartsAlike a b = (a ≡ b) × Fit b.state

  then_starts : (e : Ended) (state : RunState) (accesses : List Access) (kc kt : RunState → Started) → Fit state
      → ((later : RunState) → Fit later → StartsAlike (kc later) (kt later))
      → StartsAlike (then_start e state accesses kc) (then_start e state accesses kt)
  then_starts (ended.Stop c) state accesses kc kt fit next = (refl, fit)
  then_starts (ended.Value v) state accesses kc kt fit next =
      let rest : StartsAlike (kc state) (kt state) = next state fit in
      (ap (started_after accesses) rest.0, rest.1)

  resets_alike : (entry : ℕ) (harts : List ℕ) (state : RunState) → Fit state
      → StartsAlike (resets core_model entry harts state) (resets text_model entry harts state)
  resets_alike entry [] state fit = (refl, fit)
  resets_alike entry (hart ∷ harts) state fit =
      let one = (means state fit).2 hart entry in
      let ran : Ran = or_nothing state (SourceStart.reset_ran text hart entry state) in
      let rest : StartsAlike (then_start ran.ended ran.state ran.accesses (resets core_model entry harts))
      (then_start ran.ended ran.state ran.accesses (resets text_model entry harts)) =
      then_starts ran.ended ran.state ran.accesses (resets core_model entry harts) (resets text_model entry harts)
      (left_fits state (SourceStart.reset_ran text hart entry state) fit one.1) (λ later fits. resets_alike entry harts later fits) in (
        ap (λ o. then_start (or_nothing state o).ended (or_nothing state o).state (or_nothing state o).accesses (resets core_model entry harts)) one.0
            ∙ rest.0,
        rest.1,
      )

  starts_alike : (entry : ℕ) (state : RunState) → Fit state → StartsAlike (start core_model entry state) (start text_model entry state)
  starts_alike entry state fit =
      let one = means state fit in
      let ran : Ran = or_nothing state (SourceStart.init_ran text state) in
      let harts : List ℕ = range_with_len 0 (length state.harts) in
      let rest : StartsAlike (then_start ran.ended ran.state ran.accesses (resets core_model entry harts))
      (then_start ran.ended ran.state ran.accesses (resets text_model entry harts)) =
      then_starts ran.ended ran.state ran.accesses (resets core_model entry harts) (resets text_model entry harts)
      (left_fits state (SourceStart.init_ran text state) fit one.1) (λ later fits. resets_alike entry harts later fits) in (
        ap (λ o. then_start (or_nothing state o).ended (or_nothing state o).state (or_nothing state o).accesses (resets core_model entry harts)) one.0
            ∙ rest.0,
        rest.1,
      )

  -- ---- events

  rest_fits : (hart : ℕ) (state : RunState) → Fit state → Fit (set_rests hart state)
  rest_fits hart state fit i r v s is there =
      fit i r v s (ap (λ vs. slice_get vs r) (sym (same_values hart i state.harts)) ∙ is) there

  step_fits : (hart : ℕ) (e : Ended) (state : RunState) → Fit state → Fit (after_step hart e state)
  step_fits hart (ended.Value (value.Truth false)) state fit = rest_fits hart state fit
  step_fits hart e state fit = fit

  then_runs : (e : Ended) (state : RunState) (accesses : List Access) (kc kt : RunState → RunEnd) → Fit state
      → ((later : RunState) → Fit later → kc later ≡ kt later) → then_run e state accesses kc ≡ then_run e state accesses kt
  then_runs (ended.Stop c) state accesses kc kt fit next = refl
  then_runs (ended.Value v) state accesses kc kt fit next =
      ap (λ (rest : RunEnd). if all_rest state then ended_now cause.AllRest 1 state accesses else one_step accesses rest) (next state fit)

  -- what an event comes to, where the step comes to this
  abbrev came : ℕ → RunState → Bool → Option Ran → Ran
  came hart state rest o =
      if rest then record { ended = ended.Value value.Unit; state = state; accesses = [] }
      else (record {
        ended = (or_nothing state o).ended;
        state = after_step hart (or_nothing state o).ended (or_nothing state o).state;
        accesses = (or_nothing state o).accesses;
      })

  came_fits : (hart : ℕ) (state : RunState) (rest : Bool) (o : Option Ran) → Fit state → LeavesFitting text o → Fit (came hart state rest o).state
  came_fits hart state true o fit leaves = fit
  came_fits hart state false o fit leaves =
      step_fits hart (or_nothing state o).ended (or_nothing state o).state (left_fits state o fit leaves)

  runs_alike : (schedule : List ℕ) (state : RunState) → Fit state → run core_model schedule state ≡ run text_model schedule state
  runs_alike [] state fit = refl
  runs_alike (hart ∷ schedule) state fit =
      let one = (means state fit).3 hart in
      let ran : Ran = came hart state (rests state hart) (SourceStart.step_ran text hart state) in
      ap (λ o. then_run (came hart state (rests state hart) o).ended (came hart state (rests state hart) o).state
      (came hart state (rests state hart) o).accesses (run core_model schedule)) one.0
      ∙ then_runs ran.ended ran.state ran.accesses (run core_model schedule) (run text_model schedule)
      (came_fits hart state (rests state hart) (SourceStart.step_ran text hart state) fit one.1) (λ later fits. runs_alike schedule later fits)

pub runs_are_alike : (text : Text) (core : CoreModel) → CoreMeansText text core
    → (state : RunState) → RegistersFit text.types (register_shapes text.registers) state
    → ((entry : ℕ) → (start (model_meaning core) entry state ≡ start (text_meaning text) entry state)
    × RegistersFit text.types (register_shapes text.registers) (start (text_meaning text) entry state).state)
    × ((schedule : List ℕ) → run (model_meaning core) schedule state ≡ run (text_meaning text) schedule state)
runs_are_alike text core means state fit =
    ((λ entry. starts_alike text core means entry state fit), (λ schedule. runs_alike text core means schedule state fit))
