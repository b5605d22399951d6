-- Each part under the checked meaning, and so plainly.
use Rattle.std.proofs.Common.{◌≡◌, ◌∙◌, sym, refl, subst, ◌<◌, ℕ, List, [], Option, Some}
use Rattle.std.specs.List.{range_with_len}
use Rattle.sail_types.specs.Numbers.{Positive}
use Rattle.sail_types.specs.declared.values.Value.{Value}
use Rattle.model_state.specs.Folds.{after_step}
use Rattle.model_state.specs.RunState.{Ran, RunState}
use Rattle.model_state.specs.declared.cause.Ended.{Ended}
use Rattle.model_state.specs.declared.cause.Ended.TheVariants as E
use Rattle.sail_core.specs.Program.{plain}
use Rattle.sail_core.specs.Start.{Opened, init_ran, nowhere, opened, opened_not, opened_to, openings_of, or_nothing, ran_from, reset_ran, step_ran}
use Rattle.sail_core.specs.Steady.{Keeping, ModelsKeep}
use Rattle.sail_core.specs.declared.model.CoreModel.{CoreModel}
use Rattle.constraint_gen.specs.Models.{around_of}
use Rattle.constraint_gen.specs.Obligations.{obligations}
use Rattle.checked_meaning.specs.Checked.{Checks, checking}
use Rattle.checked_meaning.specs.Laws.{IsStuckOr, ModelsAreAlike}
use Rattle.goal_laws.specs.Goals.{AllHold}
use Rattle.met_notes.proofs.Whole.{notes_met}
use Rattle.soundness_steps.specs.Works.{Coverage}
use Rattle.soundness_steps.specs.States.{StateBelongs}
use Rattle.soundness_calls.specs.Events.{EndsRight, checks_of}
use Rattle.whole_runs.specs.Initials.{pure_setting}
use Rattle.whole_runs.specs.AllOpenings.{OpenedRight}
use Rattle.whole_runs.proofs.AllOpenings.{openings_sound}
use Rattle.whole_runs.specs.Never.{AllEnd, setting_in}
use Rattle.whole_runs.proofs.OpeningsStand.{openings_stand}
use Rattle.whole_runs.proofs.Events.{never, openings_covered}
use Rattle.whole_runs.proofs.Ending.{end_anywhere}
use Rattle.whole_runs.specs.Runs.{AreThere, Behind, EventsGo, Goes, PartsGo, ResetsGo, RunGoes}
use Rattle.whole_runs.specs.Safe.{CoversThroughout, IsFit, IsFoundThroughout, ModelsRunSafely, StandsThroughout, core_parts}
use Rattle.whole_runs.proofs.Runs.{goes_on, resets_on}
use Rattle.whole_runs.proofs.Fit.{at_event, at_start, behind_event, behind_start, count_kept, step_fit}

-- ---- a part that is there

behind_if : {A : Type 0} (e : Ended) → ((v : Value) → e ≡ E.Value v → A) → Behind e A
behind_if (E.Value v) f = f v refl
behind_if (E.Stop cause) f = tt

goes_if : (o : Option Ran) (ran : Ran) (next : Ran → Type 0) → o ≡ Some ran → ((v : Value) → ran.ended ≡ E.Value v → next ran) → Goes o next
goes_if o ran next is f = subst (λ p. Goes p next) (sym is) (behind_if ran.ended f)

plain_there : (o p : Option Ran) (ran : Ran) → o ≡ Some ran → IsStuckOr o p → p ≡ Some ran
plain_there o p ran is h = subst (λ q. IsStuckOr q p) is h

-- a part that is there under both meanings, with as many harts behind it
pub record There (o p : Option Ran) (Holds : Ran → Type 0) : Type 0 where
  pub ran : Ran
  pub checked_is : o ≡ Some ran
  pub plain_is : p ≡ Some ran
  pub holds : (v : Value) → ran.ended ≡ E.Value v → Holds ran

module _ (models_alike : ModelsAreAlike) (models_keep : ModelsKeep) (m : CoreModel) (past : Positive) (covered : Coverage) (k : Checks)
    (rank : ℕ → ℕ) (count : ℕ) (some : 0 < count)
    (held : AllHold (obligations m)) (found : IsFoundThroughout m past covered count)
    (covers : CoversThroughout m past covered k rank count) (stands : StandsThroughout m past covered k rank count) where
  abbrev Fit : RunState → Type 0
  Fit = IsFit m past count

  abbrev c : Checks
  c = checks_of m k

  -- ---- the start

  opening_there : (state : RunState) (o : Opened) (p : Option Ran) → OpenedRight m past covered m.registers (around_of m).lets o → IsStuckOr (ran_from o) p
      → There (ran_from o) p (λ ran. StateBelongs (pure_setting m past covered m.registers []) ran.state)
  opening_there state (opened vs now) p h alike = record { ran = _; checked_is = refl; plain_is = alike; holds = λ v is. h.1 }
  opening_there state (opened_to cause now) p h alike = record { ran = _; checked_is = refl; plain_is = alike; holds = λ v is. absurd (cc) }
  opening_there state opened_not p h alike = absurd h

  opened_right : (state : RunState) → Fit state → OpenedRight m past covered m.registers (around_of m).lets (openings_of (checking c) m state)
  opened_right state ok =
      let read = openings_covered m past 0 covered k rank (covers 0 some) in
      let opens = openings_stand m past covered c (notes_met m held) read (stands 0 some).openings in
      openings_sound m past covered m.registers (λ r x e. e) c refl opens state (at_start m past count covered some state ok)

  init_there : (state : RunState) → Fit state → There (init_ran (checking c) m state) (init_ran plain m state) (λ ran. Fit ran.state)
  init_there state ok =
      let t = opening_there state (openings_of (checking c) m state) (init_ran plain m state) (opened_right state ok) (models_alike c m state).0 in
      let long = count_kept state (init_ran plain m state) t.ran t.plain_is (models_keep m state).0 in
      record {
        ran = t.ran;
        checked_is = t.checked_is;
        plain_is = t.plain_is;
        holds = λ v is. behind_start m past count covered t.ran.state (t.holds v is) (long ∙ ok.harts);
      }

  -- ---- events

  event_there : (hart : ℕ) (state : RunState) (o p : Option Ran) → EndsRight (setting_in m past hart covered) o → IsStuckOr o p
      → Keeping state (or_nothing state p) → Fit state → There o p (λ ran. Fit ran.state)
  event_there hart state o p ends alike keeps ok =
      let is = plain_there o p ends.ran ends.is_there alike in
      record {
        ran = ends.ran;
        checked_is = ends.is_there;
        plain_is = is;
        holds = λ v e. behind_event m past count covered hart ends.ran.state (ends.keeps v e)
            (count_kept state p ends.ran is keeps ∙ ok.harts);
      }

  reset_there : AllEnd m k → (hart entry : ℕ) → hart < count → (state : RunState) → Fit state
      → There (reset_ran (checking c) m hart entry state) (reset_ran plain m hart entry state) (λ ran. Fit ran.state)
  reset_there end hart entry low state ok =
      let ends = (never m past hart covered k rank held (covers hart low) (found hart low) (stands hart low) end state
      (at_event m past count covered hart low state ok)).1 entry in
      event_there hart state (reset_ran (checking c) m hart entry state) (reset_ran plain m hart entry state) ends
      ((models_alike c m state).1 hart entry) ((models_keep m state).1 hart entry) ok

  step_there : AllEnd m k → (hart : ℕ) → hart < count → (state : RunState) → Fit state
      → There (step_ran (checking c) m hart state) (step_ran plain m hart state) (λ ran. Fit ran.state)
  step_there end hart low state ok =
      let ends = (never m past hart covered k rank held (covers hart low) (found hart low) (stands hart low) end state
      (at_event m past count covered hart low state ok)).0 in
      event_there hart state (step_ran (checking c) m hart state) (step_ran plain m hart state) ends
      ((models_alike c m state).2 hart) ((models_keep m state).2 hart) ok

  -- ---- both meanings

  start_goes : (state : RunState) → Fit state → Goes (init_ran (checking c) m state) (λ ran. Fit ran.state)
  start_goes state ok =
      let t = init_there state ok in
      goes_if (init_ran (checking c) m state) t.ran (λ ran. Fit ran.state) t.checked_is t.holds

  checked_goes : AllEnd m k → PartsGo (core_parts (checking c) m) count Fit
  checked_goes end = record {
    init = start_goes;
    reset = λ hart entry low state ok.
        let t = reset_there end hart entry low state ok in
        goes_if (reset_ran (checking c) m hart entry state) t.ran (λ ran. Fit ran.state) t.checked_is t.holds;
    step = λ hart low state ok.
        let t = step_there end hart low state ok in
        goes_if (step_ran (checking c) m hart state) t.ran (λ ran. Fit (after_step hart ran.ended ran.state)) t.checked_is
        (λ v e. step_fit m past count hart t.ran.ended t.ran.state (t.holds v e));
  }

  plain_goes : AllEnd m k → PartsGo (core_parts plain m) count Fit
  plain_goes end = record {
    init = λ state ok.
        let t = init_there state ok in
        goes_if (init_ran plain m state) t.ran (λ ran. Fit ran.state) t.plain_is t.holds;
    reset = λ hart entry low state ok.
        let t = reset_there end hart entry low state ok in
        goes_if (reset_ran plain m hart entry state) t.ran (λ ran. Fit ran.state) t.plain_is t.holds;
    step = λ hart low state ok.
        let t = step_there end hart low state ok in
        goes_if (step_ran plain m hart state) t.ran (λ ran. Fit (after_step hart ran.ended ran.state)) t.plain_is
        (λ v e. step_fit m past count hart t.ran.ended t.ran.state (t.holds v e));
  }

  -- ---- whole runs

  -- openings that stop end the run; where they end, they do so from where there is no register
  opened_goes : (entry : ℕ) (schedule : List ℕ) → AreThere count schedule → (state : RunState) → Fit state → (o : Opened)
      → openings_of (checking c) m state ≡ o → OpenedRight m past covered m.registers (around_of m).lets o
      → (p : Option Ran) → IsStuckOr (ran_from o) p → Goes p (λ ran. Fit ran.state)
      → Goes p (λ ran. ResetsGo (core_parts plain m) Fit entry (EventsGo (core_parts plain m) Fit schedule) (range_with_len 0 count) ran.state)
  opened_goes entry schedule there state ok (opened vs now) eq h p is go =
      let end = end_anywhere (checking c) vs m state (nowhere m.types) (now, eq) in
      let parts = plain_goes (vs, end.0, end.1) in
      goes_on (λ ran. Fit ran.state)
      (λ ran. ResetsGo (core_parts plain m) Fit entry (EventsGo (core_parts plain m) Fit schedule) (range_with_len 0 count) ran.state) p
      (λ ran k. resets_on (core_parts plain m) count Fit parts entry schedule there ran.state k) go
  opened_goes entry schedule there state ok (opened_to cause now) eq h p is go =
      subst (λ q. Goes q (λ ran. ResetsGo (core_parts plain m) Fit entry (EventsGo (core_parts plain m) Fit schedule) (range_with_len 0 count) ran.state))
      (sym is) tt
  opened_goes entry schedule there state ok opened_not eq h p is go = absurd h

  run_goes : (entry : ℕ) (schedule : List ℕ) → AreThere count schedule → (state : RunState) → Fit state
      → RunGoes (core_parts plain m) Fit count entry schedule state
  run_goes entry schedule there state ok =
      let t = init_there state ok in
      opened_goes entry schedule there state ok (openings_of (checking c) m state) refl (opened_right state ok) (init_ran plain m state)
      (models_alike c m state).0 (goes_if (init_ran plain m state) t.ran (λ ran. Fit ran.state) t.plain_is t.holds)

pub safe : ModelsAreAlike → ModelsKeep → ModelsRunSafely
safe alike keep m past covered k rank count some held found covers stands = (
  λ end. (
    checked_goes alike keep m past covered k rank count some held found covers stands end,
    plain_goes alike keep m past covered k rank count some held found covers stands end,
  ),
  run_goes alike keep m past covered k rank count some held found covers stands,
  start_goes alike keep m past covered k rank count some held found covers stands,
)
