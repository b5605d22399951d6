-- Two that take the steps and do the same in all states that fit, behind each of which one fits again, come to the same end.
use Rattle.std.proofs.Common.{◌≡◌, ◌∙◌, ◌<◌, ℕ, Bool, true, false, if◌then◌else◌, List, [], ◌∷◌, refl, ap, subst, Option, Some, None}
use Rattle.sail_types.specs.declared.values.Value.{Value}
use Rattle.sail_types.specs.declared.values.Value.TheVariants as V
use Rattle.model_state.specs.declared.cause.Cause.{Cause}
use Rattle.model_state.specs.declared.cause.Cause.TheVariants as C
use Rattle.model_state.specs.declared.cause.Ended.{Ended}
use Rattle.model_state.specs.declared.cause.Ended.TheVariants as E
use Rattle.model_state.specs.Folds.{Meaning, RunEnd, Started, after_step, all_rest, ended_now, one_step, resets, rests, run, started_after}
use Rattle.model_state.specs.Folds.{then_run, then_start}
use Rattle.model_state.specs.RunState.{Access, Ran, RunState}
use Rattle.sail_top.specs.Run.{behind, then_events}
use Rattle.whole_runs.specs.Runs.{AreThere, Behind}

-- a part comes to the same by both, and something is so behind it
abbrev pub Same : Ran → Ran → (Ran → Type 0) → Type 0
Same ran other next = (ran ≡ other) × Behind ran.ended (next ran)

module _ (count : ℕ) (Fit : RunState → Type 0) (m n : Meaning) where
  -- harts are reset and take their steps alike
  pub record HartsAlike : Type 0 where
    pub reset : (hart : ℕ) → hart < count → (entry : ℕ) (state : RunState) → Fit state
        → Same (m.reset hart entry state) (n.reset hart entry state) (λ ran. Fit ran.state)
    pub step : (hart : ℕ) → hart < count → (state : RunState) → Fit state
        → Same (m.step hart state) (n.step hart state) (λ ran. Fit (after_step hart ran.ended ran.state))

  -- ---- the start

  abbrev FitsOn : Option Cause → RunState → Type 0
  FitsOn None state = Fit state
  FitsOn (Some cause) state = Unit {0}

  abbrev StartsAlike : Started → Started → Type 0
  StartsAlike a b = (a ≡ b) × FitsOn b.stop b.state

  then_starts : (e : Ended) (state : RunState) (accesses : List Access) (km kn : RunState → Started) → Behind e (Fit state)
      → ((later : RunState) → Fit later → StartsAlike (km later) (kn later))
      → StartsAlike (then_start e state accesses km) (then_start e state accesses kn)
  then_starts (E.Stop cause) state accesses km kn fit next = (refl, tt)
  then_starts (E.Value v) state accesses km kn fit next =
      let rest : StartsAlike (km state) (kn state) = next state fit in (ap (started_after accesses) rest.0, rest.1)

  resets_alike : HartsAlike → (entry : ℕ) (harts : List ℕ) → AreThere count harts → (state : RunState) → Fit state
      → StartsAlike (resets m entry harts state) (resets n entry harts state)
  resets_alike alike entry [] there state fit = (refl, fit)
  resets_alike alike entry (hart ∷ harts) there state fit =
      let ran : Ran = m.reset hart entry state in
      let one = alike.reset hart there.0 entry state fit in
      subst (λ (r : Ran). StartsAlike (then_start ran.ended ran.state ran.accesses (resets m entry harts))
      (then_start r.ended r.state r.accesses (resets n entry harts))) one.0
      (then_starts ran.ended ran.state ran.accesses (resets m entry harts) (resets n entry harts) one.1
      (λ later fits. resets_alike alike entry harts there.1 later fits))

  -- ---- events

  then_runs : (e : Ended) (state : RunState) (accesses : List Access) (km kn : RunState → RunEnd) → Behind e (Fit state)
      → ((later : RunState) → Fit later → km later ≡ kn later) → then_run e state accesses km ≡ then_run e state accesses kn
  then_runs (E.Stop cause) state accesses km kn fit next = refl
  then_runs (E.Value v) state accesses km kn fit next =
      ap (λ (rest : RunEnd). if all_rest state then ended_now C.AllRest 1 state accesses else one_step accesses rest) (next state fit)

  -- what an event comes to, by whether the hart rests and what its step comes to
  abbrev came : ℕ → RunState → Bool → Ran → Ran
  came hart state rest ran =
      if rest then record { ended = E.Value V.Unit; state = state; accesses = [] }
      else (record { ended = ran.ended; state = after_step hart ran.ended ran.state; accesses = ran.accesses })

  came_fits : (hart : ℕ) (state : RunState) (rest : Bool) (ran : Ran) → Fit state → Behind ran.ended (Fit (after_step hart ran.ended ran.state))
      → Behind (came hart state rest ran).ended (Fit (came hart state rest ran).state)
  came_fits hart state true ran fit fits = fit
  came_fits hart state false ran fit fits = fits

  runs_alike : HartsAlike → (schedule : List ℕ) → AreThere count schedule → (state : RunState) → Fit state → run m schedule state ≡ run n schedule state
  runs_alike alike [] there state fit = refl
  runs_alike alike (hart ∷ schedule) there state fit =
      let rest : Bool = rests state hart in
      let one = alike.step hart there.0 state fit in
      let ran : Ran = came hart state rest (m.step hart state) in
      then_runs ran.ended ran.state ran.accesses (run m schedule) (run n schedule) (came_fits hart state rest (m.step hart state) fit one.1)
      (λ later fits. runs_alike alike schedule there.1 later fits)
      ∙ ap (λ (r : Ran). then_run (came hart state rest r).ended (came hart state rest r).state (came hart state rest r).accesses (run n schedule)) one.0

  -- ---- the whole run

  events_on : HartsAlike → (schedule : List ℕ) → AreThere count schedule → (stop : Option Cause) (state : RunState) (accesses : List Access)
      → FitsOn stop state → then_events stop state accesses (run m schedule) ≡ then_events stop state accesses (run n schedule)
  events_on alike schedule there None state accesses fit = ap (behind accesses) (runs_alike alike schedule there state fit)
  events_on alike schedule there (Some cause) state accesses fit = refl

  -- how a run ends behind its start
  abbrev pub ends_by : Meaning → List ℕ → Started → RunEnd
  ends_by model schedule s = then_events s.stop s.state s.accesses (run model schedule)

  start_alike : HartsAlike → (schedule : List ℕ) → AreThere count schedule → (a b : Started) → StartsAlike a b
      → ends_by m schedule a ≡ ends_by n schedule b
  start_alike alike schedule there a b same =
      ap (ends_by m schedule) same.0 ∙ events_on alike schedule there b.stop b.state b.accesses same.1

  -- behind what is worked out once: where that doesn't stop, harts do alike
  pub opened_alike : (entry : ℕ) (harts : List ℕ) → AreThere count harts → (schedule : List ℕ) → AreThere count schedule
      → (e : Ended) (state : RunState) (accesses : List Access) → Behind e (Fit state) → ((v : Value) → e ≡ E.Value v → HartsAlike)
      → ends_by m schedule (then_start e state accesses (resets m entry harts)) ≡ ends_by n schedule (then_start e state accesses (resets n entry harts))
  opened_alike entry harts here schedule there (E.Stop cause) state accesses fit go = refl
  opened_alike entry harts here schedule there (E.Value v) state accesses fit go =
      start_alike (go v refl) schedule there (then_start (E.Value v) state accesses (resets m entry harts))
      (then_start (E.Value v) state accesses (resets n entry harts))
      (then_starts (E.Value v) state accesses (resets m entry harts) (resets n entry harts) fit
      (λ later fits. resets_alike (go v refl) entry harts here later fits))
