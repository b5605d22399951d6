-- The events of a schedule, one by one.
use Rattle.std.proofs.Common.{◌≡◌, ℕ, suc, ◌+◌, ◌<◌, ◌≤◌, true, false, List, [], ◌∷◌, length, get_or, drop}
use Rattle.std.proofs.Common.{refl, sym, ap, ◌∙◌, subst, arith, add-one}
use Rattle.std.proofs.Math.ListN.{drop_of_length-le}
use Rattle.std.proofs.Math.Seq.{drop-cons}
use Rattle.sail_types.specs.declared.values.Value.{Value}
use Rattle.model_state.specs.declared.cause.Cause.{Cause}
use Rattle.model_state.specs.declared.cause.Cause.TheVariants as cause
use Rattle.model_state.specs.declared.cause.Ended.{Ended}
use Rattle.model_state.specs.declared.cause.Ended.TheVariants as ended
use Rattle.model_state.specs.RunState.{RunState, Access}
use Rattle.model_state.specs.Folds.{Meaning, RunEnd, ended_now, one_step, then_run, all_rest, event, run}

-- a run ends for this cause, after so many steps and in this state
pub record EndsSo (whole : RunEnd) (cause : Cause) (steps : ℕ) (state : RunState) : Type 0 where
  pub why : cause ≡ whole.cause
  pub many : steps ≡ whole.steps
  pub there : state ≡ whole.state

-- so many events came, and the events that are left lead to the end of the whole run
pub record RunSoFar (model : Meaning) (schedule : List ℕ) (first now : RunState) (count : ℕ) : Type 0 where
  pub cause : (run model (drop count schedule) now).cause ≡ (run model schedule first).cause
  pub steps : count + (run model (drop count schedule) now).steps ≡ (run model schedule first).steps
  pub state : (run model (drop count schedule) now).state ≡ (run model schedule first).state

pub none_run : (model : Meaning) (schedule : List ℕ) (first : RunState) → RunSoFar model schedule first first 0
none_run model schedule first = record { cause = refl; steps = omega arith; state = refl }

-- the next event, and what is left behind it
next_event :
    (model : Meaning) (schedule : List ℕ) (now : RunState) (count hart : ℕ) (e : Ended) → count < length schedule
    → hart ≡ get_or schedule count 0 → (event model hart now).ended ≡ e
    → run model (drop count schedule) now ≡ then_run e (event model hart now).state (event model hart now).accesses (run model (drop (count + 1) schedule))
next_event model schedule now count hart e there is same =
    let front : drop count schedule ≡ hart ∷ drop (count + 1) schedule =
    rw (add-one count) (drop-cons schedule count 0 there ∙ ap (λ h. h ∷ drop (suc count) schedule) (sym is)) in
    ap (λ hs. run model hs now) front
    ∙ ap (λ k. then_run k (event model hart now).state (event model hart now).accesses (run model (drop (count + 1) schedule))) same

going :
    (accesses : List Access) (after : RunState) (rest : RunState → RunEnd) (v : Value) → all_rest after ≡ false
    → then_run (ended.Value v) after accesses rest ≡ one_step accesses (rest after)
going accesses after rest v on = rw on refl

resting :
    (accesses : List Access) (after : RunState) (rest : RunState → RunEnd) (v : Value) → all_rest after ≡ true
    → then_run (ended.Value v) after accesses rest ≡ ended_now cause.AllRest 1 after accesses
resting accesses after rest v all = rw all refl

ends_at :
    {model : Meaning} {schedule : List ℕ} {first now : RunState} {count : ℕ} (c : Cause) (more : ℕ) (after : RunState) (accesses : List Access)
    → RunSoFar model schedule first now count → run model (drop count schedule) now ≡ ended_now c more after accesses
    → EndsSo (run model schedule first) c (count + more) after
ends_at {count} c more after accesses so_far same = record {
  why = sym (ap (λ r. r.cause) same) ∙ so_far.cause;
  many = sym (ap (λ r. count + r.steps) same) ∙ so_far.steps;
  there = sym (ap (λ r. r.state) same) ∙ so_far.state;
}

-- an event ends so, in this state
pub record Comes (model : Meaning) (hart : ℕ) (now : RunState) (e : Ended) (after : RunState) : Type 0 where
  pub ending : (event model hart now).ended ≡ e
  pub leads : (event model hart now).state ≡ after

-- what an event comes to by a meaning that is the model's
pub comes : (other model : Meaning) (hart : ℕ) (now : RunState) (e : Ended) (after : RunState)
    → other ≡ model → e ≡ (event other hart now).ended → after ≡ (event other hart now).state → Comes model hart now e after
comes other model hart now e after same ending leads =
    subst (λ m. Comes m hart now e after) same (record { ending = sym ending; leads = sym leads })

-- the event doesn't stop, and not all harts rest
pub event_goes_on : {model : Meaning} {schedule : List ℕ} {first now : RunState} {count : ℕ} (hart : ℕ) (v : Value) (after : RunState)
    → RunSoFar model schedule first now count → count < length schedule → hart ≡ get_or schedule count 0
    → Comes model hart now (ended.Value v) after → all_rest after ≡ false → RunSoFar model schedule first after (count + 1)
event_goes_on {model} {schedule} {now} {count} hart v after so_far there is event_is on =
    let accesses = (event model hart now).accesses in
    let rest = run model (drop (count + 1) schedule) in
    let step : run model (drop count schedule) now ≡ one_step accesses (rest after) =
    next_event model schedule now count hart (ended.Value v) there is event_is.ending
    ∙ ap (λ s. then_run (ended.Value v) s accesses rest) event_is.leads
    ∙ going accesses after rest v on in
    record {
      cause = sym (ap (λ r. r.cause) step) ∙ so_far.cause;
      steps = omega (arith, ap (λ r. r.steps) step, so_far.steps);
      state = sym (ap (λ r. r.state) step) ∙ so_far.state;
    }

-- it stops
pub event_stops : {model : Meaning} {schedule : List ℕ} {first now : RunState} {count : ℕ} (hart : ℕ) (c : Cause) (after : RunState)
    → RunSoFar model schedule first now count → count < length schedule → hart ≡ get_or schedule count 0
    → Comes model hart now (ended.Stop c) after → EndsSo (run model schedule first) c (count + 0) after
event_stops {model} {schedule} {now} {count} hart c after so_far there is event_is =
    let accesses = (event model hart now).accesses in
    ends_at c 0 after accesses so_far
    (next_event model schedule now count hart (ended.Stop c) there is event_is.ending
    ∙ ap (λ s. ended_now c 0 s accesses) event_is.leads)

-- it leaves all harts resting
pub event_ends : {model : Meaning} {schedule : List ℕ} {first now : RunState} {count : ℕ} (hart : ℕ) (v : Value) (after : RunState)
    → RunSoFar model schedule first now count → count < length schedule → hart ≡ get_or schedule count 0
    → Comes model hart now (ended.Value v) after → all_rest after ≡ true
    → EndsSo (run model schedule first) cause.AllRest (count + 1) after
event_ends {model} {schedule} {now} {count} hart v after so_far there is event_is all =
    let accesses = (event model hart now).accesses in
    let rest = run model (drop (count + 1) schedule) in
    ends_at cause.AllRest 1 after accesses so_far
    (next_event model schedule now count hart (ended.Value v) there is event_is.ending
    ∙ ap (λ s. then_run (ended.Value v) s accesses rest) event_is.leads
    ∙ resting accesses after rest v all)

-- it was the last
pub events_done : {model : Meaning} {schedule : List ℕ} {first now : RunState} {count : ℕ}
    → RunSoFar model schedule first now count → length schedule ≤ count
    → EndsSo (run model schedule first) cause.StepsDone (count + 0) now
events_done {model} {schedule} {now} so_far past =
    ends_at cause.StepsDone 0 now [] so_far (ap (λ hs. run model hs now) (drop_of_length-le schedule past))
