-- What does as a text means comes to the end that the text's own meaning comes to; and no run of the text is stuck.
use Rattle.std.proofs.Common.{◌≡◌, ◌∙◌, ◌≤◌, ◌+◌, ℕ, zero, suc, List, [], length, refl, sym, ap, subst, Option, Some, None, arith}
use Rattle.std.specs.List.{range_with_len}
use Rattle.sail_types.specs.Numbers.{Positive}
use Rattle.sail_types.specs.declared.values.Value.{Value}
use Rattle.sail_types.specs.declared.values.Value.TheVariants as V
use Rattle.model_state.specs.Folds.{Meaning, after_step, resets, then_start}
use Rattle.model_state.specs.RunState.{Ran, RunState}
use Rattle.model_state.specs.declared.cause.Cause.{Cause}
use Rattle.model_state.specs.declared.cause.Ended.{Ended}
use Rattle.model_state.specs.declared.cause.Ended.TheVariants as E
use Rattle.sail_syntax.specs.declared.definitions.Def.{Def}
use Rattle.sail_core.specs.Start.{or_nothing}
use Rattle.sail_meaning.specs.Start as S
use Rattle.sail_meaning.specs.Start.{Opened, all_openings, init_ran, ran_from, reset_ran, step_ran, text_meaning}
use Rattle.sail_meaning.specs.Text.{Text}
use Rattle.sail_top.specs.Run.{started_run}
use Rattle.text_progress.specs.Laws.{core_of}
use Rattle.whole_runs.specs.Runs.{AreThere, Behind, EventsGo, Goes, PartsGo, ResetsGo, RunGoes}
use Rattle.whole_runs.specs.Safe.{IsFit}
use Rattle.whole_runs.proofs.Runs.{resets_on}
use Rattle.safe_models.specs.Safe.{Cycles, RunsSafely, meant_of, text_parts}
use Rattle.module_meanings.specs.Laws.{Comes, MeansText}
use Rattle.answer_meanings.proofs.Runs.{HartsAlike, Same, ends_by, opened_alike}

no_part : {X : Type 0} (ran : Ran) → None ≡ Some ran → X
no_part ran e = cc

part_same : (ran other : Ran) → Some ran ≡ Some other → ran ≡ other
part_same ran other e = cc

stop_not_value : {X : Type 0} (v : Value) (cause : Cause) → E.Stop cause ≡ E.Value v → X
stop_not_value v cause e = cc

-- all harts are there
harts_there : (count n first : ℕ) → first + n ≤ count → AreThere count (range_with_len first n)
harts_there count zero first h = tt
harts_there count (suc n) first h = (omega arith, harts_there count n (first + 1) (omega arith))

from_first : (count : ℕ) → 0 + count ≤ count
from_first count = omega arith

-- a start that doesn't stop has no value but `()`
value_is_unit : (o : Opened) (ran : Ran) (v : Value) → ran_from o ≡ Some ran → ran.ended ≡ E.Value v → ran.ended ≡ E.Value V.Unit
value_is_unit (S.opened lets end) ran v e h =
    sym (ap (λ (r : Ran). r.ended) (part_same (record { ended = E.Value V.Unit; state = end; accesses = [] }) ran e))
value_is_unit (S.opened_to cause end) ran v e h =
    stop_not_value v cause (ap (λ (r : Ran). r.ended) (part_same (record { ended = E.Stop cause; state = end; accesses = [] }) ran e) ∙ h)
value_is_unit S.opened_not ran v e h = no_part ran e

module _ (text : List Def) (cycle : Cycles) (past : Positive) (count : ℕ) (m : Meaning) (mean : MeansText text cycle past count m) where
  abbrev own : Text
  own = meant_of text cycle

  abbrev Fit : RunState → Type 0
  Fit = IsFit (core_of text cycle) past count

  -- ---- the end

  -- what the text's part comes to is what is told of it
  same : (part : Option Ran) (ran : Ran) (state : RunState) (next : Ran → Type 0) → Comes part ran next → Same ran (or_nothing state part) next
  same part ran state next comes = (sym (ap (or_nothing state) comes.0), comes.1)

  harts_alike : (first : RunState) → Fit first → (m.init first).ended ≡ E.Value V.Unit → HartsAlike count Fit m (text_meaning own)
  harts_alike first fits ended = record {
    reset = λ hart less entry state fit.
        same (reset_ran own hart entry state) (m.reset hart entry state) state (λ ran. Fit ran.state)
        ((mean.events first fits ended hart less state fit).0 entry);
    step = λ hart less state fit.
        same (step_ran own hart state) (m.step hart state) state (λ ran. Fit (after_step hart ran.ended ran.state))
        (mean.events first fits ended hart less state fit).1;
  }

  all_there : (state : RunState) → Fit state → AreThere count (range_with_len 0 (length state.harts))
  all_there state fit = subst (λ k. AreThere count (range_with_len 0 k)) (sym fit.harts) (harts_there count count 0 (from_first count))

  pub end_same : (entry : ℕ) (schedule : List ℕ) → AreThere count schedule → (state : RunState) → Fit state
      → started_run m entry schedule state ≡ started_run (text_meaning own) entry schedule state
  end_same entry schedule there state fit =
      let start = mean.start state fit in
      let ran : Ran = m.init state in
      let harts : List ℕ = range_with_len 0 (length state.harts) in
      opened_alike count Fit m (text_meaning own) entry harts (all_there state fit) schedule there ran.ended ran.state ran.accesses start.1
      (λ v is. harts_alike state fit (value_is_unit (all_openings own state) ran v start.0 is))
      ∙ ap (λ (r : Ran). ends_by count Fit m (text_meaning own) (text_meaning own) schedule
      (then_start r.ended r.state r.accesses (resets (text_meaning own) entry harts)))
      (sym (ap (or_nothing state) start.0))

  -- ---- never stuck

  goes : (part : Option Ran) (ran : Ran) (next : Ran → Type 0) → Comes part ran next → Goes part next
  goes part ran next comes = subst (λ o. Goes o next) (sym comes.0) comes.1

  parts_go : (first : RunState) → Fit first → (m.init first).ended ≡ E.Value V.Unit → PartsGo (text_parts own) count Fit
  parts_go first fits ended = record {
    init = λ state fit. goes (init_ran own state) (m.init state) (λ ran. Fit ran.state) (mean.start state fit);
    reset = λ hart entry less state fit.
        goes (reset_ran own hart entry state) (m.reset hart entry state) (λ ran. Fit ran.state)
        ((mean.events first fits ended hart less state fit).0 entry);
    step = λ hart less state fit.
        goes (step_ran own hart state) (m.step hart state) (λ ran. Fit (after_step hart ran.ended ran.state))
        (mean.events first fits ended hart less state fit).1;
  }

  module _ (entry : ℕ) (schedule : List ℕ) (there : AreThere count schedule) where
    -- what comes behind top-level lets and initial values
    abbrev Later : RunState → Type 0
    Later = ResetsGo (text_parts own) Fit entry (EventsGo (text_parts own) Fit schedule) (range_with_len 0 count)

    later_goes : (e : Ended) (later : RunState) → Behind e (Fit later) → ((v : Value) → e ≡ E.Value v → PartsGo (text_parts own) count Fit)
        → Behind e (Later later)
    later_goes (E.Value v) later fit go = resets_on (text_parts own) count Fit (go v refl) entry schedule there later fit
    later_goes (E.Stop cause) later fit go = tt

    run_goes : (state : RunState) → Fit state → RunGoes (text_parts own) Fit count entry schedule state
    run_goes state fit =
        let start = mean.start state fit in
        let ran : Ran = m.init state in
        subst (λ o. Goes o (λ ran. Later ran.state)) (sym start.0)
        (later_goes ran.ended ran.state start.1 (λ v is. parts_go state fit (value_is_unit (all_openings own state) ran v start.0 is)))

  pub safely : RunsSafely text cycle past count
  safely entry schedule there state fit = run_goes entry schedule there state fit
