-- The run of two schedules that are joined.
use Rattle.std.proofs.Common.{◌≡◌, ℕ, suc, ◌+◌, List, [], ◌∷◌, ◌++◌, refl, sym, ap}
use Rattle.std.proofs.Common.{◌∙◌, arith, inl, inr, append_assoc}
use Rattle.std.proofs.lemmas.Bool.{cases_Bool}
use Rattle.sail_types.specs.declared.values.Value.TheVariants as value
use Rattle.model_state.specs.declared.cause.Cause.{Cause}
use Rattle.model_state.specs.declared.cause.Cause.TheVariants as cause
use Rattle.model_state.specs.declared.cause.Ended.{Ended}
use Rattle.model_state.specs.declared.cause.Ended.TheVariants as ended
use Rattle.model_state.specs.RunState.{RunState, Access}
use Rattle.model_state.specs.Folds.{Meaning, IsNotDone, RunEnd, ended_now, one_step, then_run, rests, all_rest, event, run}
use Rattle.harts.specs.laws.Pieces.{NeverDone, continued, then_more}

unit_not_done : IsNotDone (ended.Value value.Unit)
unit_not_done same = cc same

event_not_done : (model : Meaning) → NeverDone model → (hart : ℕ) (state : RunState) → IsNotDone (event model hart state).ended
event_not_done model never hart state =
    elim (cases_Bool (rests state hart)) [
      | inl rest ↦ rw rest unit_not_done
      | inr other ↦ rw other (never hart state)
    ]

-- one step before both
step_continued : (c : Cause) (accesses : List Access) (first next : RunEnd)
    → one_step accesses (continued c first next) ≡ continued c (one_step accesses first) next
step_continued cause.StepsDone accesses first next =
    let count : suc (first.steps + next.steps) ≡ suc first.steps + next.steps = omega arith in
    λ i. ended_now next.cause (count i) next.state (sym (append_assoc accesses first.accesses next.accesses) i)
step_continued _ accesses first next = refl

-- no step before the second
none_continued : (state : RunState) (next : RunEnd) → next ≡ continued cause.StepsDone (ended_now cause.StepsDone 0 state []) next
none_continued state next =
    let count : next.steps ≡ 0 + next.steps = omega arith in
    λ i. ended_now next.cause (count i) next.state next.accesses

stop_continued : (c : Cause) (state : RunState) (accesses : List Access) (next : RunState → RunEnd)
    → IsNotDone (ended.Stop c) → ended_now c 0 state accesses ≡ then_more (ended_now c 0 state accesses) next
stop_continued cause.StepsDone state accesses next other = absurd (other refl)
stop_continued _ state accesses next other = refl

after_event : (e : Ended) (state : RunState) (accesses : List Access) (all first next : RunState → RunEnd)
    → IsNotDone e → ((s : RunState) → all s ≡ then_more (first s) next)
    → then_run e state accesses all ≡ then_more (then_run e state accesses first) next
after_event (ended.Stop c) state accesses all first next other joined = stop_continued c state accesses next other
after_event (ended.Value v) state accesses all first next other joined =
    elim (cases_Bool (all_rest state)) [
      | inl rest ↦ rw rest refl
      | inr on ↦
          rw on
          (ap (one_step accesses) (joined state) ∙ step_continued (first state).cause accesses (first state) (next (first state).state))
    ]

pub joined : (model : Meaning) → NeverDone model
    → (first second : List ℕ) (state : RunState)
    → run model (first ++ second) state ≡ then_more (run model first state) (run model second)
joined model never [] second state = none_continued state (run model second state)
joined model never (hart ∷ first) second state =
    let now = event model hart state in
    after_event now.ended now.state now.accesses (run model (first ++ second)) (run model first) (run model second)
    (event_not_done model never hart state) (joined model never first second)
