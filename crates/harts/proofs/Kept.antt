-- What every call of a model keeps holds over a start and over the events of a schedule.
use Rattle.std.proofs.Common.{◌≡◌, ℕ, zero, suc, ◌+◌, ◌<◌, ◌≤◌, Bool, true, false, List, [], ◌∷◌, length, map, All, IsTrue}
use Rattle.std.proofs.Common.{refl, sym, ap, ◌∙◌, subst, arith, inl, inr}
use Rattle.std.specs.List.{list_all, range_with_len}
use Rattle.std.proofs.lemmas.Bool.{cases_Bool}
use Rattle.std.proofs.lemmas.List.Elements.{All-head, All-tail}
use Rattle.std.proofs.lemmas.List.FromFn.{length-range_with_len, get_or-range_with_len}
use Rattle.sail_types.specs.Numbers.{Assignment}
use Rattle.sail_types.specs.declared.values.Value.{Value}
use Rattle.sail_types.specs.declared.values.Value.TheVariants as value
use Rattle.model_state.specs.declared.cause.Ended.{Ended}
use Rattle.model_state.specs.declared.cause.Ended.TheVariants as ended
use Rattle.model_state.specs.declared.state.Hart.{Hart}
use Rattle.model_state.specs.RunState.{RunState, Access, Ran, changed}
use Rattle.model_state.specs.Folds.{Meaning, Started, RunEnd, then_start, resets, start, then_run, rests, all_rest}
use Rattle.model_state.specs.Folds.{resting, set_rests, after_step, event, run}
use Rattle.harts.proofs.Keeping.{keeps_rests}
use Rattle.harts.specs.laws.Invariants.{Follows, HoldsIn, IsKept, IsKeptAtRest, values_belong, registers_belong}

-- the invariant holds, in a state of so many harts
record Reached (model : Meaning) (holds : RunState → Bool) (count : ℕ) (s : RunState) : Type 0 where
  holding : HoldsIn model holds s
  harts : length s.harts ≡ count

-- a call leads from one such state to another
follows : (model : Meaning) (holds : RunState → Bool) (count : ℕ) (s : RunState) (ran : Ran)
    → Reached model holds count s → Follows holds s ran → Reached model holds count ran.state
follows model holds count s ran now call = record {
  holding = record { registers = call.keeps.registers ∙ now.holding.registers; holds_now = call.holds_after };
  harts = call.keeps.harts ∙ now.harts;
}

-- ---- the start

then_started : (model : Meaning) (holds : RunState → Bool) (count : ℕ) (e : Ended) (s : RunState) (accesses : List Access) (rest : RunState → Started)
    → Reached model holds count s → Reached model holds count (rest s).state → Reached model holds count (then_start e s accesses rest).state
then_started model holds count (ended.Stop cause) s accesses rest now after = now
then_started model holds count (ended.Value v) s accesses rest now after = after

resets_reach : (model : Meaning) (holds : RunState → Bool) → IsKept model holds → (count entry : ℕ) (harts : List ℕ) (s : RunState)
    → All (λ hart. hart < count) harts → Reached model holds count s → Reached model holds count (resets model entry harts s).state
resets_reach model holds kept count entry [] s there now = now
resets_reach model holds kept count entry (hart ∷ harts) s there now =
    let ran = model.reset hart entry s in
    let within : hart < count = All-head (λ h. h < count) hart harts there in
    let is_there : hart < length s.harts = omega (arith, now.harts, within) in
    let next = follows model holds count s ran now (kept.reset s hart entry now.holding is_there) in
    then_started model holds count ran.ended ran.state ran.accesses (resets model entry harts) next
    (resets_reach model holds kept count entry harts ran.state (All-tail (λ h. h < count) hart harts there) next)

all_there : (count : ℕ) → All (λ hart. hart < count) (range_with_len 0 count)
all_there count k d lt =
    let within : k < count = omega (arith, lt, length-range_with_len 0 count) in
    omega (arith, within, get_or-range_with_len 0 count k d within)

pub start_holds : (model : Meaning) (holds : RunState → Bool) → IsKept model holds → (entry : ℕ) (s : RunState)
    → HoldsIn model holds s → HoldsIn model holds (start model entry s).state
start_holds model holds kept entry s now =
    let count = length s.harts in
    let ran = model.init s in
    let first : Reached model holds count s = record { holding = now; harts = refl } in
    let next = follows model holds count s ran first (kept.init s now) in
    (then_started model holds count ran.ended ran.state ran.accesses (resets model entry (range_with_len 0 count)) next
    (resets_reach model holds kept count entry (range_with_len 0 count) ran.state (all_there count) next)).holding

-- ---- the events

rests_reach : (model : Meaning) (holds : RunState → Bool) → IsKeptAtRest holds → (count hart : ℕ) (s : RunState)
    → Reached model holds count s → Reached model holds count (set_rests hart s)
rests_reach model holds at_rest count hart s now = record {
  holding = record { registers = now.holding.registers; holds_now = at_rest s hart now.holding.holds_now };
  harts = (keeps_rests hart s).harts ∙ now.harts;
}

after_reach : (model : Meaning) (holds : RunState → Bool) → IsKeptAtRest holds → (count hart : ℕ) (e : Ended) (s : RunState)
    → Reached model holds count s → Reached model holds count (after_step hart e s)
after_reach model holds at_rest count hart (ended.Value (value.Truth false)) s now = rests_reach model holds at_rest count hart s now
after_reach model holds at_rest count hart _ s now = now

event_reaches : (model : Meaning) (holds : RunState → Bool) → IsKept model holds → IsKeptAtRest holds → (count hart : ℕ) (s : RunState)
    → hart < count → Reached model holds count s → Reached model holds count (event model hart s).state
event_reaches model holds kept at_rest count hart s within now =
    let ran = model.step hart s in
    let is_there : hart < length s.harts = omega (arith, now.harts, within) in
    elim (cases_Bool (rests s hart)) [
      | inl rest ↦ rw rest now
      | inr awake ↦
          rw awake
          (after_reach model holds at_rest count hart ran.ended ran.state
          (follows model holds count s ran now (kept.step s hart now.holding is_there)))
    ]

then_ran : (model : Meaning) (holds : RunState → Bool) (count : ℕ) (e : Ended) (s : RunState) (accesses : List Access) (rest : RunState → RunEnd)
    → Reached model holds count s → Reached model holds count (rest s).state → Reached model holds count (then_run e s accesses rest).state
then_ran model holds count (ended.Stop cause) s accesses rest now after = now
then_ran model holds count (ended.Value v) s accesses rest now after =
    elim (cases_Bool (all_rest s)) [ inl all ↦ rw all now | inr on ↦ rw on after ]

run_reaches : (model : Meaning) (holds : RunState → Bool) → IsKept model holds → IsKeptAtRest holds
    → (count : ℕ) (schedule : List ℕ) (s : RunState) → All (λ hart. hart < count) schedule
    → Reached model holds count s → Reached model holds count (run model schedule s).state
run_reaches model holds kept at_rest count [] s there now = now
run_reaches model holds kept at_rest count (hart ∷ schedule) s there now =
    let ran = event model hart s in
    let within : hart < count = All-head (λ h. h < count) hart schedule there in
    let next = event_reaches model holds kept at_rest count hart s within now in
    then_ran model holds count ran.ended ran.state ran.accesses (run model schedule) next
    (run_reaches model holds kept at_rest count schedule ran.state (All-tail (λ h. h < count) hart schedule there) next)

pub run_holds : (model : Meaning) (holds : RunState → Bool) → IsKept model holds → IsKeptAtRest holds
    → (schedule : List ℕ) (s : RunState) → All (λ hart. hart < length s.harts) schedule
    → HoldsIn model holds s → HoldsIn model holds (run model schedule s).state
run_holds model holds kept at_rest schedule s there now =
    (run_reaches model holds kept at_rest (length s.harts) schedule s there (record { holding = now; harts = refl })).holding

-- ---- registers have values of their types

list_all-changed : (f : Hart → Hart) (p : Hart → Bool) → ((hart : Hart) → p (f hart) ≡ p hart) → (i : ℕ) (harts : List Hart)
    → list_all p (changed f i harts) ≡ list_all p harts
list_all-changed f p same i [] = refl
list_all-changed f p same zero (hart ∷ harts) = rw (same hart) refl
list_all-changed f p same (suc i) (hart ∷ harts) = rw (list_all-changed f p same i harts) refl

pub types_kept_at_rest : (nu : Assignment) → IsKeptAtRest (registers_belong nu)
types_kept_at_rest nu s hart now =
    list_all-changed resting (λ (h : Hart). values_belong s.types nu s.registers h.registers) (λ h. refl) hart s.harts ∙ now
