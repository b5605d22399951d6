-- One part behind another.
use Rattle.std.proofs.Common.{◌≡◌, subst, ◌+◌, ◌≤◌, ◌<◌, arith, ℕ, zero, suc, Bool, true, false, List, [], ◌∷◌, Option, Some, None}
use Rattle.std.specs.List.{range_with_len}
use Rattle.model_state.specs.Folds.{after_step, rests}
use Rattle.model_state.specs.RunState.{Ran, RunState}
use Rattle.model_state.specs.declared.cause.Ended.{Ended}
use Rattle.model_state.specs.declared.cause.Ended.TheVariants as E
use Rattle.whole_runs.specs.Runs.{AreAlike, AreThere, Behind, EventGoes, EventsGo, Goes, Parts, PartsGo, ResetsGo, RunGoes}

behind_on : {A B : Type 0} (e : Ended) → (A → B) → Behind e A → Behind e B
behind_on (E.Value v) f h = f h
behind_on (E.Stop cause) f h = tt

pub goes_on : (A B : Ran → Type 0) (o : Option Ran) → ((ran : Ran) → A ran → B ran) → Goes o A → Goes o B
goes_on A B None f h = h
goes_on A B (Some ran) f h = behind_on ran.ended (f ran) h

range_there : (count n first : ℕ) → first + n ≤ count → AreThere count (range_with_len first n)
range_there count zero first h = tt
range_there count (suc n) first h = (omega arith, range_there count n (first + 1) (omega arith))

module _ (parts : Parts) (count : ℕ) (Holds : RunState → Type 0) (go : PartsGo parts count Holds) where
  event_goes : (hart : ℕ) → hart < count → (state : RunState) → Holds state → (next : RunState → Type 0)
      → ((later : RunState) → Holds later → next later) → (b : Bool) → EventGoes parts hart state next b
  event_goes hart there state h next f true = f state h
  event_goes hart there state h next f false =
      goes_on (λ ran. Holds (after_step hart ran.ended ran.state)) (λ ran. next (after_step hart ran.ended ran.state)) (parts.step hart state)
      (λ ran k. f (after_step hart ran.ended ran.state) k) (go.step hart there state h)

  events_go : (schedule : List ℕ) → AreThere count schedule → (state : RunState) → Holds state → EventsGo parts Holds schedule state
  events_go [] there state h = h
  events_go (hart ∷ schedule) there state h =
      (h, event_goes hart there.0 state h (EventsGo parts Holds schedule) (events_go schedule there.1) (rests state hart))

  resets_go : (entry : ℕ) (next : RunState → Type 0) → ((later : RunState) → Holds later → next later) → (harts : List ℕ) → AreThere count harts
      → (state : RunState) → Holds state → ResetsGo parts Holds entry next harts state
  resets_go entry next f [] there state h = f state h
  resets_go entry next f (hart ∷ harts) there state h = (
    h,
    goes_on (λ ran. Holds ran.state) (λ ran. ResetsGo parts Holds entry next harts ran.state) (parts.reset hart entry state)
        (λ ran k. resets_go entry next f harts there.1 ran.state k) (go.reset hart entry there.0 state h),
  )

from_first : (count : ℕ) → 0 + count ≤ count
from_first count = omega arith

-- where each part of a run goes on, so does the run behind its start
pub resets_on : (parts : Parts) (count : ℕ) (Holds : RunState → Type 0) → PartsGo parts count Holds
    → (entry : ℕ) (schedule : List ℕ) → AreThere count schedule → (state : RunState) → Holds state
    → ResetsGo parts Holds entry (EventsGo parts Holds schedule) (range_with_len 0 count) state
resets_on parts count Holds go entry schedule there state h =
    resets_go parts count Holds go entry (EventsGo parts Holds schedule) (events_go parts count Holds go schedule there) (range_with_len 0 count)
    (range_there count count 0 (from_first count)) state h

-- ---- parts that are alike

module _ (parts others : Parts) (Holds : RunState → Type 0) (alike : AreAlike parts others Holds) where
  across : (A B : Ran → Type 0) (o p : Option Ran) → o ≡ p → ((ran : Ran) → A ran → B ran) → Goes o A → Goes p B
  across A B o p same f h = subst (λ q. Goes q B) same (goes_on A B o f h)

  event_across : (hart : ℕ) (state : RunState) → Holds state → (next other : RunState → Type 0) → ((later : RunState) → next later → other later)
      → (b : Bool) → EventGoes parts hart state next b → EventGoes others hart state other b
  event_across hart state h next other f true g = f state g
  event_across hart state h next other f false g =
      across (λ ran. next (after_step hart ran.ended ran.state)) (λ ran. other (after_step hart ran.ended ran.state)) (parts.step hart state)
      (others.step hart state) (alike.step hart state h) (λ ran k. f (after_step hart ran.ended ran.state) k) g

  events_across : (schedule : List ℕ) (state : RunState) → EventsGo parts Holds schedule state → EventsGo others Holds schedule state
  events_across [] state h = h
  events_across (hart ∷ schedule) state g =
      (g.0, event_across hart state g.0 (EventsGo parts Holds schedule) (EventsGo others Holds schedule) (events_across schedule) (rests state hart) g.1)

  resets_across : (entry : ℕ) (next other : RunState → Type 0) → ((later : RunState) → next later → other later) → (harts : List ℕ) (state : RunState)
      → ResetsGo parts Holds entry next harts state → ResetsGo others Holds entry other harts state
  resets_across entry next other f [] state g = f state g
  resets_across entry next other f (hart ∷ harts) state g = (
    g.0,
    across (λ ran. ResetsGo parts Holds entry next harts ran.state) (λ ran. ResetsGo others Holds entry other harts ran.state)
        (parts.reset hart entry state) (others.reset hart entry state) (alike.reset hart entry state g.0)
        (λ ran k. resets_across entry next other f harts ran.state k) g.1,
  )

-- where a run goes on, so does that of parts which are alike
pub run_across : (parts others : Parts) (Holds : RunState → Type 0) → AreAlike parts others Holds
    → (count entry : ℕ) (schedule : List ℕ) (state : RunState) → Holds state
    → RunGoes parts Holds count entry schedule state → RunGoes others Holds count entry schedule state
run_across parts others Holds alike count entry schedule state h =
    across parts others Holds alike (λ ran. ResetsGo parts Holds entry (EventsGo parts Holds schedule) (range_with_len 0 count) ran.state)
    (λ ran. ResetsGo others Holds entry (EventsGo others Holds schedule) (range_with_len 0 count) ran.state)
    (parts.init state) (others.init state) (alike.init state h)
    (λ ran k.
    resets_across parts others Holds alike entry (EventsGo parts Holds schedule) (EventsGo others Holds schedule)
    (events_across parts others Holds alike schedule) (range_with_len 0 count) ran.state k)
