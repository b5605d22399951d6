-- The calls of `reset`, hart by hart.
use Rattle.std.proofs.Common.{◌≡◌, ℕ, suc, ◌+◌, ◌-◌, ◌<◌, [], ◌∷◌, Some, sym, ap, ◌∙◌, arith}
use Rattle.std.specs.List.{range_with_len}
use Rattle.sail_types.specs.declared.values.Value.{Value}
use Rattle.model_state.specs.declared.cause.Cause.{Cause}
use Rattle.model_state.specs.declared.cause.Ended.TheVariants as ended
use Rattle.model_state.specs.RunState.{RunState}
use Rattle.model_state.specs.Folds.{Meaning, Started, then_start, resets}

-- two starts come to one stop and one state, whatever their accesses
pub record AreAlike (a b : Started) : Type 0 where
  pub stop : a.stop ≡ b.stop
  pub state : a.state ≡ b.state

pub alike_both : {a b c : Started} → AreAlike a b → AreAlike b c → AreAlike a c
alike_both first second = record { stop = first.stop ∙ second.stop; state = first.state ∙ second.state }

-- the calls from a hart on are that of this hart and then those from the next one on
from_hart : (model : Meaning) (entry hart count : ℕ) (state : RunState)
    → hart < count
    → resets model entry (range_with_len hart (count - hart)) state ≡ resets model entry (hart ∷ range_with_len (hart + 1) (count - (hart + 1))) state
from_hart model entry hart count state there =
    let longer : count - hart ≡ suc (count - (hart + 1)) = omega arith in
    ap (λ n. resets model entry (range_with_len hart n) state) longer

-- the hart's call doesn't stop
pub reset_goes_on : (model : Meaning) (entry hart count : ℕ) (state : RunState) (v : Value)
    → hart < count → (model.reset hart entry state).ended ≡ ended.Value v
    → AreAlike (resets model entry (range_with_len (hart + 1) (count - (hart + 1))) (model.reset hart entry state).state)
    (resets model entry (range_with_len hart (count - hart)) state)
reset_goes_on model entry hart count state v there is =
    let ran = model.reset hart entry state in
    let rest = resets model entry (range_with_len (hart + 1) (count - (hart + 1))) in
    let same = from_hart model entry hart count state there ∙ ap (λ e. then_start e ran.state ran.accesses rest) is in
    record { stop = sym (ap (λ s. s.stop) same); state = sym (ap (λ s. s.state) same) }

-- the hart's call stops
pub reset_stops : (model : Meaning) (entry hart count : ℕ) (state : RunState) (c : Cause)
    → hart < count → (model.reset hart entry state).ended ≡ ended.Stop c
    → AreAlike (record { stop = Some c; state = (model.reset hart entry state).state; accesses = [] })
    (resets model entry (range_with_len hart (count - hart)) state)
reset_stops model entry hart count state c there is =
    let ran = model.reset hart entry state in
    let rest = resets model entry (range_with_len (hart + 1) (count - (hart + 1))) in
    let same = from_hart model entry hart count state there ∙ ap (λ e. then_start e ran.state ran.accesses rest) is in
    record { stop = sym (ap (λ s. s.stop) same); state = sym (ap (λ s. s.state) same) }
