-- What the machine's acts are in the meaning of code, whatever was accessed before.
use Rattle.std.specs.Prelude.{◌≡◌, ℕ, ℤ, List, Some}
use Rattle.sail_types.specs.declared.values.Value.{Value}
use Rattle.model_state.specs.RunState.{RunState, Access}
use Rattle.jib.specs.declared.code.Module.{Module}
use Rattle.jib.specs.Jib as J
use Rattle.jib.specs.Jib.{Store, Outcome}
use Rattle.jib_machine.specs.declared.act.Act.{Act}
use Rattle.jib_machine.specs.declared.act.Act.TheVariants as A
use Rattle.jib_machine.specs.declared.act.Ending.{Ending}
use Rattle.jib_machine.specs.declared.act.Ending.TheVariants as N
use Rattle.jib_machine.specs.declared.act.Here.{Here}
use Rattle.jib_values.specs.Sources.{filled}
use Rattle.jib_machine.specs.parts.Begun.{store}
use Rattle.jib_machine.specs.parts.Unread.{Begins}

abbrev pub seen : Here → J.Here
seen h = record { function = h.function; place = h.place; measure = h.measure }

abbrev pub outcome_of : Ending → Store → Outcome
outcome_of (N.Value v) s = J.Gives v s
outcome_of (N.Threw v) s = J.Throws v s
outcome_of (N.Stopped cause) s = J.Stops cause s

-- from slots, state and ticks to others
abbrev pub Acted : Module → (List Access → J.Act) → Act → List Value → List Value → RunState → ℕ → RunState → ℕ → Type 0
Acted m act A.Go old new s k t n = (xs : List Access) → (ys : List Access) × (act xs ≡ J.Go (filled new) (store t n ys))
Acted m act (A.Jump l) old new s k t n = ((xs : List Access) → act xs ≡ J.Jump l) × (new ≡ old) × (t ≡ s) × (n ≡ k)
Acted m act (A.Sink o) old new s k t n = (z : ℤ) × (o ≡ Some z) × ((xs : List Access) → act xs ≡ J.Sink z) × (new ≡ old) × (t ≡ s) × (n ≡ k)
Acted m act (A.Over e) old new s k t n = (xs : List Access) → (ys : List Access) × (act xs ≡ J.Over (outcome_of e (store t n ys)))
Acted m act (A.Enter i f slots l p) old new s k t n =
    (vs : List Value) × ((xs : List Access) → act xs ≡ J.Enter i f vs l p) × Begins m f vs slots.items × (new ≡ old) × (t ≡ s) × (n ≡ k)
