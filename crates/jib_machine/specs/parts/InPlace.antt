-- Instructions that work in place, and what they leave as it is.
use Rattle.std.specs.Prelude.{◌≡◌, ℕ, Bool, true, false, List, Option, Some, None, if◌then◌else◌}
use Rattle.sail_base.specs.Bits.{slice_bits}
use Rattle.sail_types.specs.declared.values.Value.{Value}
use Rattle.model_state.specs.RunState.{RunState, Access}
use Rattle.jib.specs.declared.code.Source.{Source}
use Rattle.jib.specs.declared.code.Target.{Target}
use Rattle.jib.specs.declared.code.Target.TheVariants as T
use Rattle.jib.specs.declared.code.Operation.{Operation}
use Rattle.jib.specs.declared.code.Module.{Module}
use Rattle.jib.specs.Values.{has}
use Rattle.jib.specs.Operations.{is_slice}
use Rattle.jib.specs.Jib as J
use Rattle.jib.specs.Jib.{put, type_of}
use Rattle.jib_values.specs.Sources.{filled, source_values}
use Rattle.jib_values.specs.Results.{Wrote}
use Rattle.jib_machine.specs.declared.act.Act.TheVariants as A
use Rattle.jib_machine.specs.declared.in_place.InPlace.{InPlace}
use Rattle.jib_machine.specs.declared.in_place.InPlace.TheVariants as P
use Rattle.jib_machine.specs.parts.Begun.{store}
use Rattle.jib_machine.specs.parts.Acts.{Acted}

-- the bits from a high index down to a low one, where they are all there
abbrev pub cut : List Bool → ℕ → ℕ → Option (List Bool)
cut bits high low = if is_slice bits high low then Some (slice_bits bits high low) else None

-- a slot that is there has another value; or nothing changed
abbrev pub Put : ℕ → Value → Bool → List Value → List Value → Type 0
Put i v true old new = filled new ≡ put (filled old) i v
Put i v false old new = new ≡ old

-- a slot has another value of its type; or nothing changed
abbrev pub Stored : Module → ℕ → ℕ → Value → Bool → List Value → List Value → Type 0
Stored m f i v true old new = (has m.types v (type_of m f (T.Slot i)) ≡ true) × (filled new ≡ put (filled old) i v)
Stored m f i v false old new = new ≡ old

-- a target has another value; or nothing changed
abbrev pub Written : ℕ → Target → Value → Bool → List Value → List Value → RunState → RunState → Type 0
Written hart t v true old new s s' = Wrote hart t v old new s s'
Written hart t v false old new s s' = (new ≡ old) × (s' ≡ s)

-- an operation is worked out, whatever was accessed before and however many ticks are left; or nothing changed
abbrev pub Applied : Module → List Value → ℕ → ℕ → Target → Operation → List Source → Bool → List Value → List Value → RunState → Type 0
Applied m ls hart f t op rs true old new s =
    (k : ℕ) → Acted m (λ xs. J.apply m ls hart t (type_of m f t) op (source_values ls hart s old rs) (filled old) (store s k xs)) A.Go old new s k s k
Applied m ls hart f t op rs false old new s = new ≡ old

-- what follows, where it is done or isn't
abbrev pub next_of : Bool → InPlace
next_of true = P.Next
next_of false = P.Left

-- an instruction is done, whatever was accessed before and however many ticks are left; or nothing changed
abbrev pub DoneInPlace : Module → (ℕ → List Access → J.Act) → InPlace → List Value → List Value → RunState → RunState → Type 0
DoneInPlace m act P.Next old new s t = (k : ℕ) → Acted m (act k) A.Go old new s k t k
DoneInPlace m act P.Jump old new s t = (l : ℕ) × ((k : ℕ) → Acted m (act k) (A.Jump l) old new s k t k)
DoneInPlace m act P.Left old new s t = (new ≡ old) × (t ≡ s)
