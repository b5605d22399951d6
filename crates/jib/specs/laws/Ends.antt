-- Each run of a valid module ends, in one way, and what is worked out once can be.
use Rattle.std.specs.Prelude.{◌≡◌, ℕ, List, [], true, slice_get}
use Rattle.sail_types.specs.declared.table.Types.{Types}
use Rattle.sail_types.specs.declared.values.Value.{Value}
use Rattle.model_state.specs.declared.cause.Ended.{Ended}
use Rattle.model_state.specs.RunState.{RunState}
use Rattle.jib.specs.declared.types.ValueType.{ValueType}
use Rattle.jib.specs.declared.code.Literal.{Literal}
use Rattle.jib.specs.declared.code.Module.{Module}
use Rattle.jib.specs.Values.{has, literal_value}
use Rattle.jib.specs.Typing.{literal_some}
use Rattle.jib.specs.Jib.{Store, Outcome, jib_run}
use Rattle.jib.specs.Openings.{Opens}
use Rattle.jib.specs.Valid.{valid}

abbrev pub EachRunEnds : Type 0
EachRunEnds = (m : Module) → valid m ≡ true → (lets : List Value) (hart f : ℕ) (vs : List Value) (s : Store) → (r : Outcome) × jib_run m lets hart f vs s r

abbrev pub InOneWay : Type 0
InOneWay = (m : Module) → valid m ≡ true → (lets : List Value) (hart f : ℕ) (vs : List Value) (s : Store) (r r' : Outcome) → jib_run m lets hart f vs s r
    → jib_run m lets hart f vs s r' → r ≡ r'

abbrev pub OpeningsEnd : Type 0
OpeningsEnd = (m : Module) → valid m ≡ true → (types : Types) (state : RunState)
    → (es : List Ended) × (vs : List Value) × Opens m types state m.openings [] es vs

-- whether a constant belongs to a type is whether its value does
abbrev pub ConstantsBelong : Type 0
ConstantsBelong = (ts : List ValueType) (l : Literal) (k : ℕ) → has ts (literal_value l) k ≡ literal_some (slice_get ts k) l
