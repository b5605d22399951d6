-- What openings come to belongs to its type, whatever the registers hold, since pure functions work them out, which read none. A run of a pure
-- function that begins with arguments and openings of their types reads values of their types wherever it comes to, and ends with one of its type.
-- So the openings that are worked out one after another are of their types, and the registers that they set still hold values of theirs.
use Rattle.std.specs.Prelude.{◌≡◌, ℕ, true, List, [], Some, slice_get}
use Rattle.sail_types.specs.declared.table.Types.{Types}
use Rattle.sail_types.specs.declared.values.Value.{Value}
use Rattle.model_state.specs.declared.cause.Ended.{Ended}
use Rattle.model_state.specs.RunState.{RunState}
use Rattle.jib.specs.declared.code.Function.{Function}
use Rattle.jib.specs.declared.code.Module.{Module}
use Rattle.jib.specs.Values.{has}
use Rattle.jib.specs.Jib.{Slots, Store, Outcome, Gives, Throws, Stops, Here, entry, alone, jib_run}
use Rattle.jib.specs.Openings.{Opens, initial}
use Rattle.jib.specs.Valid.{valid}
use Rattle.jib_laws.specs.Belongs.{RegistersHold, LetsHold, SlotsHold, GivenTo, Comes}

-- ---- runs of pure functions

-- all that a pure function reads: its slots, and as many openings as it may read
pub record PureHolds (m : Module) (lets : List Value) (f : Function) (slots : Slots) : Type 0 where
  pub pure : f.is_pure ≡ true
  pub in_slots : SlotsHold m f slots
  pub in_lets : LetsHold m lets f.lets

-- what a run of a pure function begins with
pub record PureBegins (m : Module) (lets : List Value) (f : Function) (vs : List Value) : Type 0 where
  pub pure : f.is_pure ≡ true
  pub given : GivenTo m f vs
  pub in_lets : LetsHold m lets f.lets

-- a value is of the type of the function's result, an exception of that of exceptions
abbrev pub PureEndHolds : Module → Function → Outcome → Type 0
PureEndHolds m f (Gives v t) = has m.types v f.result ≡ true
PureEndHolds m f (Throws v t) = has m.types v m.exception ≡ true
PureEndHolds m f (Stops cause t) = Unit {0}

-- wherever a run of a pure function comes to, it is in a pure function of the module, and what that one reads belongs to its type
abbrev pub PurePlacesHold : Type 0
PurePlacesHold = (m : Module) → valid m ≡ true → (lets : List Value) (hart n : ℕ) (f : Function) (vs : List Value) (s : Store)
    → slice_get m.functions n ≡ Some f → PureBegins m lets f vs
    → (h : Here) (pc : ℕ) (slots : Slots) (t : Store) → Comes m lets hart (alone n) 0 (entry m n vs) s h pc slots t
    → (g : Function) × (slice_get m.functions h.function ≡ Some g) × PureHolds m lets g slots

-- what a run of a pure function ends with belongs to its type
abbrev pub PureEndsHold : Type 0
PureEndsHold = (m : Module) → valid m ≡ true → (lets : List Value) (hart n : ℕ) (f : Function) (vs : List Value) (s : Store) (r : Outcome)
    → slice_get m.functions n ≡ Some f → PureBegins m lets f vs → jib_run m lets hart n vs s r → PureEndHolds m f r

-- a store and an end over another state
abbrev pub over : RunState → Store → Store
over state s = record s { state = state }

abbrev pub outcome_over : RunState → Outcome → Outcome
outcome_over state (Gives v t) = Gives v (over state t)
outcome_over state (Throws v t) = Throws v (over state t)
outcome_over state (Stops cause t) = Stops cause (over state t)

-- a run of a pure function does the same over every state
abbrev pub PureRunsAlike : Type 0
PureRunsAlike = (m : Module) → valid m ≡ true → (lets : List Value) (hart n : ℕ) (f : Function) (vs : List Value) (s : Store) (r : Outcome)
    → slice_get m.functions n ≡ Some f → f.is_pure ≡ true → jib_run m lets hart n vs s r
    → (state : RunState) → jib_run m lets hart n vs (over state s) (outcome_over state r)

-- ---- openings

-- the openings of a module that are worked out, over whatever state, are of their types, as many as there are
abbrev pub OpeningsHold : Type 0
OpeningsHold = (m : Module) → valid m ≡ true → (types : Types) (state : RunState) (es : List Ended) (lets : List Value)
    → Opens m types state m.openings [] es lets → (n : ℕ) → LetsHold m lets n

-- the registers of a hart that hold values of their types do so after the openings have set theirs
abbrev pub InitialHolds : Type 0
InitialHolds = (m : Module) → valid m ≡ true → (types : Types) (state : RunState) (es : List Ended) (lets : List Value)
    → Opens m types state m.openings [] es lets
    → (hart : ℕ) (start : RunState) → RegistersHold m hart start → RegistersHold m hart (initial m.openings es start).state
