-- What is worked out once, in the order of the model's text: its top-level lets, and the initial values of its registers.
use Rattle.std.specs.Prelude.{ℕ, List, [], ◌∷◌, ◌++◌, ◌≡◌, map, Option, Some, None, slice_get}
use Rattle.sail_types.specs.declared.table.Types.{Types}
use Rattle.sail_types.specs.declared.table.Field.{Field}
use Rattle.sail_types.specs.Named.{constructors}
use Rattle.sail_types.specs.declared.values.Value.{Value, Value-F, out-Value}
use Rattle.sail_types.specs.declared.values.Value.TheOpen as W
use Rattle.sail_types.specs.declared.values.Value.TheVariants as V
use Rattle.model_state.specs.declared.cause.Cause.TheVariants as C
use Rattle.model_state.specs.declared.cause.Ended.{Ended}
use Rattle.model_state.specs.declared.cause.Ended.TheVariants as E
use Rattle.model_state.specs.RunState.{RunState, Ran, hart_with_register}
use Rattle.jib.specs.declared.code.Function.{Function}
use Rattle.jib.specs.declared.code.Opening.{Opening}
use Rattle.jib.specs.declared.code.Module.{Module}
use Rattle.jib.specs.Values.{zero_of}
use Rattle.jib.specs.Jib.{Store, Outcome, Gives, Throws, Stops, jib_run}

-- ---- the end of what the machine calls

abbrev pub name_of : Option Field → List ℕ
name_of None = []
name_of (Some c) = c.name

-- the name of the constructor that was thrown
abbrev pub thrown_name : Types → Value-F Value → List ℕ
thrown_name types (W.Union i k v) = name_of (slice_get (constructors types i) k)
thrown_name types v = []

-- an exception that leaves what the machine calls stops the run
abbrev pub ended : Types → Outcome → Ended
ended types (Gives v s) = E.Value v
ended types (Throws v s) = E.Stop (C.Exception (thrown_name types (out-Value v)))
ended types (Stops cause s) = E.Stop cause

abbrev pub store_of : Outcome → Store
store_of (Gives v s) = s
store_of (Throws v s) = s
store_of (Stops cause s) = s

-- so many ticks, and no access yet
abbrev pub begun : ℕ → RunState → Store
begun ticks state = record { state = state; ticks = ticks; accesses = [] }

-- what the call of a function of the module by the machine comes to
abbrev pub ran_of : Types → Outcome → Ran
ran_of types r = record { ended = ended types r; state = (store_of r).state; accesses = (store_of r).accesses }

-- a hart calls a function of the module of a model with these named types, and this comes of it
pub record Calls (m : Module) (types : Types) (lets : List Value) (hart ticks function : ℕ) (arguments : List Value) (state : RunState) (ran : Ran)
    : Type 0 where
  pub outcome : Outcome
  pub run : jib_run m lets hart function arguments (begun ticks state) outcome
  pub same : ran ≡ ran_of types outcome

-- ---- openings

abbrev pub result_in : Option Function → ℕ
result_in None = 0
result_in (Some f) = f.result

-- the value of an opening: the zero of its type where it stopped
abbrev pub value_or_zero : Module → Opening → Ended → Value
value_or_zero m o (E.Value v) = v
value_or_zero m o (E.Stop cause) = zero_of m.types (result_in (slice_get m.functions o.function))

-- the openings of a model with these named types end so, one after another over a state that none of them touches, where `lets` are the
-- values of those before; the last list has the values of all
pub data Opens (m : Module) (types : Types) (state : RunState) : List Opening → List Value → List Ended → List Value → Type 0 where
  opens_none : {lets : List Value} → Opens m types state [] lets [] lets
  opens_more : {o : Opening} {os : List Opening} {lets vs : List Value} {es : List Ended} (r : Outcome)
      → jib_run m lets 0 o.function [] (begun 0 state) r
      → Opens m types state os (lets ++ value_or_zero m o (ended types r) ∷ []) es vs → Opens m types state (o ∷ os) lets (ended types r ∷ es) vs

-- a register of all harts has this value
abbrev pub set_all : Option ℕ → Value → RunState → RunState
set_all None v state = state
set_all (Some i) v state = record state { harts = map (hart_with_register i v) state.harts }

abbrev pub initial_ran : Ended → RunState → Ran
initial_ran e state = record { ended = e; state = state; accesses = [] }

-- what the openings come to: they set the registers of all harts in order, up to the first that stopped
abbrev pub initial : List Opening → List Ended → RunState → Ran
initial (o ∷ os) (E.Value v ∷ es) state = initial os es (set_all o.register v state)
initial (o ∷ os) (E.Stop cause ∷ es) state = initial_ran (E.Stop cause) state
initial os es state = initial_ran (E.Value V.Unit) state
