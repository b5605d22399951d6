-- The state of a run, what a part of a run comes to, and the accesses that it makes.
use Rattle.std.specs.Prelude.{ℕ, zero, suc, Bool, false, List, [], ◌∷◌, map, replicate, Option, Some, None, unwrap_or, slice_get, slice_set}
use Rattle.sail_types.specs.declared.table.Types.{Types}
use Rattle.sail_types.specs.declared.values.Value.{Value}
use Rattle.sail_types.specs.declared.values.Value.TheVariants as V
use Rattle.sail_types.specs.Zero.{zero_of}
use Rattle.model_state.specs.declared.cause.Ended.{Ended}
use Rattle.model_state.specs.declared.state.Hart.{Hart}
use Rattle.model_state.specs.declared.state.Register.{Register}

-- the named types and the registers of the model; what each hart has; RAM by the address of its first byte and its bytes;
-- the console's bytes
pub record RunState : Type 0 where
  pub types : Types
  pub registers : List Register
  pub harts : List Hart
  pub base : ℕ
  pub bytes : List ℕ
  pub console : List ℕ

-- the zero of a register's type
abbrev pub zero_value : Types → Register → Value
zero_value types register = unwrap_or (zero_of types register.typ) V.Unit

-- a hart at the beginning: its registers are zero, it has no reservation and doesn't rest
abbrev pub fresh_hart : Types → List Register → Hart
fresh_hart types registers = record { registers = map (zero_value types) registers; reservation = None; rests = false }

-- so many harts over these bytes, and an empty console
abbrev pub fresh : Types → List Register → ℕ → ℕ → List ℕ → RunState
fresh types registers harts base bytes = record {
  types = types;
  registers = registers;
  harts = replicate harts (fresh_hart types registers);
  base = base;
  bytes = bytes;
  console = [];
}

-- RAM as an image left it: the address of its first byte and its bytes
pub record Placed : Type 0 where
  pub base : ℕ
  pub bytes : List ℕ

-- what a hart does to memory or the console by a builtin that doesn't stop: it reads `w` bytes at address `a` as this word,
-- reserves them too, writes this word there, writes it if its reservation stands and covers the bytes, asks whether the
-- bytes are there, or puts these bytes on the console
pub data Access : Type 0 where
  read : (hart w a : ℕ) (word : List Bool) → Access
  reserve : (hart w a : ℕ) (word : List Bool) → Access
  write : (hart w a : ℕ) (word : List Bool) → Access
  write_cond : (hart w a : ℕ) (word : List Bool) (done : Bool) → Access
  mapped : (hart w a : ℕ) (there : Bool) → Access
  put : (hart : ℕ) (bytes : List ℕ) → Access

-- how a part of a run ends, the state then, and its accesses in order
pub record Ran : Type 0 where
  pub ended : Ended
  pub state : RunState
  pub accesses : List Access

-- the registers of a hart; none where it isn't there
abbrev pub values_of : Option Hart → List Value
values_of None = []
values_of (Some hart) = hart.registers

-- the value of a register of a hart
abbrev pub register_value : RunState → ℕ → ℕ → Option Value
register_value state hart index = slice_get (values_of (slice_get state.harts hart)) index

-- the hart of an index changed, the others as they are
abbrev pub changed : (Hart → Hart) → ℕ → List Hart → List Hart
changed f index [] = []
changed f zero (hart ∷ harts) = f hart ∷ harts
changed f (suc index) (hart ∷ harts) = hart ∷ changed f index harts

abbrev pub hart_with_register : ℕ → Value → Hart → Hart
hart_with_register index value hart = record hart { registers = slice_set hart.registers index value }

-- a register of a hart has another value
abbrev pub with_register : ℕ → ℕ → Value → RunState → RunState
with_register hart index value state = record state { harts = changed (hart_with_register index value) hart state.harts }
