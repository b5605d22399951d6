-- What flat code does, as a relation from a place in a function to the end of its run. No step is stuck: a value that is wanting is
-- the zero of its type.
use Rattle.std.specs.Prelude.{◌≡◌, ℕ, zero, suc, ◌+◌, ℤ, pos, int_lt, Bool, true, false, cond, nat_eq, List, [], ◌∷◌, ◌++◌, Option, Some}
use Rattle.std.specs.Prelude.{None, option_map, unwrap_or, map, slice_get, slice_index_or}
use Rattle.sail_base.specs.declared.place.Place.{Place}
use Rattle.sail_types.specs.declared.values.Value.{Value, Value-F, out-Value}
use Rattle.sail_types.specs.declared.values.Value.TheOpen as W
use Rattle.sail_types.specs.declared.values.Value.TheVariants as V
use Rattle.sail_types.specs.declared.rows.Row.{Row}
use Rattle.builtins.specs.RowValues.{row as row_value}
use Rattle.model_state.specs.declared.cause.Cause.{Cause}
use Rattle.model_state.specs.declared.cause.Cause.TheVariants as C
use Rattle.model_state.specs.declared.cause.Ended.{Ended}
use Rattle.model_state.specs.declared.cause.Ended.TheVariants as E
use Rattle.model_state.specs.RunState.{RunState, Access, Ran, register_value, with_register}
use Rattle.model_state.specs.StateRows.{state_row}
use Rattle.jib.specs.declared.types.ValueType.{ValueType}
use Rattle.jib.specs.declared.code.Source.{Source}
use Rattle.jib.specs.declared.code.Source.TheVariants as R
use Rattle.jib.specs.declared.code.Target.{Target}
use Rattle.jib.specs.declared.code.Target.TheVariants as T
use Rattle.jib.specs.declared.code.Operation.{Operation}
use Rattle.jib.specs.declared.code.Operation.TheVariants as O
use Rattle.jib.specs.declared.code.Instruction.{Instruction}
use Rattle.jib.specs.declared.code.Instruction.TheVariants as I
use Rattle.jib.specs.declared.code.Function.{Function}
use Rattle.jib.specs.declared.code.Module.{Module}
use Rattle.jib.specs.Values.{fit, zero_of, literal_value}
use Rattle.jib.specs.Operations.{worked_out}

-- what a run reads and changes: the state, the ticks that are left, and the accesses so far, in order
pub record Store : Type 0 where
  pub state : RunState
  pub ticks : ℕ
  pub accesses : List Access

-- how a run of a function ends: with a value, with an exception, or since the whole run stops
pub data Outcome : Type 0 where
  Gives : Value → Store → Outcome
  Throws : Value → Store → Outcome
  Stops : Cause → Store → Outcome

-- a call that runs: its function, where it was made, and what its next measure has to be below, if anything
pub record Here : Type 0 where
  pub function : ℕ
  pub place : Place
  pub measure : Option ℤ

-- the values of a call's slots
abbrev pub Slots : Type 0
Slots = ℕ → Value

abbrev pub put : Slots → ℕ → Value → Slots
put slots i v j = cond (nat_eq i j) v (slots j)

-- ---- the functions of a module

abbrev pub code_in : Option Function → List Instruction
code_in None = []
code_in (Some f) = f.code

abbrev pub code_of : Module → ℕ → List Instruction
code_of m f = code_in (slice_get m.functions f)

abbrev pub cycle_in : Option Function → ℕ
cycle_in None = 0
cycle_in (Some f) = f.cycle

abbrev pub cycle_of : Module → ℕ → ℕ
cycle_of m f = cycle_in (slice_get m.functions f)

abbrev pub slots_in : Option Function → List ℕ
slots_in None = []
slots_in (Some f) = f.slots

abbrev pub slots_of : Module → ℕ → List ℕ
slots_of m f = slots_in (slice_get m.functions f)

-- the type of a target of a function
abbrev pub type_of : Module → ℕ → Target → ℕ
type_of m f (T.Slot i) = slice_index_or (slots_of m f) i 0
type_of m f (T.Register i) = slice_index_or m.registers i 0

-- past the end of its code a function stops
abbrev pub or_stop : Option Instruction → Instruction
or_stop None = I.Stop C.WorkLimit
or_stop (Some i) = i

abbrev pub at : List Instruction → ℕ → Instruction
at code pc = or_stop (slice_get code pc)

-- ---- what an instruction does

-- what follows: the next instruction with these slots and this store; a label; a new measure before the next instruction; the
-- end of the function's run; or a call, as the slot for its result, the function, its arguments, the label for an exception and its place
pub data Act : Type 0 where
  Go : Slots → Store → Act
  Jump : ℕ → Act
  Sink : ℤ → Act
  Over : Outcome → Act
  Enter : ℕ → ℕ → List Value → ℕ → Place → Act

-- ---- results

-- a result that leaves the state as it is
abbrev pub plain : RunState → Value → Ran
plain state v = record { ended = E.Value v; state = state; accesses = [] }

abbrev pub or_plain : RunState → Option Ran → Option Value → Option Ran
or_plain state None v = option_map (plain state) v
or_plain state (Some ran) v = Some ran

-- a builtin is one of the state, or one without state; nothing where its condition fails or what it makes passes a limit
abbrev pub builtin : Row → List Value → ℕ → RunState → Option Ran
builtin row vs hart state = or_plain state (state_row row hart state vs) (row_value row vs)

-- what an operation comes to for a target of this type
abbrev pub operate : Option ValueType → Operation → List Value → ℕ → RunState → Option Ran
operate t (O.Builtin row) vs hart state = builtin row vs hart state
operate t op vs hart state = option_map (plain state) (worked_out t op vs)

abbrev pub with_ran : Ran → Store → Store
with_ran ran s = record s { state = ran.state; accesses = s.accesses ++ ran.accesses }

-- ---- jumps, payloads, ticks and measures

abbrev pub is_true : Value-F Value → Bool
is_true (W.Truth b) = b
is_true v = false

abbrev pub branch : Bool → ℕ → Slots → Store → Act
branch true label slots s = Jump label
branch false label slots s = Go slots s

-- the payload of a value of this constructor
abbrev pub payload : ℕ → Value-F Value → Option Value
payload k (W.Union i j v) = cond (nat_eq j k) (Some v) None
payload k v = None

abbrev pub take_out : ℕ → ℕ → Option Value → Slots → Store → Act
take_out i label (Some v) slots s = Go (put slots i v) s
take_out i label None slots s = Jump label

abbrev pub tick : ℕ → Slots → Store → Act
tick zero slots s = Over (Stops C.WorkLimit s)
tick (suc left) slots s = Go slots (record s { ticks = left })

-- the number that a measure stands for; a negative one counts as 0
abbrev pub measure_of : Value-F Value → ℤ
measure_of (W.Integer (pos n)) = pos n
measure_of v = pos 0

abbrev pub sink : Bool → ℤ → Place → Store → Act
sink true z place s = Sink z
sink false z place s = Over (Stops (C.Measure place) s)

-- a measure has to be below the one before it in its cycle, if there is one
abbrev pub measured : ℤ → Option ℤ → Place → Store → Act
measured z None place s = Sink z
measured z (Some before) place s = sink (int_lt z before) z place s

-- ---- by the instruction: a hart runs a function of a module, where `lets` are the values of the openings
module _ (m : Module) (lets : List Value) (hart : ℕ) where
  abbrev pub read : Source → Slots → Store → Value
  read (R.Slot i) slots s = slots i
  read (R.Register i) slots s = unwrap_or (register_value s.state hart i) V.Unit
  read (R.Let k) slots s = slice_index_or lets k V.Unit
  read (R.Constant t l) slots s = literal_value l

  abbrev pub reads : List Source → Slots → Store → List Value
  reads sources slots s = map (λ a. read a slots s) sources

  abbrev pub write : Target → Value → Slots → Store → Act
  write (T.Slot i) v slots s = Go (put slots i v) s
  write (T.Register i) v slots s = Go slots (record s { state = with_register hart i v s.state })

  -- the result goes to the target at its type; a builtin of the state may stop the run
  abbrev pub end_of : Target → ℕ → Ended → Slots → Store → Act
  end_of target t (E.Value v) slots s = write target (fit m.types t v) slots s
  end_of target t (E.Stop cause) slots s = Over (Stops cause s)

  -- where there is no result, the zero of the target's type stands for it
  abbrev pub finish : Target → ℕ → Option Ran → Slots → Store → Act
  finish target t None slots s = write target (zero_of m.types t) slots s
  finish target t (Some ran) slots s = end_of target t ran.ended slots (with_ran ran s)

  abbrev pub apply : Target → ℕ → Operation → List Value → Slots → Store → Act
  apply target t op vs slots s = finish target t (operate (slice_get m.types t) op vs hart s.state) slots s

  abbrev pub act : Here → Instruction → Slots → Store → Act
  act h (I.Copy target a) slots s = write target (read a slots s) slots s
  act h (I.Apply target op sources) slots s = apply target (type_of m h.function target) op (reads sources slots s) slots s
  act h (I.Call c) slots s = Enter c.slot c.function (reads c.arguments slots s) c.on_throw c.place
  act h (I.JumpIf a label) slots s = branch (is_true (out-Value (read a slots s))) label slots s
  act h (I.Payload i a k label) slots s = take_out i label (payload k (out-Value (read a slots s))) slots s
  act h (I.Goto label) slots s = Jump label
  act h (I.Label label) slots s = Go slots s
  act h (I.End a) slots s = Over (Gives (read a slots s) s)
  act h (I.Throw a) slots s = Over (Throws (read a slots s) s)
  act h (I.Stop cause) slots s = Over (Stops cause s)
  act h I.NoMeasure slots s = Over (Stops (C.MatchFailure h.place) s)
  act h (I.Measure a) slots s = measured (measure_of (out-Value (read a slots s))) h.measure h.place s
  act h I.Tick slots s = tick s.ticks slots s

  -- what the instruction at a place does
  abbrev pub acts : Here → ℕ → Slots → Store → Act
  acts h pc slots s = act h (at (code_of m h.function) pc) slots s

-- ---- calls and runs

abbrev pub inherited : Bool → Option ℤ → Option ℤ
inherited true measure = measure
inherited false measure = None

-- what is called takes over the measure of its caller where both are of one cycle
abbrev pub called : Module → Here → ℕ → Place → Here
called m h f place = record { function = f; place = place; measure = inherited (nat_eq (cycle_of m f) (cycle_of m h.function)) h.measure }

-- the zero of a slot's type; there is nothing but unit where no slot is
abbrev pub slot_zero : List ValueType → Option ℕ → Value
slot_zero ts None = V.Unit
slot_zero ts (Some t) = zero_of ts t

-- the slots that a call begins with: slot 0 is for exceptions, the arguments stand behind it, and every other slot is the zero of its type
abbrev pub entry : Module → ℕ → List Value → Slots
entry m f vs zero = slot_zero m.types (slice_get (slots_of m f) 0)
entry m f vs (suc i) = unwrap_or (slice_get vs i) (slot_zero m.types (slice_get (slots_of m f) (suc i)))

-- from a place, with these slots and this store, the run of a call ends so
pub data Runs (m : Module) (lets : List Value) (hart : ℕ) : Here → ℕ → Slots → Store → Outcome → Type 0 where
  runs_go : {h : Here} {pc : ℕ} {slots slots' : Slots} {s s' : Store} {r : Outcome} → acts m lets hart h pc slots s ≡ Go slots' s'
      → Runs m lets hart h (pc + 1) slots' s' r → Runs m lets hart h pc slots s r
  runs_jump : {h : Here} {pc p label : ℕ} {slots : Slots} {s : Store} {r : Outcome} → acts m lets hart h pc slots s ≡ Jump label
      → slice_get (code_of m h.function) p ≡ Some (I.Label label) → Runs m lets hart h p slots s r → Runs m lets hart h pc slots s r
  runs_sink : {h : Here} {pc : ℕ} {z : ℤ} {slots : Slots} {s : Store} {r : Outcome} → acts m lets hart h pc slots s ≡ Sink z
      → Runs m lets hart (record h { measure = Some z }) (pc + 1) slots s r → Runs m lets hart h pc slots s r
  runs_over : {h : Here} {pc : ℕ} {slots : Slots} {s : Store} {r : Outcome} → acts m lets hart h pc slots s ≡ Over r → Runs m lets hart h pc slots s r
  -- a call that gives a value, one that throws and goes on at its label, and one that stops
  runs_back : {h : Here} {pc i f label : ℕ} {place : Place} {vs : List Value} {v : Value} {slots : Slots} {s t : Store} {r : Outcome}
      → acts m lets hart h pc slots s ≡ Enter i f vs label place
      → Runs m lets hart (called m h f place) 0 (entry m f vs) s (Gives v t) → Runs m lets hart h (pc + 1) (put slots i v) t r
      → Runs m lets hart h pc slots s r
  runs_caught : {h : Here} {pc p i f label : ℕ} {place : Place} {vs : List Value} {v : Value} {slots : Slots} {s t : Store} {r : Outcome}
      → acts m lets hart h pc slots s ≡ Enter i f vs label place
      → Runs m lets hart (called m h f place) 0 (entry m f vs) s (Throws v t) → slice_get (code_of m h.function) p ≡ Some (I.Label label)
      → Runs m lets hart h p (put slots 0 v) t r → Runs m lets hart h pc slots s r
  runs_stopped : {h : Here} {pc i f label : ℕ} {place : Place} {cause : Cause} {vs : List Value} {slots : Slots} {s t : Store}
      → acts m lets hart h pc slots s ≡ Enter i f vs label place
      → Runs m lets hart (called m h f place) 0 (entry m f vs) s (Stops cause t) → Runs m lets hart h pc slots s (Stops cause t)

-- a call that no other made: it has no place in the text, and no measure is before it
abbrev pub alone : ℕ → Here
alone f = record { function = f; place = record { file = 0; line = 0; column = 0 }; measure = None }

-- how a run of a function of the module, called by nothing but the machine, ends
abbrev pub jib_run : Module → List Value → ℕ → ℕ → List Value → Store → Outcome → Type 0
jib_run m lets hart f vs s r = Runs m lets hart (alone f) 0 (entry m f vs) s r
