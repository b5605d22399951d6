-- What a run reads belongs to its type. Where a run of a valid module begins with arguments, registers and openings of their types, the slots,
-- registers and openings that a function reads hold values of their types wherever the run comes to, and what it ends with is of its type.
use Rattle.std.specs.Prelude.{◌≡◌, ℕ, ◌+◌, ◌<◌, ℤ, true, List, Some, slice_get, slice_index_or, unwrap_or}
use Rattle.sail_base.specs.declared.place.Place.{Place}
use Rattle.sail_types.specs.declared.values.Value.{Value}
use Rattle.sail_types.specs.declared.values.Value.TheVariants as V
use Rattle.model_state.specs.RunState.{RunState, register_value}
use Rattle.jib.specs.declared.code.Instruction.TheVariants as I
use Rattle.jib.specs.declared.code.Function.{Function}
use Rattle.jib.specs.declared.code.Module.{Module}
use Rattle.jib.specs.Values.{has}
use Rattle.jib.specs.Typing.{opening_typ}
use Rattle.jib.specs.Jib.{Slots, Store, Outcome, Gives, Throws, Stops, Here, Go, Jump, Sink, Enter, acts, code_of, put, entry, called}
use Rattle.jib.specs.Jib.{alone, Runs, jib_run}
use Rattle.jib.specs.Openings.{store_of}
use Rattle.jib.specs.Valid.{valid}

-- ---- what holds values of its types

-- each register of a hart, as code reads it, is of its type
abbrev pub RegistersHold : Module → ℕ → RunState → Type 0
RegistersHold m hart state =
    (i t : ℕ) → slice_get m.registers i ≡ Some t → has m.types (unwrap_or (register_value state hart i) V.Unit) t ≡ true

-- each of the first n openings is of the type of its function's result
abbrev pub LetsHold : Module → List Value → ℕ → Type 0
LetsHold m lets n =
    (k t : ℕ) → k < n → opening_typ m (slice_get m.openings k) ≡ Some t → has m.types (slice_index_or lets k V.Unit) t ≡ true

-- each slot of a function is of its type
abbrev pub SlotsHold : Module → Function → Slots → Type 0
SlotsHold m f slots = (i t : ℕ) → slice_get f.slots i ≡ Some t → has m.types (slots i) t ≡ true

-- all that a function reads: its slots, the registers of its hart, and as many openings as it may read
pub record Holds (m : Module) (lets : List Value) (hart : ℕ) (f : Function) (slots : Slots) (state : RunState) : Type 0 where
  pub in_slots : SlotsHold m f slots
  pub in_registers : RegistersHold m hart state
  pub in_lets : LetsHold m lets f.lets

-- each argument is one of a parameter, and of its type
abbrev pub GivenTo : Module → Function → List Value → Type 0
GivenTo m f vs = (i : ℕ) (v : Value) → slice_get vs i ≡ Some v → (t : ℕ) × (slice_get f.parameters i ≡ Some t) × (has m.types v t ≡ true)

-- what a run of a function begins with
pub record Begins (m : Module) (lets : List Value) (hart : ℕ) (f : Function) (vs : List Value) (state : RunState) : Type 0 where
  pub given : GivenTo m f vs
  pub in_registers : RegistersHold m hart state
  pub in_lets : LetsHold m lets f.lets

-- what it ends with: a value of the function's result, or an exception of the module's type of exceptions; and the registers then, after a
-- stop too
abbrev pub EndHolds : Module → ℕ → Function → Outcome → Type 0
EndHolds m hart f (Gives v t) = (has m.types v f.result ≡ true) × RegistersHold m hart t.state
EndHolds m hart f (Throws v t) = (has m.types v m.exception ≡ true) × RegistersHold m hart t.state
EndHolds m hart f (Stops cause t) = RegistersHold m hart t.state

-- ---- where a run comes to

-- from a place with these slots and this store, a run comes to another: behind an instruction, at a label, behind a new measure, into a call,
-- or behind a call that gave a value or threw. The rules are those of `Runs`, and one more for the way into a call; where a run or a call of it
-- is over, nothing of it follows
pub data Comes (m : Module) (lets : List Value) (hart : ℕ) : Here → ℕ → Slots → Store → Here → ℕ → Slots → Store → Type 0 where
  comes_here : {h : Here} {pc : ℕ} {slots : Slots} {s : Store} → Comes m lets hart h pc slots s h pc slots s
  comes_go : {h h' : Here} {pc pc' : ℕ} {slots next slots' : Slots} {s t s' : Store} → acts m lets hart h pc slots s ≡ Go next t
      → Comes m lets hart h (pc + 1) next t h' pc' slots' s' → Comes m lets hart h pc slots s h' pc' slots' s'
  comes_jump : {h h' : Here} {pc p label pc' : ℕ} {slots slots' : Slots} {s s' : Store} → acts m lets hart h pc slots s ≡ Jump label
      → slice_get (code_of m h.function) p ≡ Some (I.Label label)
      → Comes m lets hart h p slots s h' pc' slots' s' → Comes m lets hart h pc slots s h' pc' slots' s'
  comes_sink : {h h' : Here} {pc pc' : ℕ} {z : ℤ} {slots slots' : Slots} {s s' : Store} → acts m lets hart h pc slots s ≡ Sink z
      → Comes m lets hart (record h { measure = Some z }) (pc + 1) slots s h' pc' slots' s' → Comes m lets hart h pc slots s h' pc' slots' s'
  comes_into : {h h' : Here} {pc i f label pc' : ℕ} {place : Place} {vs : List Value} {slots slots' : Slots} {s s' : Store}
      → acts m lets hart h pc slots s ≡ Enter i f vs label place
      → Comes m lets hart (called m h f place) 0 (entry m f vs) s h' pc' slots' s' → Comes m lets hart h pc slots s h' pc' slots' s'
  comes_back : {h h' : Here} {pc i f label pc' : ℕ} {place : Place} {vs : List Value} {v : Value} {slots slots' : Slots} {s t s' : Store}
      → acts m lets hart h pc slots s ≡ Enter i f vs label place
      → Runs m lets hart (called m h f place) 0 (entry m f vs) s (Gives v t)
      → Comes m lets hart h (pc + 1) (put slots i v) t h' pc' slots' s' → Comes m lets hart h pc slots s h' pc' slots' s'
  comes_caught : {h h' : Here} {pc p i f label pc' : ℕ} {place : Place} {vs : List Value} {v : Value} {slots slots' : Slots} {s t s' : Store}
      → acts m lets hart h pc slots s ≡ Enter i f vs label place
      → Runs m lets hart (called m h f place) 0 (entry m f vs) s (Throws v t)
      → slice_get (code_of m h.function) p ≡ Some (I.Label label)
      → Comes m lets hart h p (put slots 0 v) t h' pc' slots' s' → Comes m lets hart h pc slots s h' pc' slots' s'

-- ---- the laws

-- wherever a run comes to, it is in a function of the module, and what that one reads belongs to its type
abbrev pub PlacesHold : Type 0
PlacesHold = (m : Module) → valid m ≡ true → (lets : List Value) (hart n : ℕ) (f : Function) (vs : List Value) (s : Store)
    → slice_get m.functions n ≡ Some f → Begins m lets hart f vs s.state
    → (h : Here) (pc : ℕ) (slots : Slots) (t : Store) → Comes m lets hart (alone n) 0 (entry m n vs) s h pc slots t
    → (g : Function) × (slice_get m.functions h.function ≡ Some g) × Holds m lets hart g slots t.state

-- what a run ends with belongs to its type
abbrev pub EndsHold : Type 0
EndsHold = (m : Module) → valid m ≡ true → (lets : List Value) (hart n : ℕ) (f : Function) (vs : List Value) (s : Store) (r : Outcome)
    → slice_get m.functions n ≡ Some f → Begins m lets hart f vs s.state → jib_run m lets hart n vs s r → EndHolds m hart f r

-- a run of a hart leaves the registers of every other hart as they are, so that they hold what they held
abbrev pub OthersStay : Type 0
OthersStay = (m : Module) (lets : List Value) (hart n : ℕ) (vs : List Value) (s : Store) (r : Outcome) → jib_run m lets hart n vs s r
    → (other i : ℕ) → (other ≡ hart → ⊥) → register_value (store_of r).state other i ≡ register_value s.state other i
