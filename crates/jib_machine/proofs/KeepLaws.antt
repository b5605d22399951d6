-- What every run of valid code leaves as it is; and no stop of it is the schedule's end.
use Rattle.std.proofs.Common.{◌≡◌, ℕ, zero, suc, ◌+◌, ◌-◌, nat_le, Bool, true, false, List, [], ◌∷◌, ◌++◌, length, map, Option, Some, None}
use Rattle.std.proofs.Common.{if◌then◌else◌, refl, sym, ap, ◌∙◌, subst, arith, append-nil, append_assoc, option_map}
use Rattle.std.specs.Prelude.{◌&&◌, slice_get, ℤ, int_lt}
use Rattle.std.proofs.lemmas.Bool.Decides.{nat_tests}
use Rattle.std.proofs.lemmas.List.{length-map}
use Rattle.sail_base.specs.declared.place.Place.{Place}
use Rattle.sail_types.specs.declared.rows.Row.{Row}
use Rattle.sail_types.specs.declared.table.Types.{Types}
use Rattle.sail_types.specs.declared.values.Value.{Value, out-Value}
use Rattle.mem_store.specs.Bytes.{IsMapped, is_mapped, word_bytes}
use Rattle.mem_store.specs.laws.Overwritten.{length-overwritten}
use Rattle.mem_store.specs.laws.Words.{length-word_bytes}
use Rattle.model_state.specs.declared.cause.Cause.{Cause}
use Rattle.model_state.specs.declared.cause.Cause.TheVariants as C
use Rattle.model_state.specs.declared.cause.Ended.{Ended}
use Rattle.model_state.specs.declared.cause.Ended.TheVariants as E
use Rattle.model_state.specs.declared.state.Hart.{Hart}
use Rattle.model_state.specs.declared.state.Reservation.{Reservation}
use Rattle.model_state.specs.RunState.{RunState, Ran, changed, hart_with_register, with_register}
use Rattle.model_state.specs.StateRows.{is_there, written, after_write, hart_with, with_reservation, put_bytes, console_room}
use Rattle.model_state.specs.StateRows.{Call, reading, reserving, writing, writing_cond, asking, putting, ended_by, state_after, may_write, call_of, call_ran}
use Rattle.model_state.specs.StateRows.{state_row}
use Rattle.model_state.specs.Folds.{Keeps, IsNotDone}
use Rattle.builtins.specs.RowValues.{row as row_value}
use Rattle.jib.specs.declared.types.ValueType.{ValueType}
use Rattle.jib.specs.declared.code.Target.{Target}
use Rattle.jib.specs.declared.code.Target.TheVariants as T
use Rattle.jib.specs.declared.code.Operation.{Operation}
use Rattle.jib.specs.declared.code.Operation.TheVariants as O
use Rattle.jib.specs.declared.code.Instruction.{Instruction}
use Rattle.jib.specs.declared.code.Instruction.TheVariants as I
use Rattle.jib.specs.declared.code.Function.{Function}
use Rattle.jib.specs.declared.code.Module.{Module}
use Rattle.jib.specs.Values.{fit, zero_of}
use Rattle.jib.specs.Operations.{worked_out}
use Rattle.jib.specs.Jib.{Slots, Store, Outcome, Gives, Throws, Stops, Here, Act, Go, Jump, Sink, Over, Enter, act, acts, or_stop, at, code_in, code_of}
use Rattle.jib.specs.Jib.{type_of, tick, branch, take_out, sink, measured, measure_of, is_true, payload, write, end_of, finish, operate, or_plain, plain}
use Rattle.jib.specs.Jib.{with_ran, read, reads, Runs, runs_go, runs_jump, runs_sink, runs_over, runs_back, runs_caught, runs_stopped}
use Rattle.jib.specs.Openings.{ended, store_of}
use Rattle.jib.specs.Valid.{valid, typed, is_cause, aim, lands, set_here, keeps_pure, instruction_right, function_right}
use Rattle.jib.proofs.ValidLaws.{left_of, each_of, functions_of, code_right_of}

-- ---- the state

pub keeps_all : (state : RunState) → Keeps state state
keeps_all state = record { types = refl; registers = refl; harts = refl; base = refl; size = refl; more = []; console = sym (append-nil state.console) }

pub keeps_both : {a b c : RunState} → Keeps a b → Keeps b c → Keeps a c
keeps_both {a} p q = record {
  types = q.types ∙ p.types;
  registers = q.registers ∙ p.registers;
  harts = q.harts ∙ p.harts;
  base = q.base ∙ p.base;
  size = q.size ∙ p.size;
  more = p.more ++ q.more;
  console = q.console ∙ ap (λ bytes. bytes ++ q.more) p.console ∙ append_assoc a.console p.more q.more;
}

length-changed : (f : Hart → Hart) (i : ℕ) (harts : List Hart) → length (changed f i harts) ≡ length harts
length-changed f i [] = refl
length-changed f zero (hart ∷ harts) = refl
length-changed f (suc i) (hart ∷ harts) = ap suc (length-changed f i harts)

-- other harts, as many
harts_keep : (state : RunState) (harts : List Hart) → length harts ≡ length state.harts → Keeps state (record state { harts = harts })
harts_keep state harts h = record { types = refl; registers = refl; harts = h; base = refl; size = refl; more = []; console = sym (append-nil state.console) }

register_keeps : (hart r : ℕ) (v : Value) (state : RunState) → Keeps state (with_register hart r v state)
register_keeps hart r v state = harts_keep state (changed (hart_with_register r v) hart state.harts) (length-changed
    (hart_with_register r v) hart state.harts)

pub all_keep : (f : Hart → Hart) (state : RunState) → Keeps state (record state { harts = map f state.harts })
all_keep f state = harts_keep state (map f state.harts) (length-map state.harts f)

reserved_keeps : (hart : ℕ) (kept : Option Reservation) (state : RunState) → Keeps state (with_reservation hart kept state)
reserved_keeps hart kept state = harts_keep state (changed (hart_with kept) hart state.harts) (length-changed (hart_with kept) hart state.harts)

there_is : (base size w a : ℕ) → is_mapped base size w a ≡ true → IsMapped base size w a
there_is base size w a h = (grind (arith, nat_tests), grind (arith, nat_tests))

written_keeps : (state : RunState) (w a : ℕ) (word : List Bool) → is_there state w a ≡ true → Keeps state (written state w a word)
written_keeps state w a word h =
    let m = there_is state.base (length state.bytes) w a h in
    record {
      types = refl;
      registers = refl;
      harts = length-map state.harts (after_write w a);
      base = refl;
      size = length-overwritten state.bytes (a - state.base) (word_bytes w word) (omega (arith, length-word_bytes w word, m.0, m.1));
      more = [];
      console = sym (append-nil state.console);
    }

if_keeps : (state : RunState) (b : Bool) (s : RunState) → (b ≡ true → Keeps state s) → Keeps state (if b then s else state)
if_keeps state true s h = h refl
if_keeps state false s h = keeps_all state

cond_keeps : (hart : ℕ) (state : RunState) (w a : ℕ) (word : List Bool) → is_there state w a ≡ true
    → Keeps state (with_reservation hart None (if may_write hart state w a then written state w a word else state))
cond_keeps hart state w a word h =
    keeps_both (if_keeps state (may_write hart state w a) (written state w a word) (λ k. written_keeps state w a word h))
    (reserved_keeps hart None (if may_write hart state w a then written state w a word else state))

call_keeps : (call : Call) (state : RunState) → Keeps state (state_after call state)
call_keeps (reading hart w a) state = keeps_all state
call_keeps (reserving hart w a) state =
    if_keeps state (is_there state w a) (with_reservation hart (Some (record { place = a; width = w })) state)
    (λ h. reserved_keeps hart (Some (record { place = a; width = w })) state)
call_keeps (writing hart w a word) state = if_keeps state (is_there state w a) (written state w a word) (written_keeps state w a word)
call_keeps (writing_cond hart w a word) state =
    if_keeps state (is_there state w a) (with_reservation hart None (if may_write hart state w a then written state w a word else state))
    (cond_keeps hart state w a word)
call_keeps (asking hart w a) state = keeps_all state
call_keeps (putting hart text) state =
    record { types = refl; registers = refl; harts = refl; base = refl; size = refl; more = put_bytes state text; console = refl }

abbrev NotDone : Ended → Type 0
NotDone (E.Value v) = Unit {0}
NotDone (E.Stop cause) = is_cause cause ≡ true

there_not_done : (b : Bool) (a : ℕ) (v : Value) → NotDone (if b then E.Value v else E.Stop (C.BadAddress a))
there_not_done true a v = tt
there_not_done false a v = refl

put_not_done : (b : Bool) (v : Value) → NotDone (if b then E.Value v else E.Stop C.ConsoleFull)
put_not_done true v = tt
put_not_done false v = refl

call_not_done : (call : Call) (state : RunState) → NotDone (ended_by call state)
call_not_done (reading hart w a) state = there_not_done (is_there state w a) a _
call_not_done (reserving hart w a) state = there_not_done (is_there state w a) a _
call_not_done (writing hart w a word) state = there_not_done (is_there state w a) a _
call_not_done (writing_cond hart w a word) state = there_not_done (is_there state w a) a _
call_not_done (asking hart w a) state = tt
call_not_done (putting hart text) state = put_not_done (nat_le (length text) (console_room state)) _

-- ---- operations

-- where there is a result, the state is kept, and a stop is not the schedule's end
abbrev RanKeeps : RunState → Option Ran → Type 0
RanKeeps state None = Unit {0}
RanKeeps state (Some ran) = Keeps state ran.state × NotDone ran.ended

row_keeps : (state : RunState) (o : Option Call) → RanKeeps state (option_map (λ call. call_ran call state) o)
row_keeps state None = tt
row_keeps state (Some call) = (call_keeps call state, call_not_done call state)

plain_keeps : (state : RunState) (o : Option Value) → RanKeeps state (option_map (plain state) o)
plain_keeps state None = tt
plain_keeps state (Some v) = (keeps_all state, tt)

or_plain_keeps : (state : RunState) (a : Option Ran) (b : Option Value) → RanKeeps state a → RanKeeps state (or_plain state a b)
or_plain_keeps state None b h = plain_keeps state b
or_plain_keeps state (Some ran) b h = h

operate_keeps : (t : Option ValueType) (op : Operation) (vs : List Value) (hart : ℕ) (state : RunState) → RanKeeps state (operate t op vs hart state)
operate_keeps t (O.Builtin r) vs hart state =
    or_plain_keeps state (state_row r hart state vs) (row_value r vs) (row_keeps state (call_of r hart vs))
operate_keeps t op vs hart state = plain_keeps state (worked_out t op vs)

-- ---- instructions

-- how a run ends later than a state
abbrev pub Later : RunState → Outcome → Type 0
Later state (Gives v t) = Keeps state t.state
Later state (Throws v t) = Keeps state t.state
Later state (Stops cause t) = Keeps state t.state × (is_cause cause ≡ true)

pub later_both : {a b : RunState} → Keeps a b → (r : Outcome) → Later b r → Later a r
later_both p (Gives v t) h = keeps_both p h
later_both p (Throws v t) h = keeps_both p h
later_both p (Stops cause t) h = (keeps_both p h.0, h.1)

-- an act leads to what is later
abbrev ActLater : RunState → Act → Type 0
ActLater state (Go slots t) = Keeps state t.state
ActLater state (Jump l) = Unit {0}
ActLater state (Sink z) = Unit {0}
ActLater state (Over r) = Later state r
ActLater state (Enter i f vs l place) = Unit {0}

-- an instruction doesn't stop as the schedule does
abbrev Sound : Instruction → Type 0
Sound (I.Stop cause) = is_cause cause ≡ true
Sound i = Unit {0}

branch_later : (b : Bool) (l : ℕ) (slots : Slots) (s : Store) → ActLater s.state (branch b l slots s)
branch_later true l slots s = tt
branch_later false l slots s = keeps_all s.state

taken_later : (i l : ℕ) (o : Option Value) (slots : Slots) (s : Store) → ActLater s.state (take_out i l o slots s)
taken_later i l (Some v) slots s = keeps_all s.state
taken_later i l None slots s = tt

tick_later : (k : ℕ) (slots : Slots) (s : Store) → ActLater s.state (tick k slots s)
tick_later zero slots s = (keeps_all s.state, refl)
tick_later (suc k) slots s = keeps_all s.state

sink_later : (b : Bool) (z : ℤ) (place : Place) (s : Store) → ActLater s.state (sink b z place s)
sink_later true z place s = tt
sink_later false z place s = (keeps_all s.state, refl)

measured_later : (z : ℤ) (o : Option ℤ) (place : Place) (s : Store) → ActLater s.state (measured z o place s)
measured_later z None place s = tt
measured_later z (Some before) place s = sink_later (int_lt z before) z place s

module _ (m : Module) (ls : List Value) (hart : ℕ) where
  -- a write behind a state that another led to
  write_later : (before : RunState) (t : Target) (v : Value) (slots : Slots) (s : Store) → Keeps before s.state
      → ActLater before (write m ls hart t v slots s)
  write_later before (T.Slot i) v slots s h = h
  write_later before (T.Register i) v slots s h = keeps_both h (register_keeps hart i v s.state)

  end_later : (before : RunState) (t : Target) (typ : ℕ) (e : Ended) (slots : Slots) (s : Store) → Keeps before s.state → NotDone e
      → ActLater before (end_of m ls hart t typ e slots s)
  end_later before t typ (E.Value v) slots s h n = write_later before t (fit m.types typ v) slots s h
  end_later before t typ (E.Stop cause) slots s h n = (h, n)

  finish_later : (t : Target) (typ : ℕ) (o : Option Ran) (slots : Slots) (s : Store) → RanKeeps s.state o
      → ActLater s.state (finish m ls hart t typ o slots s)
  finish_later t typ None slots s h = write_later s.state t (zero_of m.types typ) slots s (keeps_all s.state)
  finish_later t typ (Some ran) slots s h = end_later s.state t typ ran.ended slots (with_ran ran s) h.0 h.1

  act_later : (h : Here) (i : Instruction) (slots : Slots) (s : Store) → Sound i → ActLater s.state (act m ls hart h i slots s)
  act_later h (I.Copy t a) slots s k = write_later s.state t (read m ls hart a slots s) slots s (keeps_all s.state)
  act_later h (I.Apply t op rs) slots s k =
      finish_later t (type_of m h.function t) (operate (slice_get m.types (type_of m h.function t)) op (reads m ls hart rs slots s) hart s.state) slots s
      (operate_keeps (slice_get m.types (type_of m h.function t)) op (reads m ls hart rs slots s) hart s.state)
  act_later h (I.Call c) slots s k = tt
  act_later h (I.JumpIf a l) slots s k = branch_later (is_true (out-Value (read m ls hart a slots s))) l slots s
  act_later h (I.Payload i a n l) slots s k = taken_later i l (payload n (out-Value (read m ls hart a slots s))) slots s
  act_later h (I.Goto l) slots s k = tt
  act_later h (I.Label l) slots s k = keeps_all s.state
  act_later h (I.End a) slots s k = keeps_all s.state
  act_later h (I.Throw a) slots s k = keeps_all s.state
  act_later h (I.Stop cause) slots s k = (keeps_all s.state, k)
  act_later h I.NoMeasure slots s k = (keeps_all s.state, refl)
  act_later h (I.Measure a) slots s k = measured_later (measure_of (out-Value (read m ls hart a slots s))) h.measure h.place s
  act_later h I.Tick slots s k = tick_later s.ticks slots s

-- ---- valid code

sound_right : (m : Module) (f : Function) (n pc : ℕ) (i : Instruction) → instruction_right m f n pc i ≡ true → Sound i
sound_right m f n pc (I.Stop cause) h =
    left_of (is_cause cause) true (left_of (is_cause cause && true) true (left_of ((is_cause cause && true) && true) (keeps_pure m f (I.Stop cause)) h))
sound_right m f n pc i h = tt

sound_found : (m : Module) (f : Function) (n pc : ℕ) (o : Option Instruction) → function_right m n f ≡ true → slice_get f.code pc ≡ o
    → Sound (or_stop o)
sound_found m f n pc None h e = refl
sound_found m f n pc (Some i) h e = sound_right m f n pc i (each_of (instruction_right m f n) f.code pc i (code_right_of m n f h) e)

sound_in : (m : Module) → valid m ≡ true → (f pc : ℕ) (o : Option Function) → slice_get m.functions f ≡ o → Sound (at (code_in o) pc)
sound_in m v f pc None e = refl
sound_in m v f pc (Some g) e = sound_found m g f pc (slice_get g.code pc) (each_of (function_right m) m.functions f g (functions_of m v) e) refl

sound_at : (m : Module) → valid m ≡ true → (f pc : ℕ) → Sound (at (code_of m f) pc)
sound_at m v f pc = sound_in m v f pc (slice_get m.functions f) refl

acted : (m : Module) (ls : List Value) (hart : ℕ) → valid m ≡ true → (h : Here) (pc : ℕ) (slots : Slots) (s : Store) (a : Act)
    → acts m ls hart h pc slots s ≡ a → ActLater s.state a
acted m ls hart v h pc slots s a e =
    subst (ActLater s.state) e (act_later m ls hart h (at (code_of m h.function) pc) slots s (sound_at m v h.function pc))

-- ---- runs

pub runs_later : (m : Module) (ls : List Value) (hart : ℕ) → valid m ≡ true → {h : Here} {pc : ℕ} {sl : Slots} {s : Store} {r : Outcome}
    → Runs m ls hart h pc sl s r → Later s.state r
runs_later m ls hart v (runs_go {h = h} {pc = pc} {slots = sl} {slots' = sl'} {s = s} {s' = s'} {r = r} e x) =
    later_both (acted m ls hart v h pc sl s (Go sl' s') e) r (runs_later m ls hart v x)
runs_later m ls hart v (runs_jump e k x) = runs_later m ls hart v x
runs_later m ls hart v (runs_sink e x) = runs_later m ls hart v x
runs_later m ls hart v (runs_over {h = h} {pc = pc} {slots = sl} {s = s} {r = r} e) = acted m ls hart v h pc sl s (Over r) e
runs_later m ls hart v (runs_back {r = r} e x y) = later_both (runs_later m ls hart v x) r (runs_later m ls hart v y)
runs_later m ls hart v (runs_caught {r = r} e x k y) = later_both (runs_later m ls hart v x) r (runs_later m ls hart v y)
runs_later m ls hart v (runs_stopped e x) = runs_later m ls hart v x

-- ---- how a call ends

pub later_keeps : (state : RunState) (r : Outcome) → Later state r → Keeps state (store_of r).state
later_keeps state (Gives v t) h = h
later_keeps state (Throws v t) h = h
later_keeps state (Stops cause t) h = h.0

cause_is : (c : Cause) → is_cause c ≡ true → E.Stop c ≡ E.Stop C.StepsDone → ⊥
cause_is C.StepsDone h e = cc
cause_is c h e = cc

pub later_ends : (types : Types) (state : RunState) (r : Outcome) → Later state r → IsNotDone (ended types r)
later_ends types state (Gives v t) h = λ e. cc
later_ends types state (Throws v t) h = λ e. cc
later_ends types state (Stops cause t) h = cause_is cause h.1
