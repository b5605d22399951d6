-- Builtins, registers and variables are steady.
use Rattle.std.proofs.Common.{◌≡◌, ℕ, zero, suc, ◌-◌, nat_le, Bool, true, false, List, [], ◌∷◌, ◌++◌, length, map, Option, Some, None}
use Rattle.std.proofs.Common.{if◌then◌else◌, refl, sym, ap, arith, append-nil, option_map}
use Rattle.std.proofs.lemmas.Bool.Decides.{nat_tests}
use Rattle.std.proofs.lemmas.List.{length-map}
use Rattle.sail_types.specs.declared.rows.Row.{Row}
use Rattle.sail_types.specs.declared.values.Value.{Value}
use Rattle.model_state.specs.Bytes.{IsMapped, is_mapped, word_bytes}
use Rattle.model_state.specs.Overwritten.{length-overwritten}
use Rattle.model_state.specs.Words.{length-word_bytes}
use Rattle.model_state.specs.declared.cause.Ended.{Ended as EndOfRow}
use Rattle.model_state.specs.declared.cause.Ended.TheVariants as E
use Rattle.model_state.specs.declared.cause.Cause.TheVariants.{BadAddress, ConsoleFull}
use Rattle.model_state.specs.declared.state.Hart.{Hart}
use Rattle.model_state.specs.declared.state.Reservation.{Reservation}
use Rattle.model_state.specs.RunState.{RunState, changed, hart_with_register, with_register, register_value}
use Rattle.model_state.specs.StateRows.{is_there, written, after_write, hart_with, with_reservation, put_bytes, console_room}
use Rattle.model_state.specs.StateRows.{Call, reading, reserving, writing, writing_cond, asking, putting, ended_by, state_after, access_of, then_accesses}
use Rattle.model_state.specs.StateRows.{may_write, call_of, call_ran, state_row}
use Rattle.model_state.specs.Folds.{Keeps}
use Rattle.row_types.specs.Calls.{has_state}
use Rattle.row_types.specs.RowValues.{row}
use Rattle.sail_core.specs.Run.{Local, Now, needs, ended_as, after_row, row_run, changed_in, ◌then◌}
use Rattle.sail_core.specs.Making.{World, plainly}
use Rattle.sail_core.specs.Targets.{read_register, write_register, set_locals, set_variable}
use Rattle.sail_core.specs.Steady.{Later, is_done, EndsLater, Steady}
use Rattle.sail_core.proofs.Growth.{keeps_all, keeps_both, le_refl, then_steady, needs_steady, SameNames, changed_names}

-- ---- the state

length-changed : (f : Hart → Hart) (i : ℕ) (harts : List Hart) → length (changed f i harts) ≡ length harts
length-changed f i [] = refl
length-changed f zero (hart ∷ harts) = refl
length-changed f (suc i) (hart ∷ harts) = ap suc (length-changed f i harts)

-- harts that are changed one by one
harts_keep : (state : RunState) (harts : List Hart) → length harts ≡ length state.harts → Keeps state (record state { harts = harts })
harts_keep state harts h = record { types = refl; registers = refl; harts = h; base = refl; size = refl; more = []; console = sym (append-nil state.console) }

pub register_keeps : (hart r : ℕ) (v : Value) (state : RunState) → Keeps state (with_register hart r v state)
register_keeps hart r v state = harts_keep state (changed (hart_with_register r v) hart state.harts) (length-changed
    (hart_with_register r v) hart state.harts)

pub all_keep : (f : Hart → Hart) (state : RunState) → Keeps state (record state { harts = map f state.harts })
all_keep f state = harts_keep state (map f state.harts) (length-map state.harts f)

reserved_keeps : (hart : ℕ) (kept : Option Reservation) (state : RunState) → Keeps state (with_reservation hart kept state)
reserved_keeps hart kept state = harts_keep state (changed (hart_with kept) hart state.harts) (length-changed (hart_with kept) hart state.harts)

there_is : (base size w a : ℕ) → is_mapped base size w a ≡ true → IsMapped base size w a
there_is base size w a h = (grind (arith, nat_tests), grind (arith, nat_tests))

written_keeps : (state : RunState) (w a : ℕ) (word : List Bool) → is_there state w a ≡ true → Keeps state (written state w a word)
written_keeps state w a word h =
    let m = there_is state.base (length state.bytes) w a h in
    record {
      types = refl;
      registers = refl;
      harts = length-map state.harts (after_write w a);
      base = refl;
      size = length-overwritten state.bytes (a - state.base) (word_bytes w word) (omega (arith, length-word_bytes w word, m.0, m.1));
      more = [];
      console = sym (append-nil state.console);
    }

if_keeps : (state : RunState) (b : Bool) (s : RunState) → (b ≡ true → Keeps state s) → Keeps state (if b then s else state)
if_keeps state true s h = h refl
if_keeps state false s h = keeps_all state

cond_keeps : (hart : ℕ) (state : RunState) (w a : ℕ) (word : List Bool) → is_there state w a ≡ true
    → Keeps state (with_reservation hart None (if may_write hart state w a then written state w a word else state))
cond_keeps hart state w a word h =
    keeps_both (if_keeps state (may_write hart state w a) (written state w a word) (λ k. written_keeps state w a word h))
    (reserved_keeps hart None (if may_write hart state w a then written state w a word else state))

call_keeps : (call : Call) (state : RunState) → Keeps state (state_after call state)
call_keeps (reading hart w a) state = keeps_all state
call_keeps (reserving hart w a) state =
    if_keeps state (is_there state w a) (with_reservation hart (Some (record { place = a; width = w })) state)
    (λ h. reserved_keeps hart (Some (record { place = a; width = w })) state)
call_keeps (writing hart w a word) state = if_keeps state (is_there state w a) (written state w a word) (written_keeps state w a word)
call_keeps (writing_cond hart w a word) state =
    if_keeps state (is_there state w a) (with_reservation hart None (if may_write hart state w a then written state w a word else state))
    (cond_keeps hart state w a word)
call_keeps (asking hart w a) state = keeps_all state
call_keeps (putting hart text) state =
    record { types = refl; registers = refl; harts = refl; base = refl; size = refl; more = put_bytes state text; console = refl }

abbrev NotDone : EndOfRow → Type 0
NotDone (E.Value v) = Unit {0}
NotDone (E.Stop cause) = is_done cause ≡ false

there_not_done : (b : Bool) (a : ℕ) (v : Value) → NotDone (if b then E.Value v else E.Stop (BadAddress a))
there_not_done true a v = tt
there_not_done false a v = refl

put_not_done : (b : Bool) (v : Value) → NotDone (if b then E.Value v else E.Stop ConsoleFull)
put_not_done true v = tt
put_not_done false v = refl

call_not_done : (call : Call) (state : RunState) → NotDone (ended_by call state)
call_not_done (reading hart w a) state = there_not_done (is_there state w a) a _
call_not_done (reserving hart w a) state = there_not_done (is_there state w a) a _
call_not_done (writing hart w a word) state = there_not_done (is_there state w a) a _
call_not_done (writing_cond hart w a word) state = there_not_done (is_there state w a) a _
call_not_done (asking hart w a) state = tt
call_not_done (putting hart text) state = put_not_done (nat_le (length text) (console_room state)) _

ended_later : (now after : Now Value) (e : EndOfRow) → Later now after → NotDone e → EndsLater now (ended_as e after)
ended_later now after (E.Value v) h k = h
ended_later now after (E.Stop cause) h k = (h, k)

called_later : (now : Now Value) (o : Option Call) → EndsLater now (after_row (option_map (λ call. call_ran call now.state) o) now)
called_later now None = tt
called_later now (Some call) =
    ended_later now (record now { state = state_after call now.state; accesses = now.accesses ++ then_accesses (access_of call now.state) [] })
    (ended_by call now.state)
    (record {
      ticks = le_refl now.ticks;
      state = call_keeps call now.state;
      more = then_accesses (access_of call now.state) [];
      accesses = refl;
      names =
          refl;
    })
    (call_not_done call now.state)

row_later : (b : Bool) (r : Row) (hart : ℕ) (vs : List Value) (now : Now Value)
    → EndsLater now (if b then after_row (state_row r hart now.state vs) now else needs (row r vs) now)
row_later true r hart vs now = called_later now (call_of r hart vs)
row_later false r hart vs now = needs_steady (row r vs) now

pub row_steady : (r : Row) (hart : ℕ) (vs : List Value) → Steady (row_run r hart vs)
row_steady r hart vs now = row_later (has_state r) r hart vs now

-- ---- registers and variables

pub read_steady : (w : World Value) (r : ℕ) → Steady (read_register w r)
read_steady w r now = needs_steady (register_value now.state w.hart r) now

pub write_steady : (w : World Value) (r : ℕ) (v : Value) → Steady (write_register plainly w r v)
write_steady w r v =
    then_steady (read_register w r) _ (read_steady w r)
    (λ old now. record {
      ticks = le_refl now.ticks;
      state = register_keeps w.hart r v now.state;
      more = [];
      accesses = sym (append-nil now.accesses);
      names =
          refl;
    })

locals_later : (now : Now Value) (o : Option (List (Local Value))) → SameNames now.locals o → EndsLater now (set_locals plainly now o)
locals_later now None h = tt
locals_later now (Some locals) h = record {
  ticks = le_refl now.ticks;
  state = keeps_all now.state;
  more = [];
  accesses = sym
      (append-nil now.accesses);
  names = h;
}

pub variable_steady : (name : List ℕ) (x : Value) → Steady (set_variable plainly name x)
variable_steady name x now = locals_later now (changed_in name x now.locals) (changed_names name x now.locals)
