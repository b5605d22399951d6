-- The eight builtins that read or write the state. A word of `w` bytes, 1 to 16, stands at an address `a` of 64 bits, and
-- address sums are plain integers.
use Rattle.std.specs.Prelude.{◌≡◌, ℕ, ◌+◌, ◌-◌, ◌*◌, nat_eq, nat_le, nat_lt, Bool, true, false, ◌&&◌, if◌then◌else◌}
use Rattle.std.specs.Prelude.{List, [], ◌∷◌, ◌++◌, length, map, take, slice_get, Option, Some, None, option_map}
use Rattle.std.specs.Prelude.{Result, Ok, Err, pos}
use Rattle.sail_base.specs.Bits.{value_of}
use Rattle.mem_store.specs.Bytes.{is_mapped, span, word_of, word_bytes, overwritten}
use Rattle.sail_types.specs.declared.rows.Row.{Row}
use Rattle.sail_types.specs.declared.rows.Row.TheVariants as row
use Rattle.sail_types.specs.declared.values.Value.{Value}
use Rattle.sail_types.specs.declared.values.Value.TheVariants as value
use Rattle.model_state.specs.declared.cause.Cause.TheVariants.{BadAddress, ConsoleFull}
use Rattle.model_state.specs.declared.cause.Ended.{Ended}
use Rattle.model_state.specs.declared.cause.Ended.TheVariants as ended
use Rattle.model_state.specs.declared.cause.RowError.{RowError}
use Rattle.model_state.specs.declared.cause.RowError.TheVariants as error
use Rattle.model_state.specs.declared.state.Hart.{Hart}
use Rattle.model_state.specs.declared.state.Reservation.{Reservation}
use Rattle.model_state.specs.RunState.{RunState, changed, Access, read, reserve, write, write_cond, mapped, put, Ran}

-- ---- reservations

-- a write of `w` bytes at `a` touches a byte that is reserved
abbrev pub touches : ℕ → ℕ → Option Reservation → Bool
touches w a None = false
touches w a (Some kept) = nat_lt a (kept.place + kept.width) && nat_lt kept.place (a + w)

-- the `w` bytes at `a` are all reserved
abbrev pub covers : ℕ → ℕ → Option Reservation → Bool
covers w a None = false
covers w a (Some kept) = nat_le kept.place a && nat_le (a + w) (kept.place + kept.width)

abbrev pub kept_by : Option Hart → Option Reservation
kept_by None = None
kept_by (Some hart) = hart.reservation

-- the reservation of a hart
abbrev pub reservation : RunState → ℕ → Option Reservation
reservation state hart = kept_by (slice_get state.harts hart)

abbrev pub hart_with : Option Reservation → Hart → Hart
hart_with kept hart = record hart { reservation = kept }

-- a hart takes a reservation in place of an older one, or gives it up
abbrev pub with_reservation : ℕ → Option Reservation → RunState → RunState
with_reservation hart kept state = record state { harts = changed (hart_with kept) hart state.harts }

-- a write ends the reservation of a hart where it touches a reserved byte
abbrev pub after_write : ℕ → ℕ → Hart → Hart
after_write w a hart = hart_with (if touches w a hart.reservation then None else hart.reservation) hart

-- ---- the bytes are there

abbrev pub is_there : RunState → ℕ → ℕ → Bool
is_there state w a = is_mapped state.base (length state.bytes) w a

abbrev pub bad_address : {A : Type 0} → ℕ → Result A RowError
bad_address a = Err (error.Stop (BadAddress a))

-- the word at an address
abbrev pub word_at : RunState → ℕ → ℕ → List Bool
word_at state w a = word_of (span state.bytes (a - state.base) w)

-- the state once a word is written
abbrev pub written : RunState → ℕ → ℕ → List Bool → RunState
written state w a word = record state {
  bytes = overwritten state.bytes (a - state.base) (word_bytes w word);
  harts = map (after_write w a) state.harts;
}

-- ---- mem_read

abbrev pub read_result : RunState → ℕ → ℕ → Result (List Bool) RowError
read_result state w a = if is_there state w a then Ok (word_at state w a) else bad_address a

-- ---- mem_reserve: a read, and the hart's reservation is these bytes from then on

abbrev pub reserve_state : ℕ → RunState → ℕ → ℕ → RunState
reserve_state hart state w a =
    if is_there state w a then with_reservation hart (Some (record { place = a; width = w })) state else state

-- ---- mem_write

abbrev pub write_result : RunState → ℕ → ℕ → Result (Unit {0}) RowError
write_result state w a = if is_there state w a then Ok tt else bad_address a

abbrev pub write_state : RunState → ℕ → ℕ → List Bool → RunState
write_state state w a word = if is_there state w a then written state w a word else state

-- ---- mem_write_cond: the word is written where the hart's reservation covers the bytes; either way it ends

abbrev pub may_write : ℕ → RunState → ℕ → ℕ → Bool
may_write hart state w a = covers w a (reservation state hart)

abbrev pub write_cond_result : ℕ → RunState → ℕ → ℕ → Result Bool RowError
write_cond_result hart state w a = if is_there state w a then Ok (may_write hart state w a) else bad_address a

abbrev pub write_cond_state : ℕ → RunState → ℕ → ℕ → List Bool → RunState
write_cond_state hart state w a word =
    if is_there state w a
    then with_reservation hart None (if may_write hart state w a then written state w a word else state)
    else state

-- ---- print, print_endline and console_put: the console takes 1,048,576 bytes in all; what fits is put, then the run stops

abbrev pub console_room : RunState → ℕ
console_room state = 1048576 - length state.console

abbrev pub put_bytes : RunState → List ℕ → List ℕ
put_bytes state text = take (console_room state) text

abbrev pub put_result : RunState → List ℕ → Result (Unit {0}) RowError
put_result state text = if nat_le (length text) (console_room state) then Ok tt else Err (error.Stop ConsoleFull)

abbrev pub put_state : RunState → List ℕ → RunState
put_state state text = record state { console = state.console ++ put_bytes state text }

-- a text is put on the console, with this result; nothing is said where that wanted memory
abbrev pub Puts : RunState → List ℕ → RunState → Result (Unit {0}) RowError → Type 0
Puts before text after (Err error.OutOfMemory) = Unit {0}
Puts before text after result = (result ≡ put_result before text) × (after ≡ put_state before text)

-- ---- each as a part of a run

-- a call of a builtin by a hart, with its arguments
pub data Call : Type 0 where
  reading : (hart w a : ℕ) → Call
  reserving : (hart w a : ℕ) → Call
  writing : (hart w a : ℕ) (word : List Bool) → Call
  writing_cond : (hart w a : ℕ) (word : List Bool) → Call
  asking : (hart w a : ℕ) → Call
  putting : (hart : ℕ) (text : List ℕ) → Call

-- a value, or the stop `bad-address` where the bytes aren't there
abbrev pub if_there : RunState → ℕ → ℕ → Value → Ended
if_there state w a v = if is_there state w a then ended.Value v else ended.Stop (BadAddress a)

abbrev pub ended_by : Call → RunState → Ended
ended_by (reading hart w a) state = if_there state w a (value.Bits (word_at state w a))
ended_by (reserving hart w a) state = if_there state w a (value.Bits (word_at state w a))
ended_by (writing hart w a word) state = if_there state w a value.Unit
ended_by (writing_cond hart w a word) state = if_there state w a (value.Truth (may_write hart state w a))
ended_by (asking hart w a) state = ended.Value (value.Truth (is_there state w a))
ended_by (putting hart text) state = if nat_le (length text) (console_room state) then ended.Value value.Unit else ended.Stop ConsoleFull

abbrev pub state_after : Call → RunState → RunState
state_after (reading hart w a) state = state
state_after (reserving hart w a) state = reserve_state hart state w a
state_after (writing hart w a word) state = write_state state w a word
state_after (writing_cond hart w a word) state = write_cond_state hart state w a word
state_after (asking hart w a) state = state
state_after (putting hart text) state = put_state state text

-- the access that it makes; none where it stops before anything else
abbrev pub access_of : Call → RunState → Option Access
access_of (reading hart w a) state = if is_there state w a then Some (read hart w a (word_at state w a)) else None
access_of (reserving hart w a) state = if is_there state w a then Some (reserve hart w a (word_at state w a)) else None
access_of (writing hart w a word) state = if is_there state w a then Some (write hart w a word) else None
access_of (writing_cond hart w a word) state = if is_there state w a then Some (write_cond hart w a word (may_write hart state w a)) else None
access_of (asking hart w a) state = Some (mapped hart w a (is_there state w a))
access_of (putting hart text) state = Some (put hart (put_bytes state text))

-- an access, if there is one, before others
abbrev pub then_accesses : Option Access → List Access → List Access
then_accesses None accesses = accesses
then_accesses (Some access) accesses = access ∷ accesses

abbrev pub call_ran : Call → RunState → Ran
call_ran call state = record { ended = ended_by call state; state = state_after call state; accesses = then_accesses (access_of call state) [] }

-- ---- each by its name and values

abbrev pub when : Bool → Call → Option Call
when true call = Some call
when false call = None

-- a width and an address that a builtin takes, and a word of that width
abbrev pub is_place : ℕ → List Bool → Bool
is_place w a = nat_le 1 w && (nat_le w 16 && nat_eq (length a) 64)

abbrev pub is_placed : ℕ → List Bool → List Bool → Bool
is_placed w a word = is_place w a && nat_eq (length word) (8 * w)

-- the call that a hart makes with these values; none where the builtin's condition fails
abbrev pub call_of : Row → ℕ → List Value → Option Call
call_of row.MemRead hart (value.Integer (pos w) ∷ value.Bits a ∷ []) = when (is_place w a) (reading hart w (value_of a))
call_of row.MemReserve hart (value.Integer (pos w) ∷ value.Bits a ∷ []) = when (is_place w a) (reserving hart w (value_of a))
call_of row.MemWrite hart (value.Integer (pos w) ∷ value.Bits a ∷ value.Bits v ∷ []) = when (is_placed w a v) (writing hart w (value_of a) v)
call_of row.MemWriteCond hart (value.Integer (pos w) ∷ value.Bits a ∷ value.Bits v ∷ []) = when (is_placed w a v) (writing_cond hart w (value_of a) v)
call_of row.MemMapped hart (value.Integer (pos w) ∷ value.Bits a ∷ []) = when (is_place w a) (asking hart w (value_of a))
call_of row.Print hart (value.String text ∷ []) = Some (putting hart text)
call_of row.PrintEndline hart (value.String text ∷ []) = Some (putting hart (text ++ 10 ∷ []))
call_of row.ConsolePut hart (value.Bits b ∷ []) = when (nat_eq (length b) 8) (putting hart (value_of b ∷ []))
call_of row hart values = None

-- a builtin of the state, called by a hart on values; none where its condition fails
abbrev pub state_row : Row → ℕ → RunState → List Value → Option Ran
state_row row hart state values = option_map (λ call. call_ran call state) (call_of row hart values)
