-- Builtins on the state leave registers as they are, and what they end with has its shape.
use Rattle.std.proofs.Common.{◌≡◌, ℕ, zero, suc, nat_eq, nat_le, Bool, true, false, List, [], ◌∷◌, ◌++◌, length, map, Option, Some, None, slice_get}
use Rattle.std.proofs.Common.{if◌then◌else◌, ap, sym, ◌∙◌, refl, option_map}
use Rattle.std.specs.Prelude.{ℤ, pos, negsuc}
use Rattle.sail_base.specs.Bits.{value_of}
use Rattle.sail_types.specs.declared.rows.Row.TheVariants as B
use Rattle.sail_types.specs.declared.shapes.Shape.{Shape}
use Rattle.sail_types.specs.declared.shapes.Shape.TheVariants as V
use Rattle.sail_types.specs.declared.table.Types.{Types}
use Rattle.sail_types.specs.declared.values.Value.{Value}
use Rattle.sail_types.specs.declared.values.Value.TheVariants as Val
use Rattle.builtins.specs.RowValues.{Bits}
use Rattle.model_state.specs.declared.cause.Cause.TheVariants.{BadAddress, ConsoleFull}
use Rattle.model_state.specs.declared.cause.Ended.{Ended as EndOfRow}
use Rattle.model_state.specs.declared.cause.Ended.TheVariants as E
use Rattle.model_state.specs.declared.state.Hart.{Hart}
use Rattle.model_state.specs.declared.state.Reservation.{Reservation}
use Rattle.model_state.specs.RunState.{RunState, changed, values_of, register_value}
use Rattle.model_state.specs.StateRows.{Call, reading, reserving, writing, writing_cond, asking, putting, when, is_place, is_placed, is_there, word_at}
use Rattle.model_state.specs.StateRows.{may_write, after_write, hart_with, with_reservation, written, console_room, ended_by, state_after}
use Rattle.model_state.specs.StateRows.{access_of, then_accesses, call_of, call_ran}
use Rattle.sail_core.specs.Run.{Now, ended_as, after_row}
use Rattle.shape_meanings.specs.Whole.{Choice}
use Rattle.shape_meanings.specs.Keeping.{Fits, RegistersFit, Apart, KeepsApart}
use Rattle.row_meanings.proofs.Given.{word_fits, truth_fits, unit_fits}

-- ---- registers

abbrev SameRegisters : RunState → RunState → Type 0
SameRegisters s t = (hart r : ℕ) → register_value t hart r ≡ register_value s hart r

changed_values : (f : Hart → Hart) (i : ℕ) (harts : List Hart) (j : ℕ) → ((h : Hart) → (f h).registers ≡ h.registers)
    → values_of (slice_get (changed f i harts) j) ≡ values_of (slice_get harts j)
changed_values f i [] j same = refl
changed_values f zero (h ∷ harts) zero same = same h
changed_values f zero (h ∷ harts) (suc j) same = refl
changed_values f (suc i) (h ∷ harts) zero same = refl
changed_values f (suc i) (h ∷ harts) (suc j) same = changed_values f i harts j same

all_values : (f : Hart → Hart) (harts : List Hart) (j : ℕ) → ((h : Hart) → (f h).registers ≡ h.registers)
    → values_of (slice_get (map f harts) j) ≡ values_of (slice_get harts j)
all_values f [] j same = refl
all_values f (h ∷ harts) zero same = same h
all_values f (h ∷ harts) (suc j) same = all_values f harts j same

reserved_same : (hart : ℕ) (kept : Option Reservation) (state : RunState) → SameRegisters state (with_reservation hart kept state)
reserved_same hart kept state j r = ap (λ vs. slice_get vs r) (changed_values (hart_with kept) hart state.harts j (λ h. refl))

written_same : (state : RunState) (w a : ℕ) (word : Bits) → SameRegisters state (written state w a word)
written_same state w a word j r = ap (λ vs. slice_get vs r) (all_values (after_write w a) state.harts j (λ h. refl))

if_same : (b : Bool) (state t : RunState) → SameRegisters state t → SameRegisters state (if b then t else state)
if_same true state t same j r = same j r
if_same false state t same j r = refl

cond_same : (hart : ℕ) (state : RunState) (w a : ℕ) (word : Bits) (b : Bool)
    → SameRegisters state (with_reservation hart None (if b then written state w a word else state))
cond_same hart state w a word b j r =
    reserved_same hart None (if b then written state w a word else state) j r ∙ if_same b state (written state w a word) (written_same state w a word) j r

call_same : (call : Call) (state : RunState) → SameRegisters state (state_after call state)
call_same (reading hart w a) state j r = refl
call_same (reserving hart w a) state j r =
    if_same (is_there state w a) state (with_reservation hart (Some (record { place = a; width = w })) state)
    (reserved_same hart (Some (record { place = a; width = w })) state) j r
call_same (writing hart w a word) state j r = if_same (is_there state w a) state (written state w a word) (written_same state w a word) j r
call_same (writing_cond hart w a word) state j r =
    if_same (is_there state w a) state (with_reservation hart None (if may_write hart state w a then written state w a word else state))
    (cond_same hart state w a word (may_write hart state w a)) j r
call_same (asking hart w a) state j r = refl
call_same (putting hart text) state j r = refl

pub registers_fit : (types : Types) (registers : List Shape) (call : Call) (state : RunState) → RegistersFit types registers state
    → RegistersFit types registers (state_after call state)
registers_fit types registers call state fit hart r v s there shaped = fit hart r v s (sym (call_same call state hart r) ∙ there) shaped

-- ---- how a call ends

abbrev pub EndsWithA : Types → Choice → Shape → EndOfRow → Type 0
EndsWithA types c s (E.Value v) = Fits types c s v
EndsWithA types c s (E.Stop cause) = Unit {0}

-- a call, where there is one
abbrev pub EndsAs : Types → Choice → Shape → RunState → Option Call → Type 0
EndsAs types c s state None = Unit {0}
EndsAs types c s state (Some call) = EndsWithA types c s (ended_by call state)

ended_kept : (types : Types) (registers : List Shape) (thrown : Shape) (c : Choice) (s : Shape) (now after : Now Value) (e : EndOfRow)
    → EndsWithA types c s e → Apart types registers now after → KeepsApart types registers thrown (Fits types c s) now (ended_as e after)
ended_kept types registers thrown c s now after (E.Value v) h a = (h, a)
ended_kept types registers thrown c s now after (E.Stop cause) h a = a

pub call_kept : (types : Types) (registers : List Shape) (thrown : Shape) (c : Choice) (s : Shape) (now : Now Value) (o : Option Call)
    → EndsAs types c s now.state o → RegistersFit types registers now.state
    → KeepsApart types registers thrown (Fits types c s) now (after_row (option_map (λ call. call_ran call now.state) o) now)
call_kept types registers thrown c s now None h fit = tt
call_kept types registers thrown c s now (Some call) h fit =
    ended_kept types registers thrown c s now
    (record now { state = state_after call now.state; accesses = now.accesses ++ then_accesses (access_of call now.state) [] })
    (ended_by call now.state) h (record { locals = refl; state = registers_fit types registers call now.state fit })

module _ (types : Types) (c : Choice) (hart : ℕ) (state : RunState) where
  when_ends : (s : Shape) (b : Bool) (call : Call) → EndsWithA types c s (ended_by call state) → EndsAs types c s state (when b call)
  when_ends s true call h = h
  when_ends s false call h = tt

  there_ends : (s : Shape) (b : Bool) (a : ℕ) (v : Value) → Fits types c s v → EndsWithA types c s (if b then E.Value v else E.Stop (BadAddress a))
  there_ends s true a v h = h
  there_ends s false a v h = tt

  put_ends : (b : Bool) → EndsWithA types c V.Unit (if b then E.Value Val.Unit else E.Stop ConsoleFull)
  put_ends true = unit_fits types c
  put_ends false = tt

  -- ---- each builtin on the state, by its arguments

  pub read_ends : (z : ℤ) (a : Bits) → EndsAs types c V.Bits state (call_of B.MemRead hart (Val.Integer z ∷ Val.Bits a ∷ []))
  read_ends (pos w) a =
      when_ends V.Bits (is_place w a) (reading hart w (value_of a))
      (there_ends V.Bits (is_there state w (value_of a)) (value_of a) (Val.Bits (word_at state w (value_of a)))
      (word_fits types c (word_at state w (value_of a))))
  read_ends (negsuc n) a = tt

  pub reserve_ends : (z : ℤ) (a : Bits) → EndsAs types c V.Bits state (call_of B.MemReserve hart (Val.Integer z ∷ Val.Bits a ∷ []))
  reserve_ends (pos w) a =
      when_ends V.Bits (is_place w a) (reserving hart w (value_of a))
      (there_ends V.Bits (is_there state w (value_of a)) (value_of a) (Val.Bits (word_at state w (value_of a)))
      (word_fits types c (word_at state w (value_of a))))
  reserve_ends (negsuc n) a = tt

  pub write_ends : (z : ℤ) (a b : Bits) → EndsAs types c V.Unit state (call_of B.MemWrite hart (Val.Integer z ∷ Val.Bits a ∷ Val.Bits b ∷ []))
  write_ends (pos w) a b =
      when_ends V.Unit (is_placed w a b) (writing hart w (value_of a) b)
      (there_ends V.Unit (is_there state w (value_of a)) (value_of a) Val.Unit (unit_fits types c))
  write_ends (negsuc n) a b = tt

  pub write_cond_ends : (z : ℤ) (a b : Bits)
      → EndsAs types c V.Bool state (call_of B.MemWriteCond hart (Val.Integer z ∷ Val.Bits a ∷ Val.Bits b ∷ []))
  write_cond_ends (pos w) a b =
      when_ends V.Bool (is_placed w a b) (writing_cond hart w (value_of a) b)
      (there_ends V.Bool (is_there state w (value_of a)) (value_of a) (Val.Truth (may_write hart state w (value_of a)))
      (truth_fits types c (may_write hart state w (value_of a))))
  write_cond_ends (negsuc n) a b = tt

  pub ask_ends : (z : ℤ) (a : Bits) → EndsAs types c V.Bool state (call_of B.MemMapped hart (Val.Integer z ∷ Val.Bits a ∷ []))
  ask_ends (pos w) a = when_ends V.Bool (is_place w a) (asking hart w (value_of a)) (truth_fits types c (is_there state w (value_of a)))
  ask_ends (negsuc n) a = tt

  pub print_ends : (text : List ℕ) → EndsAs types c V.Unit state (call_of B.Print hart (Val.String text ∷ []))
  print_ends text = put_ends (nat_le (length text) (console_room state))

  pub print_line_ends : (text : List ℕ) → EndsAs types c V.Unit state (call_of B.PrintEndline hart (Val.String text ∷ []))
  print_line_ends text = put_ends (nat_le (length (text ++ 10 ∷ [])) (console_room state))

  pub console_ends : (b : Bits) → EndsAs types c V.Unit state (call_of B.ConsolePut hart (Val.Bits b ∷ []))
  console_ends b =
      when_ends V.Unit (nat_eq (length b) 8) (putting hart (value_of b ∷ [])) (put_ends (nat_le (length (value_of b ∷ [])) (console_room state)))
