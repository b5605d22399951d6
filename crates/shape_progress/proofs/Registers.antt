-- Builtins on the state leave each register of each hart as it is.
use Rattle.std.proofs.Common.{◌≡◌, ℕ, zero, suc, Bool, true, false, List, [], ◌∷◌, map, Option, Some, None, slice_get}
use Rattle.std.proofs.Common.{if◌then◌else◌, ap, ◌∙◌, refl}
use Rattle.sail_types.specs.declared.values.Value.{Value}
use Rattle.builtins.specs.RowValues.{Bits}
use Rattle.model_state.specs.declared.state.Hart.{Hart}
use Rattle.model_state.specs.declared.state.Reservation.{Reservation}
use Rattle.model_state.specs.RunState.{RunState, changed, values_of}
use Rattle.model_state.specs.StateRows.{Call, reading, reserving, writing, writing_cond, asking, putting, is_there, may_write, after_write, hart_with}
use Rattle.model_state.specs.StateRows.{with_reservation, written, state_after}
use Rattle.shape_joins.proofs.JoinsLeast.{some_same, none}
use Rattle.shape_progress.specs.Going.{rows}

abbrev pub SameRegisters : RunState → RunState → Type 0
SameRegisters s t = rows t ≡ rows s

changed_rows : (f : Hart → Hart) (i : ℕ) (harts : List Hart) → ((h : Hart) → (f h).registers ≡ h.registers)
    → map (λ (h : Hart). h.registers) (changed f i harts) ≡ map (λ (h : Hart). h.registers) harts
changed_rows f i [] same = refl
changed_rows f zero (h ∷ harts) same = ap (λ vs. vs ∷ map (λ (h : Hart). h.registers) harts) (same h)
changed_rows f (suc i) (h ∷ harts) same = ap (λ vss. h.registers ∷ vss) (changed_rows f i harts same)

all_rows : (f : Hart → Hart) (harts : List Hart) → ((h : Hart) → (f h).registers ≡ h.registers)
    → map (λ (h : Hart). h.registers) (map f harts) ≡ map (λ (h : Hart). h.registers) harts
all_rows f [] same = refl
all_rows f (h ∷ harts) same =
    ap (λ vs. vs ∷ map (λ (h : Hart). h.registers) (map f harts)) (same h) ∙ ap (λ vss. h.registers ∷ vss) (all_rows f harts same)

reserved_same : (hart : ℕ) (kept : Option Reservation) (state : RunState) → SameRegisters state (with_reservation hart kept state)
reserved_same hart kept state = changed_rows (hart_with kept) hart state.harts (λ h. refl)

written_same : (state : RunState) (w a : ℕ) (word : Bits) → SameRegisters state (written state w a word)
written_same state w a word = all_rows (after_write w a) state.harts (λ h. refl)

if_same : (b : Bool) (state t : RunState) → SameRegisters state t → SameRegisters state (if b then t else state)
if_same true state t same = same
if_same false state t same = refl

cond_same : (hart : ℕ) (state : RunState) (w a : ℕ) (word : Bits) (b : Bool)
    → SameRegisters state (with_reservation hart None (if b then written state w a word else state))
cond_same hart state w a word b =
    reserved_same hart None (if b then written state w a word else state) ∙ if_same b state (written state w a word) (written_same state w a word)

pub call_same : (call : Call) (state : RunState) → SameRegisters state (state_after call state)
call_same (reading hart w a) state = refl
call_same (reserving hart w a) state =
    if_same (is_there state w a) state (with_reservation hart (Some (record { place = a; width = w })) state)
    (reserved_same hart (Some (record { place = a; width = w })) state)
call_same (writing hart w a word) state = if_same (is_there state w a) state (written state w a word) (written_same state w a word)
call_same (writing_cond hart w a word) state =
    if_same (is_there state w a) state (with_reservation hart None (if may_write hart state w a then written state w a word else state))
    (cond_same hart state w a word (may_write hart state w a))
call_same (asking hart w a) state = refl
call_same (putting hart text) state = refl

-- the value of a register, by the registers of the harts
pub value_there : (harts : List Hart) (k r : ℕ) (vs : List Value) (v : Value) → slice_get (map (λ (h : Hart). h.registers) harts) k ≡ Some vs
    → slice_get vs r ≡ Some v → slice_get (values_of (slice_get harts k)) r ≡ Some v
value_there [] k r vs v e there = none e
value_there (h ∷ harts) zero r vs v e there = ap (λ us. slice_get us r) (some_same h.registers vs e) ∙ there
value_there (h ∷ harts) (suc k) r vs v e there = value_there harts k r vs v e there
