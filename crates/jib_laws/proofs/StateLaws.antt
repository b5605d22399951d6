-- Builtins of the state leave the values of registers as they are.
use Rattle.std.proofs.Common.{◌≡◌, ℕ, zero, suc, List, [], ◌∷◌, map, Option, Some, None, refl, ap, ◌∙◌, option_map, Bool, true, false}
use Rattle.std.specs.Prelude.{slice_get, if◌then◌else◌}
use Rattle.sail_types.specs.declared.values.Value.{Value}
use Rattle.model_state.specs.declared.state.Hart.{Hart}
use Rattle.model_state.specs.declared.state.Reservation.{Reservation}
use Rattle.model_state.specs.RunState.{RunState, Ran, values_of, changed, register_value}
use Rattle.model_state.specs.StateRows.{is_there, written, after_write, hart_with, with_reservation}
use Rattle.model_state.specs.StateRows.{Call, reading, reserving, writing, writing_cond, asking, putting, state_after, may_write, call_of, call_ran}
use Rattle.model_state.specs.StateRows.{state_row}
use Rattle.builtins.specs.RowValues.{row as row_value}
use Rattle.jib.specs.declared.types.ValueType.{ValueType}
use Rattle.jib.specs.declared.code.Operation.{Operation}
use Rattle.jib.specs.declared.code.Operation.TheVariants as O
use Rattle.jib.specs.Operations.{worked_out}
use Rattle.jib.specs.Jib.{operate, or_plain, plain}

-- the registers of each hart are the same
abbrev pub SameRegisters : RunState → RunState → Type 0
SameRegisters a b = (hart i : ℕ) → register_value b hart i ≡ register_value a hart i

same_all : (a : RunState) → SameRegisters a a
same_all a = λ hart i. refl

same_both : (a b c : RunState) → SameRegisters a b → SameRegisters b c → SameRegisters a c
same_both a b c p q = λ hart i. q hart i ∙ p hart i

changed_values : (kept : Option Reservation) (k : ℕ) (hs : List Hart) (hart : ℕ)
    → values_of (slice_get (changed (hart_with kept) k hs) hart) ≡ values_of (slice_get hs hart)
changed_values kept k [] hart = refl
changed_values kept zero (h ∷ hs) zero = refl
changed_values kept zero (h ∷ hs) (suc hart) = refl
changed_values kept (suc k) (h ∷ hs) zero = refl
changed_values kept (suc k) (h ∷ hs) (suc hart) = changed_values kept k hs hart

reserved_same : (k : ℕ) (kept : Option Reservation) (a : RunState) → SameRegisters a (with_reservation k kept a)
reserved_same k kept a = λ hart i. ap (λ vs. slice_get vs i) (changed_values kept k a.harts hart)

mapped_values : (w a : ℕ) (hs : List Hart) (hart : ℕ) → values_of (slice_get (map (after_write w a) hs) hart) ≡ values_of (slice_get hs hart)
mapped_values w a [] hart = refl
mapped_values w a (h ∷ hs) zero = refl
mapped_values w a (h ∷ hs) (suc hart) = mapped_values w a hs hart

written_same : (s : RunState) (w a : ℕ) (word : List Bool) → SameRegisters s (written s w a word)
written_same s w a word = λ hart i. ap (λ vs. slice_get vs i) (mapped_values w a s.harts hart)

if_same : (s : RunState) (b : Bool) (t : RunState) → SameRegisters s t → SameRegisters s (if b then t else s)
if_same s true t h = h
if_same s false t h = same_all s

call_same : (call : Call) (s : RunState) → SameRegisters s (state_after call s)
call_same (reading hart w a) s = same_all s
call_same (reserving hart w a) s =
    if_same s (is_there s w a) (with_reservation hart (Some (record { place = a; width = w })) s) (reserved_same hart _ s)
call_same (writing hart w a word) s = if_same s (is_there s w a) (written s w a word) (written_same s w a word)
call_same (writing_cond hart w a word) s =
    let next = if may_write hart s w a then written s w a word else s in
    if_same s (is_there s w a) (with_reservation hart None next)
    (same_both s next (with_reservation hart None next) (if_same s (may_write hart s w a) (written s w a word) (written_same s w a word))
    (reserved_same hart None next))
call_same (asking hart w a) s = same_all s
call_same (putting hart text) s = same_all s

abbrev pub RanSame : RunState → Option Ran → Type 0
RanSame s None = Unit {0}
RanSame s (Some ran) = SameRegisters s ran.state

row_same : (s : RunState) (o : Option Call) → RanSame s (option_map (λ call. call_ran call s) o)
row_same s None = tt
row_same s (Some call) = call_same call s

plain_same : (s : RunState) (o : Option Value) → RanSame s (option_map (plain s) o)
plain_same s None = tt
plain_same s (Some v) = same_all s

or_plain_same : (s : RunState) (a : Option Ran) (b : Option Value) → RanSame s a → RanSame s (or_plain s a b)
or_plain_same s None b h = plain_same s b
or_plain_same s (Some ran) b h = h

pub operate_same : (t : Option ValueType) (op : Operation) (vs : List Value) (hart : ℕ) (s : RunState) → RanSame s (operate t op vs hart s)
operate_same t (O.Builtin r) vs hart s = or_plain_same s (state_row r hart s vs) (row_value r vs) (row_same s (call_of r hart vs))
operate_same t op vs hart s = plain_same s (worked_out t op vs)
