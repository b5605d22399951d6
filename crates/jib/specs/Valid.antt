-- What a valid module is: each rule is told of one type, instruction, function or opening, where it stands. Code that can't be reached is
-- held to them too.
use Rattle.std.specs.Prelude.{ℕ, ◌+◌, ◌-◌, ◌&&◌, ◌||◌, not, Bool, true, false, cond, nat_eq, nat_le, nat_lt, List, [], ◌∷◌}
use Rattle.std.specs.Prelude.{Option, Some, None, slice_get, length}
use Rattle.model_state.specs.declared.cause.Cause.{Cause}
use Rattle.model_state.specs.declared.cause.Cause.TheVariants as C
use Rattle.jib.specs.declared.types.ValueType.{ValueType}
use Rattle.jib.specs.declared.types.ValueType.TheVariants as T
use Rattle.jib.specs.declared.types.Sort.TheVariants as S
use Rattle.jib.specs.declared.code.Source.{Source}
use Rattle.jib.specs.declared.code.Source.TheVariants as R
use Rattle.jib.specs.declared.code.Target.{Target}
use Rattle.jib.specs.declared.code.Target.TheVariants as G
use Rattle.jib.specs.declared.code.Operation.{Operation}
use Rattle.jib.specs.declared.code.Operation.TheVariants as O
use Rattle.jib.specs.declared.code.Call.{Call}
use Rattle.jib.specs.declared.code.Instruction.{Instruction}
use Rattle.jib.specs.declared.code.Instruction.TheVariants as I
use Rattle.jib.specs.declared.code.Function.{Function}
use Rattle.jib.specs.declared.code.Opening.{Opening}
use Rattle.jib.specs.declared.code.Module.{Module}
use Rattle.row_types.specs.Calls.{has_state}
use Rattle.jib.specs.Typing.{same, is_sort, payload_typ, source_typ, target_typ}
use Rattle.jib.specs.Operands.{each, all_given, is_there, all_there, operation_typed}

-- ---- types

-- a type that stands before the n-th
abbrev pub before : ℕ → ℕ → ℕ → Bool
before n k t = nat_lt t n

-- widths are at most 128 and lengths at most 4,096, an enum has a member and a union a constructor, and the types inside one stand before it; but a list's
-- item may stand anywhere, so that a union may have lists of itself
abbrev pub typ_right : ℕ → ValueType → Bool
typ_right n (T.Bits w) = nat_le w 128
typ_right n (T.Enum i k) = nat_lt 0 k
typ_right n (T.Vector k t) = nat_le k 4096 && nat_lt t n
typ_right n (T.Tuple ts) = each (before n) 0 ts
typ_right n (T.Struct i ts) = each (before n) 0 ts
typ_right n (T.Union i ts) = nat_lt 0 (length ts) && each (before n) 0 ts
typ_right n t = true

-- the table has a type of this number
abbrev pub is_typ : Module → ℕ → ℕ → Bool
is_typ m k t = nat_lt t (length m.types)

abbrev pub all_typs : Module → List ℕ → Bool
all_typs m ts = each (is_typ m) 0 ts

-- ---- an instruction uses slots, registers, openings and constants at their types

-- the code begins with a tick
abbrev pub is_tick : Option Instruction → Bool
is_tick (Some I.Tick) = true
is_tick o = false

-- a call has its callee's types; the callee is of the same cycle or a lower one, reads no more openings, and begins with a tick or has a
-- lower number
abbrev pub call_right : Module → Function → ℕ → Call → Option Function → Bool
call_right m f n c None = false
call_right m f n c (Some callee) =
    all_given m f callee.parameters c.arguments && same (slice_get f.slots c.slot) (Some callee.result)
    && nat_le callee.cycle f.cycle && nat_le callee.lets f.lets && (is_tick (slice_get callee.code 0) || nat_lt c.function n)

-- no instruction stops as the end of a schedule does
abbrev pub is_cause : Cause → Bool
is_cause C.StepsDone = false
is_cause cause = true

-- the instruction stands in the n-th function, f
abbrev pub typed : Module → Function → ℕ → Instruction → Bool
typed m f n (I.Copy t a) = same (source_typ m f a) (target_typ m f t)
typed m f n (I.Apply t op rs) = is_there (target_typ m f t) && all_there m f rs && operation_typed m f op rs (target_typ m f t)
typed m f n (I.Call c) = call_right m f n c (slice_get m.functions c.function)
typed m f n (I.JumpIf a l) = is_sort m (source_typ m f a) S.Truth
typed m f n (I.Payload i a k l) = same (slice_get f.slots i) (payload_typ m (source_typ m f a) k)
typed m f n (I.End a) = same (source_typ m f a) (Some f.result)
typed m f n (I.Throw a) = same (source_typ m f a) (Some m.exception)
typed m f n (I.Stop cause) = is_cause cause
typed m f n (I.Measure a) = is_sort m (source_typ m f a) S.Integer
typed m f n i = true

-- ---- labels

abbrev pub is_label : ℕ → Instruction → Bool
is_label l (I.Label k) = nat_eq k l
is_label l i = false

-- the first place of a label, counted from n
abbrev pub place_from : ℕ → ℕ → List Instruction → Option ℕ
place_from l n [] = None
place_from l n (i ∷ c) = cond (is_label l i) (Some n) (place_from l (n + 1) c)

-- the label that an instruction may go to
abbrev pub aim : Instruction → Option ℕ
aim (I.Call c) = Some c.on_throw
aim (I.JumpIf a l) = Some l
aim (I.Payload i a k l) = Some l
aim (I.Goto l) = Some l
aim i = None

abbrev pub lands_at : List Instruction → ℕ → Option ℕ → Bool
lands_at c pc None = false
lands_at c pc (Some p) = nat_lt pc p || is_tick (slice_get c (p + 1))

-- the label is set, and it stands further on or directly before a tick
abbrev pub lands : List Instruction → ℕ → Option ℕ → Bool
lands c pc None = true
lands c pc (Some l) = lands_at c pc (place_from l 0 c)

abbrev pub is_place : ℕ → Option ℕ → Bool
is_place pc None = false
is_place pc (Some p) = nat_eq p pc

-- a label is set at no place before this one
abbrev pub set_here : List Instruction → ℕ → Instruction → Bool
set_here c pc (I.Label l) = is_place pc (place_from l 0 c)
set_here c pc i = true

-- ---- pure functions

abbrev pub is_quiet : ℕ → Source → Bool
is_quiet k (R.Register i) = false
is_quiet k a = true

abbrev pub all_quiet : List Source → Bool
all_quiet rs = each is_quiet 0 rs

abbrev pub is_slot : Target → Bool
is_slot (G.Slot i) = true
is_slot (G.Register i) = false

abbrev pub is_stateless : Operation → Bool
is_stateless (O.Builtin row) = not (has_state row)
is_stateless op = true

abbrev pub is_pure_function : Option Function → Bool
is_pure_function None = false
is_pure_function (Some f) = f.is_pure

-- it takes no tick, touches no register, calls no builtin of the state, and calls pure functions alone
abbrev pub is_pure_instruction : Module → Instruction → Bool
is_pure_instruction m (I.Copy t a) = is_slot t && is_quiet 0 a
is_pure_instruction m (I.Apply t op rs) = is_slot t && is_stateless op && all_quiet rs
is_pure_instruction m (I.Call c) = is_pure_function (slice_get m.functions c.function) && all_quiet c.arguments
is_pure_instruction m (I.JumpIf a l) = is_quiet 0 a
is_pure_instruction m (I.Payload i a k l) = is_quiet 0 a
is_pure_instruction m (I.End a) = is_quiet 0 a
is_pure_instruction m (I.Throw a) = is_quiet 0 a
is_pure_instruction m (I.Measure a) = is_quiet 0 a
is_pure_instruction m I.Tick = false
is_pure_instruction m i = true

-- a pure function has pure instructions alone
abbrev pub keeps_pure : Module → Function → Instruction → Bool
keeps_pure m f i = not f.is_pure || is_pure_instruction m i

-- ---- functions

abbrev pub instruction_right : Module → Function → ℕ → ℕ → Instruction → Bool
instruction_right m f n pc i = typed m f n i && lands f.code pc (aim i) && set_here f.code pc i && keeps_pure m f i

abbrev pub is_end : Option Instruction → Bool
is_end (Some (I.End a)) = true
is_end (Some (I.Throw a)) = true
is_end (Some (I.Stop cause)) = true
is_end (Some (I.Goto l)) = true
is_end (Some I.NoMeasure) = true
is_end o = false

-- slot 0 is for exceptions, and the parameters stand behind it
abbrev pub parameter_right : List ℕ → ℕ → ℕ → Bool
parameter_right slots k t = same (slice_get slots (k + 1)) (Some t)

-- each slot and the result have types of the table, the last instruction ends the function, and each is right
abbrev pub function_right : Module → ℕ → Function → Bool
function_right m n f =
    same (slice_get f.slots 0) (Some m.exception) && each (parameter_right f.slots) 0 f.parameters && all_typs m f.slots && is_typ m 0 f.result
    && is_end (slice_get f.code (length f.code - 1)) && each (instruction_right m f n) 0 f.code

-- ---- openings

-- an initial value has its register's type
abbrev pub register_right : Module → ℕ → Option ℕ → Bool
register_right m t None = true
register_right m t (Some i) = same (slice_get m.registers i) (Some t)

-- an opening's function takes nothing, is pure, and reads the openings before it alone
abbrev pub opened_by : Module → ℕ → Option ℕ → Option Function → Bool
opened_by m k r None = false
opened_by m k r (Some f) = nat_eq (length f.parameters) 0 && f.is_pure && nat_le f.lets k && register_right m f.result r

abbrev pub opening_right : Module → ℕ → Opening → Bool
opening_right m k o = opened_by m k o.register (slice_get m.functions o.function)

-- ---- the module

abbrev pub valid : Module → Bool
valid m = each typ_right 0 m.types && is_typ m 0 m.exception && all_typs m m.registers && each (function_right m) 0 m.functions
    && each (opening_right m) 0 m.openings
