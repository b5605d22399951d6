-- The report of a run.
use Rattle.std.specs.Prelude.{ℕ, zero, suc, ◌+◌, ◌-◌, ◌*◌, ◌/◌, ◌%◌, nat_eq, nat_le, pos, Bool, true, false, not}
use Rattle.std.specs.Prelude.{if◌then◌else◌, List, [], ◌∷◌, ◌++◌, length, map, codes, slice_get, Option, Some, None}
use Rattle.std.specs.List.{flat_map, list_any, range_with_len}
use Rattle.std.specs.Fmt.{signed_decimal}
use Rattle.hex.specs.Hex.{encode_lower}
use Rattle.sail_base.specs.Bits.{bits_of}
use Rattle.sail_base.specs.declared.place.Place.{Place}
use Rattle.sail_types.specs.Texts.{bits_text, value_text}
use Rattle.sail_types.specs.declared.table.Types.{Types}
use Rattle.sail_types.specs.declared.values.Value.{Value}
use Rattle.model_state.specs.declared.cause.Cause.{Cause}
use Rattle.model_state.specs.declared.cause.Cause.TheVariants as cause
use Rattle.model_state.specs.declared.state.Hart.{Hart}
use Rattle.model_state.specs.declared.state.Register.{Register}
use Rattle.model_state.specs.RunState.{RunState}

abbrev pub number_text : ℕ → List ℕ
number_text n = signed_decimal (pos n)

-- an address as 16 digits behind `0x`
unfoldable pub address_text : ℕ → List ℕ
address_text a = bits_text (bits_of 64 a)

-- ---- the cause of the stop

-- file, line and column
abbrev pub place_text : Place → List ℕ
place_text place = number_text place.file ++ codes ":" ++ number_text place.line ++ codes ":" ++ number_text place.column

-- an assertion's string as in the source, behind a space
abbrev pub string_text : Option (List ℕ) → List ℕ
string_text None = []
string_text (Some text) = codes " \"" ++ text ++ codes "\""

abbrev pub cause_text : Cause → List ℕ
cause_text cause.StepsDone = codes "steps-done"
cause_text cause.AllRest = codes "all-rest"
cause_text (cause.Exit place) = codes "exit " ++ place_text place
cause_text (cause.MatchFailure place) = codes "match-failure " ++ place_text place
cause_text (cause.Assertion place text) = codes "assertion " ++ place_text place ++ string_text text
cause_text (cause.Exception name) = codes "exception " ++ name
cause_text (cause.Measure place) = codes "measure " ++ place_text place
cause_text cause.WorkLimit = codes "work-limit"
cause_text (cause.BadAddress a) = codes "bad-address " ++ address_text a
cause_text cause.ConsoleFull = codes "console-full"

-- ---- the harts

abbrev pub register_text : Types → Register → Value → List ℕ
register_text types register value = register.name ++ codes " = " ++ value_text types value ++ codes "\n"

-- each register by its name and value
abbrev pub registers_text : Types → List Register → List Value → List ℕ
registers_text types (register ∷ registers) (value ∷ values) = register_text types register value ++ registers_text types registers values
registers_text types registers values = []

abbrev pub hart_text : Types → List Register → ℕ → Hart → List ℕ
hart_text types registers number hart = codes "hart " ++ number_text number ++ codes "\n" ++ registers_text types registers hart.registers

-- the harts, the first of this number
abbrev pub harts_from : Types → List Register → ℕ → List Hart → List ℕ
harts_from types registers number [] = []
harts_from types registers number (hart ∷ harts) = hart_text types registers number hart ++ harts_from types registers (number + 1) harts

abbrev pub harts_text : RunState → List ℕ
harts_text state = harts_from state.types state.registers 0 state.harts

-- ---- memory, in rows of sixteen bytes at multiples of sixteen

-- the byte at an address, of bytes from a base on; none outside them
abbrev pub byte_at : ℕ → List ℕ → ℕ → Option ℕ
byte_at base bytes at = if nat_le base at then slice_get bytes (at - base) else None

abbrev pub same_byte : Option ℕ → Option ℕ → Bool
same_byte None None = true
same_byte (Some a) (Some b) = nat_eq a b
same_byte a b = false

-- the addresses of a row
unfoldable pub row_places : ℕ → List ℕ
row_places row = range_with_len row 16

-- a byte of the row at an address isn't as it was placed
abbrev pub is_changed : ℕ → List ℕ → List ℕ → ℕ → Bool
is_changed base placed bytes row = list_any (λ at. not (same_byte (byte_at base bytes at) (byte_at base placed at))) (row_places row)

-- two digits, and `--` outside RAM
abbrev pub byte_text : Option ℕ → List ℕ
byte_text None = codes "--"
byte_text (Some byte) = encode_lower (byte ∷ [])

abbrev pub bytes_text : ℕ → List ℕ → ℕ → List ℕ
bytes_text base bytes row = flat_map (λ at. byte_text (byte_at base bytes at)) (row_places row)

abbrev pub row_text : ℕ → List ℕ → ℕ → List ℕ
row_text base bytes row = codes "mem " ++ address_text row ++ codes " " ++ bytes_text base bytes row ++ codes "\n"

abbrev pub changed_row_text : ℕ → List ℕ → List ℕ → ℕ → List ℕ
changed_row_text base placed bytes row = if is_changed base placed bytes row then row_text base bytes row else []

-- the rows that RAM of this base and size has a byte of, counted from the one at address 0
abbrev pub rows : ℕ → ℕ → List ℕ
rows base size = range_with_len (base / 16) ((base + size + 15) / 16 - base / 16)

abbrev pub memory_text : ℕ → List ℕ → List ℕ → List ℕ
memory_text base placed bytes = flat_map (λ row. changed_row_text base placed bytes (16 * row)) (rows base (length bytes))

-- ---- the whole: the console's bytes as they are, then lines. `placed` are RAM's bytes once the image was placed.

abbrev pub stop_line : Cause → List ℕ
stop_line why = codes "stop " ++ cause_text why ++ codes "\n"

abbrev pub count_line : List ℕ → ℕ → List ℕ
count_line name n = name ++ number_text n ++ codes "\n"

abbrev pub head_text : Cause → ℕ → ℕ → List ℕ
head_text why steps console = codes "== report\n" ++ stop_line why ++ count_line (codes "steps ") steps ++ count_line (codes "console ") console

abbrev pub report_text : RunState → List ℕ → Cause → ℕ → List ℕ
report_text state placed why steps =
    state.console ++ head_text why steps (length state.console) ++ harts_text state ++ memory_text state.base placed state.bytes ++ codes "== end\n"
