-- Slots that are written before they are read, on every way through a function's code.
use Rattle.std.specs.Prelude.{◌≡◌, ℕ, zero, suc, ◌*◌, nat_eq, nat_le, not, ◌&&◌, ◌||◌, Bool, true, false, List, [], ◌∷◌, ◌++◌, length, map}
use Rattle.std.specs.Prelude.{Option, Some, None, slice_index_or, if◌then◌else◌}
use Rattle.sail_types.specs.declared.values.Value.{Value}
use Rattle.jib.specs.declared.code.Source.{Source}
use Rattle.jib.specs.declared.code.Source.TheVariants as R
use Rattle.jib.specs.declared.code.Target.{Target}
use Rattle.jib.specs.declared.code.Target.TheVariants as T
use Rattle.jib.specs.declared.code.Instruction.{Instruction}
use Rattle.jib.specs.declared.code.Instruction.TheVariants as I
use Rattle.jib.specs.declared.code.Function.{Function}
use Rattle.jib.specs.declared.code.Module.{Module}
use Rattle.jib.specs.Jib.{Store, Outcome, Here, Runs, entry}
use Rattle.jib_values.specs.Sources.{filled}

-- whether a slot is read
abbrev pub reads_slot : ℕ → Source → Bool
reads_slot i (R.Slot j) = nat_eq i j
reads_slot i a = false

abbrev pub read_among : ℕ → List Source → Bool
read_among i [] = false
read_among i (a ∷ rs) = reads_slot i a || read_among i rs

-- what an instruction reads
abbrev pub sources_in : Instruction → List Source
sources_in (I.Copy t a) = a ∷ []
sources_in (I.Apply t op rs) = rs
sources_in (I.Call c) = c.arguments
sources_in (I.JumpIf a l) = a ∷ []
sources_in (I.Payload i a k l) = a ∷ []
sources_in (I.End a) = a ∷ []
sources_in (I.Throw a) = a ∷ []
sources_in (I.Measure a) = a ∷ []
sources_in i = []

abbrev pub target_slot : Target → Option ℕ
target_slot (T.Slot i) = Some i
target_slot (T.Register i) = None

-- the slot that an instruction writes where the next one follows
abbrev pub slot_written : Instruction → Option ℕ
slot_written (I.Copy t a) = target_slot t
slot_written (I.Apply t op rs) = target_slot t
slot_written (I.Call c) = Some c.slot
slot_written (I.Payload i a k l) = Some i
slot_written i = None

abbrev pub is_slot : ℕ → Option ℕ → Bool
is_slot i None = false
is_slot i (Some j) = nat_eq j i

-- whether a slot was written since the last label, behind an instruction
abbrev pub written_behind : ℕ → Instruction → Bool → Bool
written_behind i (I.Label l) before = false
written_behind i x before = is_slot i (slot_written x) || before

-- whether a slot is read anywhere without a write since the last label; so what it begins with may matter
abbrev pub needed_from : ℕ → Bool → List Instruction → Bool
needed_from i written [] = false
needed_from i written (x ∷ code) = (not written && read_among i (sources_in x)) || needed_from i (written_behind i x written) code

abbrev pub is_needed : ℕ → List Instruction → Bool
is_needed i code = needed_from i false code

-- for each of the first n slots
abbrev pub needs_to : List Instruction → ℕ → List Bool
needs_to code zero = []
needs_to code (suc n) = needs_to code n ++ is_needed n code ∷ []

-- whether there is no more to be looked at than one takes the time for
abbrev pub is_short : List Instruction → ℕ → Bool
is_short code n = nat_le (length code * n) 1048576

-- nothing is known of the slots of what isn't short
abbrev pub needs_in : List Instruction → ℕ → List Bool
needs_in code n = if is_short code n then needs_to code n else []

abbrev pub needs_for : Function → List Bool
needs_for f = needs_in f.code (length f.slots)

abbrev pub all_needs : List Function → List (List Bool)
all_needs fs = map needs_for fs

-- a slot of a function is needed, or nothing is known of it
abbrev pub needed : List (List Bool) → ℕ → ℕ → Bool
needed needs f i = slice_index_or (slice_index_or needs f []) i true

-- the runs of a call that begins with these slots are those of the call
abbrev pub Begins : Module → ℕ → List Value → List Value → Type 0
Begins m f vs slots =
    (ls : List Value) (hart : ℕ) (h : Here) (s : Store) (r : Outcome) → h.function ≡ f → Runs m ls hart h 0 (filled slots) s r
    → Runs m ls hart h 0 (entry m f vs) s r
