-- What functions that emit code do: they put instructions behind those that are there, and slots behind those that are there. A slot keeps its number, so
-- what is put is the code under any numbering of slots that begins with these.
use Rattle.std.specs.Prelude.{◌≡◌, ℕ, ◌+◌, ◌<◌, List, [], ◌∷◌, ◌++◌, length, Some, slice_get}
use Rattle.jib.specs.declared.code.Source.{Source}
use Rattle.jib.specs.declared.code.Instruction.{Instruction}
use Rattle.jib.specs.laws.Ways.{In, uses}
use Rattle.lowered_slots.specs.declared.slots.Slot.{Slot}
use Rattle.lowered_slots.specs.Slots.{name_in}
use Rattle.lowered_pieces.specs.declared.coding.Coding.{Coding}
use Rattle.lowered_pieces.specs.Places.{Naming, Place}

-- one list, and perhaps more behind it
pub record Begins {A : Type 0} (xs ys : List A) : Type 0 where
  pub more : List A
  pub is : ys ≡ xs ++ more

-- the number of a slot, whichever slots are put behind these
abbrev pub HasNumber : List Slot → Place → ℕ → ℕ → Type 0
HasNumber ss p t n = (ys : List Slot) → Begins ss ys → name_in ys p t ≡ n

-- so what is read, of slots that are there
pub record Sourced (ss : List Slot) (sources : List Source) (by : Naming → List Source) : Type 0 where
  pub same : (ys : List Slot) → Begins ss ys → sources ≡ by (name_in ys)
  pub there : (k : ℕ) → In k sources → k < length ss

-- code, by the numbering of its slots and its first label
abbrev pub Coded : Type 0
Coded = Naming → ℕ → List Instruction

-- every slot that an instruction reads or writes is below this number
abbrev pub UsesBelow : ℕ → List Instruction → Type 0
UsesBelow n code = (i k : ℕ) (x : Instruction) → slice_get code i ≡ Some x → In k (uses x) → k < n

-- code with so many labels is put, from one state of the coding to another
pub record Emits (old new : Coding) (code : Coded) (labels : Naming → ℕ) : Type 0 where
  pub grown : Begins old.slots new.slots
  pub put : (ys : List Slot) → Begins new.slots ys → new.code ≡ old.code ++ code (name_in ys) old.labels
  pub room : (ys : List Slot) → Begins new.slots ys → UsesBelow (length new.slots) (code (name_in ys) old.labels)
  pub counted : (ys : List Slot) → Begins new.slots ys → new.labels ≡ old.labels + labels (name_in ys)

abbrev pub no_labels : Naming → ℕ
no_labels name = 0

-- an instruction is put, and nothing else changes
pub record Puts (old new : Coding) (i : Instruction) : Type 0 where
  pub slots : new.slots ≡ old.slots
  pub code : new.code ≡ old.code ++ i ∷ []
  pub labels : new.labels ≡ old.labels

-- slots alone are put
pub record Grows (old new : Coding) : Type 0 where
  pub slots : Begins old.slots new.slots
  pub code : new.code ≡ old.code
  pub labels : new.labels ≡ old.labels
