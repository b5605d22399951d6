-- Slots by what stands in them: a place and a type. How they are numbered is left to what makes a function.
use Rattle.std.specs.Prelude.{◌≡◌, ℕ, ℤ, ◌<◌, List, length, Option, Some, None, slice_get, slice_index_or}
pub use Rattle.lowered_slots.specs.declared.slots.Place.{Place}
pub use Rattle.lowered_slots.specs.declared.slots.Place.TheVariants.{Raised, Given, Local, Number, Temp}
pub use Rattle.lowered_slots.specs.Slots.{same_place}
use Rattle.sail_types.specs.declared.numbers.Num.{Num}
use Rattle.size_values.specs.declared.sized.Sized.{Sized}
use Rattle.jib.specs.declared.code.Source.{Source}
use Rattle.jib.specs.declared.code.Source.TheVariants as R
use Rattle.jib.specs.declared.code.Target.{Target}
use Rattle.jib.specs.declared.code.Target.TheVariants as T
use Rattle.jib.specs.declared.code.Instruction.{Instruction}
use Rattle.jib.specs.declared.code.Instruction.TheVariants as I

-- the slot for values of a type at a place
abbrev pub Naming : Type 0
Naming = Place → ℕ → ℕ

-- a direction of a mapping: the number of its function, and the types of what it takes and of the option that it gives, with that of the option's payload
pub record Mapped : Type 0 where
  pub function : ℕ
  pub takes : Sized
  pub gives : Sized
  pub payload : Sized

-- what code is made with: the slots, the numbers of the types that every model has, and how deep the number of each variable stands
pub record Kit : Type 0 where
  pub name : Naming
  pub unit : ℕ
  pub truth : ℕ
  pub integer : ℕ
  pub exception : ℕ
  -- types with constant sizes, by their numbers; that of `()` and that of truths
  pub number : Sized → ℕ
  pub nothing : Sized
  pub truths : Sized
  pub depth : ℕ → ℕ
  -- the numbers that are known of the function's variables
  pub size : Num → Option ℤ
  -- directions of mappings
  pub ways : ℕ → Mapped

abbrev pub from : Kit → Place → ℕ → Source
from kit p t = R.Slot (kit.name p t)

abbrev pub to : Kit → Place → ℕ → Target
to kit p t = T.Slot (kit.name p t)

-- a slot that a function has is for one place and type alone, and is of this type; slot 0 is for what is thrown
pub record Names (kit : Kit) (slots : List ℕ) : Type 0 where
  pub apart : (p q : Place) (t u : ℕ) → kit.name p t < length slots → kit.name q u ≡ kit.name p t → (q ≡ p) × (u ≡ t)
  pub typed : (p : Place) (t : ℕ) → kit.name p t < length slots → slice_index_or slots (kit.name p t) 0 ≡ t
  pub raised : kit.name Raised kit.exception ≡ 0
  pub first : 0 < length slots

-- ---- the slots that code writes

abbrev pub target_slot : Target → Option ℕ
target_slot (T.Slot i) = Some i
target_slot (T.Register i) = None

abbrev pub writes : Instruction → Option ℕ
writes (I.Copy t a) = target_slot t
writes (I.Apply t op rs) = target_slot t
writes (I.Call c) = Some c.slot
writes (I.Payload i a k l) = Some i
writes x = None

-- there is a slot for everything that the code writes
abbrev pub HasSlots : List ℕ → List Instruction → Type 0
HasSlots slots code = (pc i : ℕ) (x : Instruction) → slice_get code pc ≡ Some x → writes x ≡ Some i → i < length slots
