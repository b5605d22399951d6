-- How lowered code and what stands in its slots go together.
use Rattle.std.specs.Prelude.{◌≡◌, ℕ, ◌+◌, nat_le, ℤ, Bool, false, List, [], ◌∷◌, Some, slice_get}
use Rattle.sail_types.specs.declared.values.Value.TheVariants as V
use Rattle.jib.specs.declared.types.ValueType.{ValueType}
use Rattle.jib.specs.declared.types.ValueType.TheVariants as T
use Rattle.jib.specs.declared.code.Instruction.{Instruction}
use Rattle.jib.specs.Jib.{Slots}
use Rattle.checked_meaning.specs.Checked.{Noted}
use Rattle.lowered_pieces.specs.Places.{Place, Number, Temp, Kit}

-- the instructions of a piece stand in the code from this place on
abbrev pub HasAt : List Instruction → ℕ → List Instruction → Type 0
HasAt c p [] = Unit {0}
HasAt c p (i ∷ is) = (slice_get c p ≡ Some i) × HasAt c (p + 1) is

-- the types that every model has
pub record Types (ts : List ValueType) (kit : Kit) : Type 0 where
  pub truth : slice_get ts kit.truth ≡ Some T.Truth
  pub integer : slice_get ts kit.integer ≡ Some T.Integer
  pub unit : slice_get ts kit.unit ≡ Some T.Unit

-- the values in hand from n on
abbrev pub free : ℕ → Place → Bool
free n (Temp i) = nat_le n i
free n q = false

-- all but the values in hand from n on is as it was
pub record Tested (kit : Kit) (n : ℕ) (sl sl' : Slots) : Type 0 where
  pub others : (q : Place) (t : ℕ) → free n q ≡ false → sl' (kit.name q t) ≡ sl (kit.name q t)

-- the numbers stand in their slots
abbrev pub Told : Kit → Noted → Slots → Type 0
Told kit noted sl = (x : ℕ) (z : ℤ) → noted x ≡ Some z → sl (kit.name (Number x (kit.depth x)) kit.integer) ≡ V.Integer z
