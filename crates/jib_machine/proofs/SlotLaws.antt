-- The slots that a call begins with.
use Rattle.std.proofs.Common.{◌≡◌, ℕ, zero, suc, ◌≤◌, List, [], ◌∷◌, length, refl, arith}
use Rattle.std.specs.Prelude.{slice_get, slice_index_or}
use Rattle.sail_types.specs.declared.values.Value.{Value}
use Rattle.sail_types.specs.declared.values.Value.TheVariants as V
use Rattle.jib.specs.declared.types.ValueType.{ValueType}
use Rattle.jib.specs.declared.code.Module.{Module}
use Rattle.jib.specs.Jib.{slot_zero, slots_of, entry}
use Rattle.jib_values.specs.Sources.{filled}
use Rattle.jib_machine.specs.parts.Begun.{begun_slots}

all_at : (ts : List ValueType) (typs : List ℕ) (xs : List Value) (i : ℕ) → length typs ≤ length xs → slice_index_or xs i V.Unit ≡ begun_slots ts typs xs i
all_at ts [] [] i h = refl
all_at ts (t ∷ typs) [] i h = absurd (omega (arith, h))
all_at ts typs (x ∷ xs) zero h = refl
all_at ts [] (x ∷ xs) (suc i) h = all_at ts [] xs i (omega arith)
all_at ts (t ∷ typs) (x ∷ xs) (suc i) h = all_at ts typs xs i (omega (arith, h))

-- all of them stand in the list
pub begun_all : (ts : List ValueType) (typs : List ℕ) (xs : List Value) → length typs ≤ length xs → filled xs ≡ begun_slots ts typs xs
begun_all ts typs xs h = λ j. λ i. all_at ts typs xs i h j

pub entry_at : (m : Module) (f : ℕ) (vs : List Value) (i : ℕ)
    → begun_slots m.types (slots_of m f) (slot_zero m.types (slice_get (slots_of m f) 0) ∷ vs) i ≡ entry m f vs i
entry_at m f vs zero = refl
entry_at m f vs (suc i) = refl
