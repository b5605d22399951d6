-- The code of a struct with other values in several fields: it is built of these and of the others' old values (Sail language manual, "Structs").
use Rattle.std.specs.Prelude.{ℕ, ℤ, suc, Bool, true, ◌&&◌, ◌+◌, List, [], ◌∷◌, ◌++◌, length, Option, Some, None}
use Rattle.sail_types.specs.Named.{fields}
use Rattle.sail_types.specs.declared.table.Field.{Field}
use Rattle.sail_types.specs.declared.table.Types.{Types}
use Rattle.size_values.specs.declared.sized.Sized.{Sized, Sized-F, out-Sized}
use Rattle.size_values.specs.declared.sized.Sized.TheOpen as Z
use Rattle.checked_meaning.specs.Fits.{fields_under}
use Rattle.jib.specs.declared.code.Source.{Source}
use Rattle.jib.specs.declared.code.Operation.TheVariants as O
use Rattle.jib.specs.declared.code.Instruction.{Instruction}
use Rattle.jib.specs.declared.code.Instruction.TheVariants as I
use Rattle.lowered_pieces.specs.Places.{Temp, Kit, from, to}
use Rattle.lowered_pieces.specs.Moves.{sources}
use Rattle.lowered_pieces.specs.Forms.{Maker, live_code, numbers_of, set_fields}

-- the types of the fields of a struct, under its arguments; of another type none
abbrev pub types_under : Types → List (Option ℤ) → List Sized → Option (List Field) → List Sized
types_under types zs ss None = []
types_under types zs ss (Some fs) = fields_under types zs ss fs

abbrev pub field_types_of : Types → Sized-F Sized → List Sized
field_types_of types (Z.Named u zs ss) = types_under types zs ss (fields types u)
field_types_of types s = []

-- types that all have a number
abbrev pub all_known : (Sized → Bool) → List Sized → Bool
all_known known [] = true
all_known known (t ∷ ts) = known t && all_known known ts

module _ (kit : Kit) (number : Sized → ℕ) (types : Types) where
  -- fields of these types, from the j-th on, are taken out to the places from p on
  abbrev pub fields_out : Source → ℕ → ℕ → List Sized → List Instruction
  fields_out a j p [] = []
  fields_out a j p (t ∷ ts) = I.Apply (to kit (Temp p) (number t)) (O.Field j) (a ∷ []) ∷ fields_out a (suc j) (p + 1) ts

  abbrev pub with_sources : List ℕ → ℕ → List Sized → List Sized → List Source
  with_sources is n ts old =
      set_fields is (sources kit (n + 1) (numbers_of kit number ts)) (sources kit (n + 1 + length ts) (numbers_of kit number old))

  -- the struct is in hand at n, and the values behind it
  abbrev pub with_code : List ℕ → ℕ → List Sized → Sized → List Instruction
  with_code is n [] gives = []
  with_code is n (t ∷ ts) gives =
      fields_out (from kit (Temp n) (number t)) 0 (n + 1 + length ts) (field_types_of types (out-Sized t))
      ++ I.Apply (to kit (Temp n) (number gives)) O.Build (with_sources is n ts (field_types_of types (out-Sized t))) ∷ []

  abbrev pub with_make : List ℕ → Maker kit number
  with_make is s c = live_code c.takes (with_code is s.temp c.takes c.gives)
