-- The type at which a value of a type is made, all of whose sizes are constants: what `{'n, C. T}` binds has the number that the value gives (Sail
-- language manual, "Type variables").
use Rattle.std.specs.Prelude.{ℕ, pos, List, ◌∷◌, map, Option, Some}
use Rattle.sail_types.specs.Places.{Given, an_int, placed}
use Rattle.sail_types.specs.declared.table.Types.{Types}
use Rattle.sail_types.specs.declared.types.Typ.{Typ, Typ-F}
use Rattle.sail_types.specs.declared.types.Typ.TheFolds.{para-Typ}
use Rattle.sail_types.specs.declared.types.Typ.TheOpen as T
use Rattle.sail_types.specs.declared.values.Value.{Value}
use Rattle.value_indices.specs.declared.indices.Indices.{Indices}
use Rattle.value_indices.specs.declared.indices.Indices.TheOpen as W
use Rattle.value_indices.specs.declared.indices.Indices.TheOpen.{Reading-F}
use Rattle.value_indices.specs.declared.indices.Reading.{Reading, out-Reading}
use Rattle.size_values.specs.declared.constants.Constant.{Constant}
use Rattle.size_values.specs.declared.constants.Constant.TheVariants as C
use Rattle.size_values.specs.declared.sized.Sized.{Sized}
use Rattle.size_values.specs.Numbers.{index_under}
use Rattle.size_values.specs.Sized.{reading_sized, typ_sized, types_or_own}

-- none belongs that gives no integer
abbrev pub constant_given : Option Given → Constant
constant_given (Some (an_int z)) = C.Number z
constant_given given = C.Number (pos 0)

-- a type, and under which constants a value of it is asked for
abbrev pub Told : Type 0
Told = Typ → List Constant → Value → Sized

abbrev pub form_told : Types → List Sized → Typ-F (Typ × Told) → Told
form_told types own (T.Exists name c t) whole cs v = t.1 t.0 (constant_given (placed t.0 0 v) ∷ cs) v
form_told types own form whole cs v = typ_sized types own whole cs

abbrev pub typ_told : Types → List Sized → Typ → List Constant → Value → Sized
typ_told types own t = para-Typ Told (form_told types own) t t

-- of a type of the walk
abbrev pub form_reading_told : Types → List Sized → (ℕ → Constant) → Reading-F Indices Reading → Reading → Value → Sized
form_reading_told types own of (W.Of t is rs) r v = typ_told types (types_or_own (map (reading_sized types own of) rs) own) t (map (index_under of) is) v
form_reading_told types own of form r v = reading_sized types own of r

abbrev pub reading_told : Types → List Sized → (ℕ → Constant) → Reading → Value → Sized
reading_told types own of r v = form_reading_told types own of (out-Reading r) r v
