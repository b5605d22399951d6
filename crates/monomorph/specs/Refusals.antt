-- Sizes that are refused: one that isn't constant, and one that passes its limit (Sail language manual, "Bitvectors", "Vectors").
use Rattle.std.specs.Prelude.{ℕ, ℤ, pos, int_le, ◌&&◌, codes, List, [], ◌∷◌, slice_index_or, Option, Some, None, if◌then◌else◌}
use Rattle.sail_base.specs.declared.place.Place.{Place}
use Rattle.sail_types.specs.Limits.{largest}
use Rattle.sail_types.specs.Places.{first}
use Rattle.size_values.specs.declared.constants.Constant.{Constant}
use Rattle.size_values.specs.declared.constants.Constant.TheVariants as C
use Rattle.size_values.specs.declared.sizes.Size.{Size}
use Rattle.monomorph.specs.declared.error.MonoError.{MonoError}
use Rattle.monomorph.specs.declared.error.MonoError.TheVariants.{SizeOpen, WidthLimit}

-- the name of a variable, as obligations have it
abbrev pub name_of : List (List ℕ) → ℕ → List ℕ
name_of names v = slice_index_or names v (codes "#")

-- a number that is given: one past the largest integer counts as that, so that isn't given
abbrev pub given_refused : Place → ℤ → Option MonoError
given_refused place z = if int_le (pos largest) z then Some (WidthLimit place z) else None

-- a number at a place that has to be constant
abbrev pub constant_refused : Place → List (List ℕ) → Constant → Option MonoError
constant_refused place names (C.Number z) = given_refused place z
constant_refused place names (C.Open v) = Some (SizeOpen place (name_of names v))
constant_refused place names (C.Bound name) = Some (SizeOpen place name)

abbrev pub constants_refused : Place → List (List ℕ) → List Constant → Option MonoError
constants_refused place names [] = None
constants_refused place names (c ∷ cs) = first (constant_refused place names c) (constants_refused place names cs)

abbrev pub limit_refused : Place → ℕ → ℤ → Option MonoError
limit_refused place largest z = if int_le (pos 0) z && int_le z (pos largest) then None else Some (WidthLimit place z)

-- a size at a place: it has to be constant, and not below 0 or past its limit
abbrev pub number_refused : Place → List (List ℕ) → ℕ → Constant → Option MonoError
number_refused place names largest (C.Number z) = limit_refused place largest z
number_refused place names largest c = constant_refused place names c

abbrev pub size_refused : Place → List (List ℕ) → Size → Option MonoError
size_refused place names s = number_refused place names s.largest s.number

abbrev pub sizes_refused : Place → List (List ℕ) → List Size → Option MonoError
sizes_refused place names [] = None
sizes_refused place names (s ∷ ss) = first (size_refused place names s) (sizes_refused place names ss)
