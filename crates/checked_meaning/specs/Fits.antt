-- Whether a value has the sizes of a type (Sail language manual, "Bitvectors", "Vectors").
use Rattle.std.specs.Prelude.{◌≡◌, ℕ, ℤ, pos, nat_eq, nat_lt, Bool, true, false, ◌&&◌, List, [], ◌∷◌, length, map, Option, Some, None}
use Rattle.std.specs.Ordering.{int_eq}
use Rattle.sail_types.specs.Belongs.{Reading as Closed, belongs}
use Rattle.sail_types.specs.Limits.{is_small}
use Rattle.sail_types.specs.Named.{field_types, fields, members, payload}
use Rattle.sail_types.specs.declared.table.Field.{Field}
use Rattle.sail_types.specs.declared.table.Types.{Types}
use Rattle.sail_types.specs.declared.values.Value.{Value, Value-F, fold-Value}
use Rattle.sail_types.specs.declared.values.Value.TheOpen as V
use Rattle.size_values.specs.declared.sized.Sized.{Sized, Sized-F, out-Sized}
use Rattle.size_values.specs.declared.sized.Sized.TheOpen as Z
use Rattle.size_values.specs.Sized.{typ_sized}
use Rattle.checked_meaning.specs.Items.{constant_of, payload_of}

abbrev pub Fits : Type 0
Fits = Sized → Bool

abbrev pub each_fits : List Fits → List Sized → Bool
each_fits [] [] = true
each_fits (f ∷ fs) (s ∷ ss) = f s && each_fits fs ss
each_fits fs ss = false

abbrev pub all_fit : List Fits → Sized → Bool
all_fit [] s = true
all_fit (f ∷ fs) s = f s && all_fit fs s

-- the fields of a struct, under its arguments; a type that is no struct has none
abbrev pub fields_under : Types → List (Option ℤ) → List Sized → List Field → List Sized
fields_under types zs ss fs = map (λ t. typ_sized types ss t (map constant_of zs)) (field_types fs)

abbrev pub fields_fit : Types → List (Option ℤ) → List Sized → List Fits → Option (List Field) → Bool
fields_fit types zs ss vs None = false
fields_fit types zs ss vs (Some fs) = each_fits vs (fields_under types zs ss fs)

abbrev pub form_fits : Types → Value-F Fits → Sized-F Sized → Bool
form_fits types V.Unit Z.Unit = true
form_fits types (V.Integer z) Z.Int = is_small z
form_fits types (V.Truth b) Z.Bool = true
form_fits types (V.Bit b) Z.Bit = true
form_fits types (V.Bits bits) (Z.Bits n) = int_eq (pos (length bits)) n
form_fits types (V.String text) Z.String = true
form_fits types (V.Tuple fs) (Z.Tuple ss) = each_fits fs ss
form_fits types (V.List fs) (Z.List s) = all_fit fs s
form_fits types (V.Vector fs) (Z.Vector n s) = int_eq (pos (length fs)) n && all_fit fs s
form_fits types (V.Member u k) (Z.Named v zs ss) = nat_eq u v && nat_lt k (length (members types u))
form_fits types (V.Struct u fs) (Z.Named v zs ss) = nat_eq u v && fields_fit types zs ss fs (fields types u)
form_fits types (V.Union u c f) (Z.Named v zs ss) = nat_eq u v && f (payload_of types zs ss (payload types u c))
form_fits types v s = false

abbrev pub fits_step : Types → Value-F Fits → Fits
fits_step types v s = form_fits types v (out-Sized s)

abbrev pub has_sizes : Types → Value → Sized → Bool
has_sizes types = fold-Value Fits (fits_step types)

abbrev pub all_have_sizes : Types → List Value → List Sized → Bool
all_have_sizes types [] [] = true
all_have_sizes types (v ∷ vs) (s ∷ ss) = has_sizes types v s && all_have_sizes types vs ss
all_have_sizes types vs ss = false

-- values of these types have these sizes, each at its place
abbrev pub AllFit : Types → List Closed → List Sized → Type 0
AllFit types rs [] = Unit {0}
AllFit types [] (s ∷ ss) = ⊥
AllFit types (r ∷ rs) (s ∷ ss) = ((v : Value) → belongs types v r ≡ true → has_sizes types v s ≡ true) × AllFit types rs ss
