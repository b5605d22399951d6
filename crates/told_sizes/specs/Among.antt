-- Types whose sizes name no variables but some (Sail language manual, "Type variables").
use Rattle.std.specs.Prelude.{ℕ, suc, pos, Bool, true, not, ◌&&◌, List, [], ◌∷◌, length, map, slice_get, Option, Some, None, is_none, if◌then◌else◌}
use Rattle.sail_types.specs.declared.numbers.Index.{Index}
use Rattle.sail_types.specs.declared.numbers.Index.TheVariants as N
use Rattle.sail_types.specs.declared.numbers.Num.{Num}
use Rattle.sail_types.specs.declared.table.Types.{Types}
use Rattle.sail_types.specs.declared.types.Typ.{Typ, Typ-F, fold-Typ}
use Rattle.sail_types.specs.declared.types.Typ.TheOpen as T
use Rattle.value_indices.specs.declared.indices.Indices.{Indices, fold-Indices}
use Rattle.value_indices.specs.declared.indices.Indices.TheOpen as W
use Rattle.value_indices.specs.declared.indices.Indices.TheOpen.{Indices-F, Reading-F}
use Rattle.value_indices.specs.declared.indices.Reading.{Reading, fold-Reading}
use Rattle.size_values.specs.declared.constants.Constant.{Constant}
use Rattle.size_values.specs.declared.constants.Constant.TheVariants as C
use Rattle.size_values.specs.Numbers.{first_free, is_free}
use Rattle.size_values.specs.Sized.{hangs_on}
use Rattle.told_sizes.specs.Exact.{all_of, only_if}

-- ---- numbers

abbrev pub only_among : (ℕ → Bool) → ℕ → Constant
only_among has v = if has v then C.Number (pos 0) else C.Open v

abbrev pub num_among : (ℕ → Bool) → Num → Bool
num_among has t = is_none (first_free (only_among has) t)

-- a truth is in no size
abbrev pub index_among : (ℕ → Bool) → Index → Bool
index_among has (N.Number t) = num_among has t
index_among has (N.Truth c) = true

-- of the arguments of a named type, from this one on, those on which a size hangs
abbrev pub args_among : Types → (ℕ → Bool) → ℕ → ℕ → ℕ → List Index → Bool
args_among types has u n k [] = true
args_among types has u n k (a ∷ args) = only_if (hangs_on types u n k) (index_among has a) && args_among types has u n (suc k) args

-- ---- types: which of its variables are among them; what a type binds is the same whatever the others are

abbrev pub or_true : Option Bool → Bool
or_true None = true
or_true (Some b) = b

abbrev pub at : List Bool → ℕ → Bool
at bs i = or_true (slice_get bs i)

abbrev pub Test : Type 0
Test = List Bool → Bool

abbrev pub all_among : List Test → Test
all_among [] bs = true
all_among (f ∷ fs) bs = f bs && all_among fs bs

abbrev pub form_among : Types → Typ-F Test → Test
form_among types (T.Bits t) bs = num_among (at bs) t
form_among types (T.List f) bs = f bs
form_among types (T.Vector t f) bs = num_among (at bs) t && f bs
form_among types (T.Tuple fs) bs = all_among fs bs
form_among types (T.Named u is fs) bs = args_among types (at bs) u (length is) 0 is && all_among fs bs
form_among types (T.Exists name c f) bs = f (true ∷ bs)
form_among types form bs = true

abbrev pub typ_among : Types → Typ → Test
typ_among types = fold-Typ Test (form_among types)

-- ---- values of some indices, and types of the walk

abbrev pub indices_among : Types → (ℕ → Bool) → Indices-F Bool Bool → Bool
indices_among types has (W.Bits t) = num_among has t
indices_among types has (W.List b) = b
indices_among types has (W.Vector t b) = num_among has t && b
indices_among types has (W.Tuple bs) = all_of bs
indices_among types has (W.Named u is bs) = args_among types has u (length is) 0 is && all_of bs
indices_among types has form = true

abbrev pub readings_among : Types → (ℕ → Bool) → Reading-F Bool Bool → Bool
readings_among types has (W.Of t is bs) = all_of bs && typ_among types t (map (index_among has) is)
readings_among types has (W.Widened b) = b
readings_among types has (W.Parts bs) = all_of bs
readings_among types has W.Hole = true

abbrev pub value_among : Types → (ℕ → Bool) → Indices → Bool
value_among types has = fold-Indices Bool Bool (indices_among types has) (readings_among types has)

abbrev pub reading_among : Types → (ℕ → Bool) → Reading → Bool
reading_among types has = fold-Reading Bool Bool (indices_among types has) (readings_among types has)

-- ---- as code has them: those that are constant there, and constants that say so of each

abbrev pub has_in : (ℕ → Constant) → ℕ → Bool
has_in of v = not (is_free (of v))

abbrev pub is_known : Constant → Bool
is_known c = not (is_free c)

abbrev pub flagged : Bool → Constant
flagged b = if b then C.Number (pos 0) else C.Open 0

abbrev pub flag_of : (ℕ → Bool) → Index → Constant
flag_of has a = flagged (index_among has a)
