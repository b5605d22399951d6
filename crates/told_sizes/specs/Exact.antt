-- Sizes that are constants for certain: each number in them is known, and none past the largest integer is on the way; so are those of fields and
-- payloads (Sail language manual, "Bitvectors", "Vectors", "Type variables").
use Rattle.std.specs.Prelude.{ℕ, zero, suc, ℤ, nat_eq, Bool, true, false, ◌&&◌, ◌||◌, List, [], ◌∷◌, length, map, Option, Some, None, is_some}
use Rattle.std.specs.List.{list_all, list_any}
use Rattle.std.specs.Ordering.{int_eq}
use Rattle.sail_types.specs.Named.{field_types}
use Rattle.sail_types.specs.Places.{is_variable}
use Rattle.sail_types.specs.Sums.{and_then, read, variable}
use Rattle.sail_types.specs.Zero.{deepest}
use Rattle.sail_types.specs.declared.numbers.Index.{Index}
use Rattle.sail_types.specs.declared.numbers.Index.TheVariants as N
use Rattle.sail_types.specs.declared.numbers.Num.{Num}
use Rattle.sail_types.specs.declared.table.Types.{Types}
use Rattle.sail_types.specs.declared.types.Typ.{Typ, Typ-F, out-Typ}
use Rattle.sail_types.specs.declared.types.Typ.TheOpen as T
use Rattle.value_indices.specs.declared.indices.Indices.{Indices}
use Rattle.value_indices.specs.declared.indices.Indices.TheOpen as W
use Rattle.value_indices.specs.declared.indices.Indices.TheOpen.{Indices-F, Reading-F}
use Rattle.value_indices.specs.declared.indices.Reading.{Reading, fold-Reading, out-Reading}
use Rattle.size_values.specs.declared.constants.Constant.{Constant}
use Rattle.size_values.specs.declared.constants.Constant.TheVariants as C
use Rattle.size_values.specs.Numbers.{argument_of, index_under, value_of}
use Rattle.size_values.specs.Sizes.{fields_of}
use Rattle.size_values.specs.Sized.{hangs_on, named_numbers, numbers_eq}
use Rattle.told_sizes.specs.declared.applied.Applied.{Applied}

-- ---- numbers

abbrev pub is_exact : (ℕ → Constant) → Num → Bool
is_exact of t = is_some (value_of of t)

-- a number that is known; a truth is in no size
abbrev pub is_exact_index : (ℕ → Constant) → Index → Bool
is_exact_index of (N.Number t) = is_exact of t
is_exact_index of (N.Truth c) = false

abbrev pub open_of : Option ℤ → Constant
open_of None = C.Open 0
open_of (Some z) = C.Number z

-- an argument as a constant, if it is exact
abbrev pub exact_index : (ℕ → Constant) → Index → Constant
exact_index of (N.Number t) = open_of (value_of of t)
exact_index of (N.Truth c) = C.Open 0

abbrev pub exact_constants : (ℕ → Constant) → List Index → List Constant
exact_constants of is = map (exact_index of) is

abbrev pub only_if : Bool → Bool → Bool
only_if true b = b
only_if false b = true

-- of the arguments of a named type, from this one on, those on which a size of its fields and payloads hangs
abbrev pub are_exact : Types → (ℕ → Constant) → ℕ → ℕ → ℕ → List Index → Bool
are_exact types of u n i [] = true
are_exact types of u n i (a ∷ args) = only_if (hangs_on types u n i) (is_exact_index of a) && are_exact types of u n (suc i) args

-- whether a variable is one of so many
abbrev pub is_one_of : ℕ → ℕ → Bool
is_one_of i zero = false
is_one_of zero (suc n) = true
is_one_of (suc i) (suc n) = is_one_of i n

-- ---- types, where so many Type variables stand for such types, and these constants are for its Int variables; in the fields and payloads of these
-- named types, which are read

-- a named type of so many Type arguments, with the numbers of those arguments on which a size hangs, is the same as another
abbrev pub is_applied : Applied → Applied → Bool
is_applied a b = nat_eq a.place b.place && (nat_eq a.count b.count && numbers_eq a.numbers b.numbers)

abbrev pub was_seen : Applied → List Applied → Bool
was_seen a seen = list_any (is_applied a) seen

abbrev pub Test : Type 0
Test = List Applied → ℕ → List Constant → Bool

abbrev pub all_pass : (Typ → Test) → List Typ → Test
all_pass inside ts seen n cs = list_all (λ t. inside t seen n cs) ts

-- the constants for the variables of a named type; no size of its fields hangs on one that is open
abbrev pub constants_in : Applied → List Constant
constants_in a = map open_of a.numbers

abbrev pub applied_at : Types → (ℕ → Constant) → ℕ → List Index → ℕ → Applied
applied_at types of u args n = record { place = u; count = n; numbers = named_numbers types u (map (index_under of) args) }

abbrev pub field_constants : Types → (ℕ → Constant) → ℕ → List Index → List Constant
field_constants types of u args = map open_of (named_numbers types u (map (index_under of) args))

-- its fields and payloads: once
abbrev pub fields_pass : Types → (Typ → Test) → Applied → List Applied → Bool
fields_pass types inside a seen = was_seen a seen || all_pass inside (field_types (fields_of types a.place)) (a ∷ seen) a.count (constants_in a)

abbrev pub named_passes : Types → (Typ → Test) → (ℕ → Constant) → ℕ → List Index → ℕ → List Applied → Bool
named_passes types inside of u args n seen =
    are_exact types of u (length args) 0 args && fields_pass types inside (applied_at types of u args n) seen

abbrev pub form_passes : Types → (Typ → Test) → Typ-F Typ → Test
form_passes types inside (T.Bits t) seen n cs = is_exact (argument_of cs) t
form_passes types inside (T.List t) seen n cs = inside t seen n cs
form_passes types inside (T.Vector m t) seen n cs = is_exact (argument_of cs) m && inside t seen n cs
form_passes types inside (T.Tuple ts) seen n cs = all_pass inside ts seen n cs
form_passes types inside (T.Named u args ts) seen n cs =
    all_pass inside ts seen n cs && named_passes types inside (argument_of cs) u args (length ts) seen
form_passes types inside (T.Variable i) seen n cs = is_one_of i n
form_passes types inside (T.Exists name c t) seen n cs = inside t seen n (C.Bound name ∷ cs)
form_passes types inside form seen n cs = true

-- through types inside types to this depth
abbrev pub typ_passes : Types → ℕ → Typ → Test
typ_passes types zero t seen n cs = false
typ_passes types (suc depth) t seen n cs = form_passes types (typ_passes types depth) (out-Typ t) seen n cs

-- those of a type, or the function's
abbrev pub or_own : ℕ → ℕ → ℕ
or_own m zero = m
or_own m (suc n) = suc n

abbrev pub all_of : List Bool → Bool
all_of bs = list_all (λ b. b) bs

-- ---- sizes that stay what they are where a value is opened

abbrev pub is_same : Option ℤ → Option ℤ → Bool
is_same (Some x) (Some y) = int_eq x y
is_same o p = false

-- what a size is that is said under what its variables stand for
abbrev pub said_value : (ℕ → Constant) → List Index → Num → Option ℤ
said_value of is t = and_then (read is t) (value_of of)

-- a size that can be said, and is one integer both ways
abbrev pub is_said : (ℕ → Constant) → List Index → List Constant → Num → Bool
is_said of is cs t = is_same (said_value of is t) (value_of (argument_of cs) t)

abbrev pub is_said_index : (ℕ → Constant) → List Index → List Constant → Index → Bool
is_said_index of is cs (N.Number t) = is_said of is cs t
is_said_index of is cs (N.Truth c) = false

abbrev pub are_said : Types → (ℕ → Constant) → ℕ → ℕ → ℕ → List Index → List Constant → List Index → Bool
are_said types of u n k is cs [] = true
are_said types of u n k is cs (a ∷ args) = only_if (hangs_on types u n k) (is_said_index of is cs a) && are_said types of u n (suc k) is cs args

-- a type that is opened, under these for its Int and Bool variables
abbrev pub Opened : Type 0
Opened = ℕ → List Index → List Constant → Bool

abbrev pub all_settle : (Typ → Opened) → List Typ → Opened
all_settle inside ts n is cs = list_all (λ t. inside t n is cs) ts

-- types of items and arguments aren't opened; for what `{'n, C. T}` binds stands any variable
abbrev pub form_settles : Types → (ℕ → Constant) → (Typ → Test) → (Typ → Opened) → Typ-F Typ → Opened
form_settles types of kept inside (T.Bits t) n is cs = is_said of is cs t
form_settles types of kept inside (T.List t) n is cs = kept t [] n cs
form_settles types of kept inside (T.Vector m t) n is cs = is_said of is cs m && kept t [] n cs
form_settles types of kept inside (T.Tuple ts) n is cs = all_settle inside ts n is cs
form_settles types of kept inside (T.Named u args ts) n is cs = are_said types of u (length args) 0 is cs args && all_pass kept ts [] n cs
form_settles types of kept inside (T.Variable i) n is cs = is_one_of i n
form_settles types of kept inside (T.Exists name c t) n is cs = inside t n (N.Number (variable 0) ∷ is) (C.Bound name ∷ cs)
form_settles types of kept inside form n is cs = true

abbrev pub typ_settles : Types → (ℕ → Constant) → ℕ → Typ → Opened
typ_settles types of zero t n is cs = false
typ_settles types of (suc depth) t n is cs = form_settles types of (typ_passes types depth) (typ_settles types of depth) (out-Typ t) n is cs

abbrev pub readings_settle : Types → ℕ → (ℕ → Constant) → Reading-F Bool Bool → Bool
readings_settle types m of (W.Of t is rs) = all_of rs && typ_settles types of deepest t (or_own m (length rs)) is (exact_constants of is)
readings_settle types m of (W.Widened i) = true
readings_settle types m of (W.Parts rs) = all_of rs
readings_settle types m of W.Hole = true

abbrev pub no_test : Indices-F Bool Bool → Bool
no_test i = true

abbrev pub reading_settles : Types → ℕ → (ℕ → Constant) → Reading → Bool
reading_settles types m of = fold-Reading Bool Bool no_test (readings_settle types m of)

-- ---- types that are opened at a value: what `{'n, C. T}` binds at the front has the number that the value gives, so it may be a size by itself

abbrev pub is_bound : Constant → Bool
is_bound (C.Bound name) = true
is_bound c = false

-- of these constants from a variable on
abbrev pub is_bound_alone : ℕ → List Constant → Num → Bool
is_bound_alone j [] t = false
is_bound_alone j (c ∷ cs) t = (is_bound c && is_variable j t) || is_bound_alone (suc j) cs t

abbrev pub is_told : (ℕ → Constant) → List Index → List Constant → Num → Bool
is_told of is cs t = is_bound_alone 0 cs t || is_said of is cs t

abbrev pub is_told_index : (ℕ → Constant) → List Index → List Constant → Index → Bool
is_told_index of is cs (N.Number t) = is_told of is cs t
is_told_index of is cs (N.Truth c) = false

abbrev pub are_told : Types → (ℕ → Constant) → ℕ → ℕ → ℕ → List Index → List Constant → List Index → Bool
are_told types of u n k is cs [] = true
are_told types of u n k is cs (a ∷ args) = only_if (hangs_on types u n k) (is_told_index of is cs a) && are_told types of u n (suc k) is cs args

-- behind the front; what a part of a tuple binds itself isn't told
abbrev pub form_tells : Types → (ℕ → Constant) → (Typ → Opened) → (Typ → Opened) → Typ-F Typ → Opened
form_tells types of settles inside (T.Bits t) n is cs = is_told of is cs t
form_tells types of settles inside (T.Vector t a) n is cs = is_told of is cs t
form_tells types of settles inside (T.Tuple ts) n is cs = all_settle inside ts n is cs
form_tells types of settles inside (T.Named u args ts) n is cs = are_told types of u (length args) 0 is cs args
form_tells types of settles inside (T.Variable i) n is cs = is_one_of i n
form_tells types of settles inside (T.Exists name c t) n is cs = settles t n (N.Number (variable 0) ∷ is) (C.Bound name ∷ cs)
form_tells types of settles inside form n is cs = true

abbrev pub typ_tells : Types → (ℕ → Constant) → ℕ → Typ → Opened
typ_tells types of zero t n is cs = false
typ_tells types of (suc depth) t n is cs = form_tells types of (typ_settles types of depth) (typ_tells types of depth) (out-Typ t) n is cs

abbrev pub front_form : (Typ → Opened) → Opened → Typ-F Typ → Opened
front_form inside behind (T.Exists name c t) n is cs = inside t n (N.Number (variable 0) ∷ is) (C.Bound name ∷ cs)
front_form inside behind form n is cs = behind n is cs

abbrev pub front_tells : Types → (ℕ → Constant) → ℕ → Typ → Opened
front_tells types of zero t n is cs = false
front_tells types of (suc depth) t n is cs = front_form (front_tells types of depth) (typ_tells types of (suc depth) t) (out-Typ t) n is cs

abbrev pub form_reading_tells : Types → ℕ → (ℕ → Constant) → Reading → Reading-F Indices Reading → Bool
form_reading_tells types m of r (W.Of t is rs) =
    list_all (reading_settles types m of) rs && front_tells types of deepest t (or_own m (length rs)) is (exact_constants of is)
form_reading_tells types m of r form = reading_settles types m of r

abbrev pub reading_tells : Types → ℕ → (ℕ → Constant) → Reading → Bool
reading_tells types m of r = form_reading_tells types m of r (out-Reading r)
