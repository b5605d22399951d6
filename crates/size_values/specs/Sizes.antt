-- The sizes in types and values: widths of bits and lengths of vectors (Sail language manual, "Bitvectors", "Vectors").
use Rattle.std.specs.Prelude.{ℕ, zero, suc, pos, nat_eq, bytes_eq, Bool, true, false, ◌&&◌, ◌||◌, List, [], ◌∷◌, ◌++◌, map, slice_get}
use Rattle.std.specs.Prelude.{Option, Some, None, if◌then◌else◌}
use Rattle.std.specs.List.{list_any}
use Rattle.std.specs.Ordering.{int_eq}
use Rattle.sail_types.specs.Named.{field_types, in_form}
use Rattle.sail_types.specs.Zero.{deepest}
use Rattle.sail_types.specs.declared.table.Field.{Field}
use Rattle.sail_types.specs.declared.table.Form.{Form}
use Rattle.sail_types.specs.declared.table.Form.TheVariants as F
use Rattle.sail_types.specs.declared.table.Types.{Types}
use Rattle.sail_types.specs.declared.types.Typ.{Typ, Typ-F, out-Typ}
use Rattle.sail_types.specs.declared.types.Typ.TheOpen as T
use Rattle.value_indices.specs.declared.indices.Indices.{Indices, fold-Indices}
use Rattle.value_indices.specs.declared.indices.Indices.TheOpen as W
use Rattle.value_indices.specs.declared.indices.Indices.TheOpen.{Indices-F, Reading-F}
use Rattle.value_indices.specs.declared.indices.Reading.{Reading, fold-Reading}
use Rattle.size_values.specs.declared.constants.Constant.{Constant}
use Rattle.size_values.specs.declared.constants.Constant.TheVariants as C
use Rattle.size_values.specs.declared.listed.Applied.{Applied}
use Rattle.size_values.specs.declared.listed.Listed.{Listed}
use Rattle.size_values.specs.declared.sizes.Size.{Size}
use Rattle.size_values.specs.Numbers.{all_but, argument_of, constant_under, index_under, is_free, known_at}

-- ---- a size: its number, and the largest that it may be

abbrev pub size : ℕ → Constant → Size
size n c = record { largest = n; number = c }

abbrev pub width : Constant → Size
width c = size 128 c

abbrev pub vector_length : Constant → Size
vector_length c = size 4096 c

abbrev pub joined : {A : Type 0} → List (List A) → List A
joined [] = []
joined (xs ∷ more) = xs ++ joined more

abbrev pub is_open_size : Size → Bool
is_open_size s = is_free s.number

abbrev pub is_one_open : List Size → Bool
is_one_open ss = list_any is_open_size ss

-- ---- the sizes in a type, from the left

abbrev pub form_fields : Form → List Field
form_fields (F.Struct fields) = fields
form_fields (F.Union constructors) = constructors
form_fields (F.Enum members) = []

-- the fields, or the constructors with their payloads, of the named type at a place in the table
abbrev pub fields_of : Types → ℕ → List Field
fields_of types u = in_form [] form_fields (slice_get types.definitions u)

-- whether two constants are the same, and whether all of two lists are
abbrev pub constant_eq : Constant → Constant → Bool
constant_eq (C.Number x) (C.Number y) = int_eq x y
constant_eq (C.Open v) (C.Open w) = nat_eq v w
constant_eq (C.Bound n) (C.Bound m) = bytes_eq n m
constant_eq c d = false

abbrev pub constants_eq : List Constant → List Constant → Bool
constants_eq [] [] = true
constants_eq (c ∷ cs) (d ∷ ds) = constant_eq c d && constants_eq cs ds
constants_eq cs ds = false

-- whether a named type was read under these arguments
abbrev pub is_applied : ℕ → List Constant → Applied → Bool
is_applied u cs a = nat_eq u a.place && constants_eq cs a.arguments

abbrev pub was_read : ℕ → List Constant → List Applied → Bool
was_read u cs read = list_any (is_applied u cs) read

-- more sizes behind those that are listed, and a named type more that is read
abbrev pub listing : List Size → Listed → Listed
listing ss l = record l { sizes = l.sizes ++ ss }

abbrev pub reading : ℕ → List Constant → Listed → Listed
reading u cs l = record l { read = l.read ++ record { place = u; arguments = cs } ∷ [] }

abbrev pub none_listed : Listed
none_listed = record { sizes = []; read = [] }

-- a type, asked for its sizes: the named types around it, what its Int variables are, the sizes in what its Type variables stand for, and
-- what is listed before
abbrev pub Asked : Type 0
Asked = List ℕ → List Constant → List (List Size) → Listed → Listed

abbrev pub each_listed : List Asked → Asked
each_listed [] seen cs own l = l
each_listed (f ∷ fs) seen cs own l = each_listed fs seen cs own (f seen cs own l)

abbrev pub is_among : ℕ → List ℕ → Bool
is_among u us = list_any (nat_eq u) us

-- fields and payloads: not inside the type itself, and once under the same arguments; the sizes in what a Type variable stands for stand
-- before them
abbrev pub fields_listed : Types → (Typ → Asked) → ℕ → List ℕ → List Constant → Listed → Listed
fields_listed types inside u seen cs l =
    if is_among u seen || was_read u cs l.read then l
    else each_listed (map inside (field_types (fields_of types u))) (seen ++ u ∷ []) cs [] (reading u cs l)

abbrev pub or_empty : {A : Type 0} → Option (List A) → List A
or_empty None = []
or_empty (Some xs) = xs

abbrev pub sizes_at : List (List Size) → ℕ → List Size
sizes_at own i = or_empty (slice_get own i)

-- a type of this form; `inside` is for the types inside it. One that isn't opened has no number for what `{'n, C. T}` binds
abbrev pub form_listed : Types → (Typ → Asked) → Typ-F Typ → Asked
form_listed types inside (T.Bits t) seen cs own l = listing (width (constant_under (argument_of cs) t) ∷ []) l
form_listed types inside (T.List t) seen cs own l = inside t seen cs own l
form_listed types inside (T.Vector n t) seen cs own l =
    inside t seen cs own (listing (vector_length (constant_under (argument_of cs) n) ∷ []) l)
form_listed types inside (T.Tuple ts) seen cs own l = each_listed (map inside ts) seen cs own l
form_listed types inside (T.Named u is ts) seen cs own l =
    fields_listed types inside u seen (map (index_under (argument_of cs)) is) (each_listed (map inside ts) seen cs own l)
form_listed types inside (T.Variable i) seen cs own l = listing (sizes_at own i) l
form_listed types inside (T.Exists name c t) seen cs own l = inside t seen (C.Bound name ∷ cs) own l
form_listed types inside form seen cs own l = l

-- through types inside types to this depth
abbrev pub listed_within : Types → ℕ → Typ → Asked
listed_within types zero t seen cs own l = l
listed_within types (suc depth) t seen cs own l = form_listed types (listed_within types depth) (out-Typ t) seen cs own l

-- those of a type, where its Int variables are these, and what its Type variables stand for has these
abbrev pub typ_sizes : Types → Typ → List Constant → List (List Size) → List Size
typ_sizes types t cs own = (listed_within types deepest t [] cs own none_listed).sizes

-- those of the named type at a place under its arguments
abbrev pub named_typ_sizes : Types → ℕ → List Constant → List (List Size) → List Size
named_typ_sizes types u cs own = (fields_listed types (listed_within types deepest) u [] cs (listing (joined own) none_listed)).sizes

-- ---- the sizes in a value of some indices, where the variables of the walk are these

abbrev pub indices_sizes : Types → (ℕ → Constant) → Indices-F (List Size) (List Size) → List Size
indices_sizes types of (W.Bits t) = width (constant_under of t) ∷ []
indices_sizes types of (W.List a) = a
indices_sizes types of (W.Vector t a) = vector_length (constant_under of t) ∷ a
indices_sizes types of (W.Tuple ss) = joined ss
indices_sizes types of (W.Named u is ss) = named_typ_sizes types u (map (index_under of) is) ss
indices_sizes types of form = []

abbrev pub form_reading_sizes : Types → (ℕ → Constant) → Reading-F (List Size) (List Size) → List Size
form_reading_sizes types of (W.Of t is ss) = typ_sizes types t (map (index_under of) is) ss
form_reading_sizes types of (W.Widened a) = a
form_reading_sizes types of (W.Parts ss) = joined ss
form_reading_sizes types of W.Hole = []

abbrev pub value_sizes : Types → (ℕ → Constant) → Indices → List Size
value_sizes types of = fold-Indices (List Size) (List Size) (indices_sizes types of) (form_reading_sizes types of)

-- in a value of this type, which isn't opened
abbrev pub reading_sizes : Types → (ℕ → Constant) → Reading → List Size
reading_sizes types of = fold-Reading (List Size) (List Size) (indices_sizes types of) (form_reading_sizes types of)

-- ---- whether a variable is in a size

abbrev pub value_names : Types → ℕ → Indices → Bool
value_names types v i = is_one_open (value_sizes types (known_at (all_but v)) i)

abbrev pub reading_names : Types → ℕ → Reading → Bool
reading_names types v r = is_one_open (reading_sizes types (known_at (all_but v)) r)

abbrev pub open_at : ℕ → ℕ → Constant
open_at i j = if nat_eq i j then C.Open 0 else C.Number (pos 0)

-- so many constants, all 0 but the one at an index, which is open
abbrev pub only_open : ℕ → ℕ → List Constant
only_open i zero = []
only_open i (suc n) = only_open i n ++ open_at i n ∷ []

-- a type of so many variables of its own
abbrev pub typ_names : Types → ℕ → ℕ → Typ → Bool
typ_names types n v t = is_one_open (typ_sizes types t (only_open v n) [])
