-- The sizes in a type that is written: widths of bits and lengths of vectors, each at its place (Sail language manual, "Bitvectors",
-- "Vectors", "Type annotations").
use Rattle.std.specs.Prelude.{ℕ, nat_eq, nat_lt, Bool, true, false, List, [], ◌∷◌, ◌++◌, map, unwrap_or, Option, Some, None, if◌then◌else◌}
use Rattle.std.specs.List.{list_any}
use Rattle.sail_base.specs.declared.place.Place.{Place}
use Rattle.sail_types.specs.Sums.{read}
use Rattle.sail_types.specs.declared.numbers.Atom.{Atom}
use Rattle.sail_types.specs.declared.numbers.Atom.TheFolds.{fold-Num, fold-Atom, fold-Term}
use Rattle.sail_types.specs.declared.numbers.Atom.TheOpen as A
use Rattle.sail_types.specs.declared.numbers.Atom.TheOpen.{Atom-F, Num-F, Term-F}
use Rattle.sail_types.specs.declared.numbers.Index.{Index}
use Rattle.sail_types.specs.declared.numbers.Num.{Num}
use Rattle.sail_types.specs.declared.numbers.Term.{Term}
use Rattle.sail_types.specs.declared.types.Typ.{Typ, Typ-F, fold-Typ}
use Rattle.sail_types.specs.declared.types.Typ.TheOpen as T
use Rattle.sail_types.specs.declared.types.Typ.TheVariants as Y
use Rattle.linear.specs.Choices.{joined}
use Rattle.sail_core.specs.declared.written.Role.{Role}
use Rattle.sail_core.specs.declared.written.Role.TheVariants as Size
use Rattle.sail_core.specs.declared.written.Written.{Written}
use Rattle.sail_core.specs.declared.written.WrittenNumber.{WrittenNumber}
use Rattle.value_indices.specs.declared.indices.Indices.{Indices}
use Rattle.value_indices.specs.declared.indices.Indices.TheVariants as I
use Rattle.value_indices.specs.declared.indices.Reading.TheVariants as R
use Rattle.value_indices.specs.Opening.{largest_num}
use Rattle.size_notes.specs.declared.regions.Region.{Region}
use Rattle.size_notes.specs.declared.regions.Region.TheVariants as G
use Rattle.size_notes.specs.declared.written.TypePart.{TypePart}
use Rattle.size_notes.specs.declared.written.TypePart.TheVariants as P
use Rattle.size_notes.specs.declared.written.WrittenSize.{WrittenSize}
use Rattle.size_notes.specs.Regions.{inward, kept, numbers_under, under}

-- ---- whether a number names one of so many variables that the type itself binds

abbrev pub atom_bound : ℕ → Atom-F Bool Bool Bool → Bool
atom_bound depth (A.Variable i) = nat_lt i depth
atom_bound depth (A.Power t) = t

abbrev pub sum_bound : Num-F Bool Bool Bool → Bool
sum_bound n = list_any (λ t. t) n.terms

abbrev pub term_bound : Term-F Bool Bool Bool → Bool
term_bound t = t.atom

abbrev pub names_bound : ℕ → Num → Bool
names_bound depth = fold-Num Bool Bool Bool (atom_bound depth) sum_bound term_bound

abbrev pub atom_names_bound : ℕ → Atom → Bool
atom_names_bound depth = fold-Atom Bool Bool Bool (atom_bound depth) sum_bound term_bound

abbrev pub term_names_bound : ℕ → Term → Bool
term_names_bound depth = fold-Term Bool Bool Bool (atom_bound depth) sum_bound term_bound

-- ---- the sizes in a type, from the left, with those of the fields and payloads of named types; none where a size names what the type binds
-- and opens, which is read where it is opened

-- under what the variables stand for; past the largest integer it counts as the largest
abbrev pub number_in : List Index → Num → Num
number_in is t = unwrap_or (read is t) largest_num

abbrev pub width_in : Region → List Index → Num → Option Indices
width_in (G.Opened depth) is t = if names_bound depth t then None else Some (I.Bits (number_in is t))
width_in (G.Kept names) is t = Some (kept names is (Y.Bits t))

abbrev pub length_in : Region → List Index → Num → Option Indices
length_in (G.Opened depth) is t = if names_bound depth t then None else Some (I.Vector (number_in is t) R.Hole)
length_in (G.Kept names) is t = Some (kept names is (Y.Vector t Y.Unit))

-- the fields or payloads of a named type; what its Type arguments hold is told by these
abbrev pub named_in : Region → List Index → ℕ → List Index → List TypePart
named_in (G.Opened depth) is u js = if nat_eq depth 0 then P.Named (kept [] is (Y.Named u js [])) ∷ [] else []
named_in (G.Kept names) is u js = P.Named (kept names is (Y.Named u js [])) ∷ []

-- in a region, and with what all variables stand for
abbrev pub TypeSizes : Type 0
TypeSizes = Region → List Index → List TypePart

abbrev pub each_sizes : Region → List Index → List TypeSizes → List TypePart
each_sizes region is fs = joined (map (λ f. f region is) fs)

abbrev pub form_sizes : Typ-F TypeSizes → TypeSizes
form_sizes (T.Bits t) region is = P.Number (width_in region is t) ∷ []
form_sizes (T.Vector t f) region is = P.Number (length_in region is t) ∷ f (inward region) is
form_sizes (T.List f) region is = f (inward region) is
form_sizes (T.Tuple fs) region is = each_sizes region is fs
form_sizes (T.Named u js fs) region is = named_in region is u js ++ each_sizes (inward region) is fs
form_sizes (T.Exists name c f) region is = f (under name region) (numbers_under region is)
form_sizes t region is = []

abbrev pub type_sizes : Typ → TypeSizes
type_sizes = fold-Typ TypeSizes form_sizes

-- ---- each at its number, or at the name through which it comes; those of fields and payloads at the type

abbrev pub is_size : Role → Bool
is_size Size.Width = true
is_size Size.Length = true
is_size role = false

abbrev pub size_place : WrittenNumber → List Place
size_place n = if is_size n.role then n.place ∷ [] else []

abbrev pub size_places : List WrittenNumber → List Place
size_places [] = []
size_places (n ∷ ns) = size_place n ++ size_places ns

abbrev pub written_size : Place → Indices → WrittenSize
written_size place i = record { place = place; size = i }

abbrev pub placed_first : List Place → Option Indices → List WrittenSize
placed_first places None = []
placed_first [] (Some i) = []
placed_first (place ∷ places) (Some i) = written_size place i ∷ []

abbrev pub other_places : List Place → List Place
other_places [] = []
other_places (place ∷ places) = places

abbrev pub placed_part : Place → List Place → TypePart → List WrittenSize
placed_part place places (P.Number size) = placed_first places size
placed_part place places (P.Named size) = written_size place size ∷ []

abbrev pub places_behind : List Place → TypePart → List Place
places_behind places (P.Number size) = other_places places
places_behind places (P.Named size) = places

abbrev pub placed_sizes : Place → List Place → List TypePart → List WrittenSize
placed_sizes place places [] = []
placed_sizes place places (p ∷ ps) = placed_part place places p ++ placed_sizes place (places_behind places p) ps

-- the sizes of a written type, where the variables around it stand for these
abbrev pub written_sizes : List Index → Written → List WrittenSize
written_sizes is w = placed_sizes w.place (size_places w.numbers) (type_sizes w.typ (G.Opened 0) is)
