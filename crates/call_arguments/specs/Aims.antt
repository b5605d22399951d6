-- How a wanted type goes into an expression.
use Rattle.std.specs.Prelude.{Bool, List, None, Option, Some, false, map, slice_get, suc, true, zero, ℕ, [], if◌then◌else◌}
use Rattle.sail_types.specs.Zero.{deepest}
use Rattle.sail_types.specs.declared.numbers.Index.{Index}
use Rattle.sail_types.specs.declared.types.Typ.{Typ, Typ-F, out-Typ}
use Rattle.sail_types.specs.declared.types.Typ.TheOpen as T
use Rattle.value_indices.specs.declared.indices.Indices.{Indices, out-Indices}
use Rattle.value_indices.specs.declared.indices.Indices.TheOpen as W
use Rattle.value_indices.specs.declared.indices.Indices.TheOpen.{Indices-F, Reading-F}
use Rattle.value_indices.specs.declared.indices.Reading.{Reading, out-Reading}
use Rattle.value_indices.specs.declared.indices.Reading.TheVariants as R
use Rattle.call_arguments.specs.declared.aims.Aim.{Aim}
use Rattle.call_arguments.specs.declared.aims.Aim.TheVariants as Aims
use Rattle.call_arguments.specs.declared.through.Seen as code
use Rattle.call_arguments.specs.declared.through.Seen.TheVariants as L

abbrev pub is_hole_form : Reading-F Indices Reading → Bool
is_hole_form W.Hole = true
is_hole_form form = false

abbrev pub is_hole : Reading → Bool
is_hole r = is_hole_form (out-Reading r)

-- of no type nothing is wanted
abbrev pub aimed : (Reading → Aim) → Reading → Aim
aimed aim r = if is_hole r then Aims.Free else aim r

-- the last expression of a block, and the body of a `let` or `var`
abbrev pub inner_aim : Aim → Aim
inner_aim (Aims.Given r) = Aims.Due r
inner_aim aim = aim

-- the branches of an `if`, `match` or `try`
abbrev pub branch_aim : Aim → Aim
branch_aim Aims.Free = Aims.Free
branch_aim (Aims.Given r) = Aims.Due r
branch_aim (Aims.PartOf r) = Aims.Due r
branch_aim (Aims.Due r) = Aims.Due r

abbrev pub wanted : Aim → Option Reading
wanted Aims.Free = None
wanted (Aims.Given r) = Some r
wanted (Aims.PartOf r) = Some r
wanted (Aims.Due r) = Some r

-- ---- types, seen through what Type variables stand for

pub data Seen : Type 0 where
  a_type : Typ-F Typ → List Index → List Reading → Seen
  a_widened : Indices-F Indices Reading → Seen
  a_tuple : List Reading → Seen
  nothing : Seen

-- as the code lends it
abbrev pub seen_of : code.Seen → Seen
seen_of (L.Type t is rs) = a_type (out-Typ t.now) is.now rs.now
seen_of (L.Widened i) = a_widened (out-Indices i.now)
seen_of (L.Tuple rs) = a_tuple rs.now
seen_of L.Nothing = nothing

abbrev pub seen_variable : (Reading → Seen) → Option Reading → Seen
seen_variable see None = nothing
seen_variable see (Some r) = see r

abbrev pub seen_typ : (Reading → Seen) → Typ-F Typ → List Index → List Reading → Seen
seen_typ see (T.Variable i) is rs = seen_variable see (slice_get rs i)
seen_typ see t is rs = a_type t is rs

abbrev pub seen_form : (Reading → Seen) → Reading-F Indices Reading → Seen
seen_form see (W.Of t is rs) = seen_typ see (out-Typ t) is rs
seen_form see (W.Widened i) = a_widened (out-Indices i)
seen_form see (W.Parts rs) = a_tuple rs
seen_form see W.Hole = nothing

abbrev pub seen_within : ℕ → Reading → Seen
seen_within zero r = nothing
seen_within (suc depth) r = seen_form (seen_within depth) (out-Reading r)

-- the types inside through so many
abbrev pub seen_reading : ℕ → Reading → Seen
seen_reading depth r = seen_form (seen_within depth) (out-Reading r)

abbrev pub seen : Reading → Seen
seen r = seen_within deepest r

-- types under what their variables stand for
abbrev pub each_under : List Index → List Reading → List Typ → List Reading
each_under is rs ts = map (λ t. R.Of t is rs) ts

abbrev pub each_widened : List Indices → List Reading
each_widened is = map (λ i. R.Widened i) is

-- the types of the parts of a wanted tuple
abbrev pub part_types : Seen → List Reading
part_types (a_type (T.Tuple ts) is rs) = each_under is rs ts
part_types (a_widened (W.Tuple is)) = each_widened is
part_types (a_tuple rs) = rs
part_types seen = []

-- the type of the items of a wanted vector or list; a hole where none is known
abbrev pub item_type : Seen → Reading
item_type (a_type (T.List t) is rs) = R.Of t is rs
item_type (a_type (T.Vector n t) is rs) = R.Of t is rs
item_type (a_widened (W.List r)) = r
item_type (a_widened (W.Vector n r)) = r
item_type seen = R.Hole

-- the Type arguments of a wanted named type
abbrev pub type_arguments : Seen → Option (List Reading)
type_arguments (a_type (T.Named u arguments ts) is rs) = Some (each_under is rs ts)
type_arguments (a_widened (W.Named u is rs)) = Some rs
type_arguments seen = None

abbrev pub of_wanted : {A : Type 0} → A → (Seen → A) → Option Reading → A
of_wanted none of None = none
of_wanted none of (Some r) = of (seen r)
