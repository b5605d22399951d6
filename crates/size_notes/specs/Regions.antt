-- Where a part of a written type stands: in what is opened where the type is, or in a list, a vector or a named type, whose values are opened
-- when they are taken out (Sail language manual, "Type annotations").
use Rattle.std.specs.Prelude.{ℕ, suc, nat_eq, true, List, [], ◌∷◌, if◌then◌else◌}
use Rattle.sail_types.specs.declared.numbers.Con.TheVariants as C
use Rattle.sail_types.specs.declared.numbers.Index.{Index}
use Rattle.sail_types.specs.declared.numbers.Index.TheVariants as N
use Rattle.sail_types.specs.declared.types.Typ.{Typ}
use Rattle.sail_types.specs.declared.types.Typ.TheVariants as Y
use Rattle.value_indices.specs.declared.indices.Indices.{Indices}
use Rattle.value_indices.specs.declared.indices.Indices.TheVariants as I
use Rattle.value_indices.specs.declared.indices.Reading.TheVariants as R
use Rattle.value_indices.specs.Opening.{zero_num}
use Rattle.size_notes.specs.declared.regions.Region.{Region}
use Rattle.size_notes.specs.declared.regions.Region.TheVariants as G

-- in a list, a vector or a named type; what stands under a variable that is opened is read with it
abbrev pub inward : Region → Region
inward (G.Opened depth) = if nat_eq depth 0 then G.Kept [] else G.Opened depth
inward (G.Kept names) = G.Kept names

-- under a variable of this name that the type binds
abbrev pub under : List ℕ → Region → Region
under name (G.Opened depth) = G.Opened (suc depth)
under name (G.Kept names) = G.Kept (name ∷ names)

-- what is opened stands for nothing
abbrev pub inside : List Index → List Index
inside is = N.Number zero_num ∷ is

abbrev pub numbers_under : Region → List Index → List Index
numbers_under (G.Opened depth) is = inside is
numbers_under (G.Kept names) is = is

-- under variables of these names, the innermost first
abbrev pub bound_by : List (List ℕ) → Typ → Typ
bound_by [] t = t
bound_by (name ∷ names) t = bound_by names (Y.Exists name (C.Truth true) t)

-- what has the sizes of a type that isn't opened
abbrev pub kept : List (List ℕ) → List Index → Typ → Indices
kept names is t = I.List (R.Of (bound_by names t) is [])
