-- The types of the language, each as a named type: its parameters and what it stands for (Sail language manual, "Types").
use Rattle.std.specs.Prelude.{ℕ, pos, neg_ℤ, codes, bytes_eq, if◌then◌else◌, List, [], ◌∷◌, Option, Some, None}
use Rattle.sail_base.specs.declared.kind.Kind.{Kind}
use Rattle.sail_base.specs.declared.kind.Kind.TheVariants as K
use Rattle.sail_types.specs.Limits.{largest}
use Rattle.sail_types.specs.Sums.{constant, variable, zero_num}
use Rattle.sail_types.specs.declared.numbers.Con.TheVariants as C
use Rattle.sail_types.specs.declared.types.Typ.{Typ}
use Rattle.sail_types.specs.declared.types.Typ.TheVariants as T
use Rattle.type_arguments.specs.declared.normal.Normal.TheVariants as N
use Rattle.sail_kinds.specs.declared.scope.NamedType.{NamedType}
use Rattle.sail_kinds.specs.declared.scope.Meaning.TheVariants as M

-- the integers of a model, and those from 0 on
abbrev pub int : Typ
int = T.Range (constant (neg_ℤ (pos largest))) (constant (pos largest))

abbrev pub nat : Typ
nat = T.Range zero_num (constant (pos largest))

-- a type under parameters of these kinds
abbrev pub of_kinds : List Kind → Typ → NamedType
of_kinds kinds t = record { parameters = kinds; meaning = M.Alias (N.Typ t) }

-- a name and what it stands for
abbrev pub Row : Type 0 → Type 0
Row A = List ℕ × A

-- what a name stands for in such a table
abbrev pub look_up : {A : Type 0} → List ℕ → List (Row A) → Option A
look_up name [] = None
look_up name (row ∷ rows) = if bytes_eq name row.0 then Some row.1 else look_up name rows

abbrev pub rows : List (Row NamedType)
rows =
    (codes "unit", of_kinds [] T.Unit)
    ∷ (codes "bool", of_kinds (K.Bool ∷ []) (T.Truth (C.Holds 0)))
    ∷ (codes "bit", of_kinds [] T.Bit)
    ∷ (codes "bits", of_kinds (K.Int ∷ []) (T.Bits (variable 0)))
    ∷ (codes "bitvector", of_kinds (K.Int ∷ []) (T.Bits (variable 0)))
    ∷ (codes "int", of_kinds (K.Int ∷ []) (T.Int (variable 0)))
    ∷ (codes "nat", of_kinds [] nat)
    ∷ (codes "range", of_kinds (K.Int ∷ K.Int ∷ []) (T.Range (variable 0) (variable 1)))
    ∷ (codes "string", of_kinds [] T.String)
    ∷ (codes "list", of_kinds (K.Type ∷ []) (T.List (T.Variable 0)))
    ∷ (codes "vector", of_kinds (K.Int ∷ K.Type ∷ []) (T.Vector (variable 0) (T.Variable 0)))
    ∷ []

-- the type of the language of this name
abbrev pub builtin : List ℕ → Option NamedType
builtin name = look_up name rows

-- what `bool` and `int` stand for where they have no argument
abbrev pub alone : List ℕ → Option Typ
alone name = look_up name ((codes "bool", T.Bool) ∷ (codes "int", int) ∷ [])
