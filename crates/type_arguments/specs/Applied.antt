-- Numbers, constraints and types with arguments in the place of their variables, as where a named type is applied (Sail language
-- manual, "Type synonyms" and "User-defined types"). Int and Bool variables are counted together from the innermost binder on,
-- Type variables by their positions. There is none where a number past the largest integer stands on the way.
use Rattle.std.specs.Prelude.{ℕ, List, ◌∷◌, map, slice_get, Option, Some, None, option_map}
use Rattle.sail_types.specs.Sums.{and_then, variable, read}
use Rattle.sail_types.specs.Readings.{together, read_con, read_indices}
use Rattle.sail_types.specs.declared.numbers.Index.{Index}
use Rattle.sail_types.specs.declared.numbers.Index.TheVariants as I
use Rattle.sail_types.specs.declared.types.Typ.{Typ, Typ-F, fold-Typ}
use Rattle.sail_types.specs.declared.types.Typ.TheOpen as T
use Rattle.sail_types.specs.declared.types.Typ.TheVariants as W
use Rattle.type_arguments.specs.Moved.{moved_indices, moved_types}
use Rattle.type_arguments.specs.declared.normal.Normal.{Normal}
use Rattle.type_arguments.specs.declared.normal.Normal.TheVariants as N

-- ---- inside an existential type

-- variable 0 is what it binds, and stays; each argument is read one binder further in
abbrev pub inside_indices : List Index → Option (List Index)
inside_indices is = option_map (λ moved. I.Number (variable 0) ∷ moved) (moved_indices 0 is)

abbrev pub inside_types : List Typ → Option (List Typ)
inside_types = moved_types 0

-- ---- types

abbrev pub typ_or_unit : Option Typ → Typ
typ_or_unit None = W.Unit
typ_or_unit (Some t) = t

-- what a Type variable stands for; `unit` where there is no argument for it
abbrev pub typ_at : List Typ → ℕ → Typ
typ_at ts i = typ_or_unit (slice_get ts i)

-- a type under arguments in the place of its variables
abbrev pub AtArguments : Type 0
AtArguments = List Index → List Typ → Option Typ

abbrev pub each_applied : List AtArguments → List Index → List Typ → Option (List Typ)
each_applied parts is ts = together (map (λ part. part is ts) parts)

abbrev pub form_applied : Typ-F AtArguments → AtArguments
form_applied T.Unit is ts = Some W.Unit
form_applied T.Bool is ts = Some W.Bool
form_applied (T.Truth c) is ts = option_map W.Truth (read_con is c)
form_applied T.Bit is ts = Some W.Bit
form_applied (T.Bits n) is ts = option_map W.Bits (read is n)
form_applied (T.Int n) is ts = option_map W.Int (read is n)
form_applied (T.Range low high) is ts = and_then (read is low) (λ m. option_map (W.Range m) (read is high))
form_applied T.String is ts = Some W.String
form_applied (T.List part) is ts = option_map W.List (part is ts)
form_applied (T.Vector n part) is ts = and_then (read is n) (λ m. option_map (W.Vector m) (part is ts))
form_applied (T.Tuple parts) is ts = option_map W.Tuple (each_applied parts is ts)
form_applied (T.Named i indices parts) is ts = and_then (read_indices is indices) (λ js. option_map (W.Named i js) (each_applied parts is ts))
form_applied (T.Variable i) is ts = Some (typ_at ts i)
form_applied (T.Exists name c part) is ts = and_then (inside_indices is) (λ js. and_then (inside_types ts) (λ us.
    and_then (read_con js c) (λ d. option_map (W.Exists name d) (part js us))))

-- a type with arguments in the place of its variables
abbrev pub applied_typ : List Index → List Typ → Typ → Option Typ
applied_typ is ts t = fold-Typ AtArguments form_applied t is ts

abbrev pub applied_types : List Index → List Typ → List Typ → Option (List Typ)
applied_types is ts parts = together (map (applied_typ is ts) parts)

-- ---- what a named type stands for

-- the right side of a named type, with arguments in the place of its parameters
abbrev pub applied : List Index → List Typ → Normal → Option Normal
applied is ts (N.Number n) = option_map N.Number (read is n)
applied is ts (N.Constraint c) = option_map N.Constraint (read_con is c)
applied is ts (N.Typ t) = option_map N.Typ (applied_typ is ts t)
