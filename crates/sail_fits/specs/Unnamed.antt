-- A type without the names of what it binds, which are for printing alone.
use Rattle.std.specs.Prelude.{[]}
use Rattle.sail_types.specs.declared.types.Typ.{Typ, Typ-F, fold-Typ, roll-Typ}
use Rattle.sail_types.specs.declared.types.Typ.TheOpen as T
use Rattle.sail_types.specs.declared.types.Typ.TheVariants as V

abbrev pub form_unnamed : Typ-F Typ → Typ
form_unnamed (T.Exists name c t) = V.Exists [] c t
form_unnamed t = roll-Typ t

-- a type without those names
abbrev pub unnamed : Typ → Typ
unnamed = fold-Typ Typ form_unnamed
