-- What is asked of the table of named types: fields and payloads name no Type variables but those of their own definition, and no tuple among payloads
-- has one part.
use Rattle.std.specs.List.{list_all}
use Rattle.std.specs.Prelude.{◌≡◌, ℕ, nat_eq, Bool, true, not, ◌&&◌, length}
use Rattle.sail_types.specs.declared.table.Definition.{Definition}
use Rattle.sail_types.specs.declared.table.Form.{Form}
use Rattle.sail_types.specs.declared.table.Form.TheVariants as F
use Rattle.sail_types.specs.declared.table.Types.{Types}
use Rattle.sail_types.specs.declared.types.Typ.{Typ, Typ-F, out-Typ}
use Rattle.sail_types.specs.declared.types.Typ.TheOpen as T
use Rattle.call_arguments.specs.Callees.{type_parameters}
use Rattle.soundness_values.specs.Narrow.{is_narrow}

-- a type that is no tuple of one part
abbrev pub is_apart : Typ-F Typ → Bool
is_apart (T.Tuple ts) = not (nat_eq 1 (length ts))
is_apart t = true

abbrev pub payload_stands : ℕ → Typ → Bool
payload_stands count t = is_narrow count t && is_apart (out-Typ t)

-- a struct or a union with so many Type variables
abbrev pub form_stands : ℕ → Form → Bool
form_stands count (F.Struct fs) = list_all (λ f. is_narrow count f.typ) fs
form_stands count (F.Union fs) = list_all (λ f. payload_stands count f.typ) fs
form_stands count form = true

abbrev pub definition_stands : Definition → Bool
definition_stands d = form_stands (type_parameters d.parameters) d.form

abbrev pub table_narrow : Types → Bool
table_narrow types = list_all definition_stands types.definitions

abbrev pub TypesNarrow : Types → Type 0
TypesNarrow types = table_narrow types ≡ true
