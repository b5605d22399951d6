-- Registers whose types have, in the fields of their structs, a range that is empty or a width that is negative (Sail language
-- manual, "Registers", "User-defined types").
use Rattle.std.specs.Prelude.{ℕ, zero, suc, Bool, true, false, ◌||◌, if◌then◌else◌, List, [], ◌∷◌, slice_get, Option, Some, None}
use Rattle.std.specs.List.{list_any}
use Rattle.sail_syntax.specs.declared.types.TyExp.{TyExp}
use Rattle.sail_syntax.specs.Places.{type_place}
use Rattle.sail_types.specs.Zero.{deepest}
use Rattle.sail_types.specs.declared.numbers.Index.{Index}
use Rattle.sail_types.specs.declared.table.Definition.{Definition}
use Rattle.sail_types.specs.declared.table.Field.{Field}
use Rattle.sail_types.specs.declared.table.Form.{Form}
use Rattle.sail_types.specs.declared.table.Form.TheVariants as F
use Rattle.sail_types.specs.declared.types.Typ.{Typ, Typ-F, out-Typ}
use Rattle.sail_types.specs.declared.types.Typ.TheOpen as T
use Rattle.type_arguments.specs.Applied.{applied_typ}
use Rattle.type_arguments.specs.Ranges.{is_void}
use Rattle.sail_kinds.specs.declared.error.TableError.{TableError}
use Rattle.sail_kinds.specs.declared.error.TableError.TheVariants as error

-- whether such a range or width stands in the fields of the structs in a type
abbrev pub Voids : Type 0
Voids = Typ → Bool

-- a field at its arguments; a number past the largest integer on the way is one too
abbrev pub field_voids : Voids → Option Typ → Bool
field_voids voids None = true
field_voids voids (Some typ) = is_void typ || voids typ

abbrev pub fields_void : Voids → List Index → List Typ → List Field → Bool
fields_void voids indices types fields = list_any (λ field. field_voids voids (applied_typ indices types field.typ)) fields

abbrev pub struct_voids : Voids → List Index → List Typ → Form → Bool
struct_voids voids indices types (F.Struct fields) = fields_void voids indices types fields
struct_voids voids indices types form = false

abbrev pub definition_voids : Voids → List Index → List Typ → Option Definition → Bool
definition_voids voids indices types None = false
definition_voids voids indices types (Some definition) = struct_voids voids indices types definition.form

abbrev pub form_voids : Voids → List Definition → Typ-F Typ → Bool
form_voids voids table (T.List typ) = voids typ
form_voids voids table (T.Vector length typ) = voids typ
form_voids voids table (T.Tuple types) = list_any voids types
form_voids voids table (T.Exists name constraint typ) = voids typ
form_voids voids table (T.Named place indices types) = list_any voids types || definition_voids voids indices types (slice_get table place)
form_voids voids table form = false

-- through types inside types to this depth
abbrev pub voids_within : List Definition → ℕ → Typ → Bool
voids_within table zero typ = false
voids_within table (suc depth) typ = form_voids (voids_within table depth) table (out-Typ typ)

abbrev pub has_void : List Definition → Typ → Bool
has_void table typ = voids_within table deepest typ

-- the failure of a register's type (M11 at that type)
abbrev pub register_void : List Definition → TyExp → Option Typ → List TableError
register_void table text None = []
register_void table text (Some typ) = if has_void table typ then error.IllKinded (type_place text) None ∷ [] else []
