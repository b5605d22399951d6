-- What stands in the table of named types.
use Rattle.std.specs.Prelude.{ℕ, List, [], map, slice_get, Option, Some, None}
use Rattle.sail_types.specs.declared.table.Types.{Types}
use Rattle.sail_types.specs.declared.table.Definition.{Definition}
use Rattle.sail_types.specs.declared.table.Field.{Field}
use Rattle.sail_types.specs.declared.table.Form.{Form}
use Rattle.sail_types.specs.declared.table.Form.TheVariants as F
use Rattle.sail_types.specs.declared.types.Typ.{Typ}

abbrev pub form_fields : Form → Option (List Field)
form_fields (F.Struct fields) = Some fields
form_fields form = None

abbrev pub form_constructors : Form → List Field
form_constructors (F.Union constructors) = constructors
form_constructors form = []

abbrev pub form_members : Form → List (List ℕ)
form_members (F.Enum members) = members
form_members form = []

abbrev pub in_form : {A : Type 0} → A → (Form → A) → Option Definition → A
in_form none of None = none
in_form none of (Some definition) = of definition.form

-- the fields of a struct; none where no struct has this place in the table
abbrev pub fields : Types → ℕ → Option (List Field)
fields types i = in_form None form_fields (slice_get types.definitions i)

-- the constructors of a union, none of another form
abbrev pub constructors : Types → ℕ → List Field
constructors types i = in_form [] form_constructors (slice_get types.definitions i)

-- the members of an enum, none of another form
abbrev pub members : Types → ℕ → List (List ℕ)
members types i = in_form [] form_members (slice_get types.definitions i)

abbrev pub field_types : List Field → List Typ
field_types fs = map (λ f. f.typ) fs

abbrev pub typ_of : Option Field → Option Typ
typ_of None = None
typ_of (Some field) = Some field.typ

-- the payload of a constructor
abbrev pub payload : Types → ℕ → ℕ → Option Typ
payload types i k = typ_of (slice_get (constructors types i) k)
