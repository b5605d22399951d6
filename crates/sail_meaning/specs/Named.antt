-- Names in the table of types: members of enums, constructors of unions, fields of structs (Sail language manual, "Enums", "Unions",
-- "Structs").
use Rattle.std.specs.Prelude.{ℕ, suc, nat_eq, Bool, true, false, ◌&&◌, bytes_eq, if◌then◌else◌}
use Rattle.std.specs.Prelude.{List, [], ◌∷◌, map, length, Option, Some, None, option_map}
use Rattle.std.specs.List.{position, list_all, list_any}
use Rattle.std.specs.Option.{option_map_or}
use Rattle.sail_types.specs.Named.{fields, form_fields, form_constructors, form_members}
use Rattle.sail_types.specs.Readings.{together}
use Rattle.sail_types.specs.Sums.{and_then}
use Rattle.sail_types.specs.declared.table.Definition.{Definition}
use Rattle.sail_types.specs.declared.table.Field.{Field}
use Rattle.sail_types.specs.declared.table.Types.{Types}
use Rattle.sail_types.specs.declared.values.Value.{Value}
use Rattle.sail_types.specs.declared.values.Value.TheVariants as V

-- a place in the table of types, and a place in the definition there
abbrev pub Inside : Type 0
Inside = ℕ × ℕ

abbrev pub here_or : ℕ → Option ℕ → Option Inside → Option Inside
here_or place None later = later
here_or place (Some inside) later = Some (place, inside)

-- where something stands that one of these definitions has, the first of which has this place
abbrev pub standing : (Definition → Option ℕ) → ℕ → List Definition → Option Inside
standing has place [] = None
standing has place (d ∷ ds) = here_or place (has d) (standing has (suc place) ds)

-- ---- members and constructors

abbrev pub member_in : List ℕ → Definition → Option ℕ
member_in name d = position (bytes_eq name) (form_members d.form)

-- the member of an enum with this name
abbrev pub member_named : Types → List ℕ → Option Value
member_named types name = option_map (λ at. V.Member at.0 at.1) (standing (member_in name) 0 types.definitions)

abbrev pub constructor_in : List ℕ → Definition → Option ℕ
constructor_in name d = position (λ c. bytes_eq c.name name) (form_constructors d.form)

-- the constructor with this name: its union, and which one of it
abbrev pub constructor_named : Types → List ℕ → Option Inside
constructor_named types name = standing (constructor_in name) 0 types.definitions

-- ---- fields

-- the place of a field in a struct
abbrev pub field_place : Types → ℕ → List ℕ → Option ℕ
field_place types struct name = and_then (fields types struct) (position (λ f. bytes_eq f.name name))

-- the places of several
abbrev pub field_places : Types → ℕ → List (List ℕ) → Option (List ℕ)
field_places types struct names = together (map (field_place types struct) names)

abbrev pub is_one_of : List Field → List ℕ → Bool
is_one_of fs name = list_any (λ f. bytes_eq f.name name) fs

-- whether these names, of which no two are equal, are those of all fields
abbrev pub are_all : List (List ℕ) → List Field → Bool
are_all names fs = nat_eq (length names) (length fs) && list_all (is_one_of fs) names

-- the name that is written, or any where none is
abbrev pub is_called : Option (List ℕ) → List ℕ → Bool
is_called None own = true
is_called (Some name) own = bytes_eq name own

-- whether a definition is a struct of this name with exactly these fields
abbrev pub is_struct_with : Option (List ℕ) → List (List ℕ) → Definition → Bool
is_struct_with name names d = option_map_or (are_all names) (form_fields d.form) false && is_called name d.name

abbrev pub places_where : (Definition → Bool) → ℕ → List Definition → List ℕ
places_where test place [] = []
places_where test place (d ∷ ds) = if test d then place ∷ places_where test (suc place) ds else places_where test (suc place) ds

abbrev pub only_one : List ℕ → Option ℕ
only_one (place ∷ []) = Some place
only_one places = None

-- the one struct with exactly these fields, and with the name where one is written
abbrev pub struct_with : Types → Option (List ℕ) → List (List ℕ) → Option ℕ
struct_with types name names = only_one (places_where (is_struct_with name names) 0 types.definitions)
