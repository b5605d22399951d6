-- What a name of a value means: the roles in which the definitions of a text take it.
use Rattle.std.specs.Prelude.{◌≡◌, ℕ, Bool, true, false, ◌||◌, List, [], ◌∷◌, bytes_eq, Option, Some, None, unwrap_or}
use Rattle.std.specs.Borrow.{Bor}
use Rattle.std.specs.HashMap.{HashMap, get_by}
use Rattle.std.specs.List.{list_any}
use Rattle.std.specs.Option.{option_or}
use Rattle.sail_globals.specs.declared.naming.Space.TheVariants.{Values}
use Rattle.sail_globals.specs.declared.naming.Called.{Called}
use Rattle.sail_globals.specs.declared.naming.Called.TheVariants.{Function, Mapping, Direction}
use Rattle.sail_globals.specs.declared.naming.Alone.TheVariants as is
use Rattle.sail_globals.specs.declared.naming.Role.{Role}
use Rattle.sail_globals.specs.declared.naming.Role.TheVariants.{Declared, Defined, Whole}
use Rattle.sail_globals.specs.declared.naming.Naming.{Naming}
use Rattle.sail_globals.specs.declared.globals.Roles.{Roles}
use Rattle.sail_globals.specs.declared.globals.Globals.{Globals}
use Rattle.sail_globals.specs.Clashes.{is_same_called, taken}

-- the first of some roles
abbrev pub first_role : List Role → Option Role
first_role [] = None
first_role (role ∷ roles) = Some role

-- a `val` of a function, of a mapping or of a direction of one
abbrev pub is_val : Called → Role → Bool
is_val called (Declared other) = is_same_called called other
is_val called role = false

-- a body of one, with types of its own or without
abbrev pub is_body : Called → Role → Bool
is_body Mapping (Whole is.Mapping) = true
is_body Direction (Whole is.Direction) = true
is_body called (Defined other) = is_same_called called other
is_body called role = false

-- what a name means: of definitions that take one name the first
abbrev pub meaning : List Naming → List ℕ → Option Role
meaning namings name = first_role (taken namings Values name)

-- whether there is a `val` of this name
abbrev pub has_val : List Naming → Called → List ℕ → Bool
has_val namings called name = list_any (is_val called) (taken namings Values name)

-- whether there is a body of this name
abbrev pub has_body : List Naming → Called → List ℕ → Bool
has_body namings called name = list_any (is_body called) (taken namings Values name)

-- ---- what a map holds of each name

abbrev pub roles_of : List Role → Roles
roles_of roles = record {
  first = first_role roles;
  function_val = list_any (is_val Function) roles;
  function_body = list_any (is_body Function) roles;
  mapping_val = list_any (is_val Mapping) roles;
  mapping_body = list_any (is_body Mapping) roles;
}

abbrev pub roles_with : Roles → Role → Roles
roles_with roles role = record {
  first = option_or roles.first (Some role);
  function_val = roles.function_val || is_val Function role;
  function_body = roles.function_body || is_body Function role;
  mapping_val = roles.mapping_val || is_val Mapping role;
  mapping_body = roles.mapping_body || is_body Mapping role;
}

abbrev pub roles_at : {S : Type 0} → HashMap (Bor (List ℕ)) Roles S → List ℕ → Roles
roles_at names name = unwrap_or (get_by (λ key. bytes_eq name key.now) names) (roles_of [])

-- a map, read by name, holds the roles in which these take each name of a value
abbrev pub AreRoles : List Naming → (List ℕ → Roles) → Type 0
AreRoles earlier names = (name : List ℕ) → names name ≡ roles_of (taken earlier Values name)

-- the names that definitions take, found by name
abbrev pub AreOf : List Naming → Globals → Type 0
AreOf namings globals = AreRoles namings (roles_at globals.names)
