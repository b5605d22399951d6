-- Which names are taken already (M09): each name means one thing in its space.
use Rattle.std.specs.Prelude.{ℕ, Bool, true, false, ◌&&◌, ◌||◌, not, if◌then◌else◌, List, [], ◌∷◌, ◌++◌, map, filter, codes, is_some}
use Rattle.std.specs.List.{list_any, list_all}
use Rattle.std.specs.Str.{bytes_eq}
use Rattle.sail_types.specs.Rows.{row_named}
use Rattle.sail_kinds.specs.declared.error.TableError.{TableError}
use Rattle.sail_kinds.specs.declared.error.TableError.TheVariants as error
use Rattle.sail_globals.specs.declared.naming.Space.{Space}
use Rattle.sail_globals.specs.declared.naming.Space.TheVariants.{Types, Values, Measures}
use Rattle.sail_globals.specs.declared.naming.Called.{Called}
use Rattle.sail_globals.specs.declared.naming.Called.TheVariants.{Function, Mapping, Direction}
use Rattle.sail_globals.specs.declared.naming.Role.{Role}
use Rattle.sail_globals.specs.declared.naming.Role.TheVariants.{Declared, Defined, Overloaded}
use Rattle.sail_globals.specs.declared.naming.Naming.{Naming}

-- the names of builtin types, and `option`
abbrev pub builtin_types : List (List ℕ)
builtin_types =
    codes "unit" ∷ codes "bool" ∷ codes "bit" ∷ codes "bits" ∷ codes "bitvector" ∷ codes "int" ∷ codes "nat" ∷ codes "range" ∷
    codes "string" ∷ codes "list" ∷ codes "vector" ∷ codes "option" ∷ []

-- the constructors of `option`
abbrev pub builtin_constructors : List (List ℕ)
builtin_constructors = codes "Some" ∷ codes "None" ∷ []

abbrev pub has : List (List ℕ) → List ℕ → Bool
has names name = list_any (λ one. bytes_eq one name) names

-- whether a name is taken before a text begins
abbrev pub is_builtin : Space → List ℕ → Bool
is_builtin Types name = has builtin_types name
is_builtin Values name = is_some (row_named name) || has builtin_constructors name
is_builtin Measures name = false

abbrev pub is_same_space : Space → Space → Bool
is_same_space Types Types = true
is_same_space Values Values = true
is_same_space Measures Measures = true
is_same_space one other = false

abbrev pub is_same_called : Called → Called → Bool
is_same_called Function Function = true
is_same_called Mapping Mapping = true
is_same_called Direction Direction = true
is_same_called one other = false

-- whether this takes a name of a space
abbrev pub takes : Space → List ℕ → Naming → Bool
takes space name naming = is_same_space naming.space space && bytes_eq naming.name name

-- whether two are the halves of one definition: its `val` and its body, or two overloads
abbrev pub is_other_half : Role → Role → Bool
is_other_half (Declared one) (Defined other) = is_same_called one other
is_other_half (Defined one) (Declared other) = is_same_called one other
is_other_half Overloaded Overloaded = true
is_other_half one other = false

abbrev pub is_overloaded : Role → Bool
is_overloaded Overloaded = true
is_overloaded role = false

-- whether a name that earlier definitions have taken in these roles may be taken in one more: there is none, or it is
-- the other half of this, or all of them are overloads
abbrev pub is_free : List Role → Role → Bool
is_free [] role = true
is_free (one ∷ []) role = is_other_half one role
is_free roles role = list_all is_overloaded roles && is_overloaded role

-- the roles in which these take a name of a space
abbrev pub taken : List Naming → Space → List ℕ → List Role
taken earlier space name = map (λ one. one.role) (filter (takes space name) earlier)

-- the failure of a name where these are taken earlier
abbrev pub clash : List Naming → Naming → List TableError
clash earlier naming =
    if is_builtin naming.space naming.name || not (is_free (taken earlier naming.space naming.name) naming.role)
    then error.Clash naming.place naming.name ∷ [] else []

-- the failures of names behind these
abbrev pub clashes_behind : List Naming → List Naming → List TableError
clashes_behind earlier [] = []
clashes_behind earlier (naming ∷ rest) = clash earlier naming ++ clashes_behind (earlier ++ naming ∷ []) rest

-- the names that are taken already
abbrev pub clashes : List Naming → List TableError
clashes namings = clashes_behind [] namings
