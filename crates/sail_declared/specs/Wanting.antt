-- Definitions that lack a part: a `val` without a body, a body without types, a measure without its function, and
-- overloads with members that can't be (M10); and parameters of the union `exception` (M11).
use Rattle.std.specs.Prelude.{ℕ, Bool, true, false, ◌&&◌, ◌||◌, if◌then◌else◌, List, [], ◌∷◌, ◌++◌, bytes_eq, codes, Option, Some, None, is_some}
use Rattle.std.specs.List.{list_all}
use Rattle.sail_base.specs.declared.place.Place.{Place}
use Rattle.sail_syntax.specs.declared.name.Name.{Name}
use Rattle.sail_syntax.specs.declared.definitions.Param.{Param}
use Rattle.sail_syntax.specs.declared.words.Arrow.{Arrow}
use Rattle.sail_syntax.specs.declared.words.Arrow.TheVariants as A
use Rattle.sail_syntax.specs.declared.words.Extent.{Extent}
use Rattle.sail_syntax.specs.declared.words.Extent.TheVariants as E
use Rattle.sail_syntax.specs.declared.patterns.Pat.{Pat, out-Pat}
use Rattle.sail_syntax.specs.declared.patterns.Pat.TheOpen as P
use Rattle.sail_syntax.specs.declared.patterns.Pat.TheOpen.{Pat-F}
use Rattle.sail_syntax.specs.declared.patterns.Joined.{Joined}
use Rattle.sail_syntax.specs.declared.definitions.FunctionClause.{FunctionClause}
use Rattle.sail_syntax.specs.declared.definitions.Def.{Def}
use Rattle.sail_syntax.specs.declared.definitions.Def.TheVariants as D
use Rattle.sail_kinds.specs.declared.error.TableError.{TableError}
use Rattle.sail_kinds.specs.declared.error.TableError.TheVariants as error
use Rattle.sail_globals.specs.declared.naming.Space.TheVariants.{Values}
use Rattle.sail_globals.specs.declared.naming.Called.{Called}
use Rattle.sail_globals.specs.declared.naming.Called.TheVariants.{Function, Mapping, Direction}
use Rattle.sail_globals.specs.declared.naming.Alone.TheVariants as is
use Rattle.sail_globals.specs.declared.naming.Role.{Role}
use Rattle.sail_globals.specs.declared.naming.Role.TheVariants.{Declared, Defined, Whole}
use Rattle.sail_globals.specs.declared.naming.Naming.{Naming}
use Rattle.sail_globals.specs.Clashes.{is_builtin}
use Rattle.sail_globals.specs.Globals.{meaning, has_val, has_body}

-- what a `val` declares
abbrev pub declared : Arrow → Called
declared A.Function = Function
declared A.Mapping = Mapping

-- whether the layer of a pattern is an annotation
abbrev pub form_annotated : Pat-F Pat Joined → Bool
form_annotated (P.Typed place part typ) = true
form_annotated form = false

-- whether a parameter has its type
abbrev pub is_annotated : Pat → Bool
is_annotated pattern = form_annotated (out-Pat pattern)

-- whether a clause has all types of its function: each parameter's and the result's
abbrev pub is_typed_clause : FunctionClause → Bool
is_typed_clause clause = is_some clause.result && list_all is_annotated clause.parameters

-- whether a function's body has its types; the clauses of a gathered one have none
abbrev pub is_typed : Extent → List FunctionClause → Bool
is_typed E.Whole clauses = list_all is_typed_clause clauses
is_typed E.Gathered clauses = false

-- whether a role is that of what an overload may have as a member: a function, a direction of a mapping, a constructor
abbrev pub is_addable : Option Role → Bool
is_addable (Some (Declared Function)) = true
is_addable (Some (Declared Direction)) = true
is_addable (Some (Defined Function)) = true
is_addable (Some (Defined Direction)) = true
is_addable (Some (Whole is.Direction)) = true
is_addable (Some (Whole is.Constructor)) = true
is_addable role = false

-- the failure of a member of an overload: it names no builtin and nothing that an overload may have
abbrev pub member_failures : List Naming → Name → List TableError
member_failures namings name =
    if is_builtin Values name.text || is_addable (meaning namings name.text) then [] else error.NoName name.place name.text ∷ []

-- the failures of members, in text order
abbrev pub members_failures : List Naming → List Name → List TableError
members_failures namings [] = []
members_failures namings (name ∷ names) = member_failures namings name ++ members_failures namings names

-- the union `exception` has no parameters
abbrev pub union_failures : Place → List ℕ → List Param → List TableError
union_failures place name [] = []
union_failures place name (variable ∷ variables) = if bytes_eq name (codes "exception") then error.IllKinded place None ∷ [] else []

-- the failures of a definition that lacks a part, among definitions that take these names
abbrev pub wanting : List Naming → Def → List TableError
wanting namings (D.Val place name quantifier from arrow to) =
    if has_body namings (declared arrow) name.text then [] else error.NoName place name.text ∷ []
wanting namings (D.Function place extent name clauses) =
    if has_val namings Function name.text || is_typed extent clauses then [] else error.NoName place name.text ∷ []
wanting namings (D.Mapping place name sides clauses) =
    if has_val namings Mapping name.text || is_some sides then [] else error.NoName place name.text ∷ []
wanting namings (D.Measure place name parameters value) =
    if has_val namings Function name.text || has_body namings Function name.text then [] else error.NoName name.place name.text ∷ []
wanting namings (D.Overload place overloaded members) = members_failures namings members
wanting namings (D.Union place name variables constructors) = union_failures place name.text variables
wanting namings d = []

-- the failures of all definitions of a text that lack a part
abbrev pub all_wanting : List Naming → List Def → List TableError
all_wanting namings [] = []
all_wanting namings (d ∷ text) = wanting namings d ++ all_wanting namings text
