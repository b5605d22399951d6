-- What a pattern binds, and the failures of the names in it (Sail language manual, "Pattern matching", "Mappings").
use Rattle.std.specs.Prelude.{Bool, true, false, List, [], ◌∷◌, ◌++◌, map, is_some, None, if◌then◌else◌}
use Rattle.std.specs.Option.{option_to_list}
use Rattle.sail_base.specs.declared.kind.Kind.{Kind}
use Rattle.sail_base.specs.declared.kind.Kind.TheVariants as K
use Rattle.sail_kinds.specs.declared.error.TableError.{TableError}
use Rattle.sail_kinds.specs.declared.error.TableError.TheVariants as error
use Rattle.sail_kinds.specs.Failures.{first_failure}
use Rattle.sail_kinds.specs.Normal.{reading_as}
use Rattle.sail_syntax.specs.declared.name.Name.{Name}
use Rattle.sail_syntax.specs.declared.types.TyExp.{TyExp}
use Rattle.sail_syntax.specs.declared.patterns.Pat.{Pat}
use Rattle.sail_syntax.specs.declared.patterns.Joined.{Joined}
use Rattle.sail_syntax.specs.declared.patterns.Pat.TheOpen as P
use Rattle.sail_syntax.specs.declared.patterns.Pat.TheOpen.{Pat-F, Joined-F}
use Rattle.sail_syntax.specs.declared.patterns.Pat.TheFolds.{fold-Pat, fold-Joined}
use Rattle.sail_names.specs.Known.{Known, Setting, is_member, is_construction}
use Rattle.sail_names.specs.Locals.{Locals, binding_of, constant}

-- lists, one behind the other
abbrev pub joined : {A : Type 0} → List (List A) → List A
joined [] = []
joined (first ∷ rest) = first ++ joined rest

-- of the failures of a type, where this kind is wanted, the first: it stands before the others
unfoldable pub type_failures : Kind → TyExp → Setting → List TableError
type_failures wanted typ setting = option_to_list (first_failure None (reading_as wanted typ setting.types).failures)

-- a name that means nothing there (M10), unless it is used well
abbrev pub unless : Bool → Name → List TableError
unless true name = []
unless false name = error.NoName name.place name.text ∷ []

-- ---- what a pattern binds, in text order: its bare identifiers but for members of enums, and the names behind `as`

abbrev pub binds_form : Known → Pat-F (List Name) (List Name) → List Name
binds_form known (P.Bind name) = if is_member known name.text then [] else name ∷ []
binds_form known (P.Construct name parts) = joined parts
binds_form known (P.Group place brackets parts) = joined parts
binds_form known (P.Concat place first second more) = (first ++ second) ++ joined more
binds_form known (P.Cons place head tail) = head ++ tail
binds_form known (P.As place part name) = part ++ name ∷ []
binds_form known (P.Typed place part typ) = part
binds_form known form = []

abbrev pub binds_joined : Joined-F (List Name) (List Name) → List Name
binds_joined further = further.part

abbrev pub binds : Known → Pat → List Name
binds known = fold-Pat (List Name) (List Name) (binds_form known) binds_joined

abbrev pub binds_of_joined : Known → Joined → List Name
binds_of_joined known = fold-Joined (List Name) (List Name) (binds_form known) binds_joined

-- ---- equal names in one list (M09 at the second), where these stand before it

abbrev pub clash_if : Bool → Name → List TableError
clash_if true name = error.Clash name.place name.text ∷ []
clash_if false name = []

abbrev pub clashes_behind : Locals → List Name → List TableError
clashes_behind before [] = []
clashes_behind before (name ∷ names) =
    clash_if (is_some (binding_of name.text before)) name ++ clashes_behind (constant name ∷ before) names

abbrev pub clashes : List Name → List TableError
clashes names = clashes_behind [] names

-- ---- the failures of the names and types that a pattern uses

abbrev pub uses_form : Setting → Pat-F (List TableError) (List TableError) → List TableError
uses_form setting (P.Construct name parts) = unless (is_construction setting name.text) name ++ joined parts
uses_form setting (P.Group place brackets parts) = joined parts
uses_form setting (P.Concat place first second more) = (first ++ second) ++ joined more
uses_form setting (P.Cons place head tail) = head ++ tail
uses_form setting (P.As place part name) = part
uses_form setting (P.Typed place part typ) = part ++ type_failures K.Type typ setting
uses_form setting form = []

abbrev pub uses_joined : Joined-F (List TableError) (List TableError) → List TableError
uses_joined further = further.part

abbrev pub uses_failures : Setting → Pat → List TableError
uses_failures setting = fold-Pat (List TableError) (List TableError) (uses_form setting) uses_joined

abbrev pub uses_of_joined : Setting → Joined → List TableError
uses_of_joined setting = fold-Joined (List TableError) (List TableError) (uses_form setting) uses_joined

-- ---- all failures of a pattern, and of a list of parameters

abbrev pub pattern_failures : Setting → Pat → List TableError
pattern_failures setting pattern = uses_failures setting pattern ++ clashes (binds setting.known pattern)

abbrev pub parameters_failures : Setting → List Pat → List TableError
parameters_failures setting patterns =
    joined (map (uses_failures setting) patterns) ++ clashes (joined (map (binds setting.known) patterns))
