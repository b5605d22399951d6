-- The names of a pattern: its bare identifiers and the names behind its `as`, in text order.
use Rattle.std.specs.Prelude.{List, [], ◌∷◌, ◌++◌}
use Rattle.sail_syntax.specs.declared.name.Name.{Name}
use Rattle.sail_syntax.specs.declared.patterns.Pat.{Pat}
use Rattle.sail_syntax.specs.declared.patterns.Joined.{Joined}
use Rattle.sail_syntax.specs.declared.patterns.Pat.TheOpen as P
use Rattle.sail_syntax.specs.declared.patterns.Pat.TheOpen.{Pat-F, Joined-F}
use Rattle.sail_syntax.specs.declared.patterns.Pat.TheFolds.{fold-Pat, fold-Joined}

-- lists of names, one behind the other
abbrev pub in_order : List (List Name) → List Name
in_order [] = []
in_order (first ∷ rest) = first ++ in_order rest

-- the names of a form whose parts have these names
abbrev pub form_names : Pat-F (List Name) (List Name) → List Name
form_names (P.Bind name) = name ∷ []
form_names (P.Construct name parts) = in_order parts
form_names (P.Group place brackets parts) = in_order parts
form_names (P.Concat place first second more) = (first ++ second) ++ in_order more
form_names (P.Cons place head tail) = head ++ tail
form_names (P.As place part name) = part ++ name ∷ []
form_names (P.Typed place part typ) = part
form_names form = []

-- the names of a further part of a concatenation
abbrev pub joined_names : Joined-F (List Name) (List Name) → List Name
joined_names joined = joined.part

-- the names of a pattern
abbrev pub names : Pat → List Name
names = fold-Pat (List Name) (List Name) form_names joined_names

-- the names of a further part
abbrev pub names_of_joined : Joined → List Name
names_of_joined = fold-Joined (List Name) (List Name) form_names joined_names
