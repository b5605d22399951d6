-- The names that a pattern of a top-level `let` binds (Sail language manual, "Pattern matching").
use Rattle.std.specs.Prelude.{ℕ, Bool, true, false, if◌then◌else◌, List, [], ◌∷◌, ◌++◌}
use Rattle.std.specs.List.{list_any}
use Rattle.std.specs.Str.{bytes_eq}
use Rattle.sail_syntax.specs.Bound.{in_order}
use Rattle.sail_syntax.specs.declared.name.Name.{Name}
use Rattle.sail_syntax.specs.declared.definitions.Def.{Def}
use Rattle.sail_syntax.specs.declared.definitions.Def.TheVariants as D
use Rattle.sail_syntax.specs.declared.patterns.Pat.{Pat}
use Rattle.sail_syntax.specs.declared.patterns.Joined.{Joined}
use Rattle.sail_syntax.specs.declared.patterns.Pat.TheOpen as P
use Rattle.sail_syntax.specs.declared.patterns.Pat.TheOpen.{Pat-F, Joined-F}
use Rattle.sail_syntax.specs.declared.patterns.Pat.TheFolds.{fold-Pat, fold-Joined}

-- the members that a definition gives, where it is an enum
abbrev pub members_of : Def → List Name
members_of (D.Enum place name members) = members
members_of d = []

-- the members of all enums of a text
abbrev pub members : List Def → List Name
members [] = []
members (d ∷ text) = members_of d ++ members text

-- whether one of these is spelled so
abbrev pub is_among : List Name → List ℕ → Bool
is_among names name = list_any (λ one. bytes_eq one.text name) names

-- the names that a form binds whose parts bind these: a bare identifier binds unless it is a member of an enum; a name
-- behind `as` always binds
abbrev pub form_bound : (List ℕ → Bool) → Pat-F (List Name) (List Name) → List Name
form_bound is_member (P.Bind name) = if is_member name.text then [] else name ∷ []
form_bound is_member (P.Construct name parts) = in_order parts
form_bound is_member (P.Group place brackets parts) = in_order parts
form_bound is_member (P.Concat place first second more) = (first ++ second) ++ in_order more
form_bound is_member (P.Cons place head tail) = head ++ tail
form_bound is_member (P.As place part name) = part ++ name ∷ []
form_bound is_member (P.Typed place part typ) = part
form_bound is_member form = []

abbrev pub joined_bound : Joined-F (List Name) (List Name) → List Name
joined_bound joined = joined.part

-- the names that a pattern binds, in text order
abbrev pub bound : (List ℕ → Bool) → Pat → List Name
bound is_member = fold-Pat (List Name) (List Name) (form_bound is_member) joined_bound

-- the names that a further part of a concatenation binds
abbrev pub bound_by_joined : (List ℕ → Bool) → Joined → List Name
bound_by_joined is_member = fold-Joined (List Name) (List Name) (form_bound is_member) joined_bound

abbrev pub form_plain : Pat-F Bool Bool → Bool
form_plain (P.Bind name) = true
form_plain (P.Typed place part typ) = part
form_plain form = false

abbrev pub joined_plain : Joined-F Bool Bool → Bool
joined_plain joined = joined.part

-- whether a pattern is one identifier, annotated or not
abbrev pub is_plain : Pat → Bool
is_plain = fold-Pat Bool Bool form_plain joined_plain
