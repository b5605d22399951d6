-- Definitions that are written in parts: which open one, continue one and end one, and to which opening each part
-- belongs (Sail language manual, "Scattered definitions").
use Rattle.std.specs.Prelude.{ℕ, ◌+◌, Bool, true, false, ◌&&◌, bytes_eq, if◌then◌else◌, List, [], ◌∷◌, Option, Some, None, find}
use Rattle.std.specs.Option.{option_map}
use Rattle.sail_syntax.specs.declared.definitions.Def.{Def}
use Rattle.sail_syntax.specs.declared.definitions.Def.TheVariants as D
use Rattle.scattered.specs.declared.standing.Scattered.{Scattered}
use Rattle.scattered.specs.declared.standing.Scattered.TheVariants.{Union, Function, Mapping}

-- what a definition is to those that are written in parts: it opens one of a name, continues one by a clause, ends one,
-- or stands by itself
pub data Role : Type 0 where
  Opens : Scattered → List ℕ → Role
  Continues : Scattered → List ℕ → Role
  Ends : List ℕ → Role
  Stands : Role

-- the role of a definition
abbrev pub role : Def → Role
role (D.ScatteredUnion place name variables) = Opens Union name.text
role (D.ScatteredFunction place name) = Opens Function name.text
role (D.ScatteredMapping place name) = Opens Mapping name.text
role (D.UnionClause place name member) = Continues Union name.text
role (D.FunctionClause name clause) = Continues Function name.text
role (D.MappingClause place name clause) = Continues Mapping name.text
role (D.End place name) = Ends name.text
role d = Stands

-- an opening that hasn't ended: the number of its definition in the gathered text, what it opens, and its name
pub record Opening : Type 0 where
  pub number : ℕ
  pub scattered : Scattered
  pub name : List ℕ

-- whether an opening has a name
abbrev pub is_named : List ℕ → Opening → Bool
is_named name opening = bytes_eq opening.name name

-- whether two are one and the same of the three
abbrev pub is_same : Scattered → Scattered → Bool
is_same Union Union = true
is_same Function Function = true
is_same Mapping Mapping = true
is_same one other = false

-- whether an opening has a name and opens this
abbrev pub is_opening_of : Scattered → List ℕ → Opening → Bool
is_opening_of scattered name opening = is_named name opening && is_same opening.scattered scattered

-- the number of an opening
abbrev pub number_of : Opening → ℕ
number_of opening = opening.number

-- the opening to which a part belongs, among those that stand before it, the latest first: to a clause belongs the
-- latest of its kind and name, to an `end` the latest of its name
abbrev pub opening_of : Role → List Opening → Option ℕ
opening_of (Opens scattered name) standing = None
opening_of (Continues scattered name) standing = option_map number_of (find (is_opening_of scattered name) standing)
opening_of (Ends name) standing = option_map number_of (find (is_named name) standing)
opening_of Stands standing = None

-- openings without the latest of a name
abbrev pub without_latest : List ℕ → List Opening → List Opening
without_latest name [] = []
without_latest name (opening ∷ standing) =
    if is_named name opening then standing else opening ∷ without_latest name standing

-- the openings that stand behind a definition, whose number would be this one
abbrev pub standing_behind : Role → ℕ → List Opening → List Opening
standing_behind (Opens scattered name) number standing = record { number = number; scattered = scattered; name = name } ∷ standing
standing_behind (Continues scattered name) number standing = standing
standing_behind (Ends name) number standing = without_latest name standing
standing_behind Stands number standing = standing

-- whether a definition has a place of its own in the gathered text, as all have but clauses and `end`
abbrev pub stays : Role → Bool
stays (Opens scattered name) = true
stays (Continues scattered name) = false
stays (Ends name) = false
stays Stands = true

-- the number of the next definition of the gathered text
abbrev pub next_number : Role → ℕ → ℕ
next_number r number = if stays r then number + 1 else number

-- for each definition of a text the number of the opening to which it belongs, where it belongs to one
abbrev pub openings_of : List Opening → ℕ → List Def → List (Option ℕ)
openings_of standing number [] = []
openings_of standing number (d ∷ text) =
    opening_of (role d) standing ∷ openings_of (standing_behind (role d) number standing) (next_number (role d) number) text
