-- Which names the definitions of a text take, and where a refusal of each name stands.
use Rattle.std.specs.Prelude.{ℕ, ◌+◌, Bool, true, false, if◌then◌else◌, List, [], ◌∷◌, ◌++◌, map, codes, is_some}
use Rattle.sail_base.specs.declared.place.Place.{Place}
use Rattle.sail_syntax.specs.declared.name.Name.{Name}
use Rattle.sail_syntax.specs.declared.words.Arrow.{Arrow}
use Rattle.sail_syntax.specs.declared.words.Arrow.TheVariants as A
use Rattle.sail_syntax.specs.declared.definitions.Member.{Member}
use Rattle.sail_syntax.specs.declared.definitions.Overloaded.TheVariants as O
use Rattle.sail_syntax.specs.declared.definitions.Def.{Def}
use Rattle.sail_syntax.specs.declared.definitions.Def.TheVariants as D
use Rattle.sail_globals.specs.declared.naming.Space.TheVariants.{Types, Values, Measures}
use Rattle.sail_globals.specs.declared.naming.Called.TheVariants.{Function, Mapping, Direction}
use Rattle.sail_globals.specs.declared.naming.Alone.{Alone}
use Rattle.sail_globals.specs.declared.naming.Alone.TheVariants as is
use Rattle.sail_globals.specs.declared.naming.Role.{Role}
use Rattle.sail_globals.specs.declared.naming.Role.TheVariants.{Declared, Defined, Overloaded, Whole}
use Rattle.sail_globals.specs.declared.naming.Naming.{Naming}
use Rattle.sail_globals.specs.Bound.{members, is_among, bound, is_plain}

-- the name of a type, taken by the definition of this position
abbrev pub type_naming : ℕ → Place → List ℕ → Naming
type_naming at place name = record { space = Types; name = name; place = place; role = Whole is.Type; definition = at }

-- the name of a measure's function, likewise
abbrev pub measure_naming : ℕ → Place → List ℕ → Naming
measure_naming at place name = record { space = Measures; name = name; place = place; role = Whole is.Measure; definition = at }

-- the name of a value, likewise
abbrev pub value_naming : ℕ → Role → Place → List ℕ → Naming
value_naming at role place name = record { space = Values; name = name; place = place; role = role; definition = at }

-- a name that stands where it is written
abbrev pub own_naming : ℕ → Alone → Name → Naming
own_naming at what name = value_naming at (Whole what) name.place name.text

abbrev pub constructor_naming : ℕ → Member → Naming
constructor_naming at constructor = own_naming at is.Constructor constructor.name

-- the names of a mapping's two directions
abbrev pub forwards_of : List ℕ → List ℕ
forwards_of name = name ++ codes "_forwards"

abbrev pub backwards_of : List ℕ → List ℕ
backwards_of name = name ++ codes "_backwards"

-- the names of a mapping, the directions' in this role
abbrev pub mapping_namings : ℕ → Role → Role → Place → List ℕ → List Naming
mapping_namings at role direction place name =
    value_naming at role place name
    ∷ value_naming at direction place (forwards_of name)
    ∷ value_naming at direction place (backwards_of name) ∷ []

-- the names of a `val`
abbrev pub val_namings : ℕ → Place → List ℕ → Arrow → List Naming
val_namings at place name A.Function = value_naming at (Declared Function) place name ∷ []
val_namings at place name A.Mapping = mapping_namings at (Declared Mapping) (Declared Direction) place name

-- the names of a mapping's body, which has types of its own or not
abbrev pub body_namings : ℕ → Place → List ℕ → Bool → List Naming
body_namings at place name true = mapping_namings at (Whole is.Mapping) (Whole is.Direction) place name
body_namings at place name false = mapping_namings at (Defined Mapping) (Defined Direction) place name

-- a name of a `let`: one identifier stands at the `let`, one of several where it is written
abbrev pub let_naming : ℕ → Place → Bool → Name → Naming
let_naming at place plain name = value_naming at (Whole is.Let) (if plain then place else name.place) name.text

-- the names that a definition of a position takes, where these are members of enums
abbrev pub namings : (List ℕ → Bool) → ℕ → Def → List Naming
namings is_member at (D.Alias place name variables kind typ) = type_naming at place name.text ∷ []
namings is_member at (D.Enum place name members) = type_naming at place name.text ∷ map (own_naming at is.Member) members
namings is_member at (D.Struct place name variables fields) = type_naming at place name.text ∷ []
namings is_member at (D.Union place name variables constructors) =
    type_naming at place name.text ∷ map (constructor_naming at) constructors
namings is_member at (D.Val place name quantifier from arrow to) = val_namings at place name.text arrow
namings is_member at (D.Function place extent name clauses) = value_naming at (Defined Function) place name.text ∷ []
namings is_member at (D.Measure place name parameters value) = measure_naming at place name.text ∷ []
namings is_member at (D.Mapping place name sides clauses) = body_namings at place name.text (is_some sides)
namings is_member at (D.Let place pattern value) = map (let_naming at place (is_plain pattern)) (bound is_member pattern)
namings is_member at (D.Register place name typ initial) = value_naming at (Whole is.Register) place name.text ∷ []
namings is_member at (D.Overload place (O.Named name) added) = value_naming at Overloaded place name.text ∷ []
namings is_member at d = []

-- the names that definitions take, of which the first has this position
abbrev pub namings_from : (List ℕ → Bool) → ℕ → List Def → List Naming
namings_from is_member at [] = []
namings_from is_member at (d ∷ text) = namings is_member at d ++ namings_from is_member (at + 1) text

-- the names that the definitions of a text take, in text order
abbrev pub all_namings : List Def → List Naming
all_namings text = namings_from (is_among (members text)) 0 text
