-- Failures of the phase, of which the first is its refusal, and what is found of a form.
use Rattle.std.specs.Prelude.{◌≡◌, ℕ, nat_lt, nat_eq, Bool, true, false, ◌&&◌, ◌||◌, List, [], ◌∷◌, ◌++◌, Option, Some, None, Contains, All, if◌then◌else◌}
use Rattle.sail_base.specs.declared.place.Place.{Place}
use Rattle.sail_types.specs.declared.shapes.Shape.{Shape}
use Rattle.sail_types.specs.declared.shapes.Shape.TheVariants as V
use Rattle.sail_core.specs.declared.patterns.Literal.TheVariants as L
use Rattle.sail_core.specs.declared.tree.Kind.{Kind}
use Rattle.sail_core.specs.declared.tree.Kind.TheVariants as K
use Rattle.sail_core.specs.declared.tree.Core.{Core}
use Rattle.sail_core.specs.Nodes.{node}
use Rattle.shape_joins.specs.Joins.{join}
use Rattle.shape_rules.specs.declared.error.ShapeError.{ShapeError}
use Rattle.shape_rules.specs.declared.error.ShapeError.TheVariants as error

-- ---- failures: the least place wins, and at one place the lower number

abbrev pub place_of : ShapeError → Place
place_of (error.Overlap place first second) = place
place_of (error.IllShaped place mismatch) = place
place_of (error.Arity place wanted found) = place
place_of (error.NoMember place name) = place
place_of (error.NoNumber place name) = place
place_of (error.WidthUnknown place) = place
place_of error.OutOfMemory = record { file = 0; line = 0; column = 0 }

-- the number that is printed
abbrev pub number_of : ShapeError → ℕ
number_of (error.Overlap place first second) = 13
number_of (error.IllShaped place mismatch) = 14
number_of (error.Arity place wanted found) = 15
number_of (error.NoMember place name) = 16
number_of (error.NoNumber place name) = 17
number_of (error.WidthUnknown place) = 18
number_of error.OutOfMemory = 0

abbrev pub position_of : ShapeError → List ℕ
position_of e = (place_of e).file ∷ (place_of e).line ∷ (place_of e).column ∷ number_of e ∷ []

-- whether a list of numbers stands before another in the order of words
abbrev pub is_less : List ℕ → List ℕ → Bool
is_less [] [] = false
is_less [] (y ∷ ys) = true
is_less (x ∷ xs) [] = false
is_less (x ∷ xs) (y ∷ ys) = nat_lt x y || (nat_eq x y && is_less xs ys)

abbrev pub is_before : ShapeError → ShapeError → Bool
is_before e f = is_less (position_of e) (position_of f)

-- the one that was kept, unless the new one stands before it
abbrev pub earlier : Option ShapeError → ShapeError → Option ShapeError
earlier None e = Some e
earlier (Some kept) e = if is_before e kept then Some e else Some kept

-- the first of some failures and of one that was kept before
abbrev pub first_failure : Option ShapeError → List ShapeError → Option ShapeError
first_failure kept [] = kept
first_failure kept (e ∷ es) = first_failure (earlier kept e) es

-- it is one of them, and none of them stands before it
abbrev pub IsFirst : List ShapeError → ShapeError → Type 0
IsFirst es e = Contains es e × All (λ other. is_before other e ≡ false) es

-- a shape that isn't the wanted one, and a form of which no one shape is wanted
abbrev pub mismatched : Place → Shape → Shape → ShapeError
mismatched place wanted found = error.IllShaped place (Some (record { wanted = wanted; found = found }))

abbrev pub ill_shaped : Place → ShapeError
ill_shaped place = error.IllShaped place None

-- ---- what is found of a form: its shape (`Never` where it failed, and where it never ends normally), its core, and all failures in it

pub record Found : Type 0 where
  pub shape : Shape
  pub core : Core
  pub faults : List ShapeError

-- nodes get their numbers once the whole tree is there
abbrev pub leaf : Place → Kind → Core
leaf place kind = node place 0 kind []

abbrev pub over : Place → Kind → List Core → Core
over place kind parts = node place 0 kind parts

-- in the place of a form that has no core
abbrev pub missing : Place → Core
missing place = leaf place (K.Constant L.Unit)

abbrev pub refused : ShapeError → Found
refused e = record { shape = V.Never; core = missing (place_of e); faults = e ∷ [] }

-- a form that fails in nothing of its own, but of whose parts one failed that it needs
abbrev pub unknown : Place → Found
unknown place = record { shape = V.Never; core = missing place; faults = [] }

-- what is found, behind what was found in parts
abbrev pub behind : List ShapeError → Found → Found
behind faults found = record { shape = found.shape; core = found.core; faults = faults ++ found.faults }

abbrev pub settled_as : Place → Shape → Shape → (Shape → Core) → Option Shape → Found
settled_as place want shape core None = refused (mismatched place want shape)
settled_as place want shape core (Some s) = record { shape = s; core = core s; faults = [] }

-- a form of this shape, where that one is wanted (`Never`, where none is); its core may hang on what both come to
abbrev pub settled : Place → Shape → Shape → (Shape → Core) → Found
settled place want shape core = settled_as place want shape core (join shape want)

abbrev pub joined_or : Shape → Option Shape → Shape
joined_or s None = s
joined_or s (Some t) = t

-- what is wanted of a branch or item behind one of this shape, where that one was wanted before; and the shape of both
abbrev pub given_on : Shape → Shape → Shape
given_on want found = joined_or want (join want found)

-- where a value comes to the type that is wanted of it
abbrev pub cast : Core → Place → Core
cast core place = over place (K.Cast None) (core ∷ [])
