-- The widths of identifiers in a mapping's clause: a bare one has the width of its place on the other side (Sail language manual,
-- "Mappings").
use Rattle.std.specs.Prelude.{ℕ, bytes_eq, if◌then◌else◌, List, [], ◌∷◌, ◌++◌, Option, Some, None, is_some}
use Rattle.sail_types.specs.Named.{payload}
use Rattle.sail_types.specs.Shapes.{shape, shares}
use Rattle.sail_types.specs.Sums.{and_then}
use Rattle.sail_types.specs.declared.numbers.Num.{Num}
use Rattle.sail_types.specs.declared.shapes.Shape.{Shape}
use Rattle.sail_types.specs.declared.shapes.Shape.TheVariants as V
use Rattle.sail_types.specs.declared.table.Types.{Types}
use Rattle.sail_types.specs.declared.types.Typ.{Typ, Typ-F, out-Typ}
use Rattle.sail_types.specs.declared.types.Typ.TheOpen as T
use Rattle.sail_types.specs.declared.values.Value.{Value}
use Rattle.sail_syntax.specs.declared.words.Brackets.{Brackets}
use Rattle.sail_syntax.specs.declared.words.Brackets.TheVariants as B
use Rattle.sail_syntax.specs.declared.patterns.Pat.{Pat, Pat-F, fold-Pat}
use Rattle.sail_syntax.specs.declared.patterns.Pat.TheOpen as P
use Rattle.type_arguments.specs.Applied.{applied_typ}
use Rattle.shape_joins.specs.Joins.{join}
use Rattle.sail_meaning.specs.Named.{Inside, constructor_named, member_named}
use Rattle.sail_meaning.specs.Text.{Called, alone, direction, mapping}
use Rattle.sail_meaning.specs.World.{World, written_typ, width_of}

-- an identifier and the width of its place
abbrev pub Wide : Type 0
Wide = List ℕ × Num

-- the identifiers of a pattern with the widths of their places, where it stands at a place of this type; a part of a concatenation stands
-- at a place of none, as does a part of a tuple whose type isn't known to be one
abbrev pub Places : Type 0
Places = World → Option Typ → List Wide

abbrev pub wide : List ℕ → Option Num → List Wide
wide name None = []
wide name (Some n) = (name, n) ∷ []

-- a bare identifier; a member of an enum is none
abbrev pub bare_at : Option Value → List ℕ → Option Typ → List Wide
bare_at (Some member) name t = []
bare_at None name t = wide name (and_then t width_of)

-- ---- several parts

-- parts at places of these types, those behind them at places of none
abbrev pub each_at : List Places → World → List Typ → List Wide
each_at [] w ts = []
each_at (p ∷ ps) w [] = p w None ++ each_at ps w []
each_at (p ∷ ps) w (t ∷ ts) = p w (Some t) ++ each_at ps w ts

-- parts at places of one type
abbrev pub all_at : List Places → World → Option Typ → List Wide
all_at [] w t = []
all_at (p ∷ ps) w t = p w t ++ all_at ps w t

-- the types of a tuple's parts
abbrev pub parts_in : Typ-F Typ → List Typ
parts_in (T.Tuple ts) = ts
parts_in form = []

abbrev pub parts_of : Option Typ → List Typ
parts_of None = []
parts_of (Some t) = parts_in (out-Typ t)

-- several parts are those of a tuple
abbrev pub whole_at : List Places → World → Option Typ → List Wide
whole_at (p ∷ []) w t = p w t
whole_at ps w t = each_at ps w (parts_of t)

-- ---- constructors

-- the payload of a constructor in a union at its arguments
abbrev pub payload_in : Types → Inside → Typ-F Typ → Option Typ
payload_in types at (T.Named place indices ts) = and_then (payload types place at.1) (applied_typ indices ts)
payload_in types at form = None

abbrev pub payload_at : Types → Inside → Option Typ → Option Typ
payload_at types at None = None
payload_at types at (Some t) = payload_in types at (out-Typ t)

-- the types of a constructor's parameters: a tuple is several
abbrev pub parameters_in : Typ → Typ-F Typ → List Typ
parameters_in t (T.Tuple ts) = ts
parameters_in t form = t ∷ []

abbrev pub parameters_of : Option Typ → List Typ
parameters_of None = []
parameters_of (Some t) = parameters_in t (out-Typ t)

-- ---- mappings

-- the shape of what stands at a place; a part of a concatenation is bits
abbrev pub shape_at : Option Typ → Shape
shape_at None = V.Bits
shape_at (Some t) = shape t

-- the type on the other side of a mapping, where the place has the shape of one side alone
abbrev pub other_side : Typ → Typ → Shape → Option Typ
other_side left right s =
    if shares (shape left) (shape right) then None
    else (if is_some (join (shape left) s) then Some right else (if is_some (join (shape right) s) then Some left else None))

-- a direction of a mapping gives its own side, whatever the place
abbrev pub mapped_at : List Places → World → Option Typ → Option Called → List Wide
mapped_at ps w t (Some (alone (direction d))) = whole_at ps w (Some d.gives)
mapped_at ps w t (Some (mapping forwards backwards)) = whole_at ps w (other_side forwards.takes backwards.takes (shape_at t))
mapped_at ps w t called = []

abbrev pub construct_at : List ℕ → List Places → World → Option Typ → Option Inside → List Wide
construct_at name ps w t None = mapped_at ps w t (w.text.called name)
construct_at name ps w t (Some at) = each_at ps w (parameters_of (payload_at w.text.types at t))

-- ---- brackets

abbrev pub item_of : Typ-F Typ → Option Typ
item_of (T.Vector n t) = Some t
item_of (T.List t) = Some t
item_of form = None

abbrev pub item_at : Option Typ → Option Typ
item_at None = None
item_at (Some t) = item_of (out-Typ t)

abbrev pub group_at : Brackets → List Places → World → Option Typ → List Wide
group_at B.Tuple ps w t = each_at ps w (parts_of t)
group_at B.Vector ps w t = all_at ps w (item_at t)
group_at B.List ps w t = all_at ps w (item_at t)

-- ---- one case for each form

abbrev pub places_form : Pat-F Places Places → Places
places_form (P.Wildcard place) w t = []
places_form (P.Constant place literal) w t = []
places_form (P.Negative place n) w t = []
places_form (P.Bind name) w t = bare_at (member_named w.text.types name.text) name.text t
places_form (P.Construct name ps) w t = construct_at name.text ps w t (constructor_named w.text.types name.text)
places_form (P.Group place brackets ps) w t = group_at brackets ps w t
places_form (P.Concat place p q more) w t = all_at (p ∷ q ∷ more) w None
places_form (P.Cons place p q) w t = p w (item_at t) ++ q w t
places_form (P.As place p name) w t = p w t
places_form (P.Typed place p typ) w t = p w (written_typ w typ)

abbrev pub places : Pat → Places
places = fold-Pat Places Places places_form (λ joined. joined.part)

-- ---- a name

abbrev pub width_among : List ℕ → List Wide → Option Num
width_among name [] = None
width_among name (one ∷ more) = if bytes_eq one.0 name then Some one.1 else width_among name more

-- the width of an identifier by its place in this pattern on a side of this type
abbrev pub width_on : World → Typ → Pat → List ℕ → Option Num
width_on w side pattern name = width_among name (places pattern w (Some side))
