-- A side of a mapping's clause as an expression, and the widths of its names (Sail language manual, "Mappings").
use Rattle.std.specs.Prelude.{ℕ, ℤ, pos, ◌-ℤ◌, bytes_eq, List, [], ◌∷◌, ◌++◌, map, Option, Some, None}
use Rattle.std.specs.Prelude.{if◌then◌else◌}
use Rattle.sail_base.specs.declared.place.Place.{Place}
use Rattle.sail_base.specs.declared.operators.Operator.TheVariants as O
use Rattle.sail_syntax.specs.declared.name.Name.{Name}
use Rattle.sail_syntax.specs.declared.words.Brackets.{Brackets}
use Rattle.sail_syntax.specs.declared.words.Brackets.TheVariants as B
use Rattle.sail_syntax.specs.declared.patterns.Pat.{Pat}
use Rattle.sail_syntax.specs.declared.patterns.Pat.TheOpen as P
use Rattle.sail_syntax.specs.declared.patterns.Pat.TheOpen.{Pat-F, Joined-F}
use Rattle.sail_syntax.specs.declared.patterns.Pat.TheFolds.{fold-Pat}
use Rattle.sail_types.specs.Named.{payload}
use Rattle.sail_types.specs.Sums.{and_then}
use Rattle.sail_types.specs.Shapes.{shape}
use Rattle.sail_types.specs.declared.numbers.Num.{Num}
use Rattle.sail_types.specs.declared.types.Typ.{Typ, Typ-F, out-Typ}
use Rattle.sail_types.specs.declared.types.Typ.TheOpen as T
use Rattle.sail_types.specs.declared.shapes.Shape.{Shape}
use Rattle.sail_types.specs.declared.shapes.Shape.TheVariants as V
use Rattle.type_arguments.specs.Applied.{applied_typ}
use Rattle.sail_core.specs.declared.patterns.Literal.TheVariants as L
use Rattle.sail_core.specs.declared.tree.Callee.TheVariants as C
use Rattle.sail_core.specs.declared.tree.Kind.TheVariants as K
use Rattle.shape_rules.specs.declared.callees.Doing.{Doing}
use Rattle.shape_rules.specs.declared.callees.Doing.TheVariants as D
use Rattle.shape_rules.specs.declared.callees.Mapping.{Mapping}
use Rattle.shape_rules.specs.Findings.{leaf, unknown, settled}
use Rattle.shape_rules.specs.Written.{typ_in, joined}
use Rattle.shape_rules.specs.declared.callees.Meant.{Meant}
use Rattle.shape_rules.specs.declared.callees.Meant.TheVariants as M
use Rattle.shape_rules.specs.Scopes.{Setting, local_of}
use Rattle.shape_rules.specs.Calls.{Elaborate, parameters_of}
use Rattle.shape_rules.specs.Patterns.{width_of, Which, forwards, backwards, which_side}
use Rattle.shape_rules.specs.Targets.{Part, elaborations}
use Rattle.shape_rules.specs.Values.{constant_found, name_found, call_named, group_found, infix_found, typed_found}

-- ---- a side as an expression

-- a further part of a concatenation, with its `@`
pub record FurtherSide : Type 0 where
  pub place : Place
  pub part : Part

-- each `@` at its own place, from the right
abbrev pub append_part : Place → Part → Part → List FurtherSide → Part
append_part place a b [] = record { place = place; elaborate = infix_found place O.Append a b }
append_part place a b (f ∷ fs) = record { place = place; elaborate = infix_found place O.Append a (append_part f.place b f.part fs) }

abbrev pub negative_found : Place → ℤ → Elaborate
negative_found place n setting locals want = settled place want V.Int (λ s. leaf place (K.Constant (L.Integer (pos 0 -ℤ n))))

abbrev pub side_form : Pat-F Part FurtherSide → Elaborate
side_form (P.Wildcard place) setting locals want = unknown place
side_form (P.Constant place literal) setting locals want = constant_found place literal want
side_form (P.Negative place n) setting locals want = negative_found place n setting locals want
side_form (P.Bind name) setting locals want = name_found name (local_of name.text locals) (setting.value name.text) want
side_form (P.Construct name parts) setting locals want = call_named name parts setting locals want
side_form (P.Group place brackets parts) setting locals want = group_found place brackets (elaborations parts) setting locals want
side_form (P.Concat place first second more) setting locals want = (append_part place first second more).elaborate setting locals want
side_form (P.Cons place head tail) setting locals want = infix_found place O.Cons head tail setting locals want
side_form (P.As place part name) setting locals want = part.elaborate setting locals want
side_form (P.Typed place part typ) setting locals want = typed_found place part typ setting locals want

abbrev pub side_place : Pat-F Part FurtherSide → Place
side_place (P.Wildcard place) = place
side_place (P.Constant place literal) = place
side_place (P.Negative place n) = place
side_place (P.Bind name) = name.place
side_place (P.Construct name parts) = name.place
side_place (P.Group place brackets parts) = place
side_place (P.Concat place first second more) = place
side_place (P.Cons place head tail) = place
side_place (P.As place part name) = place
side_place (P.Typed place part typ) = place

abbrev pub side_part : Pat-F Part FurtherSide → Part
side_part form = record { place = side_place form; elaborate = side_form form }

abbrev pub further_side : Joined-F Part FurtherSide → FurtherSide
further_side further = record { place = further.place; part = further.part }

-- a side read as an expression
abbrev pub read_side : Pat → Part
read_side = fold-Pat Part FurtherSide side_part further_side

-- ---- widths of a side's names: those of their places, but for bare parts of a concatenation

pub record Given : Type 0 where
  pub name : List ℕ
  pub width : Num

-- under the type of what is matched, where that is known
abbrev pub Gives : Type 0
Gives = Setting → Option Typ → List Given

abbrev pub given_if : List ℕ → Option Num → List Given
given_if name None = []
given_if name (Some n) = record { name = name; width = n } ∷ []

abbrev pub name_gives : Name → Option Meant → Option Typ → List Given
name_gives name (Some (M.Member i k)) t = []
name_gives name meant t = given_if name.text (and_then t width_of)

abbrev pub each_gives : List Gives → Setting → List Typ → List Given
each_gives [] setting ts = []
each_gives (f ∷ fs) setting [] = f setting None ++ each_gives fs setting []
each_gives (f ∷ fs) setting (t ∷ ts) = f setting (Some t) ++ each_gives fs setting ts

abbrev pub typs_in : Typ-F Typ → List Typ
typs_in (T.Tuple ts) = ts
typs_in form = []

abbrev pub tuple_typs : Option Typ → List Typ
tuple_typs None = []
tuple_typs (Some t) = typs_in (out-Typ t)

abbrev pub item_typ_form : Typ-F Typ → Option Typ
item_typ_form (T.Vector n t) = Some t
item_typ_form (T.List t) = Some t
item_typ_form form = None

abbrev pub item_typ : Option Typ → Option Typ
item_typ t = and_then t (λ u. item_typ_form (out-Typ u))

abbrev pub each_of : List Gives → Setting → Option Typ → List Given
each_of fs setting t = joined (map (λ f. f setting t) fs)

-- the parts of a payload at a union's arguments
abbrev pub payload_form : Setting → ℕ → Typ-F Typ → Option Typ
payload_form setting c (T.Named u is ts) = and_then (payload setting.types u c) (applied_typ is ts)
payload_form setting c form = None

abbrev pub payload_at : Setting → ℕ → Option Typ → Option Typ
payload_at setting c t = and_then t (λ u. payload_form setting c (out-Typ u))

abbrev pub typs_if : Option Typ → List Typ
typs_if None = []
typs_if (Some t) = parameters_of t

-- `m(p)`, or of several, their tuple
abbrev pub one_gives : List Gives → Setting → Option Typ → List Given
one_gives [] setting t = []
one_gives (f ∷ []) setting t = f setting t
one_gives fs setting t = each_gives fs setting (tuple_typs t)

abbrev pub other_side : Mapping → Which → Option Typ
other_side m forwards = Some m.right
other_side m backwards = Some m.left
other_side m which = None

-- where no type is known, a part of a concatenation stands, which is bits
abbrev pub shape_of_if : Option Typ → Shape
shape_of_if None = V.Bits
shape_of_if (Some t) = shape t

abbrev pub doing_gives : Doing → List Gives → Setting → Option Typ → List Given
doing_gives (D.Calls (C.Constructor u c)) fs setting t = each_gives fs setting (typs_if (payload_at setting c t))
doing_gives (D.Calls (C.Converts d)) fs setting t = one_gives fs setting (setting.given_by d)
doing_gives doing fs setting t = []

abbrev pub construct_gives : Option Meant → List Gives → Setting → Option Typ → List Given
construct_gives (Some (M.Callee f)) fs setting t = doing_gives f.doing fs setting t
construct_gives (Some (M.Mapping m)) fs setting t = one_gives fs setting (other_side m (which_side m (shape_of_if t)))
construct_gives meant fs setting t = []

abbrev pub group_gives : Brackets → List Gives → Setting → Option Typ → List Given
group_gives B.Tuple fs setting t = each_gives fs setting (tuple_typs t)
group_gives brackets fs setting t = each_of fs setting (item_typ t)

-- a concatenation's bare identifiers have no width there
abbrev pub gives_form : Pat-F Gives Gives → Gives
gives_form (P.Bind name) setting t = name_gives name (setting.value name.text) t
gives_form (P.Construct name fs) setting t = construct_gives (setting.value name.text) fs setting t
gives_form (P.Group place brackets fs) setting t = group_gives brackets fs setting t
gives_form (P.Concat place first second more) setting t = each_of (first ∷ second ∷ more) setting None
gives_form (P.Cons place head tail) setting t = head setting (item_typ t) ++ tail setting t
gives_form (P.As place part name) setting t = part setting t
gives_form (P.Typed place part typ) setting t = part setting (typ_in setting.within typ)
gives_form form setting t = []

abbrev pub gives_joined : Joined-F Gives Gives → Gives
gives_joined further = further.part

abbrev pub gives : Pat → Gives
gives = fold-Pat Gives Gives gives_form gives_joined

abbrev pub width_given : List Given → List ℕ → Option Num
width_given [] name = None
width_given (g ∷ gs) name = if bytes_eq g.name name then Some g.width else width_given gs name
