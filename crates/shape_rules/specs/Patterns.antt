-- Patterns: what they bind, their cores, and the parts of a concatenation whose widths are known (Sail language manual, "Pattern
-- matching", "Mappings").
use Rattle.std.specs.Prelude.{ℕ, zero, suc, ◌*◌, nat_eq, pos, ◌-ℤ◌, Bool, true, false, is_some}
use Rattle.std.specs.Prelude.{codes}
use Rattle.std.specs.Prelude.{List, [], ◌∷◌, ◌++◌, length, map, replicate, Option, Some, None, if◌then◌else◌}
use Rattle.sail_base.specs.declared.place.Place.{Place}
use Rattle.sail_syntax.specs.declared.name.Name.{Name}
use Rattle.sail_syntax.specs.declared.name.Literal.{Literal}
use Rattle.sail_syntax.specs.declared.name.Literal.TheVariants as N
use Rattle.sail_syntax.specs.declared.types.TyExp.{TyExp}
use Rattle.sail_syntax.specs.declared.words.Brackets.{Brackets}
use Rattle.sail_syntax.specs.declared.words.Brackets.TheVariants as B
use Rattle.sail_syntax.specs.declared.patterns.Pat.{Pat}
use Rattle.sail_syntax.specs.declared.patterns.Pat.TheOpen as P
use Rattle.sail_syntax.specs.declared.patterns.Pat.TheOpen.{Pat-F, Joined-F}
use Rattle.sail_syntax.specs.declared.patterns.Pat.TheFolds.{fold-Pat}
use Rattle.sail_types.specs.Sums.{and_then, constant as constant_num}
use Rattle.sail_types.specs.Shapes.{shape, shares, put, at}
use Rattle.sail_types.specs.declared.numbers.Num.{Num}
use Rattle.sail_types.specs.declared.types.Typ.{Typ, Typ-F, out-Typ}
use Rattle.sail_types.specs.declared.types.Typ.TheOpen as T
use Rattle.sail_types.specs.declared.shapes.Shape.{Shape, Shape-F, out-Shape}
use Rattle.sail_types.specs.declared.shapes.Shape.TheOpen as S
use Rattle.sail_types.specs.declared.shapes.Shape.TheVariants as V
use Rattle.sail_core.specs.declared.patterns.Literal.{Literal as CoreLiteral}
use Rattle.sail_core.specs.declared.patterns.Literal.TheVariants as L
use Rattle.sail_core.specs.declared.patterns.Head.{Head}
use Rattle.sail_core.specs.declared.patterns.Head.TheVariants as H
use Rattle.sail_core.specs.declared.patterns.Form.{Form}
use Rattle.sail_core.specs.declared.patterns.Form.TheVariants as F
use Rattle.sail_core.specs.declared.patterns.Pattern.{Pattern, roll-Pattern}
use Rattle.sail_core.specs.declared.tree.Callee.TheVariants as C
use Rattle.sail_core.specs.declared.written.Written.{Written}
use Rattle.shape_joins.specs.Joins.{join}
use Rattle.shape_joins.specs.Learning.{learn}
use Rattle.shape_rules.specs.declared.callees.Candidate.{Candidate}
use Rattle.shape_rules.specs.declared.callees.Doing.{Doing}
use Rattle.shape_rules.specs.declared.callees.Doing.TheVariants as D
use Rattle.shape_rules.specs.declared.callees.Mapping.{Mapping}
use Rattle.shape_rules.specs.declared.locals.Local.{Local}
use Rattle.shape_rules.specs.declared.error.ShapeError.{ShapeError}
use Rattle.shape_rules.specs.declared.error.ShapeError.TheVariants as error
use Rattle.shape_rules.specs.Findings.{mismatched, ill_shaped}
use Rattle.shape_rules.specs.Written.{typ_in, shape_in, written, written_faults}
use Rattle.shape_rules.specs.declared.callees.Meant.{Meant}
use Rattle.shape_rules.specs.declared.callees.Meant.TheVariants as M
use Rattle.shape_rules.specs.Scopes.{Setting, constant}
use Rattle.shape_rules.specs.Calls.{takes_unit}

-- ---- what is found of a pattern that is matched with values of a shape

pub record Looked : Type 0 where
  pub pattern : Pattern
  -- in the order in which they are bound
  pub binds : List Local
  pub faults : List ShapeError

-- widths that are known of bare identifiers: in a mapping's clause, from their places on the other side
abbrev pub Widths : Type 0
Widths = List ℕ → Option Num

abbrev pub no_widths : Widths
no_widths name = None

abbrev pub Look : Type 0
Look = Setting → Widths → Shape → Looked

-- a part of a pattern: where it stands, the width of its own that it has as a part of `p @ q`, the type that is written at it,
-- and what is found of it
pub record Piece : Type 0 where
  pub place : Place
  pub width : Setting → Widths → Option Num
  pub typ : Option TyExp
  pub look : Look

abbrev pub pattern : Place → Form → List Pattern → Pattern
pattern place form parts = roll-Pattern (record { place = place; form = form; parts = parts })

abbrev pub looked : Place → Form → Looked
looked place form = record { pattern = pattern place form []; binds = []; faults = [] }

-- several patterns
pub record LookedAll : Type 0 where
  pub patterns : List Pattern
  pub binds : List Local
  pub faults : List ShapeError

abbrev pub also_looked : Looked → LookedAll → LookedAll
also_looked p more = record { patterns = p.pattern ∷ more.patterns; binds = p.binds ++ more.binds; faults = p.faults ++ more.faults }

-- each with its shape; with none known, where there are no more shapes
abbrev pub each_looked : List Piece → Setting → Widths → List Shape → LookedAll
each_looked [] setting widths ss = record { patterns = []; binds = []; faults = [] }
each_looked (p ∷ ps) setting widths [] = also_looked (p.look setting widths V.Never) (each_looked ps setting widths [])
each_looked (p ∷ ps) setting widths (s ∷ ss) = also_looked (p.look setting widths s) (each_looked ps setting widths ss)

abbrev pub opened : Place → Head → List ShapeError → LookedAll → Looked
opened place head faults parts = record {
  pattern = pattern place (F.Opens head) parts.patterns;
  binds = parts.binds;
  faults = faults ++ parts.faults;
}

-- ---- shapes that are matched

-- a pattern of this shape, where values of that shape come (M14)
abbrev pub unless_joined : Place → Shape → Shape → Option Shape → List ShapeError
unless_joined place subject own None = mismatched place subject own ∷ []
unless_joined place subject own (Some s) = []

abbrev pub shape_faults : Place → Shape → Shape → List ShapeError
shape_faults place subject own = unless_joined place subject own (join own subject)

-- the shapes of the parts of what is matched
abbrev pub tuple_parts : Shape-F Shape → List Shape
tuple_parts (S.Tuple ss) = ss
tuple_parts form = []

abbrev pub vector_item : Shape-F Shape → Shape
vector_item (S.Vector s) = s
vector_item form = V.Never

abbrev pub list_item : Shape-F Shape → Shape
list_item (S.List s) = s
list_item form = V.Never

abbrev pub or_never : Option Shape → Shape
or_never None = V.Never
or_never (Some s) = s

-- what both come to, where that is one shape
abbrev pub seen_as : Shape → Shape → Shape
seen_as subject own = or_never (join own subject)

-- ---- literals and names

abbrev pub literal_shape : Literal → Shape
literal_shape (N.Number n) = V.Int
literal_shape (N.Bits bits) = V.Bits
literal_shape (N.String text) = V.String
literal_shape (N.Bool b) = V.Bool
literal_shape (N.Bit b) = V.Bit

abbrev pub core_literal : Literal → CoreLiteral
core_literal (N.Number n) = L.Integer n
core_literal (N.Bits bits) = L.Bits bits
core_literal (N.String text) = L.String text
core_literal (N.Bool b) = L.Truth b
core_literal (N.Bit b) = L.Bit b

-- a value of this shape alone
abbrev pub is_found : Place → Shape → CoreLiteral → Look
is_found place own literal setting widths subject = record {
  pattern = pattern place (F.Opens (H.Is literal)) [];
  binds = [];
  faults = shape_faults place subject own;
}

abbrev pub literal_width : Literal → Option Num
literal_width (N.Bits bits) = Some (constant_num (pos (length bits)))
literal_width literal = None

-- a bare identifier is a member where an enum has it, else it binds
abbrev pub name_look : Name → Option Meant → Look
name_look name (Some (M.Member i k)) setting widths subject = is_found name.place (V.Named i []) (L.Member i k) setting widths subject
name_look name meant setting widths subject = record {
  pattern = pattern name.place (F.Binds name.text) [];
  binds = constant name.text subject ∷ [];
  faults = [];
}

abbrev pub name_width : Name → Option Meant → Widths → Option Num
name_width name (Some (M.Member i k)) widths = None
name_width name meant widths = widths name.text

-- ---- `id(p, q)`

-- what `C()` and `m()` hold
abbrev pub unit_piece : Place → Piece
unit_piece place = record {
  place = place;
  width = λ setting widths. None;
  typ = None;
  look = is_found place V.Unit L.Unit;
}

abbrev pub pieces_for : Place → List Shape → List Piece → List Piece
pieces_for place params [] = if takes_unit params then unit_piece place ∷ [] else []
pieces_for place params pieces = pieces

abbrev pub callee_head : Doing → Option Head
callee_head (D.Calls (C.Constructor u c)) = Some (H.Constructor u c)
callee_head doing = None

-- nothing is known of a union's arguments where what is matched tells nothing
abbrev pub nevers : ℕ → List Shape
nevers count = replicate count V.Never

abbrev pub known_or_nevers : ℕ → Option (List Shape) → List Shape
known_or_nevers count None = nevers count
known_or_nevers count (Some known) = known

-- a constructor: a wrong count of parts (M15), else a union that doesn't have it (M14), and its parts
abbrev pub constructor_parts : Name → Head → Candidate → List Piece → Option (List Shape) → Look
constructor_parts name head f pieces known setting widths subject =
    opened name.place head (shape_faults name.place subject (put (at (nevers f.variables)) f.answer))
    (each_looked pieces setting widths (map (put (at (known_or_nevers f.variables known))) f.params))

abbrev pub constructor_look : Name → Head → Candidate → List Piece → Look
constructor_look name head f pieces setting widths subject =
    if nat_eq (length f.params) (length pieces)
    then constructor_parts name head f pieces (learn f.answer subject (nevers f.variables)) setting widths subject
    else opened name.place head (error.Arity name.place (length f.params) (length pieces) ∷ []) (each_looked pieces setting widths [])

-- `p`, or `(p, q)` where there are several
abbrev pub as_one : Place → List Piece → Look
as_one place [] setting widths subject = is_found place V.Unit L.Unit setting widths subject
as_one place (piece ∷ []) setting widths subject = piece.look setting widths subject
as_one place pieces setting widths subject =
    opened place H.Tuple (shape_faults place subject (V.Tuple (replicate (length pieces) V.Never)))
    (each_looked pieces setting widths (tuple_parts (out-Shape (seen_as subject (V.Tuple (replicate (length pieces) V.Never))))))

-- a direction, and what is matched with what it gives
abbrev pub maps : Place → ℕ → List ShapeError → Looked → Looked
maps place direction faults part = record {
  pattern = pattern place (F.Maps direction) (part.pattern ∷ []);
  binds = part.binds;
  faults = faults ++ part.faults;
}

abbrev pub direction_of : Doing → Option ℕ
direction_of (D.Calls (C.Converts d)) = Some d
direction_of doing = None

abbrev pub first_param : List Shape → Shape
first_param [] = V.Never
first_param (s ∷ ss) = s

abbrev pub direction_look : Name → ℕ → Candidate → List Piece → Look
direction_look name d f pieces setting widths subject =
    maps name.place d (shape_faults name.place subject (first_param f.params)) (as_one name.place pieces setting widths f.answer)

-- which side of a mapping a shape has; its sides may share values (M13), or it has neither (M14)
pub data Which : Type 0 where
  forwards : Which
  backwards : Which
  neither : Which
  either : Which

abbrev pub which_of : Shape → Shape → Shape → Which
which_of left right s =
    if shares left right then either
    else (if is_some (join left s) then forwards else (if is_some (join right s) then backwards else neither))

abbrev pub which_side : Mapping → Shape → Which
which_side m s = which_of (shape m.left) (shape m.right) s

abbrev pub overlap_at : Place → Mapping → ShapeError
overlap_at place m = error.Overlap place (m.name ++ codes "_forwards") (m.name ++ codes "_backwards")

abbrev pub mapping_look_as : Place → Mapping → List Piece → Which → Look
mapping_look_as place m pieces forwards setting widths subject =
    maps place (2 * m.number) [] (as_one place pieces setting widths (shape m.right))
mapping_look_as place m pieces backwards setting widths subject =
    maps place (suc (2 * m.number)) [] (as_one place pieces setting widths (shape m.left))
mapping_look_as place m pieces neither setting widths subject =
    maps place (2 * m.number) (ill_shaped place ∷ []) (as_one place pieces setting widths V.Never)
mapping_look_as place m pieces either setting widths subject =
    maps place (2 * m.number) (overlap_at place m ∷ []) (as_one place pieces setting widths V.Never)

abbrev pub callee_look : Name → List Piece → Candidate → Option ℕ → Option Head → Look
callee_look name pieces f (Some d) head setting widths subject = direction_look name d f pieces setting widths subject
callee_look name pieces f None (Some head) setting widths subject =
    constructor_look name head f (pieces_for name.place f.params pieces) setting widths subject
callee_look name pieces f None None setting widths subject = looked name.place F.Any

abbrev pub construct_look : Name → List Piece → Option Meant → Look
construct_look name pieces (Some (M.Callee f)) setting widths subject =
    callee_look name pieces f (direction_of f.doing) (callee_head f.doing) setting widths subject
construct_look name pieces (Some (M.Mapping m)) setting widths subject = mapping_look_as name.place m pieces (which_side m subject) setting widths subject
construct_look name pieces meant setting widths subject = looked name.place F.Any

-- the width of a type
abbrev pub width_form : Typ-F Typ → Option Num
width_form (T.Bits n) = Some n
width_form form = None

abbrev pub width_of : Typ → Option Num
width_of t = width_form (out-Typ t)

abbrev pub side_width : Mapping → Which → Option Num
side_width m forwards = width_of m.left
side_width m backwards = width_of m.right
side_width m which = None

-- the direction that leads back; what it gives, the other one matches
abbrev pub opposite : ℕ → ℕ
opposite zero = suc zero
opposite (suc zero) = zero
opposite (suc (suc d)) = suc (suc (opposite d))

abbrev pub direction_width : Setting → Option ℕ → Option Num
direction_width setting None = None
direction_width setting (Some d) = and_then (setting.given_by (opposite d)) width_of

-- a mapping's call as a part of a concatenation has the width of the side that is matched
abbrev pub construct_width : Setting → Option Meant → Option Num
construct_width setting (Some (M.Mapping m)) = side_width m (which_side m V.Bits)
construct_width setting (Some (M.Callee f)) = direction_width setting (direction_of f.doing)
construct_width setting meant = None

-- ---- `p @ q`

-- a width that isn't known, behind another one (M18)
abbrev pub width_faults : Bool → Setting → Widths → List Piece → List ShapeError
width_faults before setting widths [] = []
width_faults before setting widths (p ∷ ps) = if is_some (p.width setting widths) then width_faults before setting widths ps
    else (if before then error.WidthUnknown p.place ∷ width_faults true setting widths ps else width_faults true setting widths ps)

abbrev pub concat_look : Place → List Piece → Look
concat_look place pieces setting widths subject =
    opened place (H.Cut (map (λ p. p.width setting widths) pieces))
    (shape_faults place subject V.Bits ++ width_faults false setting widths pieces)
    (each_looked pieces setting widths (replicate (length pieces) V.Bits))

-- ---- the forms

abbrev pub group_look : Place → Brackets → List Piece → Look
group_look place B.Tuple [] setting widths subject = is_found place V.Unit L.Unit setting widths subject
group_look place B.Tuple pieces setting widths subject =
    opened place H.Tuple (shape_faults place subject (V.Tuple (replicate (length pieces) V.Never)))
    (each_looked pieces setting widths (tuple_parts (out-Shape (seen_as subject (V.Tuple (replicate (length pieces) V.Never))))))
group_look place B.Vector pieces setting widths subject =
    opened place H.Vector (shape_faults place subject (V.Vector V.Never))
    (each_looked pieces setting widths (replicate (length pieces) (vector_item (out-Shape subject))))
group_look place B.List pieces setting widths subject =
    opened place H.List (shape_faults place subject (V.List V.Never))
    (each_looked pieces setting widths (replicate (length pieces) (list_item (out-Shape subject))))

abbrev pub cons_look : Place → Piece → Piece → Look
cons_look place head tail setting widths subject =
    opened place H.Cons (shape_faults place subject (V.List V.Never))
    (each_looked (head ∷ tail ∷ []) setting widths
    (list_item (out-Shape subject) ∷ V.List (list_item (out-Shape subject)) ∷ []))

-- the name behind `as` is bound after those of its part
abbrev pub as_look : Place → Piece → Name → Look
as_look place piece name setting widths subject = record {
  pattern = pattern place (F.As name.text) ((piece.look setting widths subject).pattern ∷ []);
  binds = (piece.look setting widths subject).binds ++ constant name.text subject ∷ [];
  faults = (piece.look setting widths subject).faults;
}

abbrev pub typed_form : Option Written → Form
typed_form None = F.Any
typed_form (Some t) = F.Typed t

abbrev pub typed_look : Place → Piece → TyExp → Look
typed_look place piece typ setting widths subject = record {
  pattern = pattern place (typed_form (written setting.within typ))
      ((piece.look setting widths (seen_as subject (shape_in setting.within typ))).pattern ∷ []);
  binds = (piece.look setting widths (seen_as subject (shape_in setting.within typ))).binds;
  faults = (written_faults setting.within typ ++ shape_faults place subject (shape_in setting.within typ))
      ++ (piece.look setting widths (seen_as subject (shape_in setting.within typ))).faults;
}

abbrev pub form_look : Pat-F Piece Piece → Look
form_look (P.Wildcard place) setting widths subject = looked place F.Any
form_look (P.Constant place literal) setting widths subject = is_found place (literal_shape literal) (core_literal literal) setting widths subject
form_look (P.Negative place n) setting widths subject = is_found place V.Int (L.Integer (pos 0 -ℤ n)) setting widths subject
form_look (P.Bind name) setting widths subject = name_look name (setting.value name.text) setting widths subject
form_look (P.Construct name pieces) setting widths subject = construct_look name pieces (setting.value name.text) setting widths subject
form_look (P.Group place brackets pieces) setting widths subject = group_look place brackets pieces setting widths subject
form_look (P.Concat place first second more) setting widths subject = concat_look place (first ∷ second ∷ more) setting widths subject
form_look (P.Cons place head tail) setting widths subject = cons_look place head tail setting widths subject
form_look (P.As place piece name) setting widths subject = as_look place piece name setting widths subject
form_look (P.Typed place piece typ) setting widths subject = typed_look place piece typ setting widths subject

-- an enum member, `p as x`, and a concatenation in brackets have none of their own
abbrev pub form_width : Pat-F Piece Piece → Setting → Widths → Option Num
form_width (P.Constant place literal) setting widths = literal_width literal
form_width (P.Bind name) setting widths = name_width name (setting.value name.text) widths
form_width (P.Construct name pieces) setting widths = construct_width setting (setting.value name.text)
form_width (P.Typed place piece typ) setting widths = and_then (typ_in setting.within typ) width_of
form_width form setting widths = None

abbrev pub form_place : Pat-F Piece Piece → Place
form_place (P.Wildcard place) = place
form_place (P.Constant place literal) = place
form_place (P.Negative place n) = place
form_place (P.Bind name) = name.place
form_place (P.Construct name pieces) = name.place
form_place (P.Group place brackets pieces) = place
form_place (P.Concat place first second more) = place
form_place (P.Cons place head tail) = place
form_place (P.As place piece name) = place
form_place (P.Typed place piece typ) = place

-- the type that is written at a pattern, through `as`
abbrev pub form_typ : Pat-F Piece Piece → Option TyExp
form_typ (P.Typed place piece typ) = Some typ
form_typ (P.As place piece name) = piece.typ
form_typ form = None

abbrev pub form_piece : Pat-F Piece Piece → Piece
form_piece form = record { place = form_place form; width = form_width form; typ = form_typ form; look = form_look form }

abbrev pub joined_piece : Joined-F Piece Piece → Piece
joined_piece further = further.part

abbrev pub piece : Pat → Piece
piece = fold-Pat Piece Piece form_piece joined_piece

-- what is found of a pattern
abbrev pub look : Pat → Look
look p = (piece p).look

-- the shape that the type at a pattern gives to what it is matched with; `Never`, where none is written
abbrev pub written_shape : Setting → Option TyExp → Shape
written_shape setting None = V.Never
written_shape setting (Some typ) = shape_in setting.within typ

abbrev pub wanted_by : Setting → Pat → Shape
wanted_by setting p = written_shape setting (piece p).typ

abbrev pub has_typ : Pat → Bool
has_typ p = is_some (piece p).typ
