-- Types that are written in a text: what they stand for, the sizes in them with their places, and variables of `{'n, ..}` that get no
-- number (Sail language manual, "Types", "Existential types").
use Rattle.std.specs.Prelude.{ℕ, nat_eq, pos, Bool, true, false, ◌&&◌, ◌||◌, is_none, codes, bytes_eq, List, [], ◌∷◌, ◌++◌, map, Option}
use Rattle.std.specs.Prelude.{Some, None, option_map, if◌then◌else◌}
use Rattle.std.specs.List.{list_any}
use Rattle.std.specs.Ordering.{int_eq}
use Rattle.sail_base.specs.declared.place.Place.{Place}
use Rattle.sail_base.specs.declared.kind.Kind.TheVariants as Sort
use Rattle.sail_syntax.specs.declared.name.Name.{Name}
use Rattle.sail_syntax.specs.declared.types.TyExp.{TyExp, TyExp-F, fold-TyExp, roll-TyExp}
use Rattle.sail_syntax.specs.declared.types.TyExp.TheOpen as X
use Rattle.sail_syntax.specs.declared.types.TyExp.TheFolds.{map-TyExp}
use Rattle.sail_syntax.specs.declared.words.TypePrefix.{TypePrefix}
use Rattle.sail_syntax.specs.declared.words.TypePrefix.TheVariants as P
use Rattle.sail_syntax.specs.declared.words.TypeOperator.TheVariants as Op
use Rattle.sail_syntax.specs.declared.words.TypeOperator.{TypeOperator}
use Rattle.sail_types.specs.Sums.{and_then, terms_of, constant_of, coefficient_of, atom_of}
use Rattle.sail_types.specs.Shapes.{shape}
use Rattle.sail_types.specs.declared.shapes.Shape.{Shape}
use Rattle.sail_types.specs.declared.shapes.Shape.TheVariants as V
use Rattle.sail_types.specs.declared.numbers.Num.{Num}
use Rattle.sail_types.specs.declared.numbers.Term.{Term}
use Rattle.sail_types.specs.declared.numbers.Atom.{Atom, out-Atom}
use Rattle.sail_types.specs.declared.numbers.Atom.TheOpen as A
use Rattle.sail_types.specs.declared.numbers.Atom.TheOpen.{Atom-F}
use Rattle.sail_types.specs.declared.numbers.Con.{Con, Con-F, out-Con}
use Rattle.sail_types.specs.declared.numbers.Con.TheOpen as C
use Rattle.sail_types.specs.declared.types.Typ.{Typ, Typ-F, fold-Typ, out-Typ}
use Rattle.sail_types.specs.declared.types.Typ.TheOpen as T
use Rattle.type_arguments.specs.Taken.{number_of, constraint_of, typ_of}
use Rattle.sail_kinds.specs.declared.scope.NamedType.{NamedType}
use Rattle.sail_kinds.specs.declared.scope.Meaning.{Meaning}
use Rattle.sail_kinds.specs.declared.scope.Meaning.TheVariants as M
use Rattle.sail_kinds.specs.declared.scope.FoundVariable.{FoundVariable}
use Rattle.sail_kinds.specs.Scopes.{Within, inside_binder, variable_of, named}
use Rattle.sail_kinds.specs.Builtin.{builtin}
use Rattle.sail_kinds.specs.Normal.{reading_as}
use Rattle.sail_core.specs.declared.written.Role.{Role}
use Rattle.sail_core.specs.declared.written.Role.TheVariants as Size
use Rattle.sail_core.specs.declared.written.Written.{Written}
use Rattle.sail_core.specs.declared.written.WrittenNumber.{WrittenNumber}
use Rattle.sail_syntax.specs.Places.{type_place}
use Rattle.shape_rules.specs.declared.error.ShapeError.{ShapeError}
use Rattle.shape_rules.specs.declared.error.ShapeError.TheVariants as error

-- ---- what is written, which the tables have found to stand for something

abbrev pub typ_in : Within → TyExp → Option Typ
typ_in within text = and_then (reading_as Sort.Type text within).normal typ_of

abbrev pub number_in : Within → TyExp → Option Num
number_in within text = and_then (reading_as Sort.Int text within).normal number_of

abbrev pub constraint_in : Within → TyExp → Option Con
constraint_in within text = and_then (reading_as Sort.Bool text within).normal constraint_of

abbrev pub shape_or_never : Option Typ → Shape
shape_or_never None = V.Never
shape_or_never (Some t) = shape t

abbrev pub shape_in : Within → TyExp → Shape
shape_in within text = shape_or_never (typ_in within text)

-- ---- variables that get no number: each needs its place in the type, or in a part of it where that is a tuple, where it stands alone

-- whether a number is this variable alone
abbrev pub is_atom_form : ℕ → Atom-F Atom Num Term → Bool
is_atom_form i (A.Variable j) = nat_eq i j
is_atom_form i (A.Power n) = false

abbrev pub is_atom : ℕ → Atom → Bool
is_atom i atom = is_atom_form i (out-Atom atom)

abbrev pub are_once : ℕ → List Term → Bool
are_once i [] = false
are_once i (t ∷ []) = int_eq (coefficient_of t) (pos 1) && is_atom i (atom_of t)
are_once i (t ∷ u ∷ ts) = false

abbrev pub is_alone : ℕ → Num → Bool
is_alone i n = int_eq (constant_of n) (pos 0) && are_once i (terms_of n)

abbrev pub holds_alone : ℕ → Con-F Con → Bool
holds_alone i (C.Holds j) = nat_eq i j
holds_alone i form = false

-- `int('n)`, `bool('p)`, `bits('n)` and `vector('n, T)`
abbrev pub form_gives : ℕ → Typ-F Typ → Bool
form_gives i (T.Int n) = is_alone i n
form_gives i (T.Truth c) = holds_alone i (out-Con c)
form_gives i (T.Bits n) = is_alone i n
form_gives i (T.Vector n t) = is_alone i n
form_gives i form = false

abbrev pub gives_number : ℕ → Typ → Bool
gives_number i t = form_gives i (out-Typ t)

abbrev pub part_gives : ℕ → Typ-F Typ → Bool
part_gives i (T.Tuple ts) = list_any (gives_number i) ts
part_gives i form = form_gives i form

-- whether a value of a type tells the number of this variable
abbrev pub tells_number : ℕ → Typ → Bool
tells_number i t = part_gives i (out-Typ t)

abbrev pub told_by : FoundVariable → Option Typ → Bool
told_by found None = true
told_by found (Some t) = tells_number found.number t

abbrev pub told_if : Option Typ → Option FoundVariable → Bool
told_if t None = true
told_if t (Some found) = told_by found t

abbrev pub is_told : Within → Option Typ → Name → Bool
is_told within t name = told_if t (variable_of name.text within.variables)

abbrev pub untold : Name → Bool → List ShapeError
untold name true = []
untold name false = error.NoNumber name.place name.text ∷ []

abbrev pub joined : {A : Type 0} → List (List A) → List A
joined [] = []
joined (xs ∷ more) = xs ++ joined more

-- a part of a written type: its text, its failures, and the sizes in it
pub record Piece : Type 0 where
  pub text : TyExp
  pub faults : Within → List ShapeError
  pub numbers : Within → List WrittenNumber

abbrev pub pieces_faults : List Piece → Within → List ShapeError
pieces_faults pieces within = joined (map (λ piece. piece.faults within) pieces)

-- `{'n, C. T}` binds variables, each of which T tells
abbrev pub form_faults : TyExp-F Piece → Within → List ShapeError
form_faults (X.Named name pieces) within = pieces_faults pieces within
form_faults (X.Tuple place pieces) within = pieces_faults pieces within
form_faults (X.Exists place names constraint piece) within =
    joined (map (λ name. untold name (is_told (inside_binder names within) (typ_in (inside_binder names within) piece.text) name)) names)
    ++ piece.faults (inside_binder names within)
form_faults form within = []

-- ---- sizes: widths and lengths at their numbers, exponents at their `^`; widths and lengths that come through a named type, at that name

abbrev pub sized : Role → Place → Option Num → List WrittenNumber
sized role place None = []
sized role place (Some n) = record { place = place; number = n; role = role } ∷ []

-- the widths and lengths in a type that a name stands for
abbrev pub typ_sizes : Place → Typ-F (List WrittenNumber) → List WrittenNumber
typ_sizes place (T.Bits n) = sized Size.Width place (Some n)
typ_sizes place (T.Vector n sizes) = sized Size.Length place (Some n) ++ sizes
typ_sizes place (T.List sizes) = sizes
typ_sizes place (T.Tuple parts) = joined parts
typ_sizes place (T.Named i indices parts) = joined parts
typ_sizes place (T.Exists name c sizes) = sizes
typ_sizes place form = []

abbrev pub sizes_at : Place → Typ → List WrittenNumber
sizes_at place = fold-Typ (List WrittenNumber) (typ_sizes place)

abbrev pub sizes_if : Place → Option Typ → List WrittenNumber
sizes_if place None = []
sizes_if place (Some t) = sizes_at place t

abbrev pub pieces_numbers : List Piece → Within → List WrittenNumber
pieces_numbers pieces within = joined (map (λ piece. piece.numbers within) pieces)

abbrev pub piece_numbers_if : Option Piece → Within → List WrittenNumber
piece_numbers_if None within = []
piece_numbers_if (Some piece) within = piece.numbers within

abbrev pub meaning_is_alias : Meaning → Bool
meaning_is_alias (M.Alias normal) = true
meaning_is_alias meaning = false

abbrev pub defined_is_alias : Option NamedType → Bool
defined_is_alias None = false
defined_is_alias (Some t) = meaning_is_alias t.meaning

-- whether the model defines a name to stand for another type; a type of the language stands for itself
abbrev pub is_alias : List ℕ → Within → Bool
is_alias name within = is_none (builtin name) && defined_is_alias (named name within)

-- the exponent behind `2 ^`
abbrev pub exponent : TypePrefix → Place → Option Num → List WrittenNumber
exponent P.Power place n = sized Size.Exponent place n
exponent prefix place n = []

abbrev pub is_exponent : Role → Bool
is_exponent Size.Exponent = true
is_exponent role = false

abbrev pub exponents_in : List WrittenNumber → List WrittenNumber
exponents_in [] = []
exponents_in (n ∷ ns) = if is_exponent n.role then n ∷ exponents_in ns else exponents_in ns

-- what the first argument of a type of the language is the size of
abbrev pub own_role : List ℕ → Option Role
own_role name =
    if bytes_eq name (codes "bits") || bytes_eq name (codes "bitvector") then Some Size.Width
    else (if bytes_eq name (codes "vector") then Some Size.Length else None)

abbrev pub sized_if : Option Role → Place → Option Num → List WrittenNumber
sized_if None place n = []
sized_if (Some role) place n = sized role place n

abbrev pub own_size : List ℕ → Within → List Piece → List WrittenNumber
own_size name within [] = []
own_size name within (piece ∷ pieces) = sized_if (own_role name) (type_place piece.text) (number_in within piece.text)

-- ---- the sides of a comparison

abbrev pub compares_form : TypeOperator → Bool
compares_form Op.Equal = true
compares_form Op.NotEqual = true
compares_form Op.Less = true
compares_form Op.LessEqual = true
compares_form Op.Greater = true
compares_form Op.GreaterEqual = true
compares_form op = false

abbrev pub side : Piece → Within → List WrittenNumber
side piece within = sized Size.Side (type_place piece.text) (number_in within piece.text)

abbrev pub side_of : TypeOperator → Piece → Within → List WrittenNumber
side_of operator piece within = if compares_form operator then side piece within else []

abbrev pub form_numbers : TyExp → TyExp-F Piece → Within → List WrittenNumber
form_numbers text (X.Named name pieces) within =
    if is_alias name.text within then exponents_in (pieces_numbers pieces within) ++ sizes_if name.place (typ_in within text)
    else own_size name.text within pieces ++ pieces_numbers pieces within
form_numbers text (X.Prefix place prefix piece) within = exponent prefix place (number_in within piece.text) ++ piece.numbers within
form_numbers text (X.Infix place operator left right) within =
    (left.numbers within ++ side_of operator left within) ++ right.numbers within ++ side_of operator right within
form_numbers text (X.OneOf place piece choices) within = piece.numbers within ++ side piece within
form_numbers text (X.Tuple place pieces) within = pieces_numbers pieces within
form_numbers text (X.Exists place names constraint piece) within =
    piece_numbers_if constraint (inside_binder names within) ++ piece.numbers (inside_binder names within)
form_numbers text form within = []

abbrev pub form_text : TyExp-F Piece → TyExp
form_text form = roll-TyExp (map-TyExp Piece TyExp (λ piece. piece.text) form)

abbrev pub form_piece : TyExp-F Piece → Piece
form_piece form = record { text = form_text form; faults = form_faults form; numbers = form_numbers (form_text form) form }

abbrev pub piece : TyExp → Piece
piece = fold-TyExp Piece form_piece

-- variables bound in a written type that get no number (M17)
abbrev pub written_faults : Within → TyExp → List ShapeError
written_faults within text = (piece text).faults within

abbrev pub numbers_in : Within → TyExp → List WrittenNumber
numbers_in within text = (piece text).numbers within

abbrev pub written_as : Within → TyExp → Typ → Written
written_as within text t = record { place = type_place text; typ = t; numbers = numbers_in within text }

-- a written type as the core has it
abbrev pub written : Within → TyExp → Option Written
written within text = option_map (written_as within text) (typ_in within text)
